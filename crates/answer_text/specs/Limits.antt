-- The limits within which answers are read.
use Rattle.std.specs.Prelude.{ℕ, ◌<◌, ◌≤◌, ◌≡◌, List, [], length, All, ℤ, unsigned_abs, false}
use Rattle.rail_base.specs.declared.limits.TheConstants.{MAX_BRANCHINGS, MAX_COMPOSITION_UNITS, MAX_COMPOSITIONS}
use Rattle.rail_base.specs.declared.limits.TheConstants.{MAX_TRIPS, MAX_TYPES, MAX_UNITS}
use Rattle.branch_tree.specs.declared.cuts.Cut.{Cut}
use Rattle.branch_tree.specs.declared.cuts.Cut.TheVariants.{Only, AtMost}
use Rattle.branch_tree.specs.declared.multipliers.Entry.{Entry}
use Rattle.branch_tree.specs.declared.tree.Node.{Node}
use Rattle.branch_tree.specs.declared.tree.Node.TheVariants.{Branch, CostLeaf, RayLeaf, EmptyLeaf}
use Rattle.branch_tree.specs.Entries.{AreMultipliers}
use Rattle.answer_text.specs.declared.answer.Answer.{Answer}
use Rattle.rules.specs.declared.heads.Head.{Head}
use Rattle.rules.specs.declared.heads.Head.TheVariants.{Optimal, Infeasible, Bounded, BoundedPlan}
use Rattle.answer_text.specs.declared.limits.TheConstants.{MAX_AMOUNT, MAX_INDEX}
pub use Rattle.rules.specs.Truths.{has_plan}

-- a bound or a cost
abbrev pub IsAmount : ℤ → Type 0
IsAmount amount = unsigned_abs amount ≤ MAX_AMOUNT

abbrev pub IsHead : Head → Type 0
IsHead (Optimal cost) = IsAmount cost.0
IsHead Infeasible = Unit {0}
IsHead (Bounded bound) = IsAmount bound.0
IsHead (BoundedPlan bound cost) = IsAmount bound.0 × IsAmount cost.0

-- the units of one trip
pub record IsRun (units : List ℕ) : Type 0 where
  pub few : length units ≤ MAX_COMPOSITION_UNITS
  pub numbers : All (λ unit. unit < MAX_UNITS) units

abbrev pub IsCut : Cut → Type 0
IsCut (Only trip comp) = (trip < MAX_TRIPS) × (comp < MAX_COMPOSITIONS)
IsCut (AtMost trip unit_type count) = (trip < MAX_TRIPS) × (unit_type < MAX_TYPES) × (count < MAX_COMPOSITION_UNITS)

-- the entries of a leaf
pub record AreEntries (entries : List Entry) : Type 0 where
  pub multipliers : AreMultipliers entries
  pub indices : All (λ entry. entry.index ≤ MAX_INDEX) entries

abbrev pub IsNode : Node → Type 0
IsNode (Branch cut) = IsCut cut
IsNode (CostLeaf bound multipliers) = IsAmount bound.0 × AreEntries multipliers
IsNode (RayLeaf multipliers) = AreEntries multipliers
IsNode EmptyLeaf = Unit {0}

-- an answer with at most so many nodes, which is else within the limits
pub record IsAnswerWithin (most : ℕ) (answer : Answer) : Type 0 where
  pub head : IsHead answer.head
  pub branchings : answer.branchings ≤ MAX_BRANCHINGS
  -- runs, only where there is a plan
  pub planned : has_plan answer.head ≡ false → answer.runs ≡ []
  pub few_runs : length answer.runs ≤ MAX_TRIPS
  pub runs : All IsRun answer.runs
  -- nodes
  pub some : 1 ≤ length answer.tree
  pub few_nodes : length answer.tree ≤ most
  pub nodes : All IsNode answer.tree
