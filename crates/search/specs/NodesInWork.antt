-- A node in work: what its evaluations have given, and what an evaluation, what it inherits and a proposal make of it.
use Rattle.std.specs.Prelude.{ℕ, ◌≡◌, ◌<◌, List, [], length, Bool, true, false, ◌≤ℤ◌, Option, Some, None, MatchOption}
use Rattle.std.specs.Prelude.{if◌then◌else◌, int_lt}
use Rattle.branch_tree.specs.declared.cuts.Cut.{Cut}
use Rattle.branch_tree.specs.declared.multipliers.Entry.{Entry}
use Rattle.branch_tree.specs.declared.relaxation.Weight.TheVariants.{Cost}
use Rattle.branch_tree.specs.Bounds.{IsChainValue}
use Rattle.branch_tree.specs.Claims.{CostedPicks, IsNoBetter, IsNotEvident, is_below}
use Rattle.branch_tree.specs.Meanings.{Meanings}
use Rattle.branch_tree.specs.declared.tree.Node.TheVariants.{CostLeaf}
use Rattle.advisors.specs.Proposed.{Proposed}
use Rattle.search.specs.declared.evaluation.Ending.{Ending}
use Rattle.search.specs.declared.evaluation.Evaluation.{Evaluation}
use Rattle.search.specs.declared.evaluation.EvaluationEnd.{EvaluationEnd}
use Rattle.search.specs.declared.evaluation.EvaluationEnd.TheVariants.{Ended, Open}
use Rattle.search.specs.declared.nodes.SearchNode.{SearchNode}
use Rattle.search.specs.declared.nodes.SearchNode.TheVariants.{Fixed, Pending}
use Rattle.search.specs.declared.work.Work.{Work}
use Rattle.search.specs.Evaluations.{IsEnding, IsEvaluated, IsOutcome, leaf_of}
use Rattle.search.specs.Offers.{IsOffered}

-- What is known of a node in work: its region has a set for each trip, its kept and its last evaluation are of its
-- region, its first value is the chain value with no multipliers, and its end, where it has one, is one of its region.
-- The kept picks are no better than the best solution. The kept value is at least the first one; and where that leaves
-- room for a better solution, the end of the region is not evident.
pub record IsWorkedOn (problem : Meanings) (best : Option CostedPicks) (work : Work) : Type 0 where
  pub sets : length work.region ≡ problem.trips
  pub kept : IsEvaluated problem work.region work.kept
  pub last : IsEvaluated problem work.region work.last
  pub first : IsChainValue problem work.region [] Cost work.first.0
  pub settled : IsNoBetter problem best work.kept.picks
  pub raised : work.first.0 ≤ℤ work.kept.value.0
  pub not_evident : is_below work.first.0 best ≡ true → IsNotEvident problem work.region
  pub ended : MatchOption work.end (Unit {0}) (IsEnding problem work.region)

-- The work on a node goes on: its region stays, the best solution is the one before or a cheaper one of what is
-- searched, the root or the node's own region, and with it all that is known of a node in work holds again.
pub record Advances (problem : Meanings) (searched : List (List Bool)) (earlier best : Option CostedPicks)
    (before after : Work) : Type 0 where
  pub region : after.region ≡ before.region
  pub offered : IsOffered problem searched earlier best
  pub worked : IsWorkedOn problem best after

-- a node in work after its first evaluation
abbrev pub begun : List (List Bool) → Evaluation → Work
begun region evaluation =
    record { region = region; first = evaluation.value; kept = evaluation; last = evaluation; cut = None; end = None }

-- whether a bound leaves room for a better solution, where the end of the region is not shown
abbrev pub left_by : Bool → Option Ending → Bool
left_by below None = below
left_by below (Some ending) = false

-- whether a node may have a better solution than the best one
abbrev pub is_open_work : Option CostedPicks → Work → Bool
is_open_work best work = left_by (is_below work.kept.value.0 best) work.end

-- a leaf with a bound: it can be branched where the bound leaves room for a better solution
abbrev pub node_by : ℕ → Bool → Work → SearchNode
node_by number true work = Pending (record {
  number = number;
  region = work.region;
  bound = work.kept.value;
  multipliers = work.kept.multipliers;
  picks = work.kept.picks;
  cut = work.cut;
})
node_by number false work = Fixed (CostLeaf work.kept.value work.kept.multipliers)

-- a node, or the leaf that says why its region has no solution
abbrev pub ended_by : SearchNode → Option Ending → SearchNode
ended_by node None = node
ended_by node (Some ending) = Fixed (leaf_of ending)

-- the node of the search that a node in work becomes
abbrev pub node_from : ℕ → Option CostedPicks → Work → SearchNode
node_from number best work = ended_by (node_by number (is_below work.kept.value.0 best) work) work.end

-- a node in work after an evaluation that shows no end
abbrev pub learned : Work → Evaluation → Work
learned work evaluation = record work {
  kept = if int_lt work.kept.value.0 evaluation.value.0 then evaluation else work.kept;
  last = evaluation;
}

-- a cut, or an earlier one
abbrev pub or_else : Option Cut → Option Cut → Option Cut
or_else None earlier = earlier
or_else (Some cut) earlier = Some cut

-- a node in work after an evaluation, which shows its end or none
abbrev pub after_outcome : Work → EvaluationEnd → Work
after_outcome work (Ended ending) = record work { end = Some ending }
after_outcome work (Open evaluation) = learned work evaluation

-- a node in work was evaluated under multipliers
pub record IsConsidered (problem : Meanings) (best : Option CostedPicks) (multipliers : List Entry)
    (before after : Work) : Type 0 where
  pub outcome : EvaluationEnd
  pub is : IsOutcome problem before.region multipliers best outcome
  pub node : after ≡ after_outcome before outcome

-- a node in work was evaluated under the multipliers that it inherits, where there are such and it was open; else it
-- and the best solution are as they were
pub record HasInherited (problem : Meanings) (earlier best : Option CostedPicks) (inherited : List Entry)
    (before after : Work) : Type 0 where
  pub considered : is_open_work earlier before ≡ true → 0 < length inherited →
      IsConsidered problem best inherited before after
  pub closed : is_open_work earlier before ≡ false → (after ≡ before) × (best ≡ earlier)
  pub none : inherited ≡ [] → (after ≡ before) × (best ≡ earlier)

-- a node in work with a cut that is proposed, where one is, in place of an earlier one
abbrev pub remembering : Option Cut → Work → Work
remembering cut work = record work { cut = or_else cut work.cut }

-- a proposal was taken up: its cut is remembered, and under its multipliers, where it has any, the node was evaluated
pub record IsTakenUp (problem : Meanings) (earlier best : Option CostedPicks) (proposal : Proposed)
    (before after : Work) : Type 0 where
  pub considered : 0 < length proposal.multipliers →
      IsConsidered problem best proposal.multipliers (remembering proposal.cut before) after
  pub none : proposal.multipliers ≡ [] → (after ≡ remembering proposal.cut before) × (best ≡ earlier)
