-- What is promised of the answer to a disturbed day: of its plan, of every plan that goes on from the past, and of the
-- tree that proves it.
use Rattle.std.specs.Prelude.{ℕ, ◌≡◌, List, [], IfSome, is_some, ℤ, pos, Option, Some, None, unwrap_or, Err, ⊤}
use Rattle.rail_base.specs.declared.numbers.Money.{Money}
use Rattle.timetable.specs.Running.{Runs}
use Rattle.day_simulator.specs.Finish.{simulation}
use Rattle.branch_tree.specs.Trees.{branchings_of}
use Rattle.price_bound.specs.ChangedDays.{changed_day, changed_meanings}
use Rattle.answer_text.specs.declared.answer.Answer.{Answer}
use Rattle.rules.specs.declared.heads.Head.{Head}
use Rattle.rules.specs.declared.heads.Head.TheVariants.{Optimal, Infeasible, Bounded, BoundedPlan}
use Rattle.answer_text.specs.Limits.{has_plan}
use Rattle.answer_check.specs.ProvedTrees.{HasProvedTreeIn, bound_said}
use Rattle.replan.specs.declared.refusal.ReplanRefusal.{ReplanRefusal}
use Rattle.replan.specs.declared.refusal.ReplanRefusal.TheVariants.{Stops, NoMemory}
use Rattle.replan.specs.declared.replanning.Replanned.{Replanned}
use Rattle.replan.specs.Disturbances.{AgreesWithPast, Disturbed, NoneGoesOn, PricesAreAtLeast, changes_in, later_day}
use Rattle.replan.specs.Disturbances.{price_of}
use Rattle.replan.specs.RestsOfDays.{changes_of, named_on, past_root}

-- ---- the answer

-- the price of the plan that a head says
abbrev pub price_said : Head → Option ℤ
price_said (Optimal price) = Some price.0
price_said Infeasible = None
price_said (Bounded bound) = None
price_said (BoundedPlan bound price) = Some price.0

-- to how many trips a plan gives other types than were planned; to none where there is no plan
abbrev pub changes_made : Disturbed → Option (List (List ℕ)) → ℕ
changes_made disturbed None = 0
changes_made disturbed (Some plan) = changes_in disturbed plan

-- the same as an answer to the later day, whose costs are prices
abbrev pub as_answer : Replanned → Answer
as_answer replanned = record {
  head = replanned.head;
  branchings = branchings_of replanned.tree;
  runs = unwrap_or replanned.plan [];
  tree = replanned.tree;
}

-- The tree of an answer proves it, over the compositions that each trip of the later day may have, and ends neither too
-- early nor too late: it is `bounded` exactly where all branchings that were granted are made and a leaf is open, and
-- never where they are as many as these compositions give choices, less one.
abbrev pub HasProvedTree : Disturbed → ℕ → Answer → Type 0
HasProvedTree disturbed =
    HasProvedTreeIn (later_day disturbed)
    (changed_meanings (changed_day (later_day disturbed) (changes_of disturbed))) (past_root disturbed)
    (named_on disturbed)

-- The answer to a disturbed day, for which so many branchings were granted.
pub record IsReplanned (disturbed : Disturbed) (grant : ℕ) (replanned : Replanned) : Type 0 where
  -- there is a plan exactly where the head says one
  pub there : is_some replanned.plan ≡ has_plan replanned.head
  -- it runs in the later day
  pub runs : IfSome replanned.plan (Runs (later_day disturbed))
  -- it agrees with the past
  pub agrees : IfSome replanned.plan (AgreesWithPast disturbed)
  -- its price is the one that is said
  pub price : IfSome replanned.plan (λ plan. price_said replanned.head ≡ Some (pos (price_of disturbed plan)))
  -- it gives other types than were planned to as many trips as are said
  pub changes : replanned.changes ≡ changes_made disturbed replanned.plan
  -- `optimal`: no plan that runs in the later day and agrees with the past has a lower price
  pub optimal : (price : Money) → replanned.head ≡ Optimal price → PricesAreAtLeast disturbed price.0
  -- `infeasible`: no plan runs in the later day and agrees with the past
  pub infeasible : replanned.head ≡ Infeasible → NoneGoesOn disturbed
  -- `bounded`, with a plan or without one: no such plan has a price below the bound
  pub bounded : (bound : ℤ) → bound_said replanned.head ≡ Some bound → PricesAreAtLeast disturbed bound
  -- the tree proves it
  pub tree : HasProvedTree disturbed grant (as_answer replanned)

-- ---- the refusals

-- the plan does not run, and this is the first fault of its day; want of memory says nothing
abbrev pub IsStopped : Disturbed → ReplanRefusal → Type 0
IsStopped disturbed (Stops fault) =
    (Runs disturbed.day disturbed.plan → ⊥) × (simulation disturbed.day disturbed.plan ≡ Err fault)
IsStopped disturbed NoMemory = ⊤
