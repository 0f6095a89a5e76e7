-- What is searched for a plan of the rest of a day: an answerable problem, a root region of it, and a rule of naming.
use Rattle.std.proofs.Common.{◌≡◌, ℕ, List, length, Bool, true, false, IsTrue, refl, sym, ap, subst, ◌∙◌}
use Rattle.std.specs.Prelude.{IfOk, Result, Ok, Err, MatchBool, [], unwrap_or}
use Rattle.rail_base.specs.declared.memory.NoMemory.{NoMemory}
use Rattle.timetable.specs.Compositions.{compositions_of}
use Rattle.timetable.specs.Day.{Day}
use Rattle.timetable.specs.Picks.{IsSolution}
use Rattle.timetable.specs.Running.{IsPlan}
use Rattle.branch_tree.specs.Regions.{IsOver, are_in}
use Rattle.branch_tree.specs.Trees.{branchings_of}
use Rattle.unit_duties.specs.Naming.{CanBeNamed}
use Rattle.price_bound.specs.declared.changes.Change.{Change}
use Rattle.price_bound.specs.ChangedDays.{ChangedDay, changed_day, changed_meanings}
use Rattle.answer_text.specs.declared.answer.Answer.{Answer}
use Rattle.answer_text.specs.Limits.{has_plan}
use Rattle.answer_check.specs.ProvedTrees.{HasProvedTreeIn}
use Rattle.day_planner.specs.Answerable.{IsAnswerable}
use Rattle.day_planner.proofs.Answerable.{changed_days_are_answerable}
use Rattle.replan.specs.declared.replanning.Replanned.{Replanned}
use Rattle.replan.specs.Disturbances.{Disturbed, later_day, trips_later}
use Rattle.replan.specs.Laws.{IsUnderWay}
use Rattle.replan.specs.RestsOfDays.{NamedFrom, named_by, rule_of}
use Rattle.replan.specs.Promises.{HasProvedTree, as_answer}
use Rattle.replan.specs.RestsOfDays.{changes_of, past_root}
use Rattle.replan.proofs.ChangeLists.{are_changes}
use Rattle.replan.proofs.PastRoots.{past_filled, past_length, past_over}
use Rattle.replan.proofs.PastsKept.{can_be_named}

-- the later day under the changes, the rule of the disturbed day, and its root region
pub record IsSearched (disturbed : Disturbed) (bounds : ChangedDay) (rule : NamedFrom) (root : List (List Bool)) : Type 0 where
  pub way : IsUnderWay disturbed
  pub bounds_are : bounds ≡ changed_day (later_day disturbed) (changes_of disturbed)
  pub rule_is : rule ≡ rule_of disturbed
  pub root_is : root ≡ past_root disturbed

pub searched : (disturbed inside : Disturbed) (bounds : ChangedDay) (day : Day) (changes : List Change) (rule : NamedFrom) (root : List (List Bool))
    → inside ≡ disturbed → IsUnderWay inside → root ≡ past_root inside → bounds ≡ changed_day day changes → day ≡ later_day disturbed
    → changes ≡ changes_of disturbed → rule ≡ rule_of disturbed → IsSearched disturbed bounds rule root
searched disturbed inside bounds day changes rule root same way root_is bounds_are day_is changes_are rule_is = record {
  way = subst IsUnderWay same way;
  bounds_are = bounds_are ∙ ap (λ (d : Day). changed_day d changes) day_is ∙ ap (λ (list : List Change). changed_day (later_day disturbed) list) changes_are;
  rule_is = rule_is;
  root_is = root_is ∙ ap past_root same;
}

module _ (disturbed : Disturbed) (bounds : ChangedDay) (rule : NamedFrom) (root : List (List Bool)) (is : IsSearched disturbed bounds rule root) where
  pub answerable : IsAnswerable rule.day (changed_meanings bounds) root
  answerable =
      subst (λ (r : NamedFrom). IsAnswerable r.day (changed_meanings bounds) root) (sym is.rule_is)
      (subst (λ (b : ChangedDay). IsAnswerable (later_day disturbed) (changed_meanings b) root) (sym is.bounds_are)
      (subst (λ (sets : List (List Bool)). IsAnswerable (later_day disturbed) (changed_meanings (changed_day (later_day disturbed) (changes_of disturbed))) sets) (sym is.root_is)
      (changed_days_are_answerable (later_day disturbed) (changes_of disturbed) (past_root disturbed) is.way.later (are_changes disturbed is.way) (past_length disturbed)
      (past_filled disturbed is.way))))

  pub over : IsOver (length bounds.day.trips) (compositions_of bounds.day) root
  over =
      subst (λ (b : ChangedDay). IsOver (length b.day.trips) (compositions_of b.day) root) (sym is.bounds_are)
      (subst (λ (sets : List (List Bool)). IsOver (trips_later disturbed) (compositions_of (later_day disturbed)) sets) (sym is.root_is) (past_over disturbed))

  pub names : (picks : List ℕ) → IsSolution bounds.day picks → IsTrue (are_in picks root) → CanBeNamed rule.day picks rule.minute rule.earlier
  names picks solves inside =
      subst (λ (r : NamedFrom). CanBeNamed r.day picks r.minute r.earlier) (sym is.rule_is)
      (can_be_named disturbed is.way picks (subst (λ (b : ChangedDay). IsSolution b.day picks) is.bounds_are solves)
      (subst (λ (sets : List (List Bool)). IsTrue (are_in picks sets)) is.root_is inside))

  pub tree : (grant : ℕ) (result : Result Answer NoMemory) → IfOk result (HasProvedTreeIn rule.day (changed_meanings bounds) root (named_by rule) grant)
      → IfOk result (HasProvedTree disturbed grant)
  tree grant result proved =
      subst (λ (sets : List (List Bool)). IfOk result (HasProvedTreeIn (later_day disturbed) (changed_meanings (changed_day (later_day disturbed) (changes_of disturbed))) sets (named_by (rule_of disturbed)) grant))
      is.root_is
      (subst (λ (b : ChangedDay). IfOk result (HasProvedTreeIn (later_day disturbed) (changed_meanings b) root (named_by (rule_of disturbed)) grant)) is.bounds_are
      (subst (λ (r : NamedFrom). IfOk result (HasProvedTreeIn r.day (changed_meanings bounds) root (named_by r) grant)) is.rule_is proved))

-- an answer has runs of the later day exactly where its head has a plan
pub runs_planned : (disturbed : Disturbed) (grant : ℕ) (answer : Answer) → HasProvedTree disturbed grant answer
    → MatchBool (has_plan answer.head) (IsPlan (later_day disturbed) answer.runs) (answer.runs ≡ [])
runs_planned disturbed grant answer tree =
    by (has_plan answer.head) (λ has. (tree.valid.planned has).runs.is_plan) tree.within.planned
  where
    by : (b : Bool) → (IsTrue b → IsPlan (later_day disturbed) answer.runs) → (b ≡ false → answer.runs ≡ [])
        → MatchBool b (IsPlan (later_day disturbed) answer.runs) (answer.runs ≡ [])
    by true plan none = plan refl
    by false plan none = none refl

-- what is said is the same as the answer
pub same_answer : (answer : Answer) (replanned : Replanned) → replanned.head ≡ answer.head → unwrap_or replanned.plan [] ≡ answer.runs → replanned.tree ≡ answer.tree
    → answer.branchings ≡ branchings_of answer.tree → answer ≡ as_answer replanned
same_answer answer replanned head runs tree branchings =
    let count : answer.branchings ≡ branchings_of replanned.tree = branchings ∙ ap branchings_of (sym tree) in
    ap (λ h. record { head = h; branchings = answer.branchings; runs = answer.runs; tree = answer.tree }) (sym head)
    ∙ ap (λ b. record { head = replanned.head; branchings = b; runs = answer.runs; tree = answer.tree }) count
    ∙ ap (λ r. record { head = replanned.head; branchings = branchings_of replanned.tree; runs = r; tree = answer.tree }) (sym runs)
    ∙ ap (λ t. record { head = replanned.head; branchings = branchings_of replanned.tree; runs = unwrap_or replanned.plan []; tree = t }) (sym tree)

-- what holds anyway holds where there is an answer
pub anyway : (result : Result Answer NoMemory) (P : Type 0) → P → IfOk result (λ _. P)
anyway (Ok answer) P holds = holds
anyway (Err why) P holds = tt
