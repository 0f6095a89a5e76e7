-- Plans that go on from the past lie in the root region.
use Rattle.std.proofs.Common.{◌≡◌, ℕ, ◌<◌, List, length, IsTrue, get_or, sym, ap, ◌∙◌, arith}
use Rattle.timetable.specs.Admissible.{is_admissible}
use Rattle.timetable.specs.Compositions.{compositions_of, composition_at}
use Rattle.timetable.specs.Day.{Day, types_of}
use Rattle.timetable.specs.Links.{list_of}
use Rattle.timetable.specs.Picks.{RunsByPicks}
use Rattle.timetable.proofs.ListedUnits.{list_of-types}
use Rattle.branch_tree.specs.Regions.{are_in}
use Rattle.branch_tree.proofs.Lying.{each_in}
use Rattle.price_bound.proofs.Planned.{plans_have_picks}
use Rattle.price_bound.proofs.Solving.{list_picked}
use Rattle.replan.specs.Disturbances.{Disturbed, GoesOn, later_day, trips_later}
use Rattle.replan.specs.Laws.{GoingOnLiesInRoot, IsUnderWay}
use Rattle.replan.specs.RestsOfDays.{past_root}
use Rattle.replan.proofs.PastRoots.{in_past, past_has, past_length}

-- the composition of a trip's pick is its types in the plan
pub typed : (day : Day) (plan : List (List ℕ)) (picks : List ℕ) → RunsByPicks day plan picks → (t : ℕ) → t < length day.trips
    → composition_at day (get_or picks t 0) ≡ types_of day (list_of plan t)
typed day plan picks by t lt =
    sym (list_picked day picks t (omega (arith, lt, by.are_picks.trips)))
    ∙ ap (λ (lists : List (List ℕ)). list_of lists t) by.types ∙ list_of-types day plan t

module _ (disturbed : Disturbed) (way : IsUnderWay disturbed) (plan : List (List ℕ)) (picks : List ℕ)
    (goes_on : GoesOn disturbed plan) (by : RunsByPicks (later_day disturbed) plan picks) where
  each : (t : ℕ) → t < trips_later disturbed → IsTrue (is_admissible (later_day disturbed) t (composition_at (later_day disturbed) (get_or picks t 0)))
  each t lt =
      ap (is_admissible (later_day disturbed) t) (typed (later_day disturbed) plan picks by t lt) ∙ (goes_on.runs.lists t lt).admissible

  pub lies_in_root : IsTrue (are_in picks (past_root disturbed))
  lies_in_root =
      each_in picks (past_root disturbed) (by.are_picks.trips ∙ sym (past_length disturbed)) (λ t below.
      let lt : t < trips_later disturbed = omega (arith, below, past_length disturbed) in
      let there : t < length picks = omega (arith, lt, by.are_picks.trips) in
      let listed : get_or picks t 0 < length (compositions_of (later_day disturbed)) = by.are_picks.known t 0 there in
      past_has disturbed t (get_or picks t 0) lt (omega (arith, listed, way.later.compositions))
      ∙ in_past disturbed t (get_or picks t 0) (each t lt)
      (λ frozen. typed (later_day disturbed) plan picks by t lt ∙ goes_on.agrees.types t lt frozen))

pub going_on_lies_in_root : GoingOnLiesInRoot
going_on_lies_in_root disturbed plan way goes_on =
    let some = plans_have_picks (later_day disturbed) plan goes_on.runs in (
      some.0,
      record { by_picks = some.1; inside = lies_in_root disturbed way plan some.0 goes_on some.1 },
    )
