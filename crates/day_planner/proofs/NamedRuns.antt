-- The units of a plan that runs, and the picks of a solution, within the limits.
use Rattle.std.proofs.Common.{◌≡◌, ℕ, ◌+◌, ◌<◌, ◌≤◌, List, [], ◌∷◌, map, length, IsTrue, Bool, true, if◌then◌else◌}
use Rattle.std.proofs.Common.{refl, sym, ◌∙◌, ap, subst, arith}
use Rattle.std.specs.Prelude.{All, MatchOption, Option, Some, None}
use Rattle.std.proofs.lemmas.Bool.{eq-eqb, le-leb, leb-true}
use Rattle.std.proofs.lemmas.List.{get_or-map, get_or_default, length-map}
use Rattle.std.proofs.lemmas.List.Elements.{All-cons, All-nil}
use Rattle.rail_base.specs.declared.limits.TheConstants.{MAX_TRIPS, MAX_UNITS}
use Rattle.timetable.specs.Accepted.{IsDay}
use Rattle.timetable.specs.Day.{Day, type_of, types_of}
use Rattle.timetable.specs.Links.{list_of}
use Rattle.timetable.specs.Lists.{count_of, has}
use Rattle.timetable.specs.Running.{Runs}
use Rattle.timetable.specs.Admissible.{is_admissible}
use Rattle.timetable.specs.Picks.{IsSolution}
use Rattle.unit_duties.specs.Broken.{AreAdmissible}
use Rattle.branch_tree.specs.Claims.{IsPlanIn, CostedPicks}
use Rattle.branch_tree.specs.Meanings.{Meanings}
use Rattle.branch_tree.specs.Regions.{are_in}
use Rattle.price_bound.proofs.Solving.{list_read}
use Rattle.answer_text.specs.Limits.{IsRun}
use Rattle.search.specs.declared.found.Found.{Found}
use Rattle.search.specs.Conclusions.{plan_found}
use Rattle.answer_check.proofs.Admitting.{AreFew, some_units}
use Rattle.day_planner.specs.FoundAnswers.{IsNameable}

-- the first unit of a list is one of it
has_first : (u : ℕ) (us : List ℕ) → IsTrue (has u (u ∷ us))
has_first u us =
    let once : 1 ≤ (if true then 1 else 0) + count_of u us = omega arith in
    le-leb 1 (count_of u (u ∷ us)) (subst (λ (b : Bool). 1 ≤ (if b then 1 else 0) + count_of u us)
    (sym (eq-eqb u u refl)) once)

-- so is each later one
has_later : (v u : ℕ) (us : List ℕ) → IsTrue (has u us) → IsTrue (has u (v ∷ us))
has_later v u us here =
    let counted : 1 ≤ count_of u us = leb-true 1 (count_of u us) here in
    le-leb 1 (count_of u (v ∷ us)) (omega (arith, counted))

-- what holds of the units that a list has holds of each unit of it
each_unit : (n : ℕ) (us : List ℕ) → ((u : ℕ) → IsTrue (has u us) → u < n) → All (λ u. u < n) us
each_unit n [] known = All-nil (λ (u : ℕ). u < n)
each_unit n (v ∷ us) known =
    All-cons (λ (u : ℕ). u < n) v us (known v (has_first v us))
    (each_unit n us (λ u here. known u (has_later v u us here)))

module _ (day : Day) (sound : IsDay day) (plan : List (List ℕ)) (runs : Runs day plan) where
  -- the list of a trip is short, and its units are numbered within the limit
  run_within : (trip : ℕ) → trip < length plan → IsRun (list_of plan trip)
  run_within trip below =
      let inside : trip < length day.trips = omega (arith, below, runs.is_plan.trips) in
      let few : AreFew (types_of day (list_of plan trip)) =
      some_units day trip (types_of day (list_of plan trip)) (runs.lists trip inside).admissible in
      record {
        few = omega (arith, few.few, length-map (list_of plan trip) (type_of day));
        numbers = each_unit MAX_UNITS (list_of plan trip)
            (λ u here. omega (arith, runs.is_plan.units trip u here, sound.units.few));
      }

  -- the runs of a plan that runs are within the limits
  pub runs_within : All IsRun plan
  runs_within k d below = subst IsRun (list_read plan k below ∙ get_or_default plan k [] d below) (run_within k below)

  pub few_runs : length plan ≤ MAX_TRIPS
  few_runs = omega (arith, runs.is_plan.trips, sound.timetable.trip_count)

-- each pick of a solution may run on its trip
pub picks_may_run : (day : Day) (picks : List ℕ) → IsSolution day picks → AreAdmissible day picks
picks_may_run day picks solution = record {
  each = λ t below.
      let at : t < length solution.plan = omega (arith, below, solution.runs.is_plan.trips) in
      let mapped : t < length (map (types_of day) solution.plan) =
      omega (arith, at, length-map solution.plan (types_of day)) in
      let read : list_of (map (types_of day) solution.plan) t ≡ types_of day (list_of solution.plan t) =
      list_read (map (types_of day) solution.plan) t mapped ∙ get_or-map (types_of day) solution.plan t [] [] at
      ∙ ap (types_of day) (sym (list_read solution.plan t at)) in
      subst (λ (lists : List (List ℕ)). IsTrue (is_admissible day t (list_of lists t))) solution.types
      (subst (λ (types : List ℕ). IsTrue (is_admissible day t types)) (sym read)
      (solution.runs.lists t below).admissible);
}

-- where a plan was found, it is a solution in the root, and so its picks can be named
pub nameable_found : (CanName : List ℕ → Type 0) (found : Found) (problem : Meanings) (root : List (List Bool))
    → ((picks : List ℕ) → problem.IsSolution picks → IsTrue (are_in picks root) → CanName picks)
    → MatchOption (plan_found found) (Unit {0}) (IsPlanIn problem root) → IsNameable CanName found
nameable_found CanName found problem root names plan = by (plan_found found) plan
  where
    by : (some : Option CostedPicks) → MatchOption some (Unit {0}) (IsPlanIn problem root)
        → MatchOption some (Unit {0}) (λ one. CanName one.picks)
    by None none = tt
    by (Some one) is = names one.picks is.solution is.inside
