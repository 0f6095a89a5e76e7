-- Plans that run with any units, of which as many stand at each station as the stock rows say; and the units as a plan
-- leaves them.
use Rattle.std.proofs.Common.{◌≡◌, ℕ, ◌<◌, ◌≤◌, List, [], ◌∷◌, length, Bool, Option, refl, sym, ap, ◌∙◌, subst, arith, inl, inr}
use Rattle.std.specs.Prelude.{◌==◌, ◌&&◌, ◌⊎◌, if◌then◌else◌, option_map, unwrap_or}
use Rattle.std.proofs.lemmas.Bool.{cases_lt, cond-false, ne_eqb, and_right}
use Rattle.std.proofs.lemmas.Option.{slice_get_past}
use Rattle.rules.specs.declared.records.Trip.{Trip}
use Rattle.timetable.specs.Accepted.{IsTimetable, IsDay, AreUnitsOf, IsStocked}
use Rattle.timetable.specs.Day.{Day, Units, stock_units, to_of}
use Rattle.timetable.specs.Duties.{duty, ends_at, last_place_of}
use Rattle.timetable.specs.Running.{ending_of}
use Rattle.timetable.specs.Renumbering.{RunsAlike, IsRenumbering, is_at, kth_number, renumbered, standing_at}
use Rattle.timetable.proofs.AtHome.{units_are_at_home}
use Rattle.timetable.proofs.KthUnits.{kth_units_are_renumbered}
use Rattle.timetable.proofs.Renumbered.{renumbered_plans_run}
use Rattle.inventory.specs.Counts.{AreServed}
use Rattle.inventory.specs.NamedUnits.{named_plan}
use Rattle.inventory.specs.NamingLaws.{RunsWith, ServedPlansRunWithUnits}
use Rattle.inventory.specs.ServingLaws.{StandAtStart, PlansOfUnitsAreServed, UnitsAreLeft}
use Rattle.inventory.proofs.Laws.{served_plans_run}
use Rattle.inventory.proofs.Serving.{served}
use Rattle.inventory.proofs.Sums.{sum_zero}

-- where no station and no type of the day is, none stand
none_outside : (units : Units) (day : Day) → AreUnitsOf units day → (s m : ℕ) → (length day.stations ≤ s) ⊎ (length day.types ≤ m) → standing_at units s m ≡ 0
none_outside units day are s m outside =
    sum_zero (λ u. if is_at units s m u then 1 else 0) units.count (λ u lt. cond-false {A = ℕ} (is_at units s m u) 1 0 (elim outside [
      | inl past ↦ let home = are.home u lt in ap (λ (b : Bool). b && (units.unit_type u == m)) (ne_eqb (units.home u) s (λ e. absurd (omega arith)))
      | inr past ↦ let kind = are.unit_type u lt in and_right (units.home u == s) (units.unit_type u == m) (ne_eqb (units.unit_type u) m (λ e. absurd (omega arith)))
    ]))

-- as many as of the stock's units
as_many : (units : Units) (day : Day) → IsDay day → IsStocked day → AreUnitsOf units day → StandAtStart units day → (s m : ℕ) → standing_at units s m ≡ standing_at (stock_units day) s m
as_many units day is_day stocked are stand s m = elim (cases_lt s (length day.stations)) [
  | inr past ↦ none_outside units day are s m (inl past) ∙ sym (none_outside (stock_units day) day is_day.units s m (inl past))
  | inl station ↦ elim (cases_lt m (length day.types)) [
    | inr past ↦ none_outside units day are s m (inr past) ∙ sym (none_outside (stock_units day) day is_day.units s m (inr past))
    | inl kind ↦ stand s m station kind ∙ sym (units_are_at_home day s m (stocked.once s m))
  ]
]

pub plans_of_units_are_served : PlansOfUnitsAreServed
plans_of_units_are_served units day plan is_day links stocked are stand runs =
    let number : ℕ → ℕ = kth_number units (stock_units day) in
    let is : IsRenumbering units (stock_units day) number = (kth_units_are_renumbered units (stock_units day) (as_many units day is_day stocked are stand)).renumbers in
    let alike : RunsAlike units (stock_units day) number day plan = renumbered_plans_run units (stock_units day) number day plan is runs.is_plan in
    subst (AreServed day) alike.types (served day (renumbered number plan) is_day links stocked (alike.runs.0 runs))

pub served_plans_run_with_units : ServedPlansRunWithUnits
served_plans_run_with_units units day types is_day links stocked are stand are_served =
    let named : RunsWith day types (named_plan day types) = served_plans_run day types is_day links stocked are_served in
    let number : ℕ → ℕ = kth_number (stock_units day) units in
    let is : IsRenumbering (stock_units day) units number = (kth_units_are_renumbered (stock_units day) units (λ s m. sym (as_many units day is_day stocked are stand s m))).renumbers in
    let alike : RunsAlike (stock_units day) units number day (named_plan day types) = renumbered_plans_run (stock_units day) units number day (named_plan day types) is named.runs.is_plan in
    record { runs = alike.runs.0 named.runs; types_are = alike.types ∙ named.types_are }

-- ---- the units as a plan leaves them

goes_nowhere : (day : Day) (t : ℕ) → length day.trips ≤ t → to_of day t ≡ 0
unfolding to_of
goes_nowhere day t past = ap (λ (o : Option Trip). unwrap_or (option_map (λ trip. trip.to) o) 0) (slice_get_past day.trips t past)

-- where a list of trips ends: at a station of the day, where it begins at one
ends_there : (day : Day) → IsTimetable day → (s : ℕ) (ts : List ℕ) → s < length day.stations → ends_at day s ts < length day.stations
ends_there day timetable s [] lt = lt
ends_there day timetable s (t ∷ ts) lt = ends_there day timetable (to_of day t) ts (elim (cases_lt t (length day.trips)) [
  | inl known ↦ timetable.goal t known
  | inr past ↦ let none = goes_nowhere day t past in omega arith
])

pub units_are_left : UnitsAreLeft
unfolding last_place_of ending_of
units_are_left units day plan timetable are = record {
  are_units = record {
    home = λ u lt. ends_there day timetable (units.home u) (duty day plan u) (are.home u lt);
    unit_type = are.unit_type;
    few = are.few;
  };
  standing = λ s m. refl;
}
