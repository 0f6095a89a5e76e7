-- Where the units of a week stand as a day begins.
use Rattle.std.proofs.Common.{◌≡◌, ℕ, ◌<◌, ◌≤◌, List, [], ◌∷◌, length, All, Bool, refl, sym, ap, ◌∙◌, subst, arith, inl, inr}
use Rattle.std.specs.Prelude.{◌==◌, ◌&&◌, ◌⊎◌, if◌then◌else◌, ⊤}
use Rattle.std.proofs.lemmas.Bool.{cases_lt, cond-false, ne_eqb, and_right}
use Rattle.std.proofs.lemmas.List.Elements.{All-head}
use Rattle.rules.specs.declared.records.UnitType.{UnitType}
use Rattle.rules.specs.declared.records.Station.{Station}
use Rattle.timetable.specs.Accepted.{AreUnitsOf, IsSoundDay}
use Rattle.timetable.specs.Day.{Day, Units, stock_units}
use Rattle.timetable.specs.Renumbering.{is_at, standing_at}
use Rattle.timetable.specs.Running.{RunsOf}
use Rattle.timetable.proofs.AtHome.{units_are_at_home}
use Rattle.timetable.proofs.Sums.{sum_zero}
use Rattle.inventory.specs.ServingLaws.{LeavesUnits, units_after}
use Rattle.inventory.proofs.OtherUnits.{units_are_left}
use Rattle.week_units.specs.Weeks.{EachGoesOn, GoesOnFrom, HasRowsOf}

-- units as a day begins: units of the day, of which as many of each type stand at each station as of the day's own
pub record BeginsWith (first : Day) (units : Units) (day : Day) : Type 0 where
  pub sound : IsSoundDay day
  pub rows : HasRowsOf first day
  pub are_units : AreUnitsOf units day
  pub as_many : (s m : ℕ) → standing_at (stock_units day) s m ≡ standing_at units s m

-- units outside the day's stations and types stand nowhere
nowhere : (units : Units) (day : Day) → AreUnitsOf units day → (s m : ℕ) → (length day.stations ≤ s) ⊎ (length day.types ≤ m) → standing_at units s m ≡ 0
nowhere units day are s m outside =
    sum_zero (λ u. if is_at units s m u then 1 else 0) units.count (λ u lt. cond-false {A = ℕ} (is_at units s m u) 1 0 (elim outside [
      | inl past ↦ let home = are.home u lt in ap (λ (b : Bool). b && (units.unit_type u == m)) (ne_eqb (units.home u) s (λ e. absurd (omega arith)))
      | inr past ↦ let kind = are.unit_type u lt in and_right (units.home u == s) (units.unit_type u == m) (ne_eqb (units.unit_type u) m (λ e. absurd (omega arith)))
    ]))

-- the first day begins with its own units
pub first_begins : (day : Day) → IsSoundDay day → BeginsWith day (stock_units day) day
first_begins day sound = record {
  sound = sound;
  rows = record { types = refl; stations = refl };
  are_units = sound.limits.units;
  as_many = λ s m. refl;
}

-- the next day begins with the units as a plan that runs leaves them
module _ (first before day : Day) (units : Units) (plan : List (List ℕ)) (begins : BeginsWith first units before) (sound : IsSoundDay day) (goes_on : GoesOnFrom first before day) (runs : RunsOf units before plan) where
  left : LeavesUnits units before plan
  left = units_are_left units before plan begins.sound.limits.timetable begins.are_units

  same_types : length day.types ≡ length before.types
  same_types = ap (λ (ts : List UnitType). length ts) (goes_on.rows.types ∙ sym begins.rows.types)

  same_stations : length day.stations ≡ length before.stations
  same_stations = ap (λ (ss : List Station). length ss) (goes_on.rows.stations ∙ sym begins.rows.stations)

  are_left : AreUnitsOf (units_after units before plan) day
  are_left = record {
    home = λ u lt. subst (λ (n : ℕ). (units_after units before plan).home u < n) (sym same_stations) (left.are_units.home u lt);
    unit_type = λ u lt. subst (λ (n : ℕ). units.unit_type u < n) (sym same_types) (left.are_units.unit_type u lt);
    few = left.are_units.few;
  }

  as_many_left : (s m : ℕ) → standing_at (stock_units day) s m ≡ standing_at (units_after units before plan) s m
  as_many_left s m = elim (cases_lt s (length day.stations)) [
    | inr past ↦ nowhere (stock_units day) day sound.limits.units s m (inl past) ∙ sym (nowhere (units_after units before plan) day are_left s m (inl past))
    | inl station ↦ elim (cases_lt m (length day.types)) [
      | inr past ↦ nowhere (stock_units day) day sound.limits.units s m (inr past) ∙ sym (nowhere (units_after units before plan) day are_left s m (inr past))
      | inl kind ↦
          units_are_at_home day s m (sound.stock.once s m)
          ∙ sym (goes_on.begins s m (record { station = station; unit_type = kind }))
          ∙ sym (runs.balance s m (omega (arith, same_stations, station)) (omega (arith, same_types, kind)))
          ∙ sym (left.standing s m)
    ]
  ]

  pub next_begins : BeginsWith first (units_after units before plan) day
  next_begins = record { sound = sound; rows = goes_on.rows; are_units = are_left; as_many = as_many_left }

-- the first of some days, if there is one, begins with these units
abbrev pub BeginWith : Day → Units → List Day → Type 0
BeginWith first units [] = ⊤
BeginWith first units (day ∷ days) = BeginsWith first units day

pub rest_begins : (first before : Day) (days : List Day) (units : Units) (plan : List (List ℕ)) → BeginsWith first units before → All IsSoundDay days → EachGoesOn first before days → RunsOf units before plan
    → BeginWith first (units_after units before plan) days
rest_begins first before [] units plan begins sound goes_on runs = tt
rest_begins first before (day ∷ days) units plan begins sound goes_on runs = next_begins first before day units plan begins (All-head IsSoundDay day days sound) goes_on.0 runs
