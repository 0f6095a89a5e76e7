-- An accepted day with a fleet that fits it is as the laws on days ask for it.
use Rattle.std.proofs.Common.{◌≡◌, ◌∙◌, ℕ, ◌+◌, ◌*◌, ◌/◌, ◌%◌, ◌<◌, ◌≤◌, List, [], ◌∷◌, length, sym, ap, arith, subst}
use Rattle.std.proofs.Common.{Bool, true, false}
use Rattle.std.specs.Prelude.{◌==◌, ◌&&◌, if◌then◌else◌}
use Rattle.std.specs.List.{All}
use Rattle.std.proofs.lemmas.List.Elements.{All-nil, All-cons}
use Rattle.rail_base.specs.declared.limits.TheConstants.{MAX_UNITS, MAX_COMPOSITIONS}
use Rattle.rules.specs.declared.records.Stock.{Stock}
use Rattle.timetable.specs.Accepted.{AreUnitsOf, IsStocked}
use Rattle.timetable.specs.Day.{Day, stock_units, unit_count, units_in, units_of, home_of, type_of, wanted_in, wanted_of}
use Rattle.timetable.specs.DerivedDays.{KeepsTimetable}
use Rattle.day_tables.proofs.Entries.{IsStockAt}
use Rattle.timetable.specs.Within.{IsUnitAt}
use Rattle.timetable.proofs.Days.{entry_at, entry_is, units_within}
use Rattle.timetable.proofs.FewPlaces.{few_places}
use Rattle.timetable.proofs.Indices.{InRows, in_rows}
use Rattle.timetable.proofs.NumberedUnits.{units_are_numbered}
use Rattle.timetable.proofs.OtherStock.{other_stock_keeps_timetables}
use Rattle.fleets.specs.Fleets.{fleet_size, FitsDay, stock_from, with_fleet}
use Rattle.fleets.specs.Laws.{DaysOfFleetsAreSound}
use Rattle.fleets.proofs.Places.{rows_once, starts-stock_from}

module _ (stations types : ℕ) where
  rows_there : (place : ℕ) (fleet : List ℕ) → place + length fleet ≤ stations * types → All (IsStockAt stations types) (stock_from types place fleet)
  rows_there place [] within = All-nil (IsStockAt stations types)
  rows_there place (n ∷ fleet) within =
      let at : InRows place stations types = in_rows place stations types (omega arith) in
      All-cons (IsStockAt stations types) (record { station = place / types; unit_type = place % types; start = n; end = n }) (stock_from types (place + 1) fleet)
      (record { station = at.row; unit_type = at.place })
      (rows_there (place + 1) fleet (omega arith))

few_wanted : (types place s m : ℕ) (fleet : List ℕ) → wanted_in (stock_from types place fleet) s m ≤ fleet_size fleet
few_wanted types place s m [] = omega arith
few_wanted types place s m (n ∷ fleet) = one (((place / types) == s) && ((place % types) == m)) (wanted_in (stock_from types (place + 1) fleet) s m) (few_wanted types (place + 1) s m fleet)
  where
    one : (here : Bool) (rest : ℕ) → rest ≤ fleet_size fleet → (if here then n else rest) ≤ n + fleet_size fleet
    one true rest few = omega arith
    one false rest few = omega arith

units_there : (day : Day) (fleet : List ℕ) → FitsDay day fleet → AreUnitsOf (stock_units (with_fleet fleet day)) (with_fleet fleet day)
unfolding home_of type_of units_of
units_there day fleet fits =
    let stock : List Stock = stock_from (length day.types) 0 fleet in
    let all = units_within (length day.stations) (length day.types) stock (rows_there (length day.stations) (length day.types) 0 fleet (omega (arith, fits.each))) in
    let unit_at = λ (u : ℕ) (below : u < length (units_in stock)). entry_at (IsUnitAt (length day.stations) (length day.types)) (units_in stock) u below all in
    let count : unit_count (with_fleet fleet day) ≡ fleet_size fleet = (units_are_numbered (with_fleet fleet day)).all ∙ starts-stock_from (length day.types) 0 fleet in
    record {
      home = λ u below. let (one, is, at) = unit_at u below in rw (entry_is (λ x. x.home) (units_in stock) u 0 one is) at.home;
      unit_type = λ u below. let (one, is, at) = unit_at u below in rw (entry_is (λ x. x.unit_type) (units_in stock) u 0 one is) at.unit_type;
      few = subst (λ (n : ℕ). n ≤ MAX_UNITS) (sym count) fits.few;
    }

stocked : (day : Day) (fleet : List ℕ) → FitsDay day fleet → IsStocked (with_fleet fleet day)
unfolding wanted_of
stocked day fleet fits = record {
  once = λ s m. rows_once (length day.types) 0 s m fleet;
  few = λ s m. let few = few_wanted (length day.types) 0 s m fleet in omega (arith, few, fits.few);
}

pub days_of_fleets_are_sound : DaysOfFleetsAreSound
days_of_fleets_are_sound day fleet sound fits =
    let keeps : KeepsTimetable day (stock_from (length day.types) 0 fleet) = other_stock_keeps_timetables day (stock_from (length day.types) 0 fleet) in
    let timetable = keeps.timetable sound.limits.timetable in
    let links = keeps.links sound.links in
    let compositions = subst (λ (n : ℕ). n ≤ MAX_COMPOSITIONS) (sym (ap length keeps.compositions)) sound.compositions in
    record {
      limits = record { timetable = timetable; units = units_there day fleet fits };
      names = record { types = sound.names.types; stations = sound.names.stations; trips = sound.names.trips };
      links = links;
      meet = keeps.meet sound.meet;
      stock = stocked day fleet fits;
      served = keeps.served sound.served;
      compositions = compositions;
      indices = few_places (with_fleet fleet day) timetable links compositions;
    }
