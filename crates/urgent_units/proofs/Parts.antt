-- What the parts of legs hold: minutes that rise, and not too many.
use Rattle.std.proofs.Common.{◌≡◌, ℕ, zero, suc, ◌+◌, ◌≤◌, ◌<◌, List, [], ◌∷◌, length, get_or, refl, sym, ap, ◌∙◌, subst, arith, Some, Option, unwrap_or}
use Rattle.std.specs.Prelude.{slice_get}
use Rattle.std.specs.List.{AllPairs}
use Rattle.rail_base.specs.declared.limits.TheConstants.{MAX_MINUTES, MAX_REALLOCATION}
use Rattle.timetable.specs.Accepted.{IsDay, AreLinks}
use Rattle.timetable.specs.Day.{Day}
use Rattle.timetable.specs.Running.{Runs}
use Rattle.urgent_units.specs.declared.legs.UnitLegs.{UnitLegs}
use Rattle.urgent_units.specs.LegParts.{AreLegs, AreParts}
use Rattle.urgent_units.specs.Legs.{TypeLegs, legs_of}
use Rattle.urgent_units.specs.Moments.{minutes_at}
use Rattle.urgent_units.proofs.Bounds.{few_minutes}
use Rattle.urgent_units.proofs.EventMinutes.{minutes_rise}
use Rattle.urgent_units.proofs.LegLimits.{are_legs}
use Rattle.urgent_units.proofs.LegMinutes.{pairs_of_rise}

-- the minutes of a station of legs within the limits of a day are not too many
pub minutes_few : (legs : TypeLegs) → AreLegs legs → (s : ℕ) → length (minutes_at legs s) ≤ MAX_MINUTES + MAX_REALLOCATION
minutes_few legs are s =
    few_minutes legs s (MAX_MINUTES + MAX_REALLOCATION) (λ k d below i e under. (
    let leg = are.each k d below i e under in
    (leg.departs, leg.ready)))

-- and they rise
pub minutes_ascend : (legs : TypeLegs) (s : ℕ) → AllPairs (λ a b. a < b) (minutes_at legs s)
minutes_ascend legs s = pairs_of_rise 0 (minutes_at legs s) (minutes_rise legs s)

pub minutes_found : (legs : TypeLegs) (units : List UnitLegs) (minutes : List (List ℕ)) (s place : ℕ) (found : List ℕ) → AreParts units minutes → record { stations = length minutes; units = units } ≡ legs
    → s < legs.stations → place ≡ s → found ≡ get_or minutes place found → found ≡ minutes_at legs s
minutes_found legs units minutes s place found parts legs_are below at is =
    let within : s < length minutes = (let long = ap (λ (l : TypeLegs). l.stations) legs_are in omega (arith, below, long)) in
    is ∙ ap (λ (k : ℕ). get_or minutes k found) at ∙ got minutes s found ∙ ap (λ (o : Option (List ℕ)). unwrap_or o found) (parts.each s within) ∙ ap (λ (l : TypeLegs). minutes_at l s) legs_are
  where
    got : (xs : List (List ℕ)) (k : ℕ) (d : List ℕ) → get_or xs k d ≡ unwrap_or (slice_get xs k) d
    got [] k d = refl
    got (x ∷ xs) zero d = refl
    got (x ∷ xs) (suc k) d = got xs k d

-- ---- legs that are made

-- legs of so many stations
abbrev legs_with : ℕ → List UnitLegs → TypeLegs
legs_with n us = record { stations = n; units = us }

legs_are : (day : Day) (plan : List (List ℕ)) (m stations : ℕ) (units : List UnitLegs) (minutes : List (List ℕ)) → stations ≡ length day.stations → units ≡ (legs_of day plan m).units → length minutes ≡ stations
    → legs_with (length minutes) units ≡ legs_of day plan m
legs_are day plan m stations units minutes stations_are units_are long =
    ap (λ (n : ℕ). legs_with n units) (long ∙ stations_are) ∙ ap (legs_with (length day.stations)) units_are

pub parts_of : (day : Day) (plan : List (List ℕ)) (m stations : ℕ) (units : List UnitLegs) (minutes : List (List ℕ)) → IsDay day → AreLinks day → Runs day plan → stations ≡ length day.stations
    → units ≡ (legs_of day plan m).units → length minutes ≡ stations → ((s : ℕ) → s < stations → slice_get minutes s ≡ Some (minutes_at (record { stations = stations; units = units }) s)) → AreParts units minutes
parts_of day plan m stations units minutes is_day links runs stations_are units_are long each = record {
  legs = subst AreLegs (sym (legs_are day plan m stations units minutes stations_are units_are long)) (are_legs day plan is_day links runs m);
  each = subst (λ (n : ℕ). (s : ℕ) → s < n → slice_get minutes s ≡ Some (minutes_at (record { stations = n; units = units }) s)) (sym long) each;
}
