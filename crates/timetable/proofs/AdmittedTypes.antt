-- Types that may run on a trip are those of a composition of the day.
use Rattle.std.proofs.Common.{◌≡◌, ℕ, zero, suc, ◌<◌, ◌≤◌, List, length, [], ◌∷◌, true, Option, ap, ◌∙◌, arith}
use Rattle.std.proofs.Common.{unwrap_or, Contains}
use Rattle.std.proofs.lemmas.Bool.{and_parts, and_from, leb-true, le-leb}
use Rattle.std.proofs.lemmas.Option.{slice_get-get_or}
use Rattle.rules.specs.declared.records.UnitType.{UnitType}
use Rattle.compositions.specs.Composition.{fits_in, metres_of}
use Rattle.compositions.proofs.Listing.{catalogue_listed}
use Rattle.rules.specs.declared.records.Station.{Station}
use Rattle.timetable.specs.Admissible.{longest_of, is_admissible}
use Rattle.timetable.specs.Compositions.{greatest_in, greatest_platform, compositions_of, composition_at}
use Rattle.timetable.specs.Day.{Day, from_of, platform_of}
use Rattle.timetable.specs.Lists.{of_entry}

-- no platform is greater than the greatest
platform_within : (stations : List Station) (s : ℕ) → of_entry (λ station. station.platform) stations s 0 ≤ greatest_in stations
platform_within [] s = omega arith
platform_within (station ∷ stations) zero = omega arith
platform_within (station ∷ stations) (suc s) = omega (arith, platform_within stations s)

longest_within : (day : Day) (t : ℕ) → longest_of day t ≤ greatest_platform day
unfolding platform_of greatest_platform
longest_within day t = omega (arith, platform_within day.stations (from_of day t))

-- what fits still fits where more metres do
fits_longer : (types : List UnitType) (n m : ℕ) (ms : List ℕ) → n ≤ m → fits_in types n ms ≡ true → fits_in types m ms ≡ true
fits_longer types n m ms more fits =
    let both = and_parts _ _ fits in
    let short : metres_of types ms ≤ n = leb-true (metres_of types ms) n both.1 in
    and_from _ _ both.0 (le-leb (metres_of types ms) m (omega arith))

-- the number of the composition with these types
pub record CompositionOf (day : Day) (ms : List ℕ) : Type 0 where
  pub comp : ℕ
  pub listed : comp < length (compositions_of day)
  pub is : composition_at day comp ≡ ms

pub composition_of : (day : Day) (t : ℕ) (ms : List ℕ) → is_admissible day t ms ≡ true → CompositionOf day ms
unfolding is_admissible
composition_of day t ms fits =
    let there : Contains (compositions_of day) ms =
    (catalogue_listed day.types (greatest_platform day)).complete ms (fits_longer day.types (longest_of day t) (greatest_platform day) ms (longest_within day t) fits) in
    record {
      comp = there.0;
      listed = there.1;
      is = ap (λ (o : Option (List ℕ)). unwrap_or o []) (slice_get-get_or (compositions_of day) there.0 ms there.1) ∙ there.2;
    }
