-- Whether a composition of the catalogue may run on a trip.
use Rattle.std.proofs.Common.{◌≡◌, ℕ, ◌<◌, List, [], length, sym, ap, subst, ◌∙◌, Option, Some, slice_get, unwrap_or}
use Rattle.std.specs.Prelude.{min}
use Rattle.std.proofs.lemmas.Option.{slice_get_within}
use Rattle.compositions.specs.Composition.{fits_in}
use Rattle.rules.specs.declared.records.Trip.{Trip}
use Rattle.timetable.specs.Accepted.{IsDay}
use Rattle.timetable.specs.Admissible.{is_admissible}
use Rattle.timetable.specs.Build.{platform_at}
use Rattle.timetable.specs.Compositions.{compositions_of, composition_at}
use Rattle.timetable.specs.Day.{Day, from_of, to_of, platform_of}
use Rattle.timetable.proofs.Days.{entry_is}

-- the stations of a trip are there
pub from_within : (day : Day) (t : ℕ) (trip : Trip) → IsDay day → slice_get day.trips t ≡ Some trip → trip.from < length day.stations
unfolding from_of
from_within day t trip is at =
    subst (λ (s : ℕ). s < length day.stations) (entry_is (λ trip. trip.from) day.trips t 0 trip at) (is.timetable.origin t (slice_get_within day.trips t trip at))

pub to_within : (day : Day) (t : ℕ) (trip : Trip) → IsDay day → slice_get day.trips t ≡ Some trip → trip.to < length day.stations
unfolding to_of
to_within day t trip is at =
    subst (λ (s : ℕ). s < length day.stations) (entry_is (λ trip. trip.to) day.trips t 0 trip at) (is.timetable.goal t (slice_get_within day.trips t trip at))

-- the composition fits both platforms of the trip
pub fits_is_admissible : (day : Day) (t comp : ℕ) (trip : Trip) (types : List ℕ) → slice_get day.trips t ≡ Some trip → slice_get (compositions_of day) comp ≡ Some types
    → fits_in day.types (min (platform_at day.stations trip.from) (platform_at day.stations trip.to)) types ≡ is_admissible day t (composition_at day comp)
unfolding is_admissible platform_of from_of to_of
fits_is_admissible day t comp trip types at is =
    let from : from_of day t ≡ trip.from = entry_is (λ trip. trip.from) day.trips t 0 trip at in
    let to : to_of day t ≡ trip.to = entry_is (λ trip. trip.to) day.trips t 0 trip at in
    let longest : ℕ → ℕ → ℕ = λ a b. min (platform_at day.stations a) (platform_at day.stations b) in
    let same : longest trip.from trip.to ≡ longest (from_of day t) (to_of day t) = ap (λ (a : ℕ). longest a trip.to) (sym from) ∙ ap (λ (b : ℕ). longest (from_of day t) b) (sym to) in
    ap (λ (n : ℕ). fits_in day.types n types) same
    ∙ ap (λ (o : Option (List ℕ)). fits_in day.types (longest (from_of day t) (to_of day t)) (unwrap_or o [])) (sym is)
