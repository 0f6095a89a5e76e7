-- The composition fits both platforms of the trip.
use Rattle.std.proofs.Common.{◌≡◌, ◌<◌, ℕ, List, length, get_or, ap, sym, subst, ◌∙◌, arith, Some, slice_get}
use Rattle.std.specs.Prelude.{min}
use Rattle.std.proofs.lemmas.Option.{slice_get-get_or}
use Rattle.compositions.specs.Composition.{fits_in}
use Rattle.rules.specs.declared.records.Station.{Station}
use Rattle.rules.specs.declared.records.Trip.{Trip}
use Rattle.timetable.specs.Build.{platform_at}
use Rattle.timetable.specs.Compositions.{compositions_of, greatest_platform}
use Rattle.timetable.specs.Day.{Day}
use Rattle.timetable.specs.InstanceParts.{day_in}
use Rattle.timetable.proofs.Admitting.{from_within, to_within, fits_is_admissible}
use Rattle.timetable.proofs.day.instance.Instance.admits.Goals as goal

-- the entry that was read
read : (trips : List Trip) (place t : ℕ) (trip : Trip) → place ≡ t → t < length trips → trip ≡ get_or trips place trip → slice_get trips t ≡ Some trip
read trips place t trip same below is =
    subst (λ (k : ℕ). slice_get trips k ≡ Some trip) same (slice_get-get_or trips place trip (omega arith) ∙ ap Some (sym is))

pub longest_between-longest-requires-clause-from : goal.longest_between-longest-requires-clause-from
longest_between-longest-requires-clause-from c =
    let below : c.args.trip < length c.self.inside.trips.items = omega (arith, c.requires.trip, ap (λ (day : Day). length day.trips) c.self.view_is) in
    let at : slice_get c.self.inside.trips.items c.args.trip ≡ Some c.index-trip.result.now = read c.self.inside.trips.items c.place.result c.args.trip c.index-trip.result.now c.place.ensures.number below c.index-trip.ensures in
    omega (arith, from_within (day_in c.self.inside) c.args.trip c.index-trip.result.now c.self.invariant.day at, ap length c.deref.ensures.value)

pub longest_between-longest-requires-clause-to : goal.longest_between-longest-requires-clause-to
longest_between-longest-requires-clause-to c =
    let below : c.args.trip < length c.self.inside.trips.items = omega (arith, c.requires.trip, ap (λ (day : Day). length day.trips) c.self.view_is) in
    let at : slice_get c.self.inside.trips.items c.args.trip ≡ Some c.index-trip.result.now = read c.self.inside.trips.items c.place.result c.args.trip c.index-trip.result.now c.place.ensures.number below c.index-trip.ensures in
    omega (arith, to_within (day_in c.self.inside) c.args.trip c.index-trip.result.now c.self.invariant.day at, ap length c.deref.ensures.value)

pub returns : goal.returns
unfolding greatest_platform
returns c =
    let day : Day = day_in c.self.inside in
    let trip : Trip = c.index-trip.result.now in
    let below : c.args.trip < length c.self.inside.trips.items = omega (arith, c.requires.trip, ap (λ (day : Day). length day.trips) c.self.view_is) in
    let at : slice_get day.trips c.args.trip ≡ Some trip = read c.self.inside.trips.items c.place.result c.args.trip c.index-trip.result.now c.place.ensures.number below c.index-trip.ensures in
    let comp : slice_get (compositions_of day) c.args.comp ≡ Some c.get.result.now = ap (λ (cs : List (List ℕ)). slice_get cs c.args.comp) (sym c.self.invariant.catalogue) ∙ c.get.ensures in
    rw (← c.self.view_is)
    (c.fits.ensures
    ∙ ap (λ (n : ℕ). fits_in day.types n c.get.result.now)
    (c.longest_between-longest.ensures ∙ ap (λ (stations : List Station). min (platform_at stations trip.from) (platform_at stations trip.to)) c.deref.ensures.value)
    ∙ fits_is_admissible day c.args.trip c.args.comp trip c.get.result.now at comp)
