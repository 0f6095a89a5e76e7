-- The units at the start of the day are a fleet that fits it.
use Rattle.std.proofs.Common.{◌≡◌, ◌∙◌, ◌≤◌, ◌*◌, length, ap, sym, subst, arith, ℕ}
use Rattle.std.proofs.lemmas.Nat.{mul-le}
use Rattle.rules.specs.declared.records.UnitType.{UnitType}
use Rattle.timetable.specs.Lists.{listed}
use Rattle.timetable.proofs.Listing.{length-listed}
use Rattle.fleets.specs.Fleets.{FitsDay, own_fleet, start_at}
use Rattle.fleets.proofs.OwnFleets.{own_fleet_fits}
use Rattle.fleets.proofs.days.fleet_of.Goals as goal

pub of-requires : goal.of-requires
of-requires c =
    let most : c.stations.result * c.len.result ≤ 60 * 6 = mul-le c.stations.result c.len.result 60 6 c.stations.ensures.few c.len.ensures.few in
    let places : c.loop-place.place ≤ c.stations.result * c.len.result = c.loop-place.auto.place-end in
    let size = ap (length {A = ℕ}) c.loop-place.invariant ∙ length-listed (start_at c.args.instance.now) c.loop-place.place in
    omega (arith, most, places, size)

pub returns-clause-fits : goal.returns-clause-fits
returns-clause-fits c =
    let types : c.len.result ≡ length c.args.instance.now.types = c.len.ensures.value ∙ ap (length {A = UnitType}) c.types.ensures.value in
    let all : c.loop-place.place ≡ c.stations.result * c.len.result = omega arith in
    let places : c.loop-place.place ≡ length c.args.instance.now.stations * length c.args.instance.now.types = all ∙ (λ i. c.stations.ensures.value i * types i) in
    let own : c.of.result ≡ own_fleet c.args.instance.now = c.of.ensures ∙ c.loop-place.invariant ∙ ap (listed (start_at c.args.instance.now)) places in
    subst (FitsDay c.args.instance.now) (sym own) (own_fleet_fits c.args.instance.now c.is_sound.ensures.limits.units.few)
