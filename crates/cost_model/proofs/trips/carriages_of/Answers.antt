-- Six units of at most 20 carriages.
use Rattle.std.proofs.Common.{◌≡◌, arith, refl}
use Rattle.compositions.specs.Composition.{carriages_of}
use Rattle.timetable.proofs.Carriages.{carriages_le}
use Rattle.cost_model.proofs.trips.carriages_of.Goals as goal

pub returns-in-Some-clause-few : goal.returns-in-Some-clause-few
returns-in-Some-clause-few c =
    let types = c.args.instance.now.types in
    let bound = carriages_le types c.args.types.now c.types.ensures.within.each in
    let same : c.carriages.result ≡ carriages_of types c.args.types.now = rw (c.carriages.ensures, c.types.ensures.value, c.in-Some.ensures.some) refl in
    omega (arith, bound, same, c.requires.few)
