use Rattle.std.proofs.Common.{List, ◌∙◌, Some, ap}
use Rattle.urgent_units.specs.declared.legs.UnitLegs.{UnitLegs}
use Rattle.urgent_units.specs.Moments.{minutes_at}
use Rattle.urgent_units.proofs.Parts.{parts_of}
use Rattle.urgent_units.proofs.legs.Legs.build.Goals as goal

pub invariant_of-result : goal.invariant_of-result
invariant_of-result c =
    parts_of c.args.instance.now c.args.plan.now c.args.unit_type c.stations.result c.in_ok-units.units.items c.in_ok-minutes.minutes.items
    c.is_sound.ensures.limits c.is_sound.ensures.links c.requires c.stations.ensures.value c.in_ok-units.ensures c.in_ok-minutes.ensures.length
    (λ s below.
    c.in_ok-minutes.ensures.each s below ∙ ap (λ (units : List UnitLegs). Some (minutes_at (record { stations = c.stations.result; units = units }) s)) c.deref.ensures.value)
