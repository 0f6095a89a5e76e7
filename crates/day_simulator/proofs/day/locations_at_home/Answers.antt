use Rattle.std.proofs.Common.{◌∙◌, ap, sym, List, [], ◌∷◌, ◌++◌}
use Rattle.timetable.specs.Day.{units_of}
use Rattle.rules.specs.declared.records.Unit as unit
use Rattle.day_simulator.specs.declared.events.UnitLocation.{UnitLocation}
use Rattle.day_simulator.specs.declared.events.UnitLocation.TheVariants.{Yard}
use Rattle.day_simulator.proofs.Starts.{map-more}
use Rattle.day_simulator.proofs.day.locations_at_home.Goals as goal

pub loop-number-preserved : goal.loop-number-preserved
loop-number-preserved c =
    c.in_ok-push.ensures.items ∙ ap (λ (ps : List UnitLocation). ps ++ Yard c.unit-station.result.home 0 ∷ []) c.loop-number.invariant
    ∙ sym (map-more (λ (u : unit.Unit). Yard u.home 0) (units_of c.args.instance.now) c.loop-number.number c.unit-station.result c.unit-station.ensures.value)
