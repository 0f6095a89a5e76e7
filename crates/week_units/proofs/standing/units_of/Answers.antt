use Rattle.std.proofs.Common.{List, [], ◌∷◌, ◌++◌, ◌∙◌, ap, sym}
use Rattle.rules.specs.declared.records.Unit as unit
use Rattle.timetable.specs.Day.{units_of}
use Rattle.week_units.proofs.Reading.{take_next}
use Rattle.week_units.proofs.standing.units_of.Goals as goal

pub loop-unit-preserved : goal.loop-unit-preserved
loop-unit-preserved c =
    c.in_ok-push.ensures.items
    ∙ ap (λ (us : List unit.Unit). us ++ c.unit.result ∷ []) c.loop-unit.invariant
    ∙ sym (take_next (units_of c.args.instance.now) c.loop-unit.unit c.unit.result c.unit.ensures.value)
