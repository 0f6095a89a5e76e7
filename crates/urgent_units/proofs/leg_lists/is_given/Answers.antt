use Rattle.std.proofs.Common.{◌∙◌, ap}
use Rattle.timetable.specs.Lists.{has}
use Rattle.timetable.proofs.ListedUnits.{list_any-has}
use Rattle.urgent_units.proofs.leg_lists.is_given.Goals as goal

pub returns : goal.returns
returns c =
    c.contains.ensures.value ∙ list_any-has c.as_slice.result.now c.args.unit
    ∙ ap (has c.args.unit) (c.as_slice.ensures.value ∙ c.given.ensures)
