-- A number is in a list where an entry is the number.
use Rattle.std.proofs.Common.{◌∙◌}
use Rattle.day_tables.proofs.ListedUnits.{list_any-has}
use Rattle.day_tables.proofs.building.left_tables.is_among.Goals as goal

pub returns : goal.returns
returns c = c.contains.ensures.value ∙ list_any-has c.args.gone.now c.args.trip
