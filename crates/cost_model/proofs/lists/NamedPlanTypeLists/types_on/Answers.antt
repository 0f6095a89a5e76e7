-- The types of a plan's list are those of its units.
use Rattle.std.proofs.Common.{sym, ◌∙◌}
use Rattle.timetable.proofs.ListedUnits.{list_of-types}
use Rattle.cost_model.proofs.lists.NamedPlanTypeLists.types_on.Goals as goal

pub returns-clause-types : goal.returns-clause-types
returns-clause-types c = c.types.ensures.types ∙ sym (list_of-types c.args.instance.now c.args.self.now c.args.trip)
