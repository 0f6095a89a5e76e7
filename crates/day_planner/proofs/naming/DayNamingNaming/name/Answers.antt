use Rattle.std.proofs.Common.{sym, subst}
use Rattle.timetable.specs.Day.{Day}
use Rattle.unit_duties.specs.Broken.{AreAdmissible}
use Rattle.day_planner.proofs.NamedRuns.{picks_may_run}
use Rattle.day_planner.proofs.naming.DayNamingNaming.name.Goals as goal

pub name_units-requires-clause-admissible : goal.name_units-requires-clause-admissible
name_units-requires-clause-admissible c =
    subst (λ (day : Day). AreAdmissible day c.args.picks.now) (sym c.self.view_is)
    (picks_may_run c.args.self.now c.args.picks.now c.requires)
