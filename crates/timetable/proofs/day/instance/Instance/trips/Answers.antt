use Rattle.std.proofs.Common.{subst}
use Rattle.timetable.specs.Accepted.{HaveCompositions}
use Rattle.timetable.proofs.day.instance.Instance.trips.Goals as goal

pub returns-clause-served : goal.returns-clause-served
returns-clause-served c = subst HaveCompositions c.self.view_is c.self.invariant.served
