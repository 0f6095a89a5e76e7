-- The days so far are named.
use Rattle.std.proofs.Common.{drop}
use Rattle.week_units.specs.Listed.{units_listed}
use Rattle.week_units.proofs.NamedDays.{NamedSoFar}
use Rattle.week_units.proofs.naming.names.Given as goal

abbrev pub invariant-loop-day : goal.invariant-loop-day
invariant-loop-day l = NamedSoFar l.days l.plans (units_listed l.units.items) (drop l.day l.days) (drop l.day l.plans) l.named.items
