-- The numbers so far.
use Rattle.std.proofs.Common.{◌≡◌}
use Rattle.timetable.specs.Lists.{listed}
use Rattle.timetable.proofs.day.derived.numbers_below.Given as goal

abbrev pub invariant-loop-trip : goal.invariant-loop-trip
invariant-loop-trip l = l.numbers.items ≡ listed (λ k. k) l.trip
