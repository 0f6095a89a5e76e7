-- The answers so far are those of the first compositions.
use Rattle.std.proofs.Common.{◌≡◌, take, map}
use Rattle.timetable.specs.Admissible.{is_admissible}
use Rattle.timetable.specs.Compositions.{compositions_of}
use Rattle.transitions.proofs.allowed.runs_on.Given as goal

abbrev pub invariant-loop-comp : goal.invariant-loop-comp
invariant-loop-comp l = l.runs.items ≡ map (is_admissible l.instance l.trip) (take l.comp (compositions_of l.instance))
