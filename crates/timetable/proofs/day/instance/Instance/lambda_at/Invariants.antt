-- What is left of the number after the stations so far.
use Rattle.timetable.proofs.Indices.{IsLeft}
use Rattle.timetable.proofs.day.instance.Instance.lambda_at.Given as goal

abbrev pub invariant-loop-station : goal.invariant-loop-station
invariant-loop-station l = IsLeft l.self l.index l.station l.left
