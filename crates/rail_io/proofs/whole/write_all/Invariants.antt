use Rattle.std.proofs.Common.{length, ◌-◌}
use Rattle.rail_io.proofs.Writing.{IsWriting}
use Rattle.rail_io.proofs.whole.write_all.Given as goal

abbrev pub invariant-loop-done : goal.invariant-loop-done
invariant-loop-done g l =
    IsWriting l.bytes l.done (g.K.Sink.written l.initial.sink) (g.K.Sink.written l.sink) (g.K.Sink.faults l.initial.sink) (g.K.Sink.faults l.sink) g.K.Sink.counts_failed

abbrev pub decreases-loop-done : goal.decreases-loop-done
decreases-loop-done g l = length l.bytes - l.done
