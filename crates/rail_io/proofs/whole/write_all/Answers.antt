use Rattle.std.proofs.Common.{refl, arith}
use Rattle.rail_io.proofs.Writing.{Appends-none, IsWriting-more}
use Rattle.rail_io.proofs.whole.write_all.Goals as goal

pub loop-done-init : goal.loop-done-init
loop-done-init g c = record { within = omega arith; appended = Appends-none _; lasting = omega arith; no_fault = λ counts. refl }

pub loop-done-preserved : goal.loop-done-preserved
loop-done-preserved g c =
    IsWriting-more _ _ _ _ _ _ _ _ _ _ c.loop-done.invariant c.in_ok-done.ensures.room c.in_ok-done.ensures.appended c.write.ensures.lasting c.in_ok-done.ensures.fault_counted
