use Rattle.std.proofs.Common.{ℕ, ◌≤◌, length, refl}
use Rattle.std.proofs.lemmas.Result.{IfOk-weaker, on_err_weaker}
use Rattle.rail_io.specs.Folders.{Rose}
use Rattle.rail_io.proofs.disk.StdoutSinkSink.TheImpl.Goals as goal

-- the standard output doesn't tell what was written
pub write-tells : goal.write-tells
write-tells g c = record {
  room = c.ensures.room;
  some = c.ensures.some;
  appended = IfOk-weaker c.result (λ (n : ℕ). n ≤ length c.args.piece.now) _ (λ _ _. tt) c.ensures.room;
  kept = on_err_weaker c.result (λ (_ : Rose c.args.self.now c.new.self.now). refl) c.ensures.fault;
  fault = c.ensures.fault;
  fault_counted = λ counts. c.ensures.faults;
  lasting = c.ensures.lasting;
}
