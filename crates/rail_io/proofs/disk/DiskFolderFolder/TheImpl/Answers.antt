use Rattle.std.proofs.Common.{refl}
use Rattle.std.proofs.lemmas.Option.{none-some}
use Rattle.std.proofs.lemmas.Result.{on_err_weaker}
use Rattle.rail_io.proofs.disk.DiskFolderFolder.TheImpl.Goals as goal

-- a folder on disk doesn't tell what it holds
pub read_at-tells : goal.read_at-tells
read_at-tells g c = record {
  told = λ files tells. absurd (none-some files tells);
  room = c.ensures.room;
  taken = c.ensures.taken;
  fault = c.ensures.fault;
  fault_counted = λ counts. c.ensures.faults;
  may = on_err_weaker c.result (λ _. refl) c.ensures.fault;
  only_reads = record { same = refl; steady = refl; counting = refl; lasting = c.ensures.lasting; growing = c.ensures.growing };
}
