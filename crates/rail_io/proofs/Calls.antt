-- Calls on a folder, one after the other.
use Rattle.std.proofs.Common.{◌∙◌, arith}
use Rattle.rail_io.specs.Folders.{FolderState, OnlyReads}

-- what two calls keep, one after the other
pub OnlyReads-then : (before between after : FolderState) → OnlyReads before between → OnlyReads between after → OnlyReads before after
OnlyReads-then before between after first then = record {
  same = then.same ∙ first.same;
  steady = then.steady ∙ first.steady;
  counting = then.counting ∙ first.counting;
  lasting = omega (arith, first.lasting, then.lasting);
  growing = omega (arith, first.growing, then.growing);
}
