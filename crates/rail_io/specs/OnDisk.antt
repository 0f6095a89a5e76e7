-- What a contract sees of a folder on disk.
use Rattle.std.specs.Prelude.{ℕ}

-- how often a call failed, and how many bytes were handed out
pub record DiskCounts : Type 0 where
  pub faults : ℕ
  pub taken : ℕ
