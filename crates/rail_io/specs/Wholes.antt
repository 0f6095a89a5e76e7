-- What a read of a whole file did.
use Rattle.std.specs.Prelude.{◌≡◌, ℕ, Bool, true, ◌+◌, ◌<◌, ◌≤◌, List, length, Some, IsTrue, Result, IfOk, ⊤}
use Rattle.std.specs.Prelude.{IsErrOf, false, Ok, Err}
use Rattle.rail_io.specs.Folders.{CountsFault, Files, FolderState, OnlyReads, Rose, RosePast, file_at}
use Rattle.rail_io.specs.declared.whole.FileRefusal.{FileRefusal}
use Rattle.rail_io.specs.declared.whole.FileRefusal.TheVariants.{NoMemory, ReadFault, TooLong}

-- whether a read of a whole file is told to have failed
abbrev pub tells_read_fault : {Y : Type 0} → Result Y FileRefusal → Bool
tells_read_fault (Ok y) = false
tells_read_fault (Err ReadFault) = true
tells_read_fault (Err TooLong) = false
tells_read_fault (Err NoMemory) = false

-- from before to after a read of a path's whole file, of at most so many bytes: the bytes and the answer, and what a
-- failed read and a file that is too long are caused by; want of memory has no cause. Where the count of faults is that
-- of failed calls, it is one more where the answer is that a read failed, unless it stands at its last value, and else
-- the same
pub record HasRead (before after : FolderState) (path : List ℕ) (limit : ℕ) (bytes : List ℕ)
    (answer : Result ⊤ FileRefusal) : Type 0 where
  pub told : (files : Files) → before.holds ≡ Some files → IfOk answer (λ _. bytes ≡ file_at files path)
  pub within : IfOk answer (λ _. length bytes ≤ limit)
  pub longer : (files : Files) → before.holds ≡ Some files → IsErrOf answer TooLong
      → limit < length (file_at files path)
  pub fault : IsErrOf answer ReadFault → Rose before.faults after.faults
  pub may : IsErrOf answer ReadFault → IsTrue (before.may_fail path)
  pub too_long : IsErrOf answer TooLong → RosePast limit before.taken after.taken
  pub fault_counted : CountsFault (tells_read_fault answer) before after
  pub only_reads : OnlyReads before after
  pub taken_at_most : IfOk answer (λ _. after.taken ≤ before.taken + length bytes)
