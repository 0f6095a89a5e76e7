-- One file of a folder, read whole: its path, what is answered of it, and what a refusal is caused by.
use Rattle.std.specs.Prelude.{ℕ, ◌≡◌, ◌<◌, ◌≤◌, List, ◌++◌, codes, length, Bool, false, IsTrue, Result, Ok, Err, ⊤}
use Rattle.rail_io.specs.Folders.{Files, FolderState, Rose, RosePast, file_at}
use Rattle.rail_io.specs.declared.whole.FileRefusal.{FileRefusal}
use Rattle.rail_io.specs.declared.whole.FileRefusal.TheVariants.{NoMemory, ReadFault, TooLong}

-- the path of a file in a folder, or of a folder in it
abbrev pub path_in : List ℕ → List ℕ → List ℕ
path_in dir name = dir ++ (codes "/" ++ name)

-- the bytes of a file in a folder
abbrev pub bytes_at : Files → List ℕ → List ℕ → List ℕ
bytes_at files dir name = file_at files (path_in dir name)

-- What is answered of a file of these bytes, of which so many are allowed: all of them, where they are no more; and
-- that it is too long, where they are more. That it could not be read, and want of memory, say nothing of it.
abbrev pub ReadsFile : List ℕ → ℕ → Result (List ℕ) FileRefusal → Type 0
ReadsFile file limit (Ok bytes) = (bytes ≡ file) × (length file ≤ limit)
ReadsFile file limit (Err TooLong) = limit < length file
ReadsFile file limit (Err ReadFault) = ⊤
ReadsFile file limit (Err NoMemory) = ⊤

-- What a refusal says of the folder before and after, whatever it tells: the file could not be read only where the
-- count of faults rose and a read of it may fail; it was too long only where more bytes were taken than are allowed, or
-- the count of them was at 2^63. Want of memory has no cause.
abbrev pub IsFileCaused : List ℕ → ℕ → FolderState → FolderState → FileRefusal → Type 0
IsFileCaused path limit before after ReadFault = Rose before.faults after.faults × IsTrue (before.may_fail path)
IsFileCaused path limit before after TooLong = RosePast limit before.taken after.taken
IsFileCaused path limit before after NoMemory = ⊤

-- whether what a call answers is an error that says that a file could not be read, as these errors tell
abbrev pub tells_unread : {E Y : Type 0} → (E → Bool) → Result Y E → Bool
tells_unread is_unread (Ok y) = false
tells_unread is_unread (Err error) = is_unread error

-- A folder below another: what its path and then a name lead to, the other's path leads to by the two names together.
abbrev pub PathsNest : Type 0
PathsNest = (dir below name : List ℕ) → path_in (path_in dir below) name ≡ path_in dir (path_in below name)
