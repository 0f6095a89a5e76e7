-- How a run leaves the folder that it reads and the sink that it writes to, whatever it comes to; and how one ends
-- whose words ask for nothing.
use Rattle.std.specs.Prelude.{ℕ, ◌≡◌, ◌≤◌, ◌↔◌, List, Option, Bool, true}
use Rattle.rail_io.specs.Folders.{FolderState, OnlyReads, Rose}
use Rattle.rail_io.specs.Sinks.{Appends}
use Rattle.statuses.specs.Written.{CountsFailedReads, CountsFailedWrites}

-- The folder after a run that ended with this status: it was only read, and left alone where the words ask for no
-- command on one; 5 comes only where its count of faults rose, and one that counts failed calls tells of one at most.
pub record LeavesFolder {F : Type 0} (state : F → FolderState) (AskForNoFolder : Type 0) (status : ℕ)
    (before after : F) : Type 0 where
  pub only_reads : OnlyReads (state before) (state after)
  pub untouched : AskForNoFolder → after ≡ before
  pub unread : status ≡ 5 → Rose (state before).faults (state after).faults
  pub failed_reads : (state before).counts_failed ≡ true
      → CountsFailedReads status (state before).faults (state after).faults

-- The sink after a run that ended with this status: 6 comes only where its count of faults rose, with 7 nothing was
-- written, one that counts failed calls tells of one at most, and no count falls.
pub record LeavesSink (counts_failed : Bool) (status : ℕ) (before after : Option (List ℕ)) (faults faults' : ℕ) : Type 0
  where
    pub unwritten : status ≡ 6 → Rose faults faults'
    pub nothing : status ≡ 7 → after ≡ before
    pub failed_writes : counts_failed ≡ true → CountsFailedWrites status faults faults'
    pub lasting : faults ≤ faults'

-- the status with which words end that may ask for nothing, and what was written
pub record EndsInUsage (AskInVain : Type 0) (usage : List ℕ) (status : ℕ) (before after : Option (List ℕ)) : Type 0
  where
    -- 2 exactly where they ask for nothing
    pub told : (status ≡ 2) ↔ AskInVain
    -- then it was told how the program is used
    pub written : status ≡ 2 → Appends usage before after
