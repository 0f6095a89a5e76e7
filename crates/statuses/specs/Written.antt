-- What a run wrote, the status that says so, and how many calls failed.
use Rattle.std.specs.Prelude.{ℕ, ◌≡◌, ◌≢◌, ◌⊎◌, ◌≤◌, List, Option, Result, Ok, Err}
use Rattle.std.specs.Global.{Vec}
use Rattle.rail_base.specs.declared.memory.NoMemory.{NoMemory}
use Rattle.rail_io.specs.Folders.{Rose, incremented}
use Rattle.rail_io.specs.Sinks.{Appends, AppendsPart}

-- the statuses that there are
abbrev pub IsStatus : ℕ → Type 0
IsStatus status = status ≤ 7

-- the status says of no read and no write that it failed, and not that memory ran out
abbrev pub IsUndisturbed : ℕ → Type 0
IsUndisturbed status = (status ≢ 5) × (status ≢ 6) × (status ≢ 7)

-- the text of a document that was made; where memory ran out there is none
abbrev pub IsTextOf : Result (Vec ℕ) NoMemory → List ℕ → Type 0
IsTextOf (Ok document) text = text ≡ document.items
IsTextOf (Err why) text = ⊥

-- What was written of a run's document, and the status that says so, where one status goes with the document: the whole
-- of it, with its status; or a front of it, with 6, where a write failed; or nothing, with 7, where memory ran out.
pub data Wrote (IsDocument : List ℕ → Type 0) (said status : ℕ) (before after : Option (List ℕ))
    (faults faults' : ℕ) : Type 0 where
  Whole : (text : List ℕ) → IsDocument text → Appends text before after → status ≡ said
      → Wrote IsDocument said status before after faults faults'
  Part : (text : List ℕ) → IsDocument text → AppendsPart text before after → Rose faults faults' → status ≡ 6
      → Wrote IsDocument said status before after faults faults'
  Nothing : after ≡ before → status ≡ 7 → Wrote IsDocument said status before after faults faults'

-- ---- how many calls failed

-- a folder's count of failed reads before a run and after it: one more where the status says that a file could not be
-- read, the same where it is none of 5, 6 and 7, and either of the two where it is 6 or 7
pub record CountsFailedReads (status before after : ℕ) : Type 0 where
  pub failed : status ≡ 5 → after ≡ incremented before
  pub undisturbed : IsUndisturbed status → after ≡ before
  pub at_most_one : (after ≡ before) ⊎ (after ≡ incremented before)

-- a sink's count of failed writes before a run and after it: one more where the status is 6, and else the same
pub record CountsFailedWrites (status before after : ℕ) : Type 0 where
  pub failed : status ≡ 6 → after ≡ incremented before
  pub none : status ≢ 6 → after ≡ before
