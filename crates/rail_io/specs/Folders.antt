-- What is said of a folder, what a read hands out, when a count of faults rose, what a count of failed calls is after
-- more calls, and what no call on a folder changes.
use Rattle.std.specs.Prelude.{◌≡◌, ◌⊎◌, ◌↔◌, ℕ, Bool, true, min, ◌+◌, ◌-◌, ◌^◌, ◌<◌, ◌≤◌, List, [], length, take, drop}
use Rattle.std.specs.Prelude.{Option, unwrap_or, if◌then◌else◌}
use Rattle.std.specs.Ordering.{nat_cmp}
use Rattle.std.specs.Cmp.Lexicographic.{slice_cmp}
use Rattle.std.specs.FinMap as map

-- what a folder holds: the bytes of each path that it names, by the bytes of the path
abbrev pub Files : Type 0
Files = map.FinMap (slice_cmp nat_cmp) (List ℕ)

-- what is said of a folder at a moment
pub record FolderState : Type 0 where
  -- what it holds, or none where it doesn't tell
  pub holds : Option Files
  -- whether a read of a path may fail: where nothing else is known, each may
  pub may_fail : List ℕ → Bool
  -- a count of faults: a call that fails raises it, or finds it at a counter's last value, 2 ^ 64 - 1
  pub faults : ℕ
  -- how many bytes were handed out, exactly so up to 2 ^ 63 as long as no read failed
  pub taken : ℕ
  -- whether the count of faults is that of failed calls: each raises it by one, below its last value, and no other call
  -- changes it. It need not be
  pub counts_failed : Bool

-- the bytes of a path's file, and the empty file where the path is not named
abbrev pub file_at : Files → List ℕ → List ℕ
file_at files path = unwrap_or (map.get files path) []

-- a counter after one more; it stays at its last value
abbrev pub incremented : ℕ → ℕ
incremented count = min (count + 1) (2 ^ 64 - 1)

-- a count of failed calls after more calls, of which one failed or none did; it stays at its last value
abbrev pub faults_after : Bool → ℕ → ℕ
faults_after failed before = if failed then incremented before else before

-- from before some calls on a folder to after them, of which one failed or none did: where its count of faults is that
-- of failed calls, it rose by one where one failed, unless it stood at its last value, and else it stayed
abbrev pub CountsFault : Bool → FolderState → FolderState → Type 0
CountsFault failed before after = before.counts_failed ≡ true → after.faults ≡ faults_after failed before.faults

-- a count of faults rose: it is greater than before, or it stands at a counter's last value
abbrev pub Rose : ℕ → ℕ → Type 0
Rose before after = (before < after) ⊎ (after ≡ 2 ^ 64 - 1)

-- a read into `room` gave the n bytes of a file from this place on: none only where there is no room or nothing is left
pub record IsReadFrom (file : List ℕ) (from n : ℕ) (room : List ℕ) : Type 0 where
  pub bytes : take n room ≡ take n (drop from file)
  pub end : (n ≡ 0) ↔ ((length room ≡ 0) ⊎ (length file ≤ from))

-- a count of bytes handed out rose by n: exactly so below 2 ^ 63, and never by more
pub record RoseBy (n before after : ℕ) : Type 0 where
  pub never_falls : before ≤ after
  pub at_most : after ≤ before + n
  pub exact : before < 2 ^ 63 → after ≡ before + n

-- a count of bytes handed out rose by more than a limit, or had reached 2 ^ 63
abbrev pub RosePast : ℕ → ℕ → ℕ → Type 0
RosePast limit before after = (before + limit < after) ⊎ (2 ^ 63 ≤ after)

-- from before some calls on a folder to after them: what it holds, which reads may fail and whether it counts failed
-- calls stay, and no count falls
pub record OnlyReads (before after : FolderState) : Type 0 where
  pub same : after.holds ≡ before.holds
  pub steady : after.may_fail ≡ before.may_fail
  pub counting : after.counts_failed ≡ before.counts_failed
  pub lasting : before.faults ≤ after.faults
  pub growing : before.taken ≤ after.taken
