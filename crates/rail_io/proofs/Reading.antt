-- What holds of a file while it is read piece by piece.
use Rattle.std.proofs.Common.{◌≡◌, ℕ, false, ◌+◌, ◌^◌, ◌<◌, ◌≤◌, List, ◌++◌, length, take, Some, sym, ap, ◌∙◌, arith}
use Rattle.std.proofs.Math.Seq.{take-add}
use Rattle.std.proofs.lemmas.List.{length-append, length-take-le}
use Rattle.rail_io.specs.Folders.{CountsFault, Files, FolderState, IsReadFrom, OnlyReads, RoseBy, file_at}
use Rattle.rail_io.proofs.Calls.{OnlyReads-then}

-- after some reads: these bytes are the front of the file where the folder tells, and the count of bytes handed out
-- rose by their number
pub record IsReading (before now : FolderState) (path bytes : List ℕ) (limit : ℕ) : Type 0 where
  pub front : (files : Files) → before.holds ≡ Some files → bytes ≡ take (length bytes) (file_at files path)
  pub within : length bytes ≤ limit
  pub only_reads : OnlyReads before now
  pub no_fault : CountsFault false before now
  pub at_most : now.taken ≤ before.taken + length bytes
  pub exact : now.taken < 2 ^ 63 → now.taken ≡ before.taken + length bytes

-- what was read is a front of the file, and with the next piece a longer one
front-more : (file bytes room : List ℕ) (n : ℕ) → bytes ≡ take (length bytes) file → IsReadFrom file (length bytes) n room →
    bytes ++ take n room ≡ take (length bytes + n) file
front-more file bytes room n front read =
    ap (λ t. t ++ take n room) front ∙ ap (λ t. take (length bytes) file ++ t) read.bytes ∙ sym (take-add (length bytes) n file)

-- a read that gave n bytes more
pub IsReading-more : (before between after : FolderState) (path bytes room : List ℕ) (n limit : ℕ) →
    IsReading before between path bytes limit →
    ((files : Files) → between.holds ≡ Some files → IsReadFrom (file_at files path) (length bytes) n room) →
    n ≤ length room → length bytes + n ≤ limit → RoseBy n between.taken after.taken → OnlyReads between after → CountsFault false between after →
    IsReading before after path (bytes ++ take n room) limit
IsReading-more before between after path bytes room n limit was told fits within rose reads no_fault =
    let longer : length (bytes ++ take n room) ≡ length bytes + n = length-append bytes (take n room) ∙ ap (λ m. length bytes + m) (length-take-le n room fits) in
    let at_most : between.taken ≤ before.taken + length bytes = was.at_most in
    record {
      front = λ files tells.
          front-more (file_at files path) bytes room n (was.front files tells) (told files (was.only_reads.same ∙ tells))
          ∙ ap (λ m. take m (file_at files path)) (sym longer);
      within = omega arith;
      only_reads = OnlyReads-then before between after was.only_reads reads;
      no_fault = λ counts. no_fault (was.only_reads.counting ∙ counts) ∙ was.no_fault counts;
      at_most = omega (arith, rose.at_most);
      exact = λ low. omega (arith, rose.never_falls, rose.exact, was.exact);
    }
