-- What holds of a sink while it is given a document piece by piece.
use Rattle.std.proofs.Common.{◌≡◌, ℕ, Bool, true, ◌+◌, ◌≤◌, List, [], ◌++◌, length, take, drop, Option, Some, None, sym, ap, ◌∙◌, subst, ◌-◌}
use Rattle.std.proofs.Common.{arith}
use Rattle.std.proofs.Math.Seq.{take-add}
use Rattle.std.proofs.lemmas.List.{append-nil, append_assoc, length-drop, take_rest}
use Rattle.rail_io.specs.Sinks.{Appends}

-- after some writes: this front of the bytes was appended, and the count of faults has not fallen, and is as it was
-- where it is that of failed calls
pub record IsWriting (bytes : List ℕ) (done : ℕ) (written_before written : Option (List ℕ)) (faults_before faults : ℕ) (counts_failed : Bool) : Type 0 where
  pub within : done ≤ length bytes
  pub appended : Appends (take done bytes) written_before written
  pub lasting : faults_before ≤ faults
  pub no_fault : counts_failed ≡ true → faults ≡ faults_before

-- before the first write nothing was appended
pub Appends-none : (written : Option (List ℕ)) → Appends [] written written
Appends-none None = tt
Appends-none (Some x) = sym (append-nil x)

-- what two calls appended, one after the other
pub Appends-then : (first second : List ℕ) (before between after : Option (List ℕ)) →
    Appends first before between → Appends second between after → Appends (first ++ second) before after
Appends-then first second before between None one two = tt
Appends-then first second before None (Some z) one two = absurd two
Appends-then first second None (Some y) (Some z) one two = absurd one
Appends-then first second (Some x) (Some y) (Some z) one two = two ∙ ap (λ t. t ++ second) one ∙ append_assoc x first second

-- a write that took n bytes of what was left
pub IsWriting-more : (bytes : List ℕ) (done n : ℕ) (written_before written_between written : Option (List ℕ)) (faults_before faults_between faults : ℕ) (counts_failed : Bool) →
    IsWriting bytes done written_before written_between faults_before faults_between counts_failed →
    n ≤ length (take (length bytes - done) (drop done bytes)) →
    Appends (take n (take (length bytes - done) (drop done bytes))) written_between written →
    faults_between ≤ faults → (counts_failed ≡ true → faults ≡ faults_between) →
    IsWriting bytes (done + n) written_before written faults_before faults counts_failed
IsWriting-more bytes done n written_before written_between written faults_before faults_between faults counts_failed was fits added lasts no_fault =
    let left : n ≤ length bytes - done = rw (take_rest, length-drop) at fits in
    let next : Appends (take n (drop done bytes)) written_between written = subst (λ (rest : List ℕ). Appends (take n rest) written_between written) (take_rest bytes done) added in
    let in_bytes : done ≤ length bytes = was.within in
    record {
      within = omega arith;
      appended = subst (λ (front : List ℕ). Appends front written_before written) (sym (take-add done n bytes))
          (Appends-then (take done bytes) (take n (drop done bytes)) written_before written_between written was.appended next);
      lasting = omega (arith, was.lasting);
      no_fault = λ counts. no_fault counts ∙ was.no_fault counts;
    }
