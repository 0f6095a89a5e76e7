-- How a run ends, by what was written of its document.
use Rattle.std.proofs.Common.{◌≡◌, ◌≢◌, ◌≤◌, ◌⊎◌, inl, inr, ℕ, Bool, true, false, List, Option, ap, sym, ◌∙◌, arith}
use Rattle.rail_io.specs.Folders.{Rose, faults_after}
use Rattle.rail_io.specs.Sinks.{Appends}
use Rattle.statuses.specs.Endings.{LeavesSink}
use Rattle.statuses.specs.Written.{CountsFailedReads, CountsFailedWrites, IsStatus, IsUndisturbed, Nothing, Part, Whole, Wrote}

-- What a run comes to says that a file could not be read, and has status 5; or it doesn't, and has another, which is never 6.
abbrev pub IsToldByFive : Bool → ℕ → Type 0
IsToldByFive unread said = ((unread ≡ true) × (said ≡ 5)) ⊎ ((unread ≡ false) × (said ≢ 5) × (said ≢ 6))

module _ (IsDocument : List ℕ → Type 0) (said status : ℕ) (before after : Option (List ℕ)) (faults faults' : ℕ)
    (wrote : Wrote IsDocument said status before after faults faults') where
  abbrev Wrote' : Type 0
  Wrote' = Wrote IsDocument said status before after faults faults'

  -- where no call failed and memory was enough, the whole document was written, and the status is its own
  pub whole : IsUndisturbed status → (text : List ℕ) × IsDocument text × Appends text before after × (status ≡ said)
  whole undisturbed = by wrote
    where
      by : Wrote' → (text : List ℕ) × IsDocument text × Appends text before after × (status ≡ said)
      by (Whole text document appends own) = (text, document, appends, own)
      by (Part text document appends rose six) = absurd (undisturbed.1 six)
      by (Nothing kept seven) = absurd (undisturbed.2 seven)

  -- where the status says that a file could not be read, so does what the run comes to
  pub own_five : status ≡ 5 → said ≡ 5
  own_five five = by wrote
    where
      by : Wrote' → said ≡ 5
      by (Whole text document appends own) = sym own ∙ five
      by (Part text document appends rose six) = absurd (omega (arith, five, six))
      by (Nothing kept seven) = absurd (omega (arith, five, seven))

  -- the status tells of what the run comes to whether a read failed
  pub counts_reads : (unread : Bool) (counted counted' : ℕ) → IsToldByFive unread said → counted' ≡ faults_after unread counted
      → CountsFailedReads status counted counted'
  counts_reads unread counted counted' told counts = by told wrote
    where
      failed : unread ≡ true → counted' ≡ faults_after true counted
      failed is = counts ∙ ap (λ (failed : Bool). faults_after failed counted) is

      same : unread ≡ false → counted' ≡ counted
      same is = counts ∙ ap (λ (failed : Bool). faults_after failed counted) is

      by : IsToldByFive unread said → Wrote' → CountsFailedReads status counted counted'
      by (inl (is, five)) (Whole text d appends own) = record { failed = λ _. failed is; undisturbed = λ undisturbed. absurd (undisturbed.0 (own ∙ five)); at_most_one = inr (failed is) }
      by (inl (is, five)) (Part text d appends rose six) = record { failed = λ _. failed is; undisturbed = λ undisturbed. absurd (undisturbed.1 six); at_most_one = inr (failed is) }
      by (inl (is, five)) (Nothing kept seven) = record { failed = λ _. failed is; undisturbed = λ undisturbed. absurd (undisturbed.2 seven); at_most_one = inr (failed is) }
      by (inr (is, not_five, not_six)) (Whole text d appends own) = record { failed = λ five. absurd (not_five (sym own ∙ five)); undisturbed = λ _. same is; at_most_one = inl (same is) }
      by (inr (is, not_five, not_six)) (Part text d appends rose six) = record { failed = λ five. absurd (omega (arith, five, six)); undisturbed = λ _. same is; at_most_one = inl (same is) }
      by (inr (is, not_five, not_six)) (Nothing kept seven) = record { failed = λ five. absurd (omega (arith, five, seven)); undisturbed = λ _. same is; at_most_one = inl (same is) }

  -- a document goes with one of the statuses 0 to 5
  module _ (low : (text : List ℕ) → IsDocument text → said ≤ 5) where
    pub is_status : IsStatus status
    is_status = by wrote
      where
        by : Wrote' → IsStatus status
        by (Whole text document appends own) = omega (arith, low text document, own)
        by (Part text document appends rose six) = omega (arith, six)
        by (Nothing kept seven) = omega (arith, seven)

    pub leaves_sink : (counts_failed : Bool) → (counts_failed ≡ true → CountsFailedWrites status faults faults') → faults ≤ faults'
        → LeavesSink counts_failed status before after faults faults'
    leaves_sink counts_failed counts lasting = record { unwritten = λ six. unwritten six wrote; nothing = λ seven. nothing seven wrote; failed_writes = counts; lasting = lasting }
      where
        unwritten : status ≡ 6 → Wrote' → Rose faults faults'
        unwritten six (Whole text document appends own) = absurd (omega (arith, low text document, own, six))
        unwritten six (Part text document appends rose is_six) = rose
        unwritten six (Nothing kept seven) = absurd (omega (arith, six, seven))

        nothing : status ≡ 7 → Wrote' → after ≡ before
        nothing seven (Whole text document appends own) = absurd (omega (arith, low text document, own, seven))
        nothing seven (Part text document appends rose six) = absurd (omega (arith, six, seven))
        nothing seven (Nothing kept is_seven) = kept
