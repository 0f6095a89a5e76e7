-- How a search leaves the advisors.
use Rattle.std.proofs.Common.{◌≡◌, ◌+◌, ◌*◌, ℕ, List, Bool, refl, subst}
use Rattle.search.specs.Questions.{AreAsked, AreTheSame, LeavesAdvisors}
use Rattle.search.proofs.Asking.{are_unasked}

module _ {A : Type 0} (Grants : ℕ → ℕ → Type 0) (identity asked : A → ℕ) (has_quit : A → Bool) where
  -- they were not asked
  pub left_alone : (advisors : List A) → LeavesAdvisors Grants advisors advisors identity asked has_quit
  left_alone advisors = record {
    same = refl;
    asked_within = λ branchings rounds granted. are_unasked asked has_quit (rounds * (2 * branchings + 1)) advisors;
    unasked = λ none. refl;
  }

  -- they were asked as the one grant allows
  pub left_by : (branchings rounds : ℕ) → Grants branchings rounds → ((n k : ℕ) → Grants n k → (branchings ≡ n) × (rounds ≡ k)) → (before after : List A)
      → AreTheSame before after identity → AreAsked before after asked has_quit 0 (rounds * (2 * branchings + 1))
      → LeavesAdvisors Grants before after identity asked has_quit
  left_by branchings rounds granted only before after same within = record {
    same = same;
    asked_within = λ n k other.
        subst (λ (r : ℕ). AreAsked before after asked has_quit 0 (r * (2 * n + 1))) (only n k other).1
        (subst (λ (b : ℕ). AreAsked before after asked has_quit 0 (rounds * (2 * b + 1))) (only n k other).0 within);
    unasked = λ none. absurd (none branchings rounds granted);
  }

-- and so by another that grants what this one does, and nothing else
pub left_as : {A : Type 0} (Grants Others : ℕ → ℕ → Type 0) (identity asked : A → ℕ) (has_quit : A → Bool) (before after : List A)
    → ((n k : ℕ) → Grants n k → Others n k) → ((n k : ℕ) → Others n k → Grants n k)
    → LeavesAdvisors Grants before after identity asked has_quit → LeavesAdvisors Others before after identity asked has_quit
left_as Grants Others identity asked has_quit before after there back leaves = record {
  same = leaves.same;
  asked_within = λ n k granted. leaves.asked_within n k (back n k granted);
  unasked = λ none. leaves.unasked (λ n k granted. none n k (there n k granted));
}
