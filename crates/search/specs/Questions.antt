-- How the advisors of a search are asked.
use Rattle.std.specs.Prelude.{ℕ, zero, suc, ◌+◌, ◌*◌, ◌<◌, ◌≤◌, ◌^◌, ◌≡◌, List, get_or, map, All, Bool, true, false}
use Rattle.std.specs.List.{AllZip}

-- An advisor that has not quit was asked so many times at least, and each was asked so many times at most. One that had
-- quit stays so, and was not asked.
pub record IsAsked (least most before after : ℕ) (had_quit has_quit : Bool) : Type 0 where
  pub not_fewer : before ≤ after
  pub at_most : after ≤ before + most
  pub at_least : has_quit ≡ false → before + least ≤ after
  pub still_quit : had_quit ≡ true → has_quit ≡ true
  pub not_asked : had_quit ≡ true → after ≡ before

-- as many advisors as before at their places, each asked so many times at least, and so many at most
abbrev pub AreAsked : {A : Type 0} → List A → List A → (A → ℕ) → (A → Bool) → ℕ → ℕ → Type 0
AreAsked before after asked has_quit least most =
    AllZip (λ old new. IsAsked least most (asked old) (asked new) (has_quit old) (has_quit new)) before after

-- as many advisors as before, each of the identity of the one at its place
abbrev pub AreTheSame : {A : Type 0} → List A → List A → (A → ℕ) → Type 0
AreTheSame before after identity = map identity after ≡ map identity before

-- a number of times where there are rounds, and none where there are not
abbrev pub in_rounds : ℕ → ℕ → ℕ
in_rounds zero times = 0
in_rounds (suc rounds) times = times

-- each advisor may be asked so many times yet
abbrev pub MayBeAsked : {A : Type 0} → List A → (A → ℕ) → ℕ → Type 0
MayBeAsked advisors asked times = All (λ advisor. asked advisor + times < 2 ^ 64) advisors

-- Each advisor was asked so many times at most, and one of the same identity stands at each place.
pub record AreOnlyAsked {A : Type 0} (before after : List A) (identity asked : A → ℕ) (has_quit : A → Bool) (most : ℕ) :
    Type 0 where
  pub same : AreTheSame before after identity
  pub times : AreAsked before after asked has_quit 0 most

-- an advisor has not quit, and may be asked once more
pub record CanBeAsked {A : Type 0} (asked : A → ℕ) (has_quit : A → Bool) (advisor : A) : Type 0 where
  pub stays : has_quit advisor ≡ false
  pub room : asked advisor + 1 < 2 ^ 64

-- an advisor was asked once, and is the same still
pub record IsAskedOnce {A : Type 0} (identity asked : A → ℕ) (before after : A) : Type 0 where
  pub same : identity after ≡ identity before
  pub once : asked after ≡ asked before + 1

-- the advisors of which it is noted that they have enough are as they were
abbrev pub AreLeftAlone : {A : Type 0} → List A → List A → List Bool → Type 0
AreLeftAlone {A} before after enough =
    (place : ℕ) → (none : A) → get_or enough place false ≡ true → get_or after place none ≡ get_or before place none

-- each advisor at the first places that had not enough and has not quit was asked once
abbrev pub AreDueAskedOnce : {A : Type 0} → List A → List A → (A → ℕ) → (A → Bool) → List Bool → ℕ → Type 0
AreDueAskedOnce {A} before after asked has_quit enough places =
    (place : ℕ) → (none : A) → place < places → get_or enough place false ≡ false →
    has_quit (get_or after place none) ≡ false →
    asked (get_or after place none) ≡ asked (get_or before place none) + 1

-- The advisors after a search that was granted so many branchings and rounds, or after none, where nothing was granted:
-- one of the same identity stands at each place, and each was asked in each round at the root and at both sides of each
-- branching at the most. They are left as they are where nothing was granted.
pub record LeavesAdvisors {A : Type 0} (Grants : ℕ → ℕ → Type 0) (before after : List A) (identity asked : A → ℕ)
    (has_quit : A → Bool) : Type 0 where
  pub same : AreTheSame before after identity
  pub asked_within : (branchings rounds : ℕ) → Grants branchings rounds
      → AreAsked before after asked has_quit 0 (rounds * (2 * branchings + 1))
  pub unasked : ((branchings rounds : ℕ) → ¬ Grants branchings rounds) → after ≡ before
