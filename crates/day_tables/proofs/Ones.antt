-- Numbers that count once.
use Rattle.std.proofs.Common.{◌≡◌, ℕ, zero, suc, ◌<◌, ◌≤◌, [], ◌∷◌, ◌++◌, refl, arith, ◌≢◌, ⊎_elim}
use Rattle.std.specs.Prelude.{if◌then◌else◌, ◌==◌}
use Rattle.std.proofs.lemmas.Bool.{cases_eq}
use Rattle.std.proofs.lemmas.Bool.Decides.{nat_tests}
use Rattle.day_tables.specs.Lists.{count_of, below}
use Rattle.rules.proofs.Turning.{count_of-append}

-- a number counts once where it is the one, and not at all elsewhere
abbrev pub one : ℕ → ℕ → ℕ
one s t = if s == t then 1 else 0

pub one_same : (s t : ℕ) → s ≡ t → one s t ≡ 1
one_same s t e = grind (arith, nat_tests)

pub one_other : (s t : ℕ) → s ≢ t → one s t ≡ 0
one_other s t ne = grind (arith, nat_tests)

-- each number below the bound is there once, and no other is
pub count_below_out : (t n : ℕ) → n ≤ t → count_of t (below n) ≡ 0
count_below_out t zero h = refl
count_below_out t (suc n) h =
    let ih = count_below_out t n (omega arith) in
    let a = count_of-append t (below n) (n ∷ []) in
    let other = one_other n t (omega arith) in
    omega arith

pub count_below_in : (t n : ℕ) → t < n → count_of t (below n) ≡ 1
count_below_in t zero h = absurd (omega arith)
count_below_in t (suc n) h = ⊎_elim here (before (λ lt. count_below_in t n lt)) (cases_eq n t)
  where
    here : n ≡ t → count_of t (below n ++ n ∷ []) ≡ 1
    here e =
        let out = count_below_out t n (omega arith) in
        let a = count_of-append t (below n) (n ∷ []) in
        let one = one_same n t e in
        omega arith

    before : (t < n → count_of t (below n) ≡ 1) → n ≢ t → count_of t (below n ++ n ∷ []) ≡ 1
    before counted ne =
        let ih = counted (omega arith) in
        let a = count_of-append t (below n) (n ∷ []) in
        let other = one_other n t ne in
        omega arith
