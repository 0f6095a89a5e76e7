-- A test that passes on some number of a list.
use Rattle.std.proofs.Common.{◌≡◌, ℕ, ◌≤◌, List, [], ◌∷◌, Bool, true, false, refl, sym, ap, ◌∙◌, arith, inl, inr}
use Rattle.std.specs.Prelude.{◌||◌}
use Rattle.std.specs.List.{list_any}
use Rattle.std.proofs.lemmas.Bool.{cases_Bool, cases_eq}
use Rattle.timetable.specs.Lists.{count_of}
use Rattle.timetable.proofs.Ones.{one_same, one_other}

pub first_true : (a b : Bool) → a ≡ true → (a || b) ≡ true
first_true a b e = ap (λ (c : Bool). c || b) e

pub second_true : (a b : Bool) → b ≡ true → (a || b) ≡ true
second_true true b e = refl
second_true false b e = e

-- a test passes on some number of a list that it passes on
pub any_has : (p : ℕ → Bool) (ts : List ℕ) (a : ℕ) → 1 ≤ count_of a ts → p a ≡ true → list_any p ts ≡ true
any_has p [] a there is = absurd (omega arith)
any_has p (x ∷ ts) a there is = elim (cases_eq x a) [
  | inl e ↦ first_true (p x) (list_any p ts) (ap p e ∙ is)
  | inr ne ↦ let other = one_other x a ne in second_true (p x) (list_any p ts) (any_has p ts a (omega arith) is)
]

pub has_any : (p : ℕ → Bool) (ts : List ℕ) → list_any p ts ≡ true → (a : ℕ) × (1 ≤ count_of a ts) × (p a ≡ true)
has_any p [] e = absurd cc
has_any p (x ∷ ts) e = elim (cases_Bool (p x)) [
  | inl is ↦ (x, (let one = one_same x x refl in omega arith), is)
  | inr isnt ↦
      let rest = has_any p ts (sym (ap (λ (b : Bool). b || list_any p ts) isnt) ∙ e) in
      let there = rest.1 in
      (rest.0, omega arith, rest.2)
]
