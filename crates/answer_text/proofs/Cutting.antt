-- The first piece of a text.
use Rattle.std.proofs.Common.{◌≡◌, ◌≢◌, ℕ, zero, suc, ◌+◌, ◌<◌, ◌≤◌, Bool, false, List, [], ◌∷◌, length, get_or, take}
use Rattle.std.proofs.Common.{drop, refl, sym, ap, subst, ◌∙◌, arith, true, cond, eqb, Err, inl, inr}
use Rattle.std.proofs.lemmas.Bool.{ne_eqb, cases_lt}
use Rattle.std.proofs.lemmas.Bool.Decides.{eqb_tells, nat_tests}
use Rattle.answer_text.specs.declared.refusal.AnswerRefusal.TheVariants.{BadLine}
use Rattle.answer_text.specs.Pieces.{pieces, pieces_after, with_byte}
use Rattle.answer_text.specs.ReadStates.{line_in}

same : (a b : ℕ) → a ≡ b → eqb a b ≡ true
same a b e = elim (eqb_tells a b) [ inl equal ↦ equal.0 | inr other ↦ absurd (other.1 e) ]

pub first_at : (mark : ℕ) (text : List ℕ) (end : ℕ) → end ≤ length text → ((k : ℕ) → k < end → get_or text k 0 ≢ mark) → (end < length text → get_or text end 0 ≡ mark)
    → pieces mark text ≡ take end text ∷ pieces_after mark (drop end text)
first_at mark [] zero within before here = refl
first_at mark [] (suc end) within before here = absurd (omega arith)
first_at mark (byte ∷ text) zero within before here = rw (same byte mark (here (omega arith))) refl
first_at mark (byte ∷ text) (suc end) within before here =
    let rest = first_at mark text end (omega arith) (λ k lt. before (suc k) (omega arith)) (λ lt. here (omega arith)) in
    rw (ne_eqb byte mark (before zero (omega arith)), rest) refl

pub some_pieces : (mark : ℕ) (text : List ℕ) → 1 ≤ length (pieces mark text)
some_pieces mark [] = omega arith
some_pieces mark (byte ∷ text) = some_front (eqb byte mark) byte (pieces mark text)
  where
    some_front : (b : Bool) (byte : ℕ) (rest : List (List ℕ)) → 1 ≤ length (cond b ([] ∷ rest) (with_byte byte rest))
    some_front true byte rest = omega arith
    some_front false byte [] = omega arith
    some_front false byte (piece ∷ rest) = omega arith

-- no piece follows exactly at the end of the text
pub end_is : (mark : ℕ) (rest : List ℕ) → eqb (length rest) 0 ≡ eqb (length (pieces_after mark rest)) 0
end_is mark [] = refl
end_is mark (byte ∷ rest) = ne_eqb (length (byte ∷ rest)) 0 (λ e. omega (arith, e)) ∙ sym (ne_eqb (length (pieces mark rest)) 0 (λ e. omega (arith, some_pieces mark rest, e)))

pub no_mark_more : (mark : ℕ) (text : List ℕ) (end : ℕ) → ((k : ℕ) → k < end → get_or text k 0 ≢ mark) → get_or text end 0 ≢ mark → (k : ℕ) → k < end + 1 → get_or text k 0 ≢ mark
no_mark_more mark text end before here k lt = elim (cases_lt k end) [
  | inl below ↦ before k below
  | inr above ↦ let at : k ≡ end = omega (arith, lt, above) in subst (λ (n : ℕ). get_or text n 0 ≢ mark) (sym at) here
]

pub not_blank : (mark byte : ℕ) (text : List ℕ) → pieces mark (byte ∷ text) ≡ [] ∷ [] → ⊥
not_blank mark byte text h = split (eqb byte mark) (pieces mark text) (some_pieces mark text) h
  where
    split : (b : Bool) (rest : List (List ℕ)) → 1 ≤ length rest → cond b ([] ∷ rest) (with_byte byte rest) ≡ [] ∷ [] → ⊥
    split true [] some e = absurd (omega (arith, some))
    split true (piece ∷ rest) some e = absurd cc
    split false [] some e = absurd (omega (arith, some))
    split false (piece ∷ rest) some e = absurd cc

-- bytes with no line feed
pub rest_fault : (number : ℕ) (bytes line : List ℕ) → 1 ≤ length bytes → pieces 10 bytes ≡ line ∷ [] → line_in number (pieces 10 bytes) ≡ Err (BadLine number)
rest_fault number [] line some h = absurd (omega (arith, some))
rest_fault number (byte ∷ bytes) [] some h = absurd (not_blank 10 byte bytes h)
rest_fault number (byte ∷ bytes) (first ∷ line) some h = ap (line_in number) h

-- the same, as the code sees it
pub cut_fault : (number : ℕ) (bytes line rest : List ℕ) → eqb (length bytes) 0 ≡ false → eqb (length rest) 0 ≡ true → pieces 10 bytes ≡ line ∷ pieces_after 10 rest → line_in number (pieces 10 bytes) ≡ Err (BadLine number)
cut_fault number [] line rest some none h = absurd cc
cut_fault number (byte ∷ bytes) line [] some none h = rest_fault number (byte ∷ bytes) line (omega arith) h
cut_fault number (byte ∷ bytes) line (first ∷ rest) some none h = absurd (longer (length rest) none)
  where
    longer : (n : ℕ) → eqb (suc n) 0 ≡ true → ⊥
    longer n e = grind (arith, nat_tests)
