-- What stands behind a front.
use Rattle.std.proofs.Common.{◌≡◌, ℕ, ◌-◌, ◌<◌, ◌≤◌, List, ◌++◌, length, take, drop, true, false, Option, Some, None}
use Rattle.std.proofs.Common.{inl, inr, refl, sym, ap, subst, ◌∙◌, arith, true≢false, length-drop}
use Rattle.std.specs.Prelude.{is_some, ◌↔◌, ◌⊎◌, IsNone, IfSome}
use Rattle.std.proofs.lemmas.Bool.{cases_lt}
use Rattle.std.proofs.lemmas.List.{take-append-drop}
use Rattle.std.proofs.lemmas.Slice.Eq.{bytes_eq-Decides}
use Rattle.std.proofs.Math.Seq.{take-append_seam, drop-append_seam}
use Rattle.timetable.specs.Turns.{same}

-- the composition of a list of one to six types
of_types : (o : Option (List ℕ)) (xs : List ℕ) → 1 ≤ length xs → length xs ≤ 6 → (IsNone o → (length xs < 1) ⊎ (6 < length xs)) → IfSome o (λ ys. ys ≡ xs) → o ≡ Some xs
of_types None xs some few none is = elim (none refl) [ inl short ↦ absurd (omega arith) | inr long ↦ absurd (omega arith) ]
of_types (Some ys) xs some few none is = ap (λ (zs : List ℕ). Some zs) is

module _ (front whole : List ℕ) where
  -- the whole begins with the front
  pub rest_found : (o : Option (List ℕ)) (xs : List ℕ) → length whole ≤ 6 → same (take (length front) whole) front ≡ true → xs ≡ drop (length front) whole
      → (IsNone o ↔ (length xs < 1) ⊎ (6 < length xs)) → IfSome o (λ ys. ys ≡ xs)
      → (rest : List ℕ) → (o ≡ Some rest) ↔ ((front ++ rest ≡ whole) × (1 ≤ length rest))
  rest_found o xs few begins is none some rest =
      let first : take (length front) whole ≡ front = (bytes_eq-Decides (take (length front) whole) front).0 begins in
      let long : length xs ≡ length whole - length front = ap length is ∙ length-drop (length front) whole in
      let joined : front ++ xs ≡ whole = ap (λ (ys : List ℕ). front ++ ys) is ∙ ap (λ (ys : List ℕ). ys ++ drop (length front) whole) (sym first) ∙ take-append-drop (length front) whole in (
        λ same_rest.
            let e : rest ≡ xs = subst (λ (p : Option (List ℕ)). IfSome p (λ ys. ys ≡ xs)) same_rest some in
            elim (cases_lt (length xs) 1) [
              | inl empty ↦ absurd (true≢false (sym (ap is_some same_rest) ∙ none.1 (inl empty)))
              | inr l ↦ subst (λ (ys : List ℕ). (front ++ ys ≡ whole) × (1 ≤ length ys)) (sym e) (joined, l)
            ],
        λ there.
            let e : xs ≡ rest = is ∙ ap (drop (length front)) (sym there.0) ∙ drop-append_seam front rest in
            let short = ap length e in
            of_types o xs (omega (arith, there.1)) (omega arith) none.0 some ∙ ap (λ (ys : List ℕ). Some ys) e,
      )

  -- the whole does not begin with it
  pub rest_missing : same (take (length front) whole) front ≡ false → (rest : List ℕ) → front ++ rest ≡ whole → ⊥
  rest_missing differs rest joined =
      true≢false (sym ((bytes_eq-Decides (take (length front) whole) front).1 (ap (take (length front)) (sym joined) ∙ take-append_seam front rest)) ∙ differs)
