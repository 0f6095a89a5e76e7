-- One list and then another, compared with a whole.
use Rattle.std.proofs.Common.{◌≡◌, ℕ, List, ◌++◌, length, take, drop, Bool, true, false, refl, sym, ap, ◌∙◌, true≢false}
use Rattle.std.proofs.lemmas.Bool.Decides.{same_from_decides, Decides-like}
use Rattle.std.proofs.lemmas.List.{take-append-drop}
use Rattle.std.proofs.lemmas.Slice.Eq.{bytes_eq-Decides}
use Rattle.std.proofs.Math.Seq.{take-append_seam, drop-append_seam}
use Rattle.timetable.specs.Turns.{same}

module _ (first second whole : List ℕ) where
  -- where the whole begins with the first list, what is behind it decides
  pub begins : (behind : List ℕ) → same (take (length first) whole) first ≡ true → behind ≡ drop (length first) whole → same behind second ≡ same (first ++ second) whole
  begins behind front is =
      let front_is : take (length first) whole ≡ first = (bytes_eq-Decides (take (length first) whole) first).0 front in
      let joined : first ++ drop (length first) whole ≡ whole = ap (λ (us : List ℕ). us ++ drop (length first) whole) (sym front_is) ∙ take-append-drop (length first) whole in
      ap (λ (us : List ℕ). same us second) is ∙ same_from_decides (same (drop (length first) whole) second) (same (first ++ second) whole)
      (bytes_eq-Decides (drop (length first) whole) second)
      (Decides-like (same (first ++ second) whole) (λ e. ap (drop (length first)) (sym e) ∙ drop-append_seam first second) (λ e. ap (λ (us : List ℕ). first ++ us) (sym e) ∙ joined)
      (bytes_eq-Decides (first ++ second) whole))

  -- where it does not, they are not one
  pub begins_otherwise : same (take (length first) whole) first ≡ false → false ≡ same (first ++ second) whole
  begins_otherwise front = by_test (same (first ++ second) whole) refl
    where
      by_test : (b : Bool) → same (first ++ second) whole ≡ b → false ≡ b
      by_test false e = refl
      by_test true e =
          let joined : first ++ second ≡ whole = (bytes_eq-Decides (first ++ second) whole).0 e in
          let front_is : take (length first) whole ≡ first = ap (take (length first)) (sym joined) ∙ take-append_seam first second in
          absurd (true≢false (sym ((bytes_eq-Decides (take (length first) whole) first).1 front_is) ∙ front))
