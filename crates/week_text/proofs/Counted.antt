-- Lines of things that are counted, one more at a time.
use Rattle.std.proofs.Common.{◌≡◌, ℕ, suc, ◌+◌, ◌<◌, List, [], ◌∷◌, ◌++◌, length, get_or, take, refl, sym, ap, ◌∙◌, append_assoc, arith}
use Rattle.std.proofs.lemmas.List.{append-nil, length-take-le, take_more}
use Rattle.answer_text.specs.Lines.{Adds, text_of_lines}
use Rattle.answer_text.proofs.Written.{text_of_lines-append}
use Rattle.week_text.specs.WeekLines.{counted_from}

-- lines after lines
pub adds_on : (old text new : List ℕ) (lines more : List (List ℕ)) → Adds old text lines → Adds text new more → Adds old new (lines ++ more)
adds_on old text new lines more before now =
    now ∙ ap (λ (front : List ℕ). front ++ text_of_lines more) before ∙ append_assoc old (text_of_lines lines) (text_of_lines more)
    ∙ ap (λ (back : List ℕ). old ++ back) (sym (text_of_lines-append lines more))

module _ {X : Type 0} (lines : ℕ → X → List (List ℕ)) where
  -- one more at the end
  counted_from-push : (number : ℕ) (xs : List X) (x : X) → counted_from lines number (xs ++ x ∷ []) ≡ counted_from lines number xs ++ lines (length xs + number) x
  counted_from-push number [] x =
      let place : number ≡ 0 + number = omega arith in
      append-nil (lines number x) ∙ ap (λ (n : ℕ). lines n x) place
  counted_from-push number (first ∷ xs) x =
      let place : length xs + suc number ≡ suc (length xs) + number = omega arith in
      ap (λ (more : List (List ℕ)). lines number first ++ more) (counted_from-push (suc number) xs x
      ∙ ap (λ (n : ℕ). counted_from lines (suc number) xs ++ lines n x) place)
      ∙ sym (append_assoc (lines number first) (counted_from lines (suc number) xs) (lines (suc (length xs) + number) x))

  pub one_written : (start text new : List ℕ) (xs : List X) (place : ℕ) (x d : X) → place < length xs → x ≡ get_or xs place d
      → Adds start text (counted_from lines 1 (take place xs)) → Adds text new (lines (place + 1) x)
      → Adds start new (counted_from lines 1 (take (place + 1) xs))
  one_written start text new xs place x d within here before now =
      let count : length (take place xs) + 1 ≡ place + 1 = omega (arith, length-take-le place xs (omega (arith, within))) in
      let more : counted_from lines 1 (take (place + 1) xs) ≡ counted_from lines 1 (take place xs) ++ lines (place + 1) x =
      ap (counted_from lines 1) (take_more xs place d within) ∙ ap (λ (y : X). counted_from lines 1 (take place xs ++ y ∷ [])) (sym here)
      ∙ counted_from-push 1 (take place xs) x ∙ ap (λ (n : ℕ). counted_from lines 1 (take place xs) ++ lines n x) count in
      adds_on start text new (counted_from lines 1 (take place xs)) (lines (place + 1) x) before now
      ∙ ap (λ (all : List (List ℕ)). start ++ text_of_lines all) (sym more)
