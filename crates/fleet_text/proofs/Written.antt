-- Lines after lines, and the lines of one entry of a list more.
use Rattle.std.proofs.Common.{◌≡◌, ℕ, zero, suc, ◌+◌, ◌<◌, List, [], ◌∷◌, ◌++◌, length, get_or, take, refl, sym, subst, ap, ◌∙◌, append-nil, append_assoc, arith}
use Rattle.answer_text.specs.Lines.{Adds, text_of_lines}
use Rattle.answer_text.proofs.Written.{text_of_lines-append}
use Rattle.fleet_text.specs.FleetLines.{lines_each, places_told, stock_lines}

-- lines after lines
pub adds_on : (old text new : List ℕ) (lines more : List (List ℕ)) → Adds old text lines → Adds text new more → Adds old new (lines ++ more)
adds_on old text new lines more before now =
    now ∙ ap (λ (front : List ℕ). front ++ text_of_lines more) before ∙ append_assoc old (text_of_lines lines) (text_of_lines more)
    ∙ ap (λ (back : List ℕ). old ++ back) (sym (text_of_lines-append lines more))

-- the lines of one entry more
each_more : {X : Type 0} (lines : ℕ → X → List (List ℕ)) (number : ℕ) (xs : List X) (k : ℕ) (d : X) → k < length xs
    → lines_each lines number (take (suc k) xs) ≡ lines_each lines number (take k xs) ++ lines (number + k) (get_or xs k d)
each_more lines number [] k d below = absurd (omega (arith, below))
each_more lines number (x ∷ xs) zero d below =
    append-nil (lines number x) ∙ ap (λ (n : ℕ). lines n x) (same number)
  where
    same : (n : ℕ) → n ≡ n + 0
    same n = omega arith
each_more lines number (x ∷ xs) (suc k) d below =
    ap (λ (more : List (List ℕ)). lines number x ++ more) (each_more lines (suc number) xs k d (omega (arith, below)))
    ∙ sym (append_assoc (lines number x) (lines_each lines (suc number) (take k xs)) (lines (suc number + k) (get_or xs k d)))
    ∙ ap (λ (n : ℕ). (lines number x ++ lines_each lines (suc number) (take k xs)) ++ lines n (get_or xs k d)) (next number k)
  where
    next : (n m : ℕ) → suc n + m ≡ n + suc m
    next n m = omega arith

pub one_written : {X : Type 0} (lines : ℕ → X → List (List ℕ)) (start text new : List ℕ) (xs : List X) (k : ℕ) (x : X) → k < length xs → x ≡ get_or xs k x
    → text ≡ start ++ text_of_lines (lines_each lines 0 (take k xs)) → new ≡ text ++ text_of_lines (lines k x)
    → new ≡ start ++ text_of_lines (lines_each lines 0 (take (k + 1) xs))
one_written {X} lines start text new xs k x below at before now =
    adds_on start text new (lines_each lines 0 (take k xs)) (lines k x) before now
    ∙ ap (λ (all : List (List ℕ)). start ++ text_of_lines all) (sym more)
  where
    plain : (n : ℕ) → 0 + n ≡ n
    plain n = omega arith

    on : (n : ℕ) → n + 1 ≡ suc n
    on n = omega arith

    more : lines_each lines 0 (take (k + 1) xs) ≡ lines_each lines 0 (take k xs) ++ lines k x
    more =
        ap (λ (n : ℕ). lines_each lines 0 (take n xs)) (on k) ∙ each_more lines 0 xs k x below
        ∙ ap (λ (n : ℕ). lines_each lines 0 (take k xs) ++ lines n (get_or xs k x)) (plain k)
        ∙ ap (λ (y : X). lines_each lines 0 (take k xs) ++ lines k y) (sym at)

-- a day without types has no places
pub no_places : (text : List ℕ) (types : ℕ) (stock : List ℕ) → types ≡ 0 → Adds text text (places_told types stock)
no_places text types stock none = subst (λ (n : ℕ). Adds text text (places_told n stock)) (sym none) (sym (append-nil text))

-- and one with types has those of its stock
pub some_places : (old text : List ℕ) (types : ℕ) (stock : List ℕ) → (types ≡ 0 → ⊥) → Adds old text (stock_lines types stock)
    → Adds old text (places_told types stock)
some_places old text zero stock some added = absurd (some refl)
some_places old text (suc more) stock some added = added
