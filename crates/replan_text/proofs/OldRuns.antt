-- Runs by the numbers that their trips had, one more at a time.
use Rattle.std.proofs.Common.{◌≡◌, ℕ, zero, suc, ◌+◌, ◌<◌, ◌≤◌, List, [], ◌∷◌, ◌++◌, length, get_or, take, refl, sym, ap, ◌∙◌, append-nil, append_assoc, arith}
use Rattle.answer_text.specs.Lines.{Adds, text_of_lines}
use Rattle.answer_text.specs.Texts.{run_line}
use Rattle.answer_text.proofs.Written.{text_of_lines-append}
use Rattle.replan_text.specs.ReplanLines.{old_run_lines}

no_lines : (numbers : List ℕ) → old_run_lines numbers [] ≡ []
no_lines [] = refl
no_lines (number ∷ numbers) = refl

-- before the first run
pub none_yet : (start numbers : List ℕ) → start ≡ start ++ text_of_lines (old_run_lines numbers [])
none_yet start numbers = sym (ap (λ (lines : List (List ℕ)). start ++ text_of_lines lines) (no_lines numbers) ∙ append-nil start)

-- one more run, of a trip that has a number
more : (numbers : List ℕ) (runs : List (List ℕ)) (trip : ℕ) (d : ℕ) (u : List ℕ) → trip < length numbers → trip < length runs
    → old_run_lines numbers (take (suc trip) runs) ≡ old_run_lines numbers (take trip runs) ++ run_line (get_or numbers trip d) (get_or runs trip u) ∷ []
more [] runs trip d u known there = absurd (omega (arith, known))
more (number ∷ numbers) [] trip d u known there = absurd (omega (arith, there))
more (number ∷ numbers) (units ∷ runs) zero d u known there = ap (λ (lines : List (List ℕ)). run_line number units ∷ lines) (no_lines numbers)
more (number ∷ numbers) (units ∷ runs) (suc trip) d u known there =
    ap (λ (lines : List (List ℕ)). run_line number units ∷ lines) (more numbers runs trip d u (omega (arith, known)) (omega (arith, there)))

-- or of one that has none
no_more : (numbers : List ℕ) (runs : List (List ℕ)) (trip : ℕ) → length numbers ≤ trip → old_run_lines numbers (take (suc trip) runs) ≡ old_run_lines numbers (take trip runs)
no_more [] runs trip past = refl
no_more (number ∷ numbers) [] trip past = no_runs trip
  where
    no_runs : (trip : ℕ) → old_run_lines (number ∷ numbers) (take (suc trip) []) ≡ old_run_lines (number ∷ numbers) (take trip [])
    no_runs zero = refl
    no_runs (suc trip) = refl
no_more (number ∷ numbers) (units ∷ runs) zero past = absurd (omega (arith, past))
no_more (number ∷ numbers) (units ∷ runs) (suc trip) past =
    ap (λ (lines : List (List ℕ)). run_line number units ∷ lines) (no_more numbers runs trip (omega (arith, past)))

-- lines after lines
pub adds_on : (old text new : List ℕ) (lines more : List (List ℕ)) → Adds old text lines → Adds text new more → Adds old new (lines ++ more)
adds_on old text new lines more before now =
    now ∙ ap (λ (front : List ℕ). front ++ text_of_lines more) before ∙ append_assoc old (text_of_lines lines) (text_of_lines more)
    ∙ ap (λ (back : List ℕ). old ++ back) (sym (text_of_lines-append lines more))

pub one_written : (start text new : List ℕ) (numbers : List ℕ) (runs : List (List ℕ)) (trip number : ℕ) (units : List ℕ) → trip < length numbers → trip < length runs
    → number ≡ get_or numbers trip number → units ≡ get_or runs trip units → text ≡ start ++ text_of_lines (old_run_lines numbers (take trip runs))
    → new ≡ text ++ text_of_lines (run_line number units ∷ []) → new ≡ start ++ text_of_lines (old_run_lines numbers (take (trip + 1) runs))
one_written start text new numbers runs trip number units known there number_is units_are before now =
    let on : trip + 1 ≡ suc trip = omega arith in
    let all : old_run_lines numbers (take (trip + 1) runs) ≡ old_run_lines numbers (take trip runs) ++ run_line number units ∷ [] =
    ap (λ (n : ℕ). old_run_lines numbers (take n runs)) on ∙ more numbers runs trip number units known there
    ∙ ap (λ (n : ℕ). old_run_lines numbers (take trip runs) ++ run_line n (get_or runs trip units) ∷ []) (sym number_is)
    ∙ ap (λ (us : List ℕ). old_run_lines numbers (take trip runs) ++ run_line number us ∷ []) (sym units_are) in
    adds_on start text new (old_run_lines numbers (take trip runs)) (run_line number units ∷ []) before now
    ∙ ap (λ (lines : List (List ℕ)). start ++ text_of_lines lines) (sym all)

pub none_written : (start text : List ℕ) (numbers : List ℕ) (runs : List (List ℕ)) (trip : ℕ) → length numbers ≤ trip
    → text ≡ start ++ text_of_lines (old_run_lines numbers (take trip runs)) → text ≡ start ++ text_of_lines (old_run_lines numbers (take (trip + 1) runs))
none_written start text numbers runs trip past before =
    let on : trip + 1 ≡ suc trip = omega arith in
    before ∙ ap (λ (lines : List (List ℕ)). start ++ text_of_lines lines)
    (sym (ap (λ (n : ℕ). old_run_lines numbers (take n runs)) on ∙ no_more numbers runs trip past))
