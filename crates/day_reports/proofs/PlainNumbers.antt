-- A number in decimal digits stands in a report without quotes.
use Rattle.std.proofs.Common.{◌≡◌, ◌∙◌, ℕ, zero, suc, ◌+◌, ◌<◌, ◌/◌, ◌%◌, Bool, false, List, [], ◌∷◌, ◌++◌, pos, refl, ap, arith}
use Rattle.std.proofs.Common.{append-nil, append_assoc}
use Rattle.std.specs.Prelude.{◌==◌, ◌||◌, if◌then◌else◌}
use Rattle.std.specs.Fmt.{decimal, digits, digits_onto, digit_glyph}
use Rattle.std.proofs.lemmas.Bool.{cond_both}
use Rattle.std.proofs.lemmas.Bool.Decides.{nat_tests}
use Rattle.csv.specs.Writing.{default_writer, field_text, fields_text, is_blank, needs_byte, needs_quotes, quoted}
use Rattle.day_reports.specs.CostRows.{amount_row}
use Rattle.day_reports.specs.Text.{line_of}

plain_digit : (d : ℕ) → d < 10 → needs_byte default_writer (digit_glyph false d) ≡ false
plain_digit d below = grind (arith, nat_tests)

plain_onto : (k n : ℕ) (after : List ℕ) → needs_quotes default_writer after ≡ false → needs_quotes default_writer (digits_onto k 10 false n after) ≡ false
plain_onto zero n after plain = plain
plain_onto (suc k) n after plain =
    let digit : ℕ = digit_glyph false (n % 10) in
    let next : needs_quotes default_writer (digit ∷ after) ≡ false = ap (λ (b : Bool). b || needs_quotes default_writer after) (plain_digit (n % 10) (omega arith)) ∙ plain in
    cond_both (n / 10 == 0) (digit ∷ after) (digits_onto k 10 false (n / 10) (digit ∷ after)) (λ (ds : List ℕ). needs_quotes default_writer ds ≡ false)
    (λ _. next) (λ _. plain_onto k (n / 10) (digit ∷ after) next)

plain_field : (n : ℕ) → field_text default_writer (decimal n) ≡ decimal n
unfolding digits
plain_field n = ap (λ (b : Bool). if b then quoted default_writer (decimal n) else decimal n) (plain_onto 64 n [] refl)

-- the line of an amount, and what stands after it
pub amount_line : (part : List ℕ) (n : ℕ) (rest : List ℕ) → field_text default_writer part ≡ part → line_of (amount_row part (pos n)) ++ rest ≡ part ++ (44 ∷ (decimal n ++ (10 ∷ rest)))
unfolding fields_text is_blank
amount_line part n rest plain =
    ap (λ (t : List ℕ). ((t ++ (44 ∷ (field_text default_writer (decimal n) ++ []))) ++ (10 ∷ [])) ++ rest) plain
    ∙ ap (λ (t : List ℕ). ((part ++ (44 ∷ (t ++ []))) ++ (10 ∷ [])) ++ rest) (plain_field n)
    ∙ ap (λ (t : List ℕ). ((part ++ (44 ∷ t)) ++ (10 ∷ [])) ++ rest) (append-nil (decimal n))
    ∙ append_assoc (part ++ (44 ∷ decimal n)) (10 ∷ []) rest
    ∙ append_assoc part (44 ∷ decimal n) (10 ∷ rest)
