-- Texts and their pieces: what is cut at marks is joined to the same text, and pieces without marks are found again.
use Rattle.std.proofs.Common.{◌≡◌, ℕ, ◌≤◌, Bool, true, false, ◌&&◌, cond, eqb, List, [], ◌∷◌, ◌++◌, length, refl, sym}
use Rattle.std.proofs.Common.{ap, ◌∙◌, append_assoc, arith, ◌⊎◌, inl, inr}
use Rattle.std.specs.Prelude.{not}
use Rattle.std.specs.Char.{is_ascii_digit}
use Rattle.std.specs.Str.{all_ascii_digits}
use Rattle.std.proofs.lemmas.Bool.Decides.{nat_tests}
use Rattle.std.proofs.lemmas.List.{append-nil}
use Rattle.answer_text.specs.Lines.{after_spaces, spaced, text_of_lines}
use Rattle.answer_text.specs.Pieces.{pieces, with_byte}
use Rattle.answer_text.proofs.Cutting.{some_pieces}

-- no byte of a text is a mark
abbrev pub lacks : ℕ → List ℕ → Bool
lacks mark [] = true
lacks mark (byte ∷ text) = not (eqb byte mark) && lacks mark text

abbrev pub all_lack : ℕ → List (List ℕ) → Bool
all_lack mark [] = true
all_lack mark (text ∷ texts) = lacks mark text && all_lack mark texts

pub both : (a b : Bool) → (a && b) ≡ true → (a ≡ true) × (b ≡ true)
both true true h = (refl, refl)
both true false h = absurd cc
both false b h = absurd cc

pub not_true : (a : Bool) → not a ≡ true → a ≡ false
not_true true h = absurd cc
not_true false h = refl

equal_byte : (byte mark : ℕ) → eqb byte mark ≡ true → byte ≡ mark
equal_byte byte mark h = grind (arith, nat_tests)

same_mark : (mark : ℕ) → eqb mark mark ≡ true
same_mark mark = grind (arith, nat_tests)

pub lacks-append : (mark : ℕ) (front back : List ℕ) → lacks mark front ≡ true → lacks mark back ≡ true → lacks mark (front ++ back) ≡ true
lacks-append mark [] back p q = q
lacks-append mark (byte ∷ front) back p q =
    let parts = both (not (eqb byte mark)) (lacks mark front) p in
    rw (parts.0, lacks-append mark front back parts.1 q) refl

-- pieces that are joined again, with a mark between two
abbrev pub joined : ℕ → List (List ℕ) → List ℕ
joined mark [] = []
joined mark (piece ∷ []) = piece
joined mark (piece ∷ next ∷ rest) = piece ++ (mark ∷ joined mark (next ∷ rest))

joined-front : (mark byte : ℕ) (rest : List (List ℕ)) → 1 ≤ length rest → joined mark (with_byte byte rest) ≡ byte ∷ joined mark rest
joined-front mark byte [] some = absurd (omega (arith, some))
joined-front mark byte (piece ∷ []) some = refl
joined-front mark byte (piece ∷ next ∷ rest) some = refl

joined-blank : (mark : ℕ) (rest : List (List ℕ)) → 1 ≤ length rest → joined mark ([] ∷ rest) ≡ mark ∷ joined mark rest
joined-blank mark [] some = absurd (omega (arith, some))
joined-blank mark (piece ∷ rest) some = refl

-- what was cut is joined to the same text
pub joined-pieces : (mark : ℕ) (text : List ℕ) → joined mark (pieces mark text) ≡ text
joined-pieces mark [] = refl
joined-pieces mark (byte ∷ text) = choose (eqb byte mark) refl (joined-pieces mark text)
  where
    choose : (b : Bool) → eqb byte mark ≡ b → joined mark (pieces mark text) ≡ text → joined mark (cond b ([] ∷ pieces mark text) (with_byte byte (pieces mark text))) ≡ byte ∷ text
    choose true h rest = joined-blank mark (pieces mark text) (some_pieces mark text) ∙ ap (λ (b : ℕ). b ∷ joined mark (pieces mark text)) (sym (equal_byte byte mark h)) ∙ ap (λ (t : List ℕ). byte ∷ t) rest
    choose false h rest = joined-front mark byte (pieces mark text) (some_pieces mark text) ∙ ap (λ (t : List ℕ). byte ∷ t) rest

-- a piece without marks, and a mark after it
pub pieces-front : (mark : ℕ) (piece text : List ℕ) → lacks mark piece ≡ true → pieces mark (piece ++ (mark ∷ text)) ≡ piece ∷ pieces mark text
pieces-front mark [] text h = rw (same_mark mark) refl
pieces-front mark (byte ∷ piece) text h =
    let parts = both (not (eqb byte mark)) (lacks mark piece) h in
    rw (not_true (eqb byte mark) parts.0, pieces-front mark piece text parts.1) refl

pub pieces-alone : (mark : ℕ) (piece : List ℕ) → lacks mark piece ≡ true → pieces mark piece ≡ piece ∷ []
pieces-alone mark [] h = refl
pieces-alone mark (byte ∷ piece) h =
    let parts = both (not (eqb byte mark)) (lacks mark piece) h in
    rw (not_true (eqb byte mark) parts.0, pieces-alone mark piece parts.1) refl

-- words

pub joined-spaced : (words : List (List ℕ)) → joined 32 words ≡ spaced words
joined-spaced [] = refl
joined-spaced (word ∷ []) = sym (append-nil word)
joined-spaced (word ∷ next ∷ words) = ap (λ (t : List ℕ). word ++ (32 ∷ t)) (joined-spaced (next ∷ words))

-- the words of a line make the line
pub spaced-words : (line : List ℕ) (words : List (List ℕ)) → pieces 32 line ≡ words → line ≡ spaced words
spaced-words line words h = sym (joined-pieces 32 line) ∙ ap (joined 32) h ∙ joined-spaced words

-- and words without spaces are the words of their line
pub words-spaced : (word : List ℕ) (words : List (List ℕ)) → lacks 32 word ≡ true → all_lack 32 words ≡ true → pieces 32 (spaced (word ∷ words)) ≡ word ∷ words
words-spaced word [] p q = ap (pieces 32) (append-nil word) ∙ pieces-alone 32 word p
words-spaced word (next ∷ words) p q =
    let parts = both (lacks 32 next) (all_lack 32 words) q in
    pieces-front 32 word (spaced (next ∷ words)) p ∙ ap (λ (ws : List (List ℕ)). word ∷ ws) (words-spaced next words parts.0 parts.1)

-- a line of words without line feeds has none
pub spaced-lacks : (words : List (List ℕ)) → all_lack 10 words ≡ true → lacks 10 (spaced words) ≡ true
spaced-lacks [] h = refl
spaced-lacks (word ∷ words) h =
    let parts = both (lacks 10 word) (all_lack 10 words) h in
    lacks-append 10 word (after_spaces words) parts.0 (after words parts.1)
  where
    after : (words : List (List ℕ)) → all_lack 10 words ≡ true → lacks 10 (after_spaces words) ≡ true
    after [] h = refl
    after (word ∷ words) h =
        let parts = both (lacks 10 word) (all_lack 10 words) h in
        lacks-append 10 word (after_spaces words) parts.0 (after words parts.1)

-- lines

-- lines without line feeds are found again, before any text
pub pieces-lines : (lines : List (List ℕ)) (text : List ℕ) → all_lack 10 lines ≡ true → pieces 10 (text_of_lines lines ++ text) ≡ lines ++ pieces 10 text
pieces-lines [] text h = refl
pieces-lines (line ∷ lines) text h =
    let parts = both (lacks 10 line) (all_lack 10 lines) h in
    ap (pieces 10) (append_assoc line (10 ∷ text_of_lines lines) text) ∙ pieces-front 10 line (text_of_lines lines ++ text) parts.0
    ∙ ap (λ (ls : List (List ℕ)). line ∷ ls) (pieces-lines lines text parts.1)

-- digits are neither spaces nor line feeds nor colons

pub digits-lack : (mark : ℕ) (text : List ℕ) → (mark ≡ 10) ⊎ ((mark ≡ 32) ⊎ (mark ≡ 58)) → all_ascii_digits text ≡ true → lacks mark text ≡ true
digits-lack mark [] low h = refl
digits-lack mark (byte ∷ text) low h =
    let parts = both (is_ascii_digit byte) (all_ascii_digits text) h in
    rw (other byte mark low parts.0, digits-lack mark text low parts.1) refl
  where
    other : (byte mark : ℕ) → (mark ≡ 10) ⊎ ((mark ≡ 32) ⊎ (mark ≡ 58)) → is_ascii_digit byte ≡ true → eqb byte mark ≡ false
    other byte mark (inl e) h = rw e (grind (arith, nat_tests))
    other byte mark (inr (inl e)) h = rw e (grind (arith, nat_tests))
    other byte mark (inr (inr e)) h = rw e (grind (arith, nat_tests))
