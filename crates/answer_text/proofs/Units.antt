-- Units that are read one after the other.
use Rattle.std.proofs.Common.{◌≡◌, ℕ, suc, ◌+◌, ◌-◌, ◌<◌, List, [], ◌∷◌, ◌++◌, length, Option, Some, None, refl, sym}
use Rattle.std.proofs.Common.{◌∙◌, arith}
use Rattle.answer_text.specs.Numbers.{number_in}
use Rattle.answer_text.specs.ReadLines.{units_in}

-- one more unit
pub units_more : (units : List ℕ) (word : List ℕ) (words rest : List (List ℕ)) (unit : ℕ) (whole : Option (List ℕ)) → length units < 6 → words ≡ word ∷ rest → number_in 1999 word ≡ Some unit
    → units_in (6 - length units) units words ≡ whole → (count : ℕ) → count ≡ length units + 1 → units_in (6 - count) (units ++ unit ∷ []) rest ≡ whole
unfolding units_in
units_more units word words rest unit whole room here number before count more =
    let left : 6 - length units ≡ suc (6 - count) = omega (arith, room, more) in
    let step : units_in (6 - length units) units words ≡ units_in (6 - count) (units ++ unit ∷ []) rest = rw (left, here, number) refl in
    sym step ∙ before

-- a word that is no unit
pub units_wrong : (units : List ℕ) (word : List ℕ) (words rest : List (List ℕ)) (whole : Option (List ℕ)) → length units < 6 → words ≡ word ∷ rest → number_in 1999 word ≡ None
    → units_in (6 - length units) units words ≡ whole → None ≡ whole
unfolding units_in
units_wrong units word words rest whole room here number before =
    let left : 6 - length units ≡ suc (6 - (length units + 1)) = omega (arith, room) in
    let step : units_in (6 - length units) units words ≡ None = rw (left, here, number) refl in
    sym step ∙ before

-- a seventh word
pub units_full : (units : List ℕ) (word : List ℕ) (words rest : List (List ℕ)) (whole : Option (List ℕ)) → length units ≡ 6 → words ≡ word ∷ rest
    → units_in (6 - length units) units words ≡ whole → None ≡ whole
unfolding units_in
units_full units word words rest whole full here before =
    let left : 6 - length units ≡ 0 = omega (arith, full) in
    let step : units_in (6 - length units) units words ≡ None = rw (left, here) refl in
    sym step ∙ before

-- no word is left
pub units_all : (units : List ℕ) (words : List (List ℕ)) (whole : Option (List ℕ)) (room : ℕ) → words ≡ [] → units_in room units words ≡ whole → Some units ≡ whole
unfolding units_in
units_all units words whole room here before =
    let step : units_in room units words ≡ Some units = rw here refl in
    sym step ∙ before
