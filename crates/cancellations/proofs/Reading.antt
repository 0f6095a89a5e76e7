-- Reading a table of cancelled trips: its header, how many records there are, and what is read of a row.
use Rattle.std.proofs.Common.{◌≡◌, ℕ, zero, suc, ◌+◌, ◌≤◌, List, [], ◌∷◌, length, take, true}
use Rattle.std.proofs.Common.{Option, Some, None, refl, ap, ◌∙◌, arith, inl, inr}
use Rattle.std.proofs.lemmas.Bool.{cases_Bool, cond-true, cond-false}
use Rattle.csv.specs.Machine.{Read, next_record}
use Rattle.csv.specs.Reading.{default_config, is_bom, records_from, records_next, strip_bom}
use Rattle.csv.specs.declared.parser.State.{State}
use Rattle.csv.specs.declared.parser.State.TheVariants as st
use Rattle.rail_csv.specs.Laws.{HasHeader}
use Rattle.rail_csv.specs.Tables.{is_header, records_of}
use Rattle.rail_csv.proofs.Headers.{has_header}
use Rattle.cancellations.specs.Cancellations.{header}

-- ---- the header

-- what passes for the header is the header, and the header does
pub header_read : (fields : List (List ℕ)) → is_header header 1 fields ≡ true → fields ≡ header
header_read fields passes =
    let has : HasHeader header 1 (length fields) (fields ∷ []) = has_header header 1 fields [] passes in
    let wide : length fields ≡ 1 = omega (arith, has.least, has.most) in
    let first : Some fields ≡ Some (take (length fields) header) = has.header in
    let is : fields ≡ take (length fields) header = cc in
    is ∙ ap (λ (n : ℕ). take n header) wide

-- ---- how many records there are

next_few : (n : ℕ) (more : State → List ℕ → List (List (List ℕ))) (o : Option Read) → ((s : State) (text : List ℕ) → length (more s text) ≤ n)
    → length (records_next more o) ≤ suc n
next_few n more None few = omega arith
next_few n more (Some p) few = let rest = few p.1 p.2 in omega (arith, rest)

few_from : (n : ℕ) (s : State) (text : List ℕ) → length (records_from default_config n s text) ≤ n
unfolding records_from
few_from zero s text = omega arith
few_from (suc n) s text = next_few n (records_from default_config n) (next_record default_config s [] [] text) (few_from n)

stripped : (text : List ℕ) → length (strip_bom text) ≤ length text
unfolding strip_bom
stripped [] = omega arith
stripped (a ∷ []) = omega arith
stripped (a ∷ b ∷ []) = omega arith
stripped (a ∷ b ∷ c ∷ rest) = elim (cases_Bool (is_bom a b c)) [
  | inl is ↦ omega (arith, ap length (cond-true (is_bom a b c) rest (a ∷ b ∷ c ∷ rest) is))
  | inr isnt ↦ omega (arith, ap length (cond-false (is_bom a b c) rest (a ∷ b ∷ c ∷ rest) isnt))
]

-- no more than bytes, and one
pub few_records : (bytes : List ℕ) → length (records_of bytes) ≤ length bytes + 1
few_records bytes = omega (arith, few_from (length (strip_bom bytes) + 1) st.StartRecord (strip_bom bytes), stripped bytes)
