-- The text of rows is read as these rows.
use Rattle.std.proofs.Common.{◌≡◌, ◌∙◌, ℕ, zero, suc, ◌+◌, ◌≤◌, List, [], ◌∷◌, ◌++◌, length, map, refl, ap, arith}
use Rattle.std.proofs.Common.{length-append, if◌then◌else◌}
use Rattle.std.specs.List.{flat_map}
use Rattle.std.proofs.lemmas.List.{map-append}
use Rattle.csv.specs.Machine.{next_record}
use Rattle.csv.specs.Reading.{default_config, records, records_from}
use Rattle.csv.specs.Writing.{default_writer, is_blank, read_back, row_body}
use Rattle.csv.specs.declared.parser.State.TheVariants as st
use Rattle.csv.proofs.RoundTrip.{read-write}
use Rattle.timetable.specs.Lists.{joined}
use Rattle.day_reports.specs.Text.{line_of, rows_text}

no_more : (n : ℕ) → records_from default_config n st.StartRecord [] ≡ []
unfolding records_from next_record
no_more zero = refl
no_more (suc n) = refl

-- a row takes a byte at least
some_bytes : (row : List (List ℕ)) → 1 ≤ length (line_of row)
some_bytes row =
    let quotes : List ℕ = if is_blank default_writer row then 34 ∷ 34 ∷ [] else [] in
    omega (arith, length-append (row_body default_writer row) (quotes ++ 10 ∷ []), length-append quotes (10 ∷ []))

few_rows : (rows : List (List (List ℕ))) → length rows ≤ length (flat_map line_of rows)
few_rows [] = omega arith
few_rows (row ∷ rows) = omega (arith, length-append (line_of row) (flat_map line_of rows), some_bytes row, few_rows rows)

read_rows : (n : ℕ) (rows : List (List (List ℕ))) → length rows ≤ n → records_from default_config n st.StartRecord (flat_map line_of rows) ≡ map read_back rows
unfolding records_from
read_rows n [] few = no_more n
read_rows zero (row ∷ rows) few = absurd (omega arith)
read_rows (suc n) (row ∷ rows) few =
    rw (read-write row (flat_map line_of rows)) (ap (λ (t : List (List (List ℕ))). read_back row ∷ t) (read_rows n rows (omega arith)))

pub rows_read : (rows : List (List (List ℕ))) → records default_config (rows_text rows) ≡ map read_back rows
unfolding rows_text
rows_read rows = read_rows (length (flat_map line_of rows) + 1) rows (omega (arith, few_rows rows))

-- ---- rows of some fields are read as they are

pub same_rows : {X : Type 0} (row : X → List (List ℕ)) → ((x : X) → read_back (row x) ≡ row x) → (xs : List X) → map read_back (map row xs) ≡ map row xs
same_rows row same [] = refl
same_rows row same (x ∷ xs) = ap (λ fields. fields ∷ map read_back (map row xs)) (same x) ∙ ap (λ rows. row x ∷ rows) (same_rows row same xs)

pub same_joined : (f : ℕ → List (List (List ℕ))) (n : ℕ) → ((k : ℕ) → map read_back (f k) ≡ f k) → map read_back (joined f n) ≡ joined f n
same_joined f zero same = refl
same_joined f (suc n) same =
    map-append read_back (joined f n) (f n) ∙ ap (λ rows. rows ++ map read_back (f n)) (same_joined f n same) ∙ ap (λ rows. joined f n ++ rows) (same n)
