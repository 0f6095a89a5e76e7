-- Names of rows and of the entries that they gave: found or not, and by which number.
use Rattle.std.proofs.Common.{◌≡◌, ◌≢◌, inl, inr, ℕ, zero, suc, ◌<◌, ◌≤◌, Bool, true, false, List, [], ◌∷◌, map, length}
use Rattle.std.proofs.Common.{get_or, refl, sym, ap, subst, ◌∙◌, arith, Option, Some, None, ltb, cond, slice_get}
use Rattle.std.specs.Prelude.{option_map}
use Rattle.std.specs.List.{All, AllZip, position_or_len}
use Rattle.std.specs.Str.{bytes_eq}
use Rattle.std.proofs.lemmas.Bool.{ltb-false, both_ways, cases_order}
use Rattle.std.proofs.lemmas.List.{length-map}
use Rattle.std.proofs.lemmas.List.Elements.{All-head, All-tail}
use Rattle.std.proofs.lemmas.List.Sums.{fails_before_first}
use Rattle.std.proofs.lemmas.Option.{slice_get_within, slice_get-map, slice_get-get_or, same_Some}
use Rattle.std.proofs.lemmas.Option.{get_or_from_slice_get}
use Rattle.std.proofs.lemmas.Slice.Eq.{bytes_eq-Decides}
use Rattle.day_tables.specs.NamedEntries.{IsNumberOf, AreNamedApart, has_name, find_name}
use Rattle.day_tables.specs.Refusals.{HasName, HasNoName}
use Rattle.day_tables.proofs.Accepting.{any_front}
use Rattle.day_tables.proofs.Days.{entry_at}
use Rattle.day_tables.proofs.Entries.{found_name}
use Rattle.day_tables.proofs.Said.{number_found}
use Rattle.day_tables.proofs.Tests.{any_entries}

-- a name that was not found is no entry's
pub not_found : {X : Type 0} (name_of : X → List ℕ) (entries : List X) (name : List ℕ) → find_name name_of entries name ≡ None → All (λ entry. name_of entry ≢ name) entries
not_found {X} name_of entries name e k d below same =
    let test : X → Bool = λ entry. bytes_eq (name_of entry) name in
    let past : ltb (position_or_len test entries) (length entries) ≡ false = cond_none (ltb (position_or_len test entries) (length entries)) (position_or_len test entries) e in
    let after : length entries ≤ position_or_len test entries = ltb-false (position_or_len test entries) (length entries) past in
    both_ways (test (get_or entries k d)) (fails_before_first test entries k d (omega arith)) ((bytes_eq-Decides (name_of (get_or entries k d)) name).1 same)
  where
    cond_none : (test : Bool) (n : ℕ) → cond test (Some n) None ≡ None → test ≡ false
    cond_none true n e = absurd cc
    cond_none false n e = refl

-- two names with one number are one
pub same_name : {X : Type 0} (name_of : X → List ℕ) (entries : List X) (a b : List ℕ) (n : ℕ) → find_name name_of entries a ≡ Some n → find_name name_of entries b ≡ Some n → a ≡ b
same_name name_of entries a b n is_a is_b =
    let (below, at_a) = found_name name_of entries a n is_a in
    let (_, at_b) = found_name name_of entries b n is_b in
    let (x, _, _) = entry_at (λ _. Unit {0}) entries n below (λ k d b. tt) in
    sym (at_a x) ∙ at_b x

-- a number of a name is a place where it stands
number_at : {X : Type 0} (name_of : X → List ℕ) (entries : List X) (name : List ℕ) (i : ℕ) → IsNumberOf name_of entries name i → (i < length entries) × ((d : X) → name_of (get_or entries i d) ≡ name)
number_at name_of entries name i is =
    let below : i < length entries = (let h : i < length (map name_of entries) = slice_get_within (map name_of entries) i name is in omega (arith, length-map entries name_of)) in
    (below, λ d. same_Some (name_of (get_or entries i d)) name (sym (slice_get-map name_of entries i ∙ ap (option_map name_of) (slice_get-get_or entries i d below)) ∙ is))

-- two numbers of one name are one, where names are apart
pub same_number : {X : Type 0} (name_of : X → List ℕ) (entries : List X) (name : List ℕ) (i j : ℕ) → AreNamedApart name_of entries → IsNumberOf name_of entries name i → IsNumberOf name_of entries name j → i ≡ j
same_number {X} name_of entries name i j apart is_i is_j =
    let (below_i, at_i) = number_at name_of entries name i is_i in
    let (below_j, at_j) = number_at name_of entries name j is_j in
    let (x, _, _) = entry_at (λ _. Unit {0}) entries i below_i (λ k d b. tt) in
    elim (cases_order i j) [
      | inl same ↦ same
      | inr differ ↦ elim differ [
        | inl before ↦ absurd (apart i j x before below_j (at_i x ∙ sym (at_j x)))
        | inr after ↦ absurd (apart j i x after below_i (at_j x ∙ sym (at_i x)))
      ]
    ]

-- where names are apart, the number of a name is the one that is found
pub number_is_found : {X : Type 0} (name_of : X → List ℕ) (entries : List X) (name : List ℕ) (n : ℕ) → AreNamedApart name_of entries → IsNumberOf name_of entries name n → find_name name_of entries name ≡ Some n
number_is_found name_of entries name n apart is = on (find_name name_of entries name) refl
  where
    on : (o : Option ℕ) → find_name name_of entries name ≡ o → o ≡ Some n
    on None none =
        let (below, at) = number_at name_of entries name n is in
        let (x, _, _) = entry_at (λ _. Unit {0}) entries n below (λ k d b. tt) in
        absurd (not_found name_of entries name none n x below (at x))
    on (Some m) found = ap Some (same_number name_of entries name m n apart (number_found name_of entries name m found) is)

-- ---- rows and their entries

-- the row of the entry at a place, and the entry of the row
pub zip_at : {A B : Type 0} (R : A → B → Type 0) (xs : List A) (ys : List B) (k : ℕ) (y : B) → AllZip R xs ys → slice_get ys k ≡ Some y → (x : A) × (slice_get xs k ≡ Some x) × R x y
zip_at R [] [] k y all at = let below : k < 0 = slice_get_within [] k y at in absurd (omega arith)
zip_at R [] (b ∷ ys) k y all at = absurd all
zip_at R (a ∷ xs) [] k y all at = absurd all
zip_at {A} {B} R (a ∷ xs) (b ∷ ys) zero y all at = (a, refl, subst (λ (z : B). R a z) (same_Some b y at) all.0)
zip_at R (a ∷ xs) (b ∷ ys) (suc k) y all at = zip_at R xs ys k y all.1 at

pub zip_entry : {A B : Type 0} (R : A → B → Type 0) (xs : List A) (ys : List B) (k : ℕ) (x : A) → AllZip R xs ys → slice_get xs k ≡ Some x → (y : B) × (slice_get ys k ≡ Some y) × R x y
zip_entry R [] ys k x all at = let below : k < 0 = slice_get_within [] k x at in absurd (omega arith)
zip_entry R (a ∷ xs) [] k x all at = absurd all
zip_entry {A} R (a ∷ xs) (b ∷ ys) zero x all at = (b, refl, subst (λ (z : A). R z b) (same_Some a x at) all.0)
zip_entry R (a ∷ xs) (b ∷ ys) (suc k) x all at = zip_entry R xs ys k x all.1 at

zip_all : {A B : Type 0} (R : A → B → Type 0) (P : B → Type 0) (Q : A → Type 0) → ((a : A) (b : B) → R a b → P b → Q a) → (xs : List A) (ys : List B) → AllZip R xs ys → All P ys → All Q xs
zip_all R P Q step [] ys all every k d below = absurd (omega arith)
zip_all R P Q step (a ∷ xs) [] all every k d below = absurd all
zip_all R P Q step (a ∷ xs) (b ∷ ys) all every zero d below = step a b all.0 (All-head P b ys every)
zip_all R P Q step (a ∷ xs) (b ∷ ys) all every (suc k) d below = zip_all R P Q step xs ys all.1 (All-tail P b ys every) k d (omega arith)

-- the entries have the names of their rows
abbrev pub AreNamed : {A B : Type 0} → (A → List ℕ) → (B → List ℕ) → List A → List B → Type 0
AreNamed row_name name_of rows entries = AllZip (λ row entry. row_name row ≡ name_of entry) rows entries

module _ {A B : Type 0} (row_name : A → List ℕ) (name_of : B → List ℕ) (rows : List A) (entries : List B) (named : AreNamed row_name name_of rows entries) where
  pub name_repeated : (name : List ℕ) → has_name name_of entries name ≡ true → HasName row_name rows name
  name_repeated name some =
      any_front (λ a b. row_name a ≡ name_of b) (λ entry. bytes_eq (name_of entry) name) (λ a. row_name a ≡ name)
      (λ a b same here. same ∙ (bytes_eq-Decides (name_of b) name).0 here) rows entries named some

  pub name_new : (name : List ℕ) → has_name name_of entries name ≡ false → ¬ HasName row_name rows name
  name_new name none some = both_ways (has_name name_of entries name) none
      (any_entries (λ a b. row_name a ≡ name_of b) (λ entry. bytes_eq (name_of entry) name) (λ a. row_name a ≡ name)
      (λ a b same is. (bytes_eq-Decides (name_of b) name).1 (sym same ∙ is)) rows entries named some)

  -- a name that is no entry's is no row's
  pub no_row : (name : List ℕ) → find_name name_of entries name ≡ None → HasNoName row_name rows name
  no_row name none =
      zip_all (λ a b. row_name a ≡ name_of b) (λ entry. name_of entry ≢ name) (λ row. row_name row ≢ name) (λ a b same other is. other (sym same ∙ is)) rows entries named (not_found name_of entries name none)

  -- the row of a name that was found
  pub named_row : (name : List ℕ) (n : ℕ) → find_name name_of entries name ≡ Some n → (row : A) × (slice_get rows n ≡ Some row) × (row_name row ≡ name)
  named_row name n is =
      let (below, at) = found_name name_of entries name n is in
      let (entry, there, _) = entry_at (λ _. Unit {0}) entries n below (λ k d b. tt) in
      let (row, here, same) = zip_at (λ a b. row_name a ≡ name_of b) rows entries n entry named there in
      (row, here, same ∙ ap name_of (sym (get_or_from_slice_get entries n entry entry there)) ∙ at entry)

  pub some_row : (name : List ℕ) (n : ℕ) → find_name name_of entries name ≡ Some n → ¬ HasNoName row_name rows name
  some_row name n is none =
      let (row, here, same) = named_row name n is in
      none n row (slice_get_within rows n row here) (ap row_name (get_or_from_slice_get rows n row row here) ∙ same)

  -- where no two entries have one name, the row that has it is the one of the number that was found
  pub row_number : (i n : ℕ) (row : A) → AreNamedApart name_of entries → slice_get rows i ≡ Some row → find_name name_of entries (row_name row) ≡ Some n → i ≡ n
  row_number i n row apart here is =
      let (entry, there, same) = zip_entry (λ a b. row_name a ≡ name_of b) rows entries i row named here in
      same_number name_of entries (row_name row) i n apart (slice_get-map name_of entries i ∙ ap (option_map name_of) there ∙ ap Some (sym same)) (number_found name_of entries (row_name row) n is)
