-- Fields by their columns, fields that are text, and the header.
use Rattle.std.proofs.Common.{◌≡◌, ℕ, zero, suc, ◌<◌, ◌≤◌, Bool, true, false, ◌&&◌, List, [], ◌∷◌, length, take, map}
use Rattle.std.proofs.Common.{get_or, Option, Some, None, Err, Bor, Decides, leb, refl, sym, ap, ◌∙◌, inl, inr, arith}
use Rattle.std.specs.Prelude.{unwrap_or, not}
use Rattle.std.specs.Cmp.Lexicographic.{pointwise}
use Rattle.std.specs.List.{list_all, slice_get}
use Rattle.std.specs.Str.{is_utf8, bytes_eq}
use Rattle.std.proofs.lemmas.Bool.{eq-eqb, false≢true}
use Rattle.std.proofs.lemmas.Bool.Decides.{Decides-and, leb_tells}
use Rattle.std.proofs.lemmas.Str.{IsUtf8-from_is_utf8, is_utf8-from_IsUtf8}
use Rattle.std.proofs.lemmas.Slice.Eq.{slice_eq-Decides, bytes_eq-Decides}
use Rattle.std.proofs.lemmas.List.{ext_get_or, get_or-map, get_or-take, length-take, length-take-le}
use Rattle.csv.specs.Records.{AllText, field_at}
use Rattle.rail_csv.specs.declared.refusal.TableRefusal.TheVariants.{NotUtf8}
use Rattle.rail_csv.specs.Laws.{HasHeader}
use Rattle.rail_csv.specs.Tables.{Columns, is_header, row_of}

field_is : (missing : List ℕ) (fields : List (List ℕ)) (column : ℕ) → get_or fields column missing ≡ unwrap_or (field_at fields column) missing
unfolding field_at
field_is missing [] column = refl
field_is missing (first ∷ fields) zero = refl
field_is missing (first ∷ fields) (suc column) = field_is missing fields column

pub field_found : (missing : List ℕ) (fields : List (List ℕ)) (column : ℕ) (text : List ℕ) → Some text ≡ field_at fields column → text ≡ get_or fields column missing
field_found missing fields column text e = ap (λ (o : Option (List ℕ)). unwrap_or o missing) e ∙ sym (field_is missing fields column)

pub field_lost : (missing : List ℕ) (fields : List (List ℕ)) (column : ℕ) → None ≡ field_at fields column → missing ≡ get_or fields column missing
field_lost missing fields column e = ap (λ (o : Option (List ℕ)). unwrap_or o missing) e ∙ sym (field_is missing fields column)

-- ---- text

pub all_text : (fields : List (List ℕ)) → AllText fields → list_all is_utf8 fields ≡ true
unfolding AllText
all_text [] h = refl
all_text (first ∷ fields) h = rw (is_utf8-from_IsUtf8 first h.0) (all_text fields h.1)

pub both : (a b : Bool) → (a && b) ≡ true → (a ≡ true) × (b ≡ true)
both true b h = (refl, h)
both false b h = absurd cc

text_all : (fields : List (List ℕ)) → list_all is_utf8 fields ≡ true → AllText fields
unfolding AllText
text_all [] h = tt
text_all (first ∷ fields) h =
    let parts = both (is_utf8 first) (list_all is_utf8 fields) h in
    (IsUtf8-from_is_utf8 first parts.0, text_all fields parts.1)

pub refuted : (b : Bool) → ¬ (b ≡ true) → b ≡ false
refuted true h = absurd (h refl)
refuted false h = refl

pub not_text : (fields : List (List ℕ)) → ¬ (AllText fields) → list_all is_utf8 fields ≡ false
not_text fields h = refuted (list_all is_utf8 fields) (λ e. h (text_all fields e))

-- a row of as many fields as columns, all of them text, is what its columns read
pub row_is : {Row : Type 0} (width : ℕ) (columns : Columns Row) (row : ℕ) (fields : List (List ℕ)) → length fields ≡ width → list_all is_utf8 fields ≡ true
    → row_of width columns row fields ≡ columns row fields
unfolding row_of
row_is width columns row fields count text = rw (eq-eqb (length fields) width count, text) refl

pub row_not_text : {Row : Type 0} (width : ℕ) (columns : Columns Row) (row : ℕ) (fields : List (List ℕ)) → length fields ≡ width → list_all is_utf8 fields ≡ false
    → row_of width columns row fields ≡ Err (NotUtf8 row)
unfolding row_of
row_not_text width columns row fields count text = rw (eq-eqb (length fields) width count, text) refl

-- ---- the header

-- at least so many fields, and they are the first words
abbrev IsFront : List (List ℕ) → ℕ → List (List ℕ) → Type 0
IsFront words fewest fields = (fewest ≤ length fields) × (fields ≡ take (length fields) words)

Decides-leb : (a b : ℕ) → Decides (leb a b) (a ≤ b)
Decides-leb a b = elim (leb_tells a b) [
  | inl (t, le) ↦ (λ _. le, λ _. t)
  | inr (f, lt) ↦ (λ e. absurd (false≢true (sym f ∙ e)), λ le. absurd (omega arith))
]

header_Decides : (words : List (List ℕ)) (fewest : ℕ) (fields : List (List ℕ)) → Decides (is_header words fewest fields) (IsFront words fewest fields)
header_Decides words fewest fields =
    Decides-and _ _ (Decides-leb fewest (length fields)) (slice_eq-Decides bytes_eq-Decides fields (take (length fields) words) (pointwise bytes_eq fields (take (length fields) words)) refl)

-- the header of a version is there
pub has_header : (words : List (List ℕ)) (fewest : ℕ) (first : List (List ℕ)) (others : List (List (List ℕ))) → is_header words fewest first ≡ true → HasHeader words fewest (length first) (first ∷ others)
has_header words fewest first others h =
    let (least, is) = (header_Decides words fewest first).0 h in
    record {
      header = ap (λ (x : List (List ℕ)). Some x) is;
      least = least;
      most = omega (arith, ap (length {A = List ℕ}) is, length-take (length first) words);
    }

-- a first record that is the header of the version with so many columns
pub record IsHeaderOf (words : List (List ℕ)) (fewest width : ℕ) (first : List (List ℕ)) : Type 0 where
  pub is : is_header words fewest first ≡ true
  pub wide : length first ≡ width

pub header_is : (words : List (List ℕ)) (fewest width : ℕ) (first : List (List ℕ)) (others : List (List (List ℕ))) → HasHeader words fewest width (first ∷ others) → IsHeaderOf words fewest width first
header_is words fewest width first others has =
    let is : first ≡ take width words = some_same has.header in
    let wide : length first ≡ width = ap (length {A = List ℕ}) is ∙ length-take-le width words has.most in
    record {
      is = (header_Decides words fewest first).1 (omega (arith, wide, has.least), rw wide is);
      wide = wide;
    }
  where
    some_same : {x y : List (List ℕ)} → Some x ≡ Some y → x ≡ y
    some_same e = cc

-- no record is no header
pub no_header : (words : List (List ℕ)) (fewest width : ℕ) → ¬ (HasHeader words fewest width [])
no_header words fewest width has = never has.header
  where
    never : {x : List (List ℕ)} → ¬ (slice_get [] 0 ≡ Some x)
    never e = absurd cc

pub test_differs : (a b : List ℕ) (r : Bool) → r ≡ not (bytes_eq a b) → r ≡ true → ¬ (a ≡ b)
test_differs a b r e t same = absurd (false≢true (sym (ap not ((bytes_eq-Decides a b).1 same)) ∙ sym e ∙ t))

negated : (b : Bool) → not b ≡ false → b ≡ true
negated true h = refl
negated false h = absurd cc

pub test_agrees : (a b : List ℕ) (r : Bool) → r ≡ not (bytes_eq a b) → r ≡ false → a ≡ b
test_agrees a b r e t = (bytes_eq-Decides a b).0 (negated (bytes_eq a b) (sym e ∙ t))

abbrev pub words : List (Bor (List ℕ)) → List (List ℕ)
words header = map (λ word. word.now) header

pub as_many : (header : List (Bor (List ℕ))) → length (words header) ≡ length header
as_many [] = refl
as_many (word ∷ header) = ap suc (as_many header)

pub word_at : (header : List (Bor (List ℕ))) (column : ℕ) (d : Bor (List ℕ)) → column < length header → get_or (words header) column [] ≡ (get_or header column d).now
word_at header column d within = get_or-map (λ (word : Bor (List ℕ)). word.now) header column d [] within

-- too few fields
pub too_few : (words : List (List ℕ)) (fewest : ℕ) (fields : List (List ℕ)) → length fields < fewest → false ≡ is_header words fewest fields
too_few words fewest fields short =
    sym (refuted (is_header words fewest fields) (λ e. let least = ((header_Decides words fewest fields).0 e).0 in absurd (omega (arith, least))))

-- more fields than words
pub too_many_fields : (words : List (List ℕ)) (fewest : ℕ) (fields : List (List ℕ)) → length words < length fields → false ≡ is_header words fewest fields
too_many_fields words fewest fields long =
    sym (refuted (is_header words fewest fields) (λ e.
    let same = ap (length {A = List ℕ}) ((header_Decides words fewest fields).0 e).1 in
    absurd (omega (arith, same, length-take (length fields) words))))

-- a field that differs from its word
pub not_header : (words : List (List ℕ)) (fewest : ℕ) (fields : List (List ℕ)) (column : ℕ) → column < length fields → ¬ (get_or fields column [] ≡ get_or words column []) → false ≡ is_header words fewest fields
not_header words fewest fields column within differs =
    sym (refuted (is_header words fewest fields) (λ e.
    differs (ap (λ (xs : List (List ℕ)). get_or xs column []) ((header_Decides words fewest fields).0 e).1 ∙ get_or-take (length fields) words column [] within)))

pub same_header : (words : List (List ℕ)) (fewest : ℕ) (fields : List (List ℕ)) → fewest ≤ length fields → length fields ≤ length words
    → ((k : ℕ) → k < length fields → get_or fields k [] ≡ get_or words k []) → true ≡ is_header words fewest fields
same_header words fewest fields least most each =
    let count : length fields ≡ length (take (length fields) words) = sym (length-take-le (length fields) words most) in
    sym ((header_Decides words fewest fields).1 (
      least,
      ext_get_or [] fields (take (length fields) words) count (λ k lt.
          each k lt ∙ sym (get_or-take (length fields) words k [] lt)),
    ))
