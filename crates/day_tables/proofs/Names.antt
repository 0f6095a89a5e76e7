-- Entries and the names beside them: where the names are those of the entries, a name has one place among both.
use Rattle.std.proofs.Common.{◌≡◌, ◌∙◌, ℕ, ◌+◌, Bool, false, cond, List, [], ◌∷◌, ◌++◌, map, length, position, Some}
use Rattle.std.proofs.Common.{None, refl, sym, ap, ltb}
use Rattle.std.specs.Prelude.{not, ◌||◌, string_bytes, string_eq}
use Rattle.std.specs.List.{list_any, position_or_len}
use Rattle.std.specs.Str.{bytes_eq}
use Rattle.std.specs.Cmp.Lexicographic.{nat_list_eq_equiv}
use Rattle.std.specs.declared.string.String.{String}
use Rattle.std.proofs.lemmas.List.{map-append, length-map}
use Rattle.indexmap.specs.IndexSet.{insert_key}
use Rattle.day_tables.specs.NamedEntries.{has_name, find_name}

-- a test of what f makes of each item
any_map : {X Y : Type 0} (p : Y → Bool) (f : X → Y) (xs : List X) → list_any p (map f xs) ≡ list_any (λ x. p (f x)) xs
any_map p f [] = refl
any_map p f (x ∷ xs) = ap (λ (b : Bool). p (f x) || b) (any_map p f xs)

place_map : {X Y : Type 0} (p : Y → Bool) (f : X → Y) (xs : List X) → position_or_len p (map f xs) ≡ position_or_len (λ x. p (f x)) xs
place_map p f [] = refl
place_map p f (x ∷ xs) = ap (λ (n : ℕ). cond (not (p (f x))) (1 + n) 0) (place_map p f xs)

pub position_map : {X Y : Type 0} (p : Y → Bool) (f : X → Y) (xs : List X) → position p (map f xs) ≡ position (λ x. p (f x)) xs
position_map p f xs = λ i. cond (ltb (place_map p f xs i) (length-map xs f i)) (Some (place_map p f xs i)) None

module _ {X K : Type 0} (text : K → List ℕ) (name_of : X → List ℕ) (names : List K) (entries : List X) where
  -- there are as many names as entries
  pub as_many : map text names ≡ map name_of entries → length names ≡ length entries
  as_many same = sym (length-map names text) ∙ ap length same ∙ length-map entries name_of

  -- the number of a name is the place of its entry
  pub find_among : (name : List ℕ) → map text names ≡ map name_of entries → position (λ k. bytes_eq name (text k)) names ≡ find_name name_of entries name
  find_among name same = sym (position_map (bytes_eq name) text names) ∙ ap (position (bytes_eq name)) same ∙ position_map (bytes_eq name) name_of entries
      ∙ (λ i. position (λ x. nat_list_eq_equiv.symm name (name_of x) i) entries)

  -- a name is there exactly where an entry has it
  pub has_among : (name : List ℕ) → map text names ≡ map name_of entries → list_any (λ k. bytes_eq name (text k)) names ≡ has_name name_of entries name
  has_among name same = sym (any_map (bytes_eq name) text names) ∙ ap (list_any (bytes_eq name)) same ∙ any_map (bytes_eq name) name_of entries
      ∙ (λ i. list_any (λ x. nat_list_eq_equiv.symm name (name_of x) i) entries)

-- an entry of a new name is added, and its name
pub names_after : {X A : Type 0} (name_of : X → List ℕ) (names after : List (String A)) (entries added : List X) (name : String A) (entry : X) → map string_bytes names ≡ map name_of entries
    → string_bytes name ≡ name_of entry → has_name name_of entries (name_of entry) ≡ false → after ≡ insert_key string_eq names name → added ≡ entries ++ entry ∷ [] → map string_bytes after ≡ map name_of added
names_after name_of names after entries added name entry same is new inserted pushed =
    let absent : list_any (string_eq name) names ≡ false = has_among string_bytes name_of names entries (string_bytes name) same ∙ ap (has_name name_of entries) is ∙ new in
    ap (map string_bytes) inserted
    ∙ ap (λ (b : Bool). map string_bytes (cond b names (names ++ name ∷ []))) absent
    ∙ map-append string_bytes names (name ∷ [])
    ∙ (λ i. same i ++ is i ∷ [])
    ∙ sym (map-append name_of entries (entry ∷ []))
    ∙ ap (map name_of) (sym pushed)
