-- Families of the units of a composition.
use Rattle.std.proofs.Common.{◌≡◌, ◌≢◌, ℕ, ◌+◌, ◌<◌, true, false, List, [], take, get_or, length, Option, Some}
use Rattle.std.proofs.Common.{unwrap_or, ap, ◌∙◌, sym, subst, slice_get}
use Rattle.std.specs.Prelude.{option_map}
use Rattle.std.specs.List.{list_all}
use Rattle.std.specs.Str.{bytes_eq}
use Rattle.std.proofs.lemmas.List.Folds.{list_all_more, list_all_at}
use Rattle.std.proofs.lemmas.Bool.{false_from_ne_true, and_from}
use Rattle.std.proofs.lemmas.Slice.Eq.{bytes_eq-Decides}
use Rattle.rules.specs.declared.records.UnitType.{UnitType}
use Rattle.compositions.specs.Composition.{family_of}

-- the family of a type that is there
pub family_is : (types : List UnitType) (m : ℕ) (t : UnitType) → slice_get types m ≡ Some t → family_of types m ≡ t.family
family_is types m t e = ap (λ (o : Option UnitType). unwrap_or (option_map (λ t. t.family) o) []) e

-- one more unit of the family
pub family_more : (types : List UnitType) (family ms : List ℕ) (i m : ℕ) (t : UnitType)
    → list_all (λ n. bytes_eq (family_of types n) family) (take i ms) ≡ true
    → i < length ms → m ≡ get_or ms i m → slice_get types m ≡ Some t → t.family ≡ family
    → list_all (λ n. bytes_eq (family_of types n) family) (take (i + 1) ms) ≡ true
family_more types family ms i m t so_far below is_m is_t same =
    let here : bytes_eq (family_of types m) family ≡ true = (bytes_eq-Decides (family_of types m) family).1 (family_is types m t is_t ∙ same) in
    let here2 : bytes_eq (family_of types (get_or ms i m)) family ≡ true = subst (λ (k : ℕ). bytes_eq (family_of types k) family ≡ true) is_m here in
    list_all_more (λ n. bytes_eq (family_of types n) family) ms i m below ∙ and_from _ _ so_far here2

-- a unit of another family
pub family_differs : (types : List UnitType) (family ms : List ℕ) (i m : ℕ) (t : UnitType)
    → i < length ms → m ≡ get_or ms i m → slice_get types m ≡ Some t → t.family ≢ family
    → false ≡ list_all (λ n. bytes_eq (family_of types n) family) ms
family_differs types family ms i m t below is_m is_t differs =
    let here : bytes_eq (family_of types m) family ≡ false = false_from_ne_true _ (λ h. differs (sym (family_is types m t is_t) ∙ (bytes_eq-Decides (family_of types m) family).0 h)) in
    let here2 : bytes_eq (family_of types (get_or ms i m)) family ≡ false = subst (λ (k : ℕ). bytes_eq (family_of types k) family ≡ false) is_m here in
    sym (list_all_at (λ n. bytes_eq (family_of types n) family) ms i m below here2)
