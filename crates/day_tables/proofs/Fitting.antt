-- Some composition may run where so many metres fit exactly where one unit of some type may.
use Rattle.std.proofs.Common.{◌≡◌, ℕ, ◌+◌, ◌<◌, ◌≤◌, Bool, true, false, List, [], ◌∷◌, length, refl, sym, ap, subst}
use Rattle.std.proofs.Common.{◌∙◌, arith, Option, Some, slice_get, unwrap_or}
use Rattle.std.specs.Prelude.{nat_le, nat_lt, ◌&&◌, option_map}
use Rattle.std.proofs.lemmas.Bool.{and_parts, and_from, ltb-true, lt-ltb, leb-true, le-leb, false_from_ne_true}
use Rattle.std.proofs.lemmas.Bool.{both_ways}
use Rattle.std.proofs.lemmas.List.Folds.{Any-from_list_any, list_any_at}
use Rattle.std.proofs.lemmas.Option.{slice_get-get_or, get_or_from_slice_get}
use Rattle.rules.specs.declared.records.UnitType.{UnitType}
use Rattle.compositions.specs.Composition.{fits_in, of_type, metres_of, are_types, is_one_family}
use Rattle.day_tables.specs.Build.{has_fitting}
use Rattle.day_tables.proofs.Days.{entry_at}

-- one unit of a type that fits is a composition
pub fitting_admits : (types : List UnitType) (longest : ℕ) → has_fitting types longest ≡ true → (ms : List ℕ) × (fits_in types longest ms ≡ true)
fitting_admits types longest fits =
    let (m, t, below, is, short) = Any-from_list_any (λ t. nat_le t.metres longest) types fits in
    let at : slice_get types m ≡ Some t = slice_get-get_or types m t below ∙ ap Some is in
    let metres : of_type (λ t. t.metres) types m ≡ t.metres = ap (λ (o : Option UnitType). unwrap_or (option_map (λ t. t.metres) o) 0) at in
    let known : (nat_lt m (length types) && true) ≡ true = and_from (nat_lt m (length types)) true (lt-ltb m (length types) below) refl in
    let fit : nat_le (of_type (λ t. t.metres) types m + 0) longest ≡ true = le-leb (of_type (λ t. t.metres) types m + 0) longest (let h : t.metres ≤ longest = leb-true t.metres longest short in omega arith) in
    (m ∷ [], and_from _ _ (and_from _ _ known refl) fit)

-- a type of a composition that fits is no longer than it
pub admits_fitting : (types : List UnitType) (longest : ℕ) (ms : List ℕ) → fits_in types longest ms ≡ true → has_fitting types longest ≡ true
admits_fitting types longest [] fits = absurd cc
admits_fitting types longest (m ∷ ms) fits =
    let size : Bool = nat_le 1 (length (m ∷ ms)) && nat_le (length (m ∷ ms)) 6 in
    let (others, short) = and_parts (size && are_types types (m ∷ ms) && is_one_family types (m ∷ ms)) (nat_le (metres_of types (m ∷ ms)) longest) fits in
    let (sized, one_family) = and_parts (size && are_types types (m ∷ ms)) (is_one_family types (m ∷ ms)) others in
    let (few, known) = and_parts size (are_types types (m ∷ ms)) sized in
    let (first, rest) = and_parts (nat_lt m (length types)) (are_types types ms) known in
    let below : m < length types = ltb-true m (length types) first in
    let (t, at, _) = entry_at (λ _. Unit {0}) types m below (λ k d b. tt) in
    let metres : of_type (λ t. t.metres) types m ≡ t.metres = ap (λ (o : Option UnitType). unwrap_or (option_map (λ t. t.metres) o) 0) at in
    let within : metres_of types (m ∷ ms) ≤ longest = leb-true (metres_of types (m ∷ ms)) longest short in
    let fit : nat_le t.metres longest ≡ true = le-leb t.metres longest (omega (arith, within, metres)) in
    list_any_at (λ t. nat_le t.metres longest) types m t below (subst (λ (t : UnitType). nat_le t.metres longest ≡ true) (sym (get_or_from_slice_get types m t t at)) fit)

-- where no single unit fits, no composition does
pub nothing_admitted : (types : List UnitType) (longest : ℕ) → has_fitting types longest ≡ false → (ms : List ℕ) → fits_in types longest ms ≡ false
nothing_admitted types longest none ms = false_from_ne_true (fits_in types longest ms) (λ fits. both_ways (has_fitting types longest) none (admits_fitting types longest ms fits))
