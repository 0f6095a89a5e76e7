-- What fits keeps fitting without its last unit, so that making longer what fits finds all that fits.
use Rattle.std.proofs.Common.{◌≡◌, ℕ, zero, suc, ◌+◌, ◌<◌, ◌≤◌, Bool, true, ltb, ◌⊎◌, inl, inr, List, [], ◌∷◌, ◌++◌}
use Rattle.std.proofs.Common.{get_or, length, refl, ap, ◌∙◌, sym, subst, arith, Contains, length-append}
use Rattle.std.specs.List.{flat_map}
use Rattle.std.specs.Str.{bytes_eq}
use Rattle.std.proofs.lemmas.Bool.{and_parts, and_from, leb-true, le-leb, ltb-true}
use Rattle.std.proofs.lemmas.List.{take_all}
use Rattle.std.proofs.lemmas.List.Folds.{list_all-append}
use Rattle.std.proofs.lemmas.List.Elements.{All-append, All-contains, Contains-append_left, Contains-append_right}
use Rattle.rules.specs.declared.records.UnitType.{UnitType}
use Rattle.compositions.specs.Catalogue.{FitInOrder, IsCatalogue}
use Rattle.compositions.specs.Composition.{metres_of, family_of, are_types, is_one_family, fits_in}
use Rattle.compositions.specs.Extensions.{extensions}
use Rattle.compositions.proofs.Growth.{Grown, grown_fit, grown_in_order, extension_there, extensions_fit}
use Rattle.compositions.proofs.Growth.{extensions_ordered, flat_map_there}
use Rattle.compositions.proofs.Order.{Ordered-from_pairs, pairs-from_Ordered, length_within, same_from_members}
use Rattle.compositions.proofs.Sums.{sum_over_push}

-- what it means to fit
pub record Fits (types : List UnitType) (longest : ℕ) (ms : List ℕ) : Type 0 where
  pub some : 1 ≤ length ms
  pub few : length ms ≤ 6
  pub known : are_types types ms ≡ true
  pub family : is_one_family types ms ≡ true
  pub short : metres_of types ms ≤ longest

pub Fits-from_test : (types : List UnitType) (longest : ℕ) (ms : List ℕ) → fits_in types longest ms ≡ true → Fits types longest ms
Fits-from_test types longest ms h =
    let five = and_parts _ _ h in
    let four = and_parts _ _ five.0 in
    let three = and_parts _ _ four.0 in
    let two = and_parts _ _ three.0 in
    record {
      some = leb-true 1 (length ms) two.0;
      few = leb-true (length ms) 6 two.1;
      known = three.1;
      family = four.1;
      short = leb-true (metres_of types ms) longest five.1;
    }

test-from_Fits : (types : List UnitType) (longest : ℕ) (ms : List ℕ) → Fits types longest ms → fits_in types longest ms ≡ true
test-from_Fits types longest ms f =
    and_from _ _ (and_from _ _ (and_from _ _ (and_from _ _ (le-leb 1 (length ms) f.some) (le-leb (length ms) 6 f.few)) f.known) f.family)
    (le-leb (metres_of types ms) longest f.short)

-- a composition that fits has a last unit of one of the types
rear_known : (types : List UnitType) (longest : ℕ) (ms : List ℕ) (m : ℕ) → fits_in types longest (ms ++ m ∷ []) ≡ true → m < length types
rear_known types longest ms m h =
    let f : Fits types longest (ms ++ m ∷ []) = Fits-from_test types longest (ms ++ m ∷ []) h in
    let parts = and_parts _ _ (sym (list_all-append (λ k. ltb k (length types)) ms (m ∷ [])) ∙ f.known) in
    ltb-true m (length types) (and_parts _ _ parts.1).0

-- and what stands before that unit is nothing, or fits
front_fits : (types : List UnitType) (longest : ℕ) (ms : List ℕ) (m : ℕ) → fits_in types longest (ms ++ m ∷ []) ≡ true → (ms ≡ []) ⊎ (fits_in types longest ms ≡ true)
front_fits types longest [] m h = inl refl
front_fits types longest (k ∷ ks) m h =
    let f : Fits types longest ((k ∷ ks) ++ m ∷ []) = Fits-from_test types longest ((k ∷ ks) ++ m ∷ []) h in
    let known = and_parts _ _ (sym (list_all-append (λ k. ltb k (length types)) (k ∷ ks) (m ∷ [])) ∙ f.known) in
    let family = and_parts _ _ (sym (list_all-append (λ n. bytes_eq (family_of types n) (family_of types k)) ks (m ∷ [])) ∙ f.family) in
    let size : length ((k ∷ ks) ++ m ∷ []) ≡ length (k ∷ ks) + 1 = length-append (k ∷ ks) (m ∷ []) in
    let sum = sum_over_push (λ t. t.metres) types (k ∷ ks) m in
    let few : length ((k ∷ ks) ++ m ∷ []) ≤ 6 = f.few in
    let short : metres_of types ((k ∷ ks) ++ m ∷ []) ≤ longest = f.short in
    inr (test-from_Fits types longest (k ∷ ks) (record {
      some = omega arith;
      few = omega arith;
      known = known.0;
      family = family.0;
      short = omega arith;
    }))

-- a list that is not empty has a last element
pub last_apart : (x : ℕ) (xs : List ℕ) → (front : List ℕ) × (m : ℕ) × (x ∷ xs ≡ front ++ m ∷ []) × (length front ≡ length xs)
last_apart x [] = ([], x, refl, refl)
last_apart x (y ∷ ys) =
    let rest = last_apart y ys in
    (x ∷ rest.0, rest.1, ap (λ (l : List ℕ). x ∷ l) rest.2, ap suc rest.3)

-- a list that holds each extension of each of its members, and of nothing, holds all that fits
all_found : (types : List UnitType) (longest : ℕ) (list : List (List ℕ))
    → list ≡ extensions (fits_in types longest) (length types) [] ++ flat_map (extensions (fits_in types longest) (length types)) list
    → (size : ℕ) (ms : List ℕ) → length ms ≤ size → fits_in types longest ms ≡ true → Contains list ms
all_found types longest list is zero ms within h =
    let f : Fits types longest ms = Fits-from_test types longest ms h in
    let some : 1 ≤ length ms = f.some in
    absurd (omega arith)
all_found types longest list is (suc size) [] within h =
    let f : Fits types longest [] = Fits-from_test types longest [] h in
    let some : 1 ≤ length {A = ℕ} [] = f.some in
    absurd (omega arith)
all_found types longest list is (suc size) (x ∷ xs) within h =
    let fits : List ℕ → Bool = fits_in types longest in
    let e = last_apart x xs in
    let made : fits (e.0 ++ e.1 ∷ []) ≡ true = subst (λ (w : List ℕ). fits w ≡ true) e.2 h in
    let known : e.1 < length types = rear_known types longest e.0 e.1 made in
    let there : Contains (extensions fits (length types) e.0) (x ∷ xs) =
    subst (λ (w : List ℕ). Contains (extensions fits (length types) e.0) w) (sym e.2) (extension_there fits (length types) e.1 e.0 known made) in
    let size_of_front : length e.0 ≡ length xs = e.3 in
    let inside : Contains (extensions fits (length types) [] ++ flat_map (extensions fits (length types)) list) (x ∷ xs) =
    elim (front_fits types longest e.0 e.1 made) [
      | inl none ↦ Contains-append_left (extensions fits (length types) []) (flat_map (extensions fits (length types)) list) (x ∷ xs)
          (subst (λ (w : List ℕ). Contains (extensions fits (length types) w) (x ∷ xs)) none there)
      | inr front ↦ Contains-append_right (extensions fits (length types) []) (flat_map (extensions fits (length types)) list) (x ∷ xs)
          (flat_map_there (extensions fits (length types)) list e.0 (x ∷ xs) (all_found types longest list is size e.0 (omega arith) front) there)
    ] in
    subst (λ (l : List (List ℕ)). Contains l (x ∷ xs)) (sym is) inside

-- when each of the list has been made longer, the list is the catalogue
pub catalogue_done : (types : List UnitType) (longest : ℕ) (list : List (List ℕ)) (at : ℕ) → Grown (fits_in types longest) (length types) list at → length list ≤ at → IsCatalogue types longest list
catalogue_done types longest list at g done =
    let all : list ≡ extensions (fits_in types longest) (length types) [] ++ flat_map (extensions (fits_in types longest) (length types)) list =
    g.is ∙ ap (λ (l : List (List ℕ)). extensions (fits_in types longest) (length types) [] ++ flat_map (extensions (fits_in types longest) (length types)) l) (take_all at list done) in
    record {
      listed = record {
        fit = grown_fit (fits_in types longest) (length types) list at g;
        in_order = pairs-from_Ordered list g.in_order.1;
      };
      complete = λ ms h. all_found types longest list all (length ms) ms (omega arith) h;
    }

-- what was found, and some of the extensions of the next one, fit and are in order
pub more_found : (types : List UnitType) (longest : ℕ) (list : List (List ℕ)) (at : ℕ) (next : List ℕ) (k : ℕ)
    → Grown (fits_in types longest) (length types) list at → at < length list → next ≡ get_or list at next
    → FitInOrder types longest (list ++ extensions (fits_in types longest) k next)
more_found types longest list at next k g below is_next = record {
  fit = All-append (λ ms. fits_in types longest ms ≡ true) list (extensions (fits_in types longest) k next)
      (grown_fit (fits_in types longest) (length types) list at g) (extensions_fit (fits_in types longest) k next);
  in_order = pairs-from_Ordered (list ++ extensions (fits_in types longest) k next)
      (grown_in_order (fits_in types longest) (length types) list at next g below is_next k).1;
}

-- single units that fit are in order
pub singles_found : (types : List UnitType) (longest k : ℕ) → FitInOrder types longest (extensions (fits_in types longest) k [])
singles_found types longest k = record {
  fit = extensions_fit (fits_in types longest) k [];
  in_order = pairs-from_Ordered (extensions (fits_in types longest) k []) (extensions_ordered (fits_in types longest) k []);
}

-- what fits and is in order is no longer than the catalogue
pub not_more : (types : List UnitType) (longest : ℕ) (catalogue some : List (List ℕ)) → IsCatalogue types longest catalogue → FitInOrder types longest some → length some ≤ length catalogue
not_more types longest catalogue some c f =
    length_within some catalogue (Ordered-from_pairs some f.in_order) (Ordered-from_pairs catalogue c.listed.in_order)
    (λ z h. c.complete z (All-contains (λ ms. fits_in types longest ms ≡ true) some z f.fit h))

-- there is one catalogue
pub one_catalogue : (types : List UnitType) (longest : ℕ) (a b : List (List ℕ)) → IsCatalogue types longest a → IsCatalogue types longest b → a ≡ b
one_catalogue types longest a b c d =
    same_from_members a b (Ordered-from_pairs a c.listed.in_order) (Ordered-from_pairs b d.listed.in_order)
    (λ z h. d.complete z (All-contains (λ ms. fits_in types longest ms ≡ true) a z c.listed.fit h))
    (λ z h. c.complete z (All-contains (λ ms. fits_in types longest ms ≡ true) b z d.listed.fit h))
