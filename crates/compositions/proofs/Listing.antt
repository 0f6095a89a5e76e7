-- The definition of the catalogue lists what fits, each composition once and in order.
use Rattle.std.proofs.Common.{◌≡◌, ℕ, zero, suc, ◌<◌, ◌≤◌, Bool, true, false, cond, ltb, inl, inr, List, [], ◌∷◌, ◌++◌}
use Rattle.std.proofs.Common.{filter, length, refl, ap, ◌∙◌, sym, subst, arith, Contains, length-append}
use Rattle.std.specs.List.{list_all, flat_map}
use Rattle.std.proofs.lemmas.Bool.{and_parts, cases_eq}
use Rattle.std.proofs.lemmas.List.Folds.{list_all-append}
use Rattle.std.proofs.lemmas.List.Elements.{All-contains, filter_passes, Contains-append_left, Contains-append_right}
use Rattle.std.proofs.lemmas.List.Elements.{Contains-append_cases}
use Rattle.std.proofs.lemmas.List.Kept.{AllPairs-filter}
use Rattle.std.proofs.lemmas.Bool.{ltb-true}
use Rattle.rules.specs.declared.records.UnitType.{UnitType}
use Rattle.compositions.specs.Catalogue.{comes_before, with_each, lists_of, lists_up_to, catalogue_of, IsCatalogue}
use Rattle.compositions.specs.Composition.{fits_in}
use Rattle.compositions.specs.Extensions.{extensions}
use Rattle.compositions.proofs.Fitting.{Fits, Fits-from_test, last_apart}
use Rattle.compositions.proofs.Growth.{extension_member, extension_there, extensions_ordered, flat_map_member}
use Rattle.compositions.proofs.Growth.{flat_map_there}
use Rattle.compositions.proofs.Order.{Ordered, Ordered-append, pairs-from_Ordered, before_shorter, before_push}
use Rattle.compositions.proofs.Order.{contains_cons, contains_head, contains_tail, contains_none}

abbrev any : List ℕ → Bool
any ms = true

-- a list with each type number at its rear is its extensions, where every one is taken
with_each_is : (n : ℕ) (front : List ℕ) → with_each n front ≡ extensions any n front
with_each_is zero front = refl
with_each_is (suc n) front = ap (λ (l : List (List ℕ)). l ++ (front ++ n ∷ []) ∷ []) (with_each_is n front)

each_member : (n : ℕ) (front x : List ℕ) → Contains (with_each n front) x → (m : ℕ) × (m < n) × (x ≡ front ++ m ∷ [])
each_member n front x h =
    let made = extension_member any n front x (subst (λ (l : List (List ℕ)). Contains l x) (with_each_is n front) h) in
    (made.0, made.1, made.2)

each_there : (n m : ℕ) (front : List ℕ) → m < n → Contains (with_each n front) (front ++ m ∷ [])
each_there n m front below =
    subst (λ (l : List (List ℕ)). Contains l (front ++ m ∷ [])) (sym (with_each_is n front)) (extension_there any n m front below refl)

each_ordered : (n : ℕ) (front : List ℕ) → Ordered (with_each n front)
each_ordered n front = subst Ordered (sym (with_each_is n front)) (extensions_ordered any n front)

-- with each type number at the rear of each, lists in order stay in order
longer_ordered : (n : ℕ) (lists : List (List ℕ)) → Ordered lists → Ordered (flat_map (with_each n) lists)
longer_ordered n [] h = tt
longer_ordered n (front ∷ lists) h =
    Ordered-append (with_each n front) (flat_map (with_each n) lists) (each_ordered n front) (longer_ordered n lists h.1)
    (λ x y k l.
    let first = each_member n front x k in
    let found = flat_map_member (with_each n) lists y l in
    let second = each_member n found.0 y found.2 in
    let fronts : comes_before front found.0 ≡ true = All-contains (λ z. comes_before front z ≡ true) lists found.0 h.0 found.1 in
    subst (λ (w : List ℕ). comes_before w y ≡ true) (sym first.2)
    (subst (λ (w : List ℕ). comes_before (front ++ first.0 ∷ []) w ≡ true) (sym second.2)
    (before_push front found.0 first.0 second.0 fronts)))

lists_ordered : (n units : ℕ) → Ordered (lists_of n units)
lists_ordered n zero = (λ k d below. absurd (omega arith), tt)
lists_ordered n (suc units) = longer_ordered n (lists_of n units) (lists_ordered n units)

lists_length : (n units : ℕ) (x : List ℕ) → Contains (lists_of n units) x → length x ≡ units
lists_length n zero x h = elim (contains_cons [] [] x h) [ inl e ↦ sym (ap length e) | inr t ↦ absurd (contains_none x t) ]
lists_length n (suc units) x h =
    let found = flat_map_member (with_each n) (lists_of n units) x h in
    let made = each_member n found.0 x found.2 in
    omega (arith, lists_length n units found.0 found.1, ap length made.2, length-append found.0 (made.0 ∷ []))

lists_there : (n units : ℕ) (ms : List ℕ) → length ms ≡ units → list_all (λ m. ltb m n) ms ≡ true → Contains (lists_of n units) ms
lists_there n zero [] e h = contains_head [] []
lists_there n zero (x ∷ xs) e h = absurd (omega arith)
lists_there n (suc units) [] e h = absurd (omega arith)
lists_there n (suc units) (x ∷ xs) e h =
    let apart = last_apart x xs in
    let known : (list_all (λ m. ltb m n) apart.0 ≡ true) × (list_all (λ m. ltb m n) (apart.1 ∷ []) ≡ true) = and_parts _ _ (sym (list_all-append (λ m. ltb m n) apart.0 (apart.1 ∷ [])) ∙ subst (λ (w : List ℕ). list_all (λ m. ltb m n) w ≡ true) apart.2 h) in
    let rear : apart.1 < n = ltb-true apart.1 n (and_parts _ _ known.1).0 in
    let size : length apart.0 ≡ units = omega (arith, apart.3) in
    subst (λ (w : List ℕ). Contains (lists_of n (suc units)) w) (sym apart.2)
    (flat_map_there (with_each n) (lists_of n units) apart.0 (apart.0 ++ apart.1 ∷ []) (lists_there n units apart.0 size known.0) (each_there n apart.1 apart.0 rear))

up_to_length : (n units : ℕ) (x : List ℕ) → Contains (lists_up_to n units) x → length x ≤ units
up_to_length n zero x h = absurd (contains_none x h)
up_to_length n (suc units) x h = elim (Contains-append_cases (lists_up_to n units) (lists_of n (suc units)) x h) [
  | inl fewer ↦ omega (arith, up_to_length n units x fewer)
  | inr most ↦ omega (arith, lists_length n (suc units) x most)
]

up_to_ordered : (n units : ℕ) → Ordered (lists_up_to n units)
up_to_ordered n zero = tt
up_to_ordered n (suc units) =
    Ordered-append (lists_up_to n units) (lists_of n (suc units)) (up_to_ordered n units) (lists_ordered n (suc units))
    (λ x y h k. before_shorter x y (omega (arith, up_to_length n units x h, lists_length n (suc units) y k)))

up_to_there : (n units : ℕ) (ms : List ℕ) → 1 ≤ length ms → length ms ≤ units → list_all (λ m. ltb m n) ms ≡ true → Contains (lists_up_to n units) ms
up_to_there n zero ms some few h = absurd (omega arith)
up_to_there n (suc units) ms some few h = elim (cases_eq (length ms) (suc units)) [
  | inl e ↦ Contains-append_right (lists_up_to n units) (lists_of n (suc units)) ms (lists_there n (suc units) ms e h)
  | inr differs ↦ Contains-append_left (lists_up_to n units) (lists_of n (suc units)) ms (up_to_there n units ms some (omega (arith, differs)) h)
]

-- what passes the test stays in the list
filter_there : (p : List ℕ → Bool) (xs : List (List ℕ)) (y : List ℕ) → Contains xs y → p y ≡ true → Contains (filter p xs) y
filter_there p [] y h passes = absurd (contains_none y h)
filter_there p (x ∷ xs) y h passes = elim (contains_cons x xs y h) [
  | inl e ↦ subst (λ (b : Bool). Contains (cond b (x ∷ filter p xs) (filter p xs)) y)
      (sym (subst (λ (w : List ℕ). p w ≡ true) (sym e) passes))
      (subst (λ (w : List ℕ). Contains (x ∷ filter p xs) w) e (contains_head x (filter p xs)))
  | inr later ↦ kept (p x) (filter_there p xs y later passes)
]
  where
    kept : (b : Bool) → Contains (filter p xs) y → Contains (cond b (x ∷ filter p xs) (filter p xs)) y
    kept true t = contains_tail x (filter p xs) y t
    kept false t = t

-- the definition lists all that fits and nothing else, each once and in order
pub catalogue_listed : (types : List UnitType) (longest : ℕ) → IsCatalogue types longest (catalogue_of types longest)
unfolding catalogue_of
catalogue_listed types longest =
    let lists : List (List ℕ) = lists_up_to (length types) 6 in
    record {
      listed = record {
        fit = filter_passes (fits_in types longest) lists;
        in_order = AllPairs-filter (λ x y. comes_before x y ≡ true) (fits_in types longest) lists (pairs-from_Ordered lists (up_to_ordered (length types) 6));
      };
      complete = λ ms h.
          let f : Fits types longest ms = Fits-from_test types longest ms h in
          filter_there (fits_in types longest) lists ms (up_to_there (length types) 6 ms f.some f.few f.known) h;
    }
