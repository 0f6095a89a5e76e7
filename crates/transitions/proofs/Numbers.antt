-- The number of a composition in the catalogue of a day.
use Rattle.std.proofs.Common.{◌≡◌, ℕ, ◌+◌, ◌<◌, ◌≤◌, Bool, List, [], ◌∷◌, ◌++◌, map, take, length, Option, Some, None}
use Rattle.std.proofs.Common.{true, inl, inr, get_or, slice_get, unwrap_or, refl, sym, ap, subst, ◌∙◌, AllPairs}
use Rattle.std.proofs.Common.{Contains, IsTrue}
use Rattle.std.specs.Prelude.{◌↔◌, IfSome, IsNone}
use Rattle.std.proofs.lemmas.Bool.{cases_order, and_parts, leb-true}
use Rattle.std.proofs.lemmas.Option.{get_or_from_slice_get, slice_get_within, slice_get-get_or, unwrap_or-slice_get}
use Rattle.std.proofs.lemmas.List.{length-map, map_push, take_more}
use Rattle.compositions.specs.Catalogue.{comes_before}
use Rattle.compositions.proofs.Listing.{catalogue_listed}
use Rattle.compositions.proofs.Order.{before_irreflexive}
use Rattle.timetable.specs.Admissible.{is_admissible}
use Rattle.timetable.specs.Compositions.{greatest_platform, compositions_of, composition_at}
use Rattle.timetable.specs.Day.{Day}
use Rattle.transitions.specs.Edges.{IsAdmittedComp}
use Rattle.transitions.specs.Pairs.{runs_on}

-- lists in the order of the catalogue are there once each
pub same_place : (list : List (List ℕ)) → AllPairs (λ ms ns. IsTrue (comes_before ms ns)) list → (i j : ℕ) (ms : List ℕ) → slice_get list i ≡ Some ms → slice_get list j ≡ Some ms → i ≡ j
same_place list in_order i j ms at_i at_j =
    let here : get_or list i [] ≡ ms = get_or_from_slice_get list i ms [] at_i in
    let there : get_or list j [] ≡ ms = get_or_from_slice_get list j ms [] at_j in
    elim (cases_order i j) [
      | inl e ↦ e
      | inr differ ↦ elim differ [
        | inl l ↦ absurd (before_irreflexive ms (subst (λ (xs : List ℕ). comes_before ms xs ≡ true) there (subst (λ (xs : List ℕ). comes_before xs (get_or list j []) ≡ true) here (in_order i j [] l (slice_get_within list j ms at_j)))))
        | inr l ↦ absurd (before_irreflexive ms (subst (λ (xs : List ℕ). comes_before ms xs ≡ true) here (subst (λ (xs : List ℕ). comes_before xs (get_or list i []) ≡ true) there (in_order j i [] l (slice_get_within list i ms at_i)))))
      ]
    ]

-- the composition of a number of the catalogue
pub at_number : (day : Day) (comp : ℕ) → comp < length (compositions_of day) → slice_get (compositions_of day) comp ≡ Some (composition_at day comp)
at_number day comp below =
    slice_get-get_or (compositions_of day) comp [] below ∙ ap (λ (ms : List ℕ). Some ms) (sym (unwrap_or-slice_get (compositions_of day) comp []))

-- the composition that was read from the catalogue
pub read_number : (day : Day) (list : List (List ℕ)) (comp : ℕ) (ms : List ℕ) → list ≡ compositions_of day → slice_get list comp ≡ Some ms → ms ≡ composition_at day comp
read_number day list comp ms is at = sym (ap (λ (o : Option (List ℕ)). unwrap_or o []) (ap (λ (l : List (List ℕ)). slice_get l comp) (sym is) ∙ at))

-- the number that a search in the catalogue finds is the only one
pub number_found : (day : Day) (list : List (List ℕ)) (o : Option ℕ) (ms : List ℕ) → list ≡ compositions_of day → IfSome o (λ comp. slice_get list comp ≡ Some ms) → (IsNone o ↔ (Contains list ms → ⊥))
    → (n : ℕ) → (o ≡ Some n) ↔ ((n < length (compositions_of day)) × (composition_at day n ≡ ms))
number_found day list None ms is some none n = (
  λ e. absurd cc,
  λ there.
      let at : slice_get list n ≡ Some ms = ap (λ (l : List (List ℕ)). slice_get l n) is ∙ at_number day n there.0 ∙ ap (λ (xs : List ℕ). Some xs) there.1 in
      absurd (none.0 refl (n, slice_get_within list n ms at, get_or_from_slice_get list n ms ms at)),
)
number_found day list (Some comp) ms is some none n =
    let at : slice_get (compositions_of day) comp ≡ Some ms = ap (λ (l : List (List ℕ)). slice_get l comp) (sym is) ∙ some in
    let here : composition_at day comp ≡ ms = ap (λ (o : Option (List ℕ)). unwrap_or o []) at in (
      λ e. let k : comp ≡ n = cc in subst (λ (m : ℕ). (m < length (compositions_of day)) × (composition_at day m ≡ ms)) k (slice_get_within (compositions_of day) comp ms at, here),
      λ there.
          ap (λ (m : ℕ). Some m)
          (same_place (compositions_of day) (catalogue_listed day.types (greatest_platform day)).listed.in_order comp n ms at (at_number day n there.0 ∙ ap (λ (xs : List ℕ). Some xs) there.1)),
    )

pub runs_long : (day : Day) (t : ℕ) (runs : List Bool) → runs ≡ runs_on day t → length runs ≡ length (compositions_of day)
runs_long day t runs is = ap length is ∙ length-map (compositions_of day) (is_admissible day t)

-- one composition more
pub more_runs : (day : Day) (t comp : ℕ) (runs : List Bool) (b : Bool) → comp < length (compositions_of day) → runs ≡ map (is_admissible day t) (take comp (compositions_of day)) → b ≡ is_admissible day t (composition_at day comp)
    → runs ++ b ∷ [] ≡ map (is_admissible day t) (take (comp + 1) (compositions_of day))
more_runs day t comp runs b below so_far is =
    let last : composition_at day comp ≡ get_or (compositions_of day) comp [] = unwrap_or-slice_get (compositions_of day) comp [] in
    ap (λ (rs : List Bool). rs ++ b ∷ []) so_far ∙ ap (λ (x : Bool). map (is_admissible day t) (take comp (compositions_of day)) ++ x ∷ []) is
    ∙ sym (map_push (is_admissible day t) (take comp (compositions_of day)) (composition_at day comp))
    ∙ ap (map (is_admissible day t)) (ap (λ (ms : List ℕ). take comp (compositions_of day) ++ ms ∷ []) last ∙ sym (take_more (compositions_of day) comp [] below))

-- the number of a composition that may run on the trip
pub number_runs : (day : Day) (t comp : ℕ) (ms : List ℕ) (o : Option ℕ) (may : Bool) → ((n : ℕ) → (o ≡ Some n) ↔ ((n < length (compositions_of day)) × (composition_at day n ≡ ms))) → o ≡ Some comp
    → (IsTrue may ↔ IsAdmittedComp day t comp) → IsTrue may → (n : ℕ) → (Some comp ≡ Some n) ↔ (IsAdmittedComp day t n × (composition_at day n ≡ ms))
number_runs day t comp ms o may is found runs told n = (
  λ e. let k : comp ≡ n = cc in subst (λ (m : ℕ). IsAdmittedComp day t m × (composition_at day m ≡ ms)) k (runs.0 told, ((is comp).0 found).1),
  λ there. sym found ∙ (is n).1 (there.0.listed, there.1),
)

pub number_missing : (day : Day) (t : ℕ) (ms : List ℕ) (o : Option ℕ) → ((n : ℕ) → (o ≡ Some n) ↔ ((n < length (compositions_of day)) × (composition_at day n ≡ ms))) → o ≡ None
    → (n : ℕ) → (None ≡ Some n) ↔ (IsAdmittedComp day t n × (composition_at day n ≡ ms))
number_missing day t ms o is missing n = (λ e. absurd cc, λ there. let e : None ≡ Some n = sym missing ∙ (is n).1 (there.0.listed, there.1) in absurd cc)

pub number_stays : (day : Day) (t comp : ℕ) (ms : List ℕ) (o : Option ℕ) → ((n : ℕ) → (o ≡ Some n) ↔ ((n < length (compositions_of day)) × (composition_at day n ≡ ms))) → o ≡ Some comp
    → (IsAdmittedComp day t comp → ⊥) → (n : ℕ) → (None ≡ Some n) ↔ (IsAdmittedComp day t n × (composition_at day n ≡ ms))
number_stays day t comp ms o is found stays n = (
  λ e. absurd cc,
  λ there.
      let e : Some comp ≡ Some n = sym found ∙ (is n).1 (there.0.listed, there.1) in
      let same : n ≡ comp = cc in
      absurd (stays (subst (λ (m : ℕ). IsAdmittedComp day t m) same there.0)),
)

-- a composition that may run has a unit
pub some_unit : (day : Day) (t comp : ℕ) → IsAdmittedComp day t comp → 1 ≤ length (composition_at day comp)
unfolding is_admissible
some_unit day t comp runs = leb-true 1 (length (composition_at day comp)) (and_parts _ _ (and_parts _ _ (and_parts _ _ (and_parts _ _ runs.admissible).0).0).0).0
