-- The steps of the building of a catalogue.
use Rattle.std.proofs.Common.{◌≡◌, ℕ, suc, ◌+◌, ◌<◌, Bool, List, [], ◌∷◌, ◌++◌, get_or, length, ap, ◌∙◌, sym, subst}
use Rattle.std.proofs.Common.{append_assoc, arith}
use Rattle.rules.specs.declared.records.UnitType.{UnitType}
use Rattle.compositions.specs.Catalogue.{FitInOrder, catalogue_of}
use Rattle.compositions.proofs.Listing.{catalogue_listed}
use Rattle.compositions.specs.Composition.{fits_in}
use Rattle.compositions.specs.Extensions.{where_it_fits, extensions}
use Rattle.compositions.proofs.Growth.{Grown, grown_start, grown_more}
use Rattle.compositions.proofs.Fitting.{more_found, singles_found, not_more}

-- the refusal at one type of a front is a refusal among its extensions
pub one_type_more : (fits : List ℕ → Bool) (before list : List (List ℕ)) (front : List ℕ) (n : ℕ)
    → list ≡ before ++ extensions fits n front
    → 1000 < length (list ++ where_it_fits fits (front ++ n ∷ [])) → 1000 < length (before ++ extensions fits (suc n) front)
one_type_more fits before list front n is more =
    let same : list ++ where_it_fits fits (front ++ n ∷ []) ≡ before ++ extensions fits (suc n) front =
    ap (λ (l : List (List ℕ)). l ++ where_it_fits fits (front ++ n ∷ [])) is
    ∙ append_assoc before (extensions fits n front) (where_it_fits fits (front ++ n ∷ [])) in
    subst (λ (l : List (List ℕ)). 1000 < length l) same more

-- where more than so many fit and are in order, the catalogue has more
in_catalogue : (types : List UnitType) (longest n : ℕ) (some : List (List ℕ)) → FitInOrder types longest some → n < length some → n < length (catalogue_of types longest)
in_catalogue types longest n some f more =
    omega (arith, not_more types longest (catalogue_of types longest) some (catalogue_listed types longest) f)

module _ (types : List UnitType) (longest : ℕ) where
  pub first_grown : (none list : List (List ℕ)) → none ≡ [] → list ≡ none ++ extensions (fits_in types longest) (length types) []
      → Grown (fits_in types longest) (length types) list 0
  first_grown none list empty is =
      let same : list ≡ extensions (fits_in types longest) (length types) [] =
      is ∙ ap (λ (l : List (List ℕ)). l ++ extensions (fits_in types longest) (length types) []) empty in
      subst (λ (l : List (List ℕ)). Grown (fits_in types longest) (length types) l 0) (sym same) (grown_start (fits_in types longest) (length types))

  pub next_grown : (list longer : List (List ℕ)) (at : ℕ) (next : List ℕ) → Grown (fits_in types longest) (length types) list at → at < length list
      → next ≡ get_or list at next → longer ≡ list ++ extensions (fits_in types longest) (length types) next
      → Grown (fits_in types longest) (length types) longer (at + 1)
  next_grown list longer at next g below is_next is =
      subst (λ (l : List (List ℕ)). Grown (fits_in types longest) (length types) l (at + 1)) (sym is)
      (grown_more (fits_in types longest) (length types) list at next g below is_next)

  pub first_too_many : (none : List (List ℕ)) → none ≡ [] → (k : ℕ) × (1000 < length (none ++ extensions (fits_in types longest) k [])) → 1000 < length (catalogue_of types longest)
  first_too_many none empty more =
      in_catalogue types longest 1000 (extensions (fits_in types longest) more.0 []) (singles_found types longest more.0)
      (subst (λ (l : List (List ℕ)). 1000 < length (l ++ extensions (fits_in types longest) more.0 [])) empty more.1)

  pub next_too_many : (list : List (List ℕ)) (at : ℕ) (next : List ℕ) → Grown (fits_in types longest) (length types) list at → at < length list
      → next ≡ get_or list at next → (k : ℕ) × (1000 < length (list ++ extensions (fits_in types longest) k next)) → 1000 < length (catalogue_of types longest)
  next_too_many list at next g below is_next more =
      in_catalogue types longest 1000 (list ++ extensions (fits_in types longest) more.0 next) (more_found types longest list at next more.0 g below is_next) more.1

-- the front that is made longer is the next of the list
pub next_is : (list : List (List ℕ)) (at : ℕ) (next front : List ℕ) → front ≡ next → next ≡ get_or list at next → front ≡ get_or list at front
next_is list at next front same is = subst (λ (l : List ℕ). l ≡ get_or list at l) (sym same) is
