-- As many units of each type stand at each station as the fleet has there.
use Rattle.std.proofs.Common.{◌≡◌, ◌∙◌, ℕ, zero, suc, ◌+◌, ◌*◌, ◌/◌, ◌%◌, List, [], ◌∷◌, length, refl, sym, ap, arith}
use Rattle.std.proofs.Common.{true, inl, inr}
use Rattle.std.specs.Prelude.{◌==◌, ◌&&◌, if◌then◌else◌, slice_index}
use Rattle.std.proofs.lemmas.Bool.{cases_Bool, and_parts, eqb-true, eq-eqb, cond-true, cond-false}
use Rattle.std.proofs.lemmas.Nat.{div-mul-add, mod-mul-add}
use Rattle.timetable.specs.Day.{wanted_in, wanted_of}
use Rattle.timetable.specs.Starts.{start_in, start_of}
use Rattle.fleets.specs.Fleets.{stock_from}
use Rattle.fleets.specs.Laws.{FleetsStand}
use Rattle.fleets.proofs.Places.{one_place}

-- what is wanted at the end is what stands there at the start
pub wanted_is : (types place s m : ℕ) (fleet : List ℕ) → wanted_in (stock_from types place fleet) s m ≡ start_in (stock_from types place fleet) s m
wanted_is types place s m [] = refl
wanted_is types place s m (n ∷ fleet) =
    ap (λ (rest : ℕ). if ((place / types) == s) && ((place % types) == m) then n else rest) (wanted_is types (place + 1) s m fleet)

-- the place of the station and the type is so many after the first
start_is : (types place k s m : ℕ) (fleet : List ℕ) → (place + k) / types ≡ s → (place + k) % types ≡ m → start_in (stock_from types place fleet) s m ≡ slice_index fleet k
start_is types place k s m [] station unit_type = refl
start_is types place zero s m (n ∷ fleet) station unit_type =
    let row : place ≡ place + zero = omega arith in
    let here : (((place / types) == s) && ((place % types) == m)) ≡ true =
    (λ i. eq-eqb (place / types) s (ap (λ k. k / types) row ∙ station) i && ((place % types) == m))
    ∙ eq-eqb (place % types) m (ap (λ k. k % types) row ∙ unit_type) in
    cond-true {A = ℕ} (((place / types) == s) && ((place % types) == m)) n (start_in (stock_from types (place + 1) fleet) s m) here
start_is types place (suc k) s m (n ∷ fleet) station unit_type =
    let next : place + 1 + k ≡ place + suc k = omega arith in
    let rest = start_is types (place + 1) k s m fleet (ap (λ j. j / types) next ∙ station) (ap (λ j. j % types) next ∙ unit_type) in
    elim (cases_Bool (((place / types) == s) && ((place % types) == m))) [
      | inl here ↦
          let both = and_parts ((place / types) == s) ((place % types) == m) here in
          let same : place ≡ place + suc k = one_place types place (place + suc k) (eqb-true (place / types) s both.0 ∙ sym station) (eqb-true (place % types) m both.1 ∙ sym unit_type) in
          absurd (omega arith)
      | inr isnt ↦ cond-false {A = ℕ} (((place / types) == s) && ((place % types) == m)) n (start_in (stock_from types (place + 1) fleet) s m) isnt ∙ rest
    ]

pub fleets_stand : FleetsStand
unfolding start_of wanted_of
fleets_stand day fleet s m fits station unit_type =
    let types : ℕ = length day.types in
    let first : 0 + (s * types + m) ≡ s * types + m = omega arith in
    let at : start_in (stock_from types 0 fleet) s m ≡ slice_index fleet (s * types + m) =
    start_is types 0 (s * types + m) s m fleet (ap (λ k. k / types) first ∙ div-mul-add s types m unit_type) (ap (λ k. k % types) first ∙ mod-mul-add s types m unit_type) in
    record { at_start = at; at_end = wanted_is types 0 s m fleet ∙ at }
