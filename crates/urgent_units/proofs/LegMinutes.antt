-- Minutes that are put among minutes, leg by leg.
use Rattle.std.proofs.Common.{◌≡◌, ℕ, suc, ◌+◌, ◌≤◌, ◌<◌, Bool, true, false, List, [], ◌∷◌, ◌++◌, length, drop, map, refl, sym, ap, ◌∙◌, arith, get_or}
use Rattle.std.specs.Prelude.{◌==◌, filter}
use Rattle.std.specs.List.{All, AllPairs, flat_map}
use Rattle.std.proofs.Math.Seq.{drop-cons}
use Rattle.std.proofs.lemmas.Bool.{cond-true, cond-false, eq-eqb, eqb-true}
use Rattle.std.proofs.lemmas.List.{append-nil, map-append}
use Rattle.std.proofs.lemmas.List.Elements.{All-nil, All-cons, All-head, filter-append}
use Rattle.std.proofs.lemmas.List.Kept.{AllPairs-cons}
use Rattle.timetable.specs.Day.{Day, type_of}
use Rattle.timetable.specs.Lists.{below}
use Rattle.urgent_units.specs.declared.legs.Leg.{Leg}
use Rattle.urgent_units.specs.declared.legs.UnitLegs.{UnitLegs}
use Rattle.urgent_units.specs.Legs.{unit_legs}
use Rattle.urgent_units.specs.Moments.{with_legs, with_departure, with_return}
use Rattle.urgent_units.proofs.Moments.{Rise}

-- ---- minutes that rise

all_from : (over : ℕ) (ms : List ℕ) → Rise over ms → All (λ m. over ≤ m) ms
all_from over [] rise = All-nil (λ (m : ℕ). over ≤ m)
all_from over (k ∷ ms) rise = All-cons (λ (m : ℕ). over ≤ m) k ms rise.0 (λ i d below. (let le = all_from (k + 1) ms rise.1 i d below in let first = rise.0 in omega (arith, le, first)))

pub pairs_of_rise : (over : ℕ) (ms : List ℕ) → Rise over ms → AllPairs (λ a b. a < b) ms
pairs_of_rise over [] rise = λ i j d before under. absurd (omega (arith, under))
pairs_of_rise over (k ∷ ms) rise = AllPairs-cons (λ (a b : ℕ). a < b) k ms (λ i d below. (let le = all_from (k + 1) ms rise.1 i d below in omega (arith, le))) (pairs_of_rise (k + 1) ms rise.1)

pub rise_of_pairs : (over : ℕ) (ms : List ℕ) → AllPairs (λ a b. a < b) ms → All (λ m. over ≤ m) ms → Rise over ms
rise_of_pairs over [] pairs from = tt
rise_of_pairs over (k ∷ ms) pairs from = (
  All-head (λ (m : ℕ). over ≤ m) k ms from,
  rise_of_pairs (k + 1) ms (λ i j d before below. pairs (suc i) (suc j) d (omega (arith, before)) (omega (arith, below))) (λ i d below. (let less = pairs 0 (suc i) d (omega arith) (omega (arith, below)) in omega (arith, less))),
)

pub pairs_rise : (ms : List ℕ) → AllPairs (λ a b. a < b) ms → Rise 0 ms
pairs_rise ms pairs = rise_of_pairs 0 ms pairs (λ i d below. omega arith)

-- ---- legs one behind another

pub with_legs-append : (s : ℕ) (xs ys : List Leg) (ms : List ℕ) → with_legs s (xs ++ ys) ms ≡ with_legs s xs (with_legs s ys ms)
with_legs-append s [] ys ms = refl
with_legs-append s (leg ∷ xs) ys ms = ap (λ (ks : List ℕ). with_departure s leg (with_return s leg ks)) (with_legs-append s xs ys ms)

-- from the legs of one unit on
pub units_from_place : (s : ℕ) (units : List UnitLegs) (n : ℕ) (unit : UnitLegs) → n < length units → unit ≡ get_or units n unit
    → with_legs s (flat_map (λ unit. unit.legs) (drop n units)) [] ≡ with_legs s unit.legs (with_legs s (flat_map (λ unit. unit.legs) (drop (suc n) units)) [])
units_from_place s units n unit below is =
    ap (λ (us : List UnitLegs). with_legs s (flat_map (λ unit. unit.legs) us) []) (drop-cons units n unit below)
    ∙ with_legs-append s (get_or units n unit).legs (flat_map (λ unit. unit.legs) (drop (suc n) units)) []
    ∙ ap (λ (u : UnitLegs). with_legs s u.legs (with_legs s (flat_map (λ unit. unit.legs) (drop (suc n) units)) [])) (sym is)

-- ---- units one behind another

one_unit_more : (day : Day) (plan : List (List ℕ)) (m n : ℕ) → type_of day n ≡ m
    → map (unit_legs day plan) (filter (λ u. type_of day u == m) (below (n + 1))) ≡ map (unit_legs day plan) (filter (λ u. type_of day u == m) (below n)) ++ unit_legs day plan n ∷ []
one_unit_more day plan m n is =
    let next : n + 1 ≡ suc n = omega arith in
    ap (λ (k : ℕ). map (unit_legs day plan) (filter (λ u. type_of day u == m) (below k))) next
    ∙ ap (map (unit_legs day plan)) (filter-append (λ u. type_of day u == m) (below n) (n ∷ []) ∙ ap (λ (us : List ℕ). filter (λ u. type_of day u == m) (below n) ++ us) (cond-true (type_of day n == m) (n ∷ []) [] (eq-eqb (type_of day n) m is)))
    ∙ map-append (unit_legs day plan) (filter (λ u. type_of day u == m) (below n)) (n ∷ [])

other_unit : (day : Day) (plan : List (List ℕ)) (m n : ℕ) → (type_of day n == m) ≡ false
    → map (unit_legs day plan) (filter (λ u. type_of day u == m) (below (n + 1))) ≡ map (unit_legs day plan) (filter (λ u. type_of day u == m) (below n))
other_unit day plan m n isnt =
    let next : n + 1 ≡ suc n = omega arith in
    ap (λ (k : ℕ). map (unit_legs day plan) (filter (λ u. type_of day u == m) (below k))) next
    ∙ ap (map (unit_legs day plan)) (filter-append (λ u. type_of day u == m) (below n) (n ∷ []) ∙ ap (λ (us : List ℕ). filter (λ u. type_of day u == m) (below n) ++ us) (cond-false (type_of day n == m) (n ∷ []) [] isnt)
    ∙ append-nil (filter (λ u. type_of day u == m) (below n)))

-- a unit of the type is put behind those of before
pub unit_put : (day : Day) (plan : List (List ℕ)) (m n : ℕ) (is : Bool) (old new : List UnitLegs) (x : UnitLegs) → is ≡ (type_of day n == m) → is ≡ true
    → old ≡ map (unit_legs day plan) (filter (λ u. type_of day u == m) (below n)) → new ≡ old ++ x ∷ [] → x ≡ unit_legs day plan n
    → new ≡ map (unit_legs day plan) (filter (λ u. type_of day u == m) (below (n + 1)))
unit_put day plan m n is old new x same yes_it_is old_are new_are x_is =
    new_are ∙ ap (λ (us : List UnitLegs). us ++ x ∷ []) old_are ∙ ap (λ (y : UnitLegs). map (unit_legs day plan) (filter (λ u. type_of day u == m) (below n)) ++ y ∷ []) x_is
    ∙ sym (one_unit_more day plan m n (eqb-true (type_of day n) m (sym same ∙ yes_it_is)))

-- another is left out
pub unit_left : (day : Day) (plan : List (List ℕ)) (m n : ℕ) (is : Bool) (old new : List UnitLegs) → is ≡ (type_of day n == m) → is ≡ false
    → old ≡ map (unit_legs day plan) (filter (λ u. type_of day u == m) (below n)) → new ≡ old → new ≡ map (unit_legs day plan) (filter (λ u. type_of day u == m) (below (n + 1)))
unit_left day plan m n is old new same isnt old_are new_are = new_are ∙ old_are ∙ sym (other_unit day plan m n (sym same ∙ isnt))
