-- Sums over the units of a composition.
use Rattle.std.proofs.Common.{◌≡◌, ℕ, ◌+◌, ◌<◌, ◌≤◌, Bool, true, ltb, List, [], ◌∷◌, ◌++◌, take, get_or, length}
use Rattle.std.proofs.Common.{count_by, Option, Some, unwrap_or, refl, ap, ◌∙◌, sym, subst, arith, slice_get}
use Rattle.std.specs.Prelude.{option_map}
use Rattle.std.specs.List.{list_all}
use Rattle.std.proofs.lemmas.List.{take_more}
use Rattle.std.proofs.lemmas.List.Elements.{All-get_or}
use Rattle.std.proofs.lemmas.List.Sums.{AllPass-from_list_all, count_by-le-length}
use Rattle.std.proofs.lemmas.Bool.{ltb-true, leb-true, and_parts}
use Rattle.rail_base.specs.declared.limits.TheConstants.{MAX_CARRIAGES, MAX_FIRST_SEATS, MAX_METRES, MAX_SEATS}
use Rattle.rules.specs.declared.records.UnitType.{UnitType}
use Rattle.compositions.specs.declared.composition.Measure.{Measure}
use Rattle.compositions.specs.declared.composition.Measure.TheVariants.{Carriages, Seats, FirstSeats, Metres}
use Rattle.compositions.specs.Composition.{of_type, sum_over}
use Rattle.compositions.specs.Measure.{measure_of}
use Rattle.compositions.specs.UnitTypes.{is_up_to, is_within_limits}

-- one more unit at the rear
pub sum_over_push : (f : UnitType → ℕ) (types : List UnitType) (ms : List ℕ) (m : ℕ) → sum_over f types (ms ++ m ∷ []) ≡ sum_over f types ms + of_type f types m
sum_over_push f types [] m = omega arith
sum_over_push f types (k ∷ ms) m = omega (arith, sum_over_push f types ms m)

-- one more unit in a loop over the units
pub sum_over_more : (f : UnitType → ℕ) (types : List UnitType) (ms : List ℕ) (i m : ℕ) (t : UnitType)
    → i < length ms → m ≡ get_or ms i m → slice_get types m ≡ Some t
    → sum_over f types (take (i + 1) ms) ≡ sum_over f types (take i ms) + f t
sum_over_more f types ms i m t below is_m is_t =
    let e : take (i + 1) ms ≡ take i ms ++ m ∷ [] = rw (take_more ms i m below, ← is_m) refl in
    let e2 : of_type f types m ≡ f t = ap (λ (o : Option UnitType). unwrap_or (option_map f o) 0) is_t in
    rw e (sum_over_push f types (take i ms) m ∙ ap (λ (n : ℕ). sum_over f types (take i ms) + n) e2)

-- the type of a unit is in the list of types
pub is_type_at : (types : List UnitType) (ms : List ℕ) (i m : ℕ) → list_all (λ k. ltb k (length types)) ms ≡ true → i < length ms → m ≡ get_or ms i m → m < length types
is_type_at types ms i m known below is_m =
    ltb-true m (length types) (subst (λ (k : ℕ). ltb k (length types) ≡ true) (sym is_m)
    (All-get_or (λ k. ltb k (length types) ≡ true) ms i m below (AllPass-from_list_all (λ k. ltb k (length types)) ms known)))

up_to : (limit n : ℕ) → is_up_to limit n ≡ true → n ≤ limit
up_to limit n h = leb-true n limit (and_parts _ _ h).1

-- a measure of a type within the limits
pub measure_le : (m : Measure) (t : UnitType) → is_within_limits t ≡ true → measure_of m t ≤ MAX_SEATS
measure_le m t h =
    let (rest, first) = and_parts _ _ h in
    let (others, metres) = and_parts _ _ rest in
    let (carriages, seats) = and_parts _ _ others in
    at_most m (up_to MAX_CARRIAGES t.carriages carriages) (up_to MAX_SEATS t.seats seats) (leb-true t.first MAX_FIRST_SEATS first) (up_to MAX_METRES t.metres metres)
  where
    at_most : (m : Measure) → t.carriages ≤ MAX_CARRIAGES → t.seats ≤ MAX_SEATS → t.first ≤ MAX_FIRST_SEATS → t.metres ≤ MAX_METRES → measure_of m t ≤ MAX_SEATS
    at_most Carriages carriages seats first metres = omega arith
    at_most Seats carriages seats first metres = omega arith
    at_most FirstSeats carriages seats first metres = omega arith
    at_most Metres carriages seats first metres = omega arith

-- the facts that a sum over the units rests on
pub ruleset sums = (sum_over_more, is_type_at)

-- a composition has at most six units of a type
pub few_count : (p : ℕ → Bool) (ms : List ℕ) (n : ℕ) → n ≡ count_by p ms → length ms ≤ 6 → n ≤ 6
few_count p ms n e few = omega (arith, count_by-le-length p ms)
