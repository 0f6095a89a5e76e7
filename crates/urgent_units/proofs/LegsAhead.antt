-- Legs behind a unit and legs ahead of it, at a minute.
use Rattle.std.proofs.Common.{◌≡◌, ℕ, ◌+◌, ◌≤◌, ◌<◌, List, [], ◌∷◌, ◌++◌, map, refl, ap, ◌∙◌, arith, Some, drop}
use Rattle.std.specs.Prelude.{nat_lt, not, slice_get}
use Rattle.std.specs.List.{All}
use Rattle.std.proofs.lemmas.Bool.{cond-true, cond-false, lt-ltb, le-ltb}
use Rattle.std.proofs.lemmas.List.Elements.{All-nil, All-cons, All-head, All-tail, All-append}
use Rattle.urgent_units.specs.declared.legs.Leg.{Leg}
use Rattle.urgent_units.specs.declared.swaps.MarkedLeg.{MarkedLeg}
use Rattle.urgent_units.specs.Exchanges.{legs_before, legs_from}
use Rattle.urgent_units.specs.Legs.{end_of}
use Rattle.urgent_units.specs.UnderWay.{NoneBefore}
use Rattle.urgent_units.proofs.Crossing.{InTurn}

abbrev pub legs_in : List MarkedLeg → List Leg
legs_in legs = map (λ x. x.leg) legs

-- the first of them is next
pub next_is : (legs : List MarkedLeg) (marked : MarkedLeg) → slice_get legs 0 ≡ Some marked → legs ≡ marked ∷ drop 1 legs
next_is [] marked is = absurd cc
next_is (x ∷ legs) marked is = (let same : x ≡ marked = cc in ap (λ (y : MarkedLeg). y ∷ legs) same)

-- what is ahead leaves in turn too, from where what is behind ends
pub record AheadTurn (at : ℕ) (behind ahead : List Leg) : Type 0 where
  pub since : ℕ
  pub turn : InTurn (end_of at behind) since ahead

pub ahead_turn : (behind ahead : List Leg) (at since : ℕ) → InTurn at since (behind ++ ahead) → AheadTurn at behind ahead
ahead_turn [] ahead at since turn = record { since = since; turn = turn }
ahead_turn (leg ∷ behind) ahead at since turn = (let rest = ahead_turn behind ahead leg.to (leg.ready + 1) turn.3 in record { since = rest.since; turn = rest.turn })

-- the first leaves first
pub all_later : (minute : ℕ) (legs : List MarkedLeg) (at since : ℕ) → InTurn at since (legs_in legs) → NoneBefore minute legs → All (λ leg. minute ≤ leg.departs) (legs_in legs)
all_later minute [] at since turn none = All-nil (λ (leg : Leg). minute ≤ leg.departs)
all_later minute (x ∷ []) at since turn none = All-cons (λ (leg : Leg). minute ≤ leg.departs) x.leg [] none (All-nil (λ (leg : Leg). minute ≤ leg.departs))
all_later minute (x ∷ y ∷ legs) at since turn none =
    All-cons (λ (leg : Leg). minute ≤ leg.departs) x.leg (legs_in (y ∷ legs)) none
    (all_later minute (y ∷ legs) x.leg.to (x.leg.ready + 1) turn.3 (let next = turn.3.1 in let takes = turn.2 in omega (arith, none, next, takes)))

-- what is back by the minute has left before it
pub all_gone : (minute : ℕ) (behind ahead : List Leg) (at since : ℕ) → InTurn at since (behind ++ ahead) → All (λ leg. leg.ready ≤ minute) behind → All (λ leg. leg.departs < minute) behind
all_gone minute [] ahead at since turn back = All-nil (λ (leg : Leg). leg.departs < minute)
all_gone minute (leg ∷ behind) ahead at since turn back =
    let here = All-head (λ (leg : Leg). leg.ready ≤ minute) leg behind back in
    All-cons (λ (leg : Leg). leg.departs < minute) leg behind (let takes = turn.2 in omega (arith, here, takes))
    (all_gone minute behind ahead leg.to (leg.ready + 1) turn.3 (All-tail (λ (leg : Leg). leg.ready ≤ minute) leg behind back))

none_before : (minute : ℕ) (ahead : List Leg) → All (λ leg. minute ≤ leg.departs) ahead → legs_before minute ahead ≡ []
none_before minute [] later = refl
none_before minute (leg ∷ ahead) later =
    cond-false (nat_lt leg.departs minute) (leg ∷ legs_before minute ahead) (legs_before minute ahead) (le-ltb leg.departs minute (All-head (λ (leg : Leg). minute ≤ leg.departs) leg ahead later))
    ∙ none_before minute ahead (All-tail (λ (leg : Leg). minute ≤ leg.departs) leg ahead later)

all_from : (minute : ℕ) (ahead : List Leg) → All (λ leg. minute ≤ leg.departs) ahead → legs_from minute ahead ≡ ahead
all_from minute [] later = refl
all_from minute (leg ∷ ahead) later =
    cond-true (not (nat_lt leg.departs minute)) (leg ∷ legs_from minute ahead) (legs_from minute ahead) (ap not (le-ltb leg.departs minute (All-head (λ (leg : Leg). minute ≤ leg.departs) leg ahead later)))
    ∙ ap (λ (xs : List Leg). leg ∷ xs) (all_from minute ahead (All-tail (λ (leg : Leg). minute ≤ leg.departs) leg ahead later))

pub before_parts : (minute : ℕ) (behind ahead : List Leg) → All (λ leg. leg.departs < minute) behind → All (λ leg. minute ≤ leg.departs) ahead → legs_before minute (behind ++ ahead) ≡ behind
before_parts minute [] ahead gone later = none_before minute ahead later
before_parts minute (leg ∷ behind) ahead gone later =
    cond-true (nat_lt leg.departs minute) (leg ∷ legs_before minute (behind ++ ahead)) (legs_before minute (behind ++ ahead)) (lt-ltb leg.departs minute (All-head (λ (leg : Leg). leg.departs < minute) leg behind gone))
    ∙ ap (λ (xs : List Leg). leg ∷ xs) (before_parts minute behind ahead (All-tail (λ (leg : Leg). leg.departs < minute) leg behind gone) later)

pub from_parts : (minute : ℕ) (behind ahead : List Leg) → All (λ leg. leg.departs < minute) behind → All (λ leg. minute ≤ leg.departs) ahead → legs_from minute (behind ++ ahead) ≡ ahead
from_parts minute [] ahead gone later = all_from minute ahead later
from_parts minute (leg ∷ behind) ahead gone later =
    cond-false (not (nat_lt leg.departs minute)) (leg ∷ legs_from minute (behind ++ ahead)) (legs_from minute (behind ++ ahead)) (ap not (lt-ltb leg.departs minute (All-head (λ (leg : Leg). leg.departs < minute) leg behind gone)))
    ∙ from_parts minute behind ahead (All-tail (λ (leg : Leg). leg.departs < minute) leg behind gone) later

-- each leg that has left before the minute is back at it
pub all_back : (minute : ℕ) (behind ahead : List Leg) → All (λ leg. leg.ready ≤ minute) behind → All (λ leg. minute ≤ leg.departs) ahead → All (λ leg. leg.departs < minute → leg.ready ≤ minute) (behind ++ ahead)
all_back minute behind ahead back later =
    All-append (λ (leg : Leg). leg.departs < minute → leg.ready ≤ minute) behind ahead (λ k d below left. back k d below) (λ k d below left. absurd (let here = later k d below in omega (arith, here, left)))

-- each leg ahead is ready after the minute
pub all_ready_later : (minute : ℕ) (legs : List MarkedLeg) (at since : ℕ) → InTurn at since (legs_in legs) → NoneBefore minute legs → All (λ x. minute < x.leg.ready) legs
all_ready_later minute [] at since turn none = All-nil (λ (x : MarkedLeg). minute < x.leg.ready)
all_ready_later minute (x ∷ []) at since turn none =
    All-cons (λ (x : MarkedLeg). minute < x.leg.ready) x [] (let takes = turn.2 in omega (arith, none, takes)) (All-nil (λ (x : MarkedLeg). minute < x.leg.ready))
all_ready_later minute (x ∷ y ∷ legs) at since turn none =
    All-cons (λ (x : MarkedLeg). minute < x.leg.ready) x (y ∷ legs) (let takes = turn.2 in omega (arith, none, takes))
    (all_ready_later minute (y ∷ legs) x.leg.to (x.leg.ready + 1) turn.3 (let next = turn.3.1 in let takes = turn.2 in omega (arith, none, next, takes)))
