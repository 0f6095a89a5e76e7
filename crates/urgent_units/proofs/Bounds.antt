-- Bounds on moments: the minutes of a station rise below a bound, so they are no more than it.
use Rattle.std.proofs.Common.{ℕ, ◌+◌, ◌≤◌, ◌<◌, Bool, true, false, List, [], ◌∷◌, length, sym, subst, arith, inl, inr}
use Rattle.std.specs.Prelude.{if◌then◌else◌, ◌==◌, nat_lt}
use Rattle.std.specs.List.{All, flat_map}
use Rattle.std.proofs.lemmas.Bool.{cases_Bool, cond-true, cond-false}
use Rattle.std.proofs.lemmas.List.Elements.{All-nil, All-cons, All-head, All-tail, All-append}
use Rattle.timetable.specs.Minutes.{inserted}
use Rattle.urgent_units.specs.declared.legs.Leg.{Leg}
use Rattle.urgent_units.specs.declared.legs.UnitLegs.{UnitLegs}
use Rattle.urgent_units.specs.Legs.{TypeLegs, all_legs}
use Rattle.urgent_units.specs.Moments.{minutes_at, with_legs, with_return}
use Rattle.urgent_units.proofs.EventMinutes.{minutes_rise}
use Rattle.urgent_units.proofs.Moments.{Rise}

-- numbers that rise from one below another are no more than lie between
rise_few : (over n : ℕ) (ms : List ℕ) → Rise over ms → All (λ m. m < n) ms → over ≤ n → length ms + over ≤ n
rise_few over n [] rise below le = omega (arith, le)
rise_few over n (m ∷ ms) rise below le =
    let first = All-head (λ (m : ℕ). m < n) m ms below in
    let rest = rise_few (m + 1) n ms rise.1 (All-tail (λ (m : ℕ). m < n) m ms below) (omega (arith, first)) in
    omega (arith, rise.0, rest)

inserted_below : (n m : ℕ) (ks : List ℕ) → m < n → All (λ k. k < n) ks → All (λ k. k < n) (inserted m ks)
inserted_below n m [] here below = All-cons (λ (k : ℕ). k < n) m [] here (All-nil (λ (k : ℕ). k < n))
inserted_below n m (k ∷ ks) here below = elim (cases_Bool (nat_lt k m)) [
  | inl lower ↦
      subst (λ (l : List ℕ). All (λ k. k < n) l) (sym (cond-true (nat_lt k m) (k ∷ inserted m ks) (if k == m then k ∷ ks else m ∷ k ∷ ks) lower))
      (All-cons (λ (k : ℕ). k < n) k (inserted m ks) (All-head (λ (k : ℕ). k < n) k ks below) (inserted_below n m ks here (All-tail (λ (k : ℕ). k < n) k ks below)))
  | inr not_lower ↦ subst (λ (l : List ℕ). All (λ k. k < n) l) (sym (cond-false (nat_lt k m) (k ∷ inserted m ks) (if k == m then k ∷ ks else m ∷ k ∷ ks) not_lower)) (elim (cases_Bool (k == m)) [
    | inl same ↦ subst (λ (l : List ℕ). All (λ k. k < n) l) (sym (cond-true (k == m) (k ∷ ks) (m ∷ k ∷ ks) same)) below
    | inr differs ↦ subst (λ (l : List ℕ). All (λ k. k < n) l) (sym (cond-false (k == m) (k ∷ ks) (m ∷ k ∷ ks) differs)) (All-cons (λ (k : ℕ). k < n) m (k ∷ ks) here below)
  ])
]

when_below : (n m : ℕ) (b : Bool) (ks : List ℕ) → m < n → All (λ k. k < n) ks → All (λ k. k < n) (if b then inserted m ks else ks)
when_below n m true ks here below = inserted_below n m ks here below
when_below n m false ks here below = below

-- legs leave and are ready before a minute
abbrev pub AreBefore : ℕ → List Leg → Type 0
AreBefore n legs = All (λ leg. (leg.departs < n) × (leg.ready < n)) legs

with_legs_below : (n s : ℕ) (legs : List Leg) → AreBefore n legs → All (λ k. k < n) (with_legs s legs [])
with_legs_below n s [] before = All-nil (λ (k : ℕ). k < n)
with_legs_below n s (leg ∷ legs) before =
    let first = All-head (λ (leg : Leg). (leg.departs < n) × (leg.ready < n)) leg legs before in
    when_below n leg.departs (leg.from == s) (with_return s leg (with_legs s legs [])) first.0
    (when_below n leg.ready (leg.to == s) (with_legs s legs []) first.1 (with_legs_below n s legs (All-tail (λ (leg : Leg). (leg.departs < n) × (leg.ready < n)) leg legs before)))

all_before : (n : ℕ) (units : List UnitLegs) → All (λ unit. AreBefore n unit.legs) units → AreBefore n (flat_map (λ unit. unit.legs) units)
all_before n [] before = All-nil (λ (leg : Leg). (leg.departs < n) × (leg.ready < n))
all_before n (unit ∷ units) before =
    All-append (λ (leg : Leg). (leg.departs < n) × (leg.ready < n)) unit.legs (flat_map (λ unit. unit.legs) units) (All-head (λ (unit : UnitLegs). AreBefore n unit.legs) unit units before)
    (all_before n units (All-tail (λ (unit : UnitLegs). AreBefore n unit.legs) unit units before))

-- a station has no more minutes than there are before the end
pub few_minutes : (legs : TypeLegs) (s n : ℕ) → All (λ unit. AreBefore n unit.legs) legs.units → length (minutes_at legs s) ≤ n
unfolding minutes_at
few_minutes legs s n before =
    let few = rise_few 0 n (minutes_at legs s) (minutes_rise legs s) (with_legs_below n s (all_legs legs) (all_before n legs.units before)) (omega arith) in
    omega (arith, few)
