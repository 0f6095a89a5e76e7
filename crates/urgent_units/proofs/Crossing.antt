-- A unit that begins in a cut and ends outside of it crosses it: along a leg, or while it is held.
use Rattle.std.proofs.Common.{◌≡◌, ℕ, zero, suc, ◌+◌, ◌-◌, ◌≤◌, ◌<◌, Bool, true, false, List, [], ◌∷◌, length, refl, sym, ap, ◌∙◌, subst, arith, inl, inr}
use Rattle.std.specs.Prelude.{if◌then◌else◌, ◌==◌, ◌&&◌, not, nat_lt, nat_le}
use Rattle.std.proofs.lemmas.Bool.{cases_lt, cases_Bool, cond-true, cond-false, le-ltb, ltb-false, ltb-true, eq-eqb, le-leb, leb-true}
use Rattle.timetable.specs.Lists.{sum_below}
use Rattle.timetable.proofs.Sums.{sum_le}
use Rattle.urgent_units.specs.declared.legs.Leg.{Leg}
use Rattle.urgent_units.specs.Cuts.{is_in, is_left, goes_out}
use Rattle.urgent_units.specs.Held.{is_held_from}
use Rattle.urgent_units.specs.Legs.{TypeLegs, end_of}
use Rattle.urgent_units.specs.Moments.{minutes_at, moment_count, moment_of, over_at}
use Rattle.urgent_units.proofs.ListSums.{over, tally}
use Rattle.urgent_units.proofs.Moments.{Rise, Among, some_left, over_more, over_less, over_at_minute, minute_within}

-- ---- legs that leave one after another

-- each leaves from where the unit has come, once it is ready there
abbrev pub InTurn : ℕ → ℕ → List Leg → Type 0
InTurn at since [] = Unit {0}
InTurn at since (leg ∷ legs) = (leg.from ≡ at) × (since ≤ leg.departs + 1) × (leg.departs < leg.ready) × InTurn leg.to (leg.ready + 1) legs

-- ---- tests

both_hold : (a b : Bool) → a ≡ true → b ≡ true → (a && b) ≡ true
both_hold true b one two = two
both_hold false b one two = absurd cc

second_holds : (a b : Bool) → (a && b) ≡ true → b ≡ true
second_holds true b h = h
second_holds false b h = absurd cc

left_is : (a b : Bool) → a ≡ true → b ≡ false → (a && not b) ≡ true
left_is true true one two = absurd cc
left_is true false one two = refl
left_is false b one two = absurd cc

refute : (b : Bool) → (b ≡ true → ⊥) → b ≡ false
refute true h = absurd (h refl)
refute false h = refl

tally_is : (b : Bool) → b ≡ true → tally b ≡ 1
tally_is true h = refl
tally_is false h = absurd cc

tally_not : (b : Bool) → b ≡ false → tally b ≡ 0
tally_not true h = absurd cc
tally_not false h = refl

tally_no : (b c : Bool) → c ≡ false → tally (b && c) ≡ 0
tally_no true true h = absurd cc
tally_no true false h = refl
tally_no false c h = refl

tally_le : (b c : Bool) → (b ≡ true → c ≡ true) → tally b ≤ tally c
tally_le true c h = omega (arith, tally_is c (h refl))
tally_le false c h = omega arith

sum_at : (f : ℕ → ℕ) (n k : ℕ) → k < n → f k ≤ sum_below f n
sum_at f zero k below = absurd (omega (arith, below))
sum_at f (suc n) k below = elim (cases_lt k n) [
  | inl before ↦ omega (arith, sum_at f n k before)
  | inr last ↦ (let same : k ≡ n = omega (arith, below, last) in omega (arith, ap f same))
]

-- ---- held

-- a unit that is held is ready
pub held_since : (at since : ℕ) (legs : List Leg) (s over : ℕ) → InTurn at since legs → is_held_from at since legs s over ≡ true → since ≤ over
held_since at since [] s over turn held = leb-true since over (second_holds (at == s) (nat_le since over) held)
held_since at since (leg ∷ legs) s over turn held = elim (cases_Bool (nat_lt leg.departs over)) [
  | inl has_left ↦ omega (arith, turn.1, ltb-true leg.departs over has_left)
  | inr not_left ↦ leb-true since over (second_holds (at == s) (nat_le since over) (sym (cond-false (nat_lt leg.departs over) (is_held_from leg.to (leg.ready + 1) legs s over) (at == s && nat_le since over) not_left) ∙ held))
]

-- a unit that is held later in its legs is held all the same
pub held_later : (at since : ℕ) (leg : Leg) (legs : List Leg) (s over : ℕ) → InTurn at since (leg ∷ legs) → is_held_from leg.to (leg.ready + 1) legs s over ≡ true
    → is_held_from at since (leg ∷ legs) s over ≡ true
held_later at since leg legs s over turn held = elim (cases_Bool (nat_lt leg.departs over)) [
  | inl has_left ↦ cond-true (nat_lt leg.departs over) (is_held_from leg.to (leg.ready + 1) legs s over) (at == s && nat_le since over) has_left ∙ held
  | inr not_left ↦ absurd (omega (arith, turn.2, held_since leg.to (leg.ready + 1) legs s over turn.3 held, ltb-false leg.departs over not_left))
]

-- how many units are held is what came less what left, of one unit
pub held_counts : (at since : ℕ) (legs : List Leg) (s over_ : ℕ) → InTurn at since legs
    → tally (is_held_from at since legs s over_) + over (λ leg. tally (leg.from == s && nat_lt leg.departs over_)) legs
    ≡ tally (at == s && nat_le since over_) + over (λ leg. tally (leg.to == s && nat_lt leg.ready over_)) legs
held_counts at since [] s o turn = refl
held_counts at since (leg ∷ legs) s o turn =
    let rest = held_counts leg.to (leg.ready + 1) legs s o turn.3 in
    elim (cases_Bool (nat_lt leg.departs o)) [
      | inl has_left ↦
          let gone : leg.departs < o = ltb-true leg.departs o has_left in
          let held = ap tally (cond-true (nat_lt leg.departs o) (is_held_from leg.to (leg.ready + 1) legs s o) (at == s && nat_le since o) has_left) in
          let out = ap (λ (b : Bool). tally (leg.from == s && b)) has_left in
          let here = ap (λ (x : ℕ). tally (x == s && true)) turn.0 in
          let ready = ap (λ (b : Bool). tally (at == s && b)) (le-leb since o (omega (arith, turn.1, gone))) in
          let come = ap (λ (b : Bool). tally (leg.to == s && b)) (lt_is_le leg.ready o) in
          omega (arith, rest, held, out, here, ready, come)
      | inr not_left ↦
          let waits : o ≤ leg.departs = ltb-false leg.departs o not_left in
          let held = ap tally (cond-false (nat_lt leg.departs o) (is_held_from leg.to (leg.ready + 1) legs s o) (at == s && nat_le since o) not_left) in
          let out = tally_no (leg.from == s) (nat_lt leg.departs o) not_left in
          let come = tally_no (leg.to == s) (nat_lt leg.ready o) (le-ltb leg.ready o (omega (arith, turn.2, waits))) in
          let come_too = ap (λ (b : Bool). tally (leg.to == s && b)) (lt_is_le leg.ready o) in
          let none = tally_not (is_held_from leg.to (leg.ready + 1) legs s o) (refute (is_held_from leg.to (leg.ready + 1) legs s o) (λ h. absurd (omega (arith, turn.2, waits, held_since leg.to (leg.ready + 1) legs s o turn.3 h)))) in
          omega (arith, rest, held, out, come, come_too, none)
    ]
  where
    lt_is_le : (m n : ℕ) → nat_lt m n ≡ nat_le (m + 1) n
    lt_is_le m n = elim (cases_Bool (nat_lt m n)) [
      | inl is ↦ is ∙ sym (le-leb (m + 1) n (omega (arith, ltb-true m n is)))
      | inr isnt ↦ isnt ∙ sym (refute (nat_le (m + 1) n) (λ h. absurd (omega (arith, ltb-false m n isnt, leb-true (m + 1) n h))))
    ]

-- ---- crossing

module _ (all : TypeLegs) (cut : List (List Bool)) (rises : (s : ℕ) → Rise 0 (minutes_at all s)) where
  -- each leg leaves and is ready at a moment
  abbrev pub Events : List Leg → Type 0
  Events [] = Unit {0}
  Events (leg ∷ legs) = Among leg.departs (minutes_at all leg.from) × Among leg.ready (minutes_at all leg.to) × (leg.from < all.stations) × (leg.to < all.stations) × Events legs

  abbrev pub leaving : List Leg → ℕ
  leaving legs = over (λ leg. tally (goes_out all cut leg)) legs

  abbrev pub wait_at : ℕ → ℕ → List Leg → ℕ → ℕ → ℕ
  wait_at at since legs s k = if is_left cut s k then tally (is_held_from at since legs s (over_at all s k)) else 0

  abbrev pub waiting : ℕ → ℕ → List Leg → ℕ
  waiting at since legs = sum_below (λ s. sum_below (λ k. wait_at at since legs s k) (moment_count all s - 1)) all.stations

  wait_counts : (at since : ℕ) (legs : List Leg) (s k : ℕ) → s < all.stations → k < moment_count all s - 1 → is_in cut s k ≡ true → is_in cut s (suc k) ≡ false
      → is_held_from at since legs s (over_at all s k) ≡ true → 1 ≤ waiting at since legs
  wait_counts at since legs s k known below here next held =
      let one = cond-true (is_left cut s k) (tally (is_held_from at since legs s (over_at all s k))) 0 (left_is (is_in cut s k) (is_in cut s (suc k)) here next) in
      let inner = sum_at (λ k. wait_at at since legs s k) (moment_count all s - 1) k below in
      let outer = sum_at (λ s. sum_below (λ k. wait_at at since legs s k) (moment_count all s - 1)) all.stations s known in
      omega (arith, one, tally_is (is_held_from at since legs s (over_at all s k)) held, inner, outer)

  wait_more : (at since : ℕ) (leg : Leg) (legs : List Leg) → InTurn at since (leg ∷ legs) → waiting leg.to (leg.ready + 1) legs ≤ waiting at since (leg ∷ legs)
  wait_more at since leg legs turn =
      sum_le _ _ all.stations (λ s _. sum_le _ _ (moment_count all s - 1) (λ k _. one s k (is_left cut s k)))
    where
      one : (s k : ℕ) (b : Bool) → (if b then tally (is_held_from leg.to (leg.ready + 1) legs s (over_at all s k)) else 0) ≤ (if b then tally (is_held_from at since (leg ∷ legs) s (over_at all s k)) else 0)
      one s k true = tally_le _ _ (held_later at since leg legs s (over_at all s k) turn)
      one s k false = omega arith

  pub crosses : (legs : List Leg) (at since k : ℕ) → InTurn at since legs → Events legs → at < all.stations → k ≤ length (minutes_at all at) → over_at all at k ≡ since
      → is_in cut at k ≡ true → is_in cut (end_of at legs) (moment_count all (end_of at legs) - 1) ≡ false → 1 ≤ leaving legs + waiting at since legs
  crosses [] at since k turn events known within over_is here out =
      let n = length (minutes_at all at) + 1 - k in
      let last : moment_count all at - 1 ≡ k + n = omega (arith, within) in
      let left = some_left (is_in cut at) k n here (subst (λ (j : ℕ). is_in cut at j ≡ false) last out) in
      let ready = over_more 0 (minutes_at all at) k left.at (rises at) left.from in
      let held = both_hold (at == at) (nat_le since (over_at all at left.at)) (eq-eqb at at refl) (le-leb since (over_at all at left.at) (omega (arith, over_is, ready))) in
      let waits = wait_counts at since [] at left.at known (omega (arith, left.below, last)) left.here left.next held in
      omega (arith, waits)
  crosses (leg ∷ legs) at since k turn events known within over_is here out =
      let minutes = minutes_at all leg.from in
      let kd = moment_of all leg.from leg.departs in
      let kr = moment_of all leg.to leg.ready in
      let at_d : over_at all leg.from kd ≡ leg.departs + 1 = over_at_minute 0 leg.departs minutes (rises leg.from) events.0 in
      let kd_in : kd ≤ length minutes = minute_within 0 leg.departs minutes (rises leg.from) events.0 in
      let k_in : k ≤ length minutes = subst (λ (s : ℕ). k ≤ length (minutes_at all s)) (sym turn.0) within in
      let is_over : over_at all leg.from k ≡ since = subst (λ (s : ℕ). over_at all s k ≡ since) (sym turn.0) over_is in
      let in_k : is_in cut leg.from k ≡ true = subst (λ (s : ℕ). is_in cut s k ≡ true) (sym turn.0) here in
      let before : k ≤ kd = elim (cases_lt kd k) [
        | inl later ↦ absurd (omega (arith, over_less 0 minutes kd k (rises leg.from) later k_in, at_d, is_over, turn.1))
        | inr le ↦ le
      ] in
      elim (cases_Bool (is_in cut leg.from kd)) [
        | inr out_d ↦
            let whole : kd ≡ k + (kd - k) = omega (arith, before) in
            let left = some_left (is_in cut leg.from) k (kd - k) in_k (subst (λ (j : ℕ). is_in cut leg.from j ≡ false) whole out_d) in
            let less = over_less 0 minutes left.at kd (rises leg.from) (omega (arith, left.below, whole)) kd_in in
            let ready = over_more 0 minutes k left.at (rises leg.from) left.from in
            let o = over_at all leg.from left.at in
            let not_left : nat_lt leg.departs o ≡ false = le-ltb leg.departs o (omega (arith, less, at_d)) in
            let held : is_held_from at since (leg ∷ legs) leg.from o ≡ true =
            cond-false (nat_lt leg.departs o) (is_held_from leg.to (leg.ready + 1) legs leg.from o) (at == leg.from && nat_le since o) not_left
            ∙ both_hold (at == leg.from) (nat_le since o) (eq-eqb at leg.from (sym turn.0)) (le-leb since o (omega (arith, is_over, ready))) in
            let waits = wait_counts at since (leg ∷ legs) leg.from left.at events.2 (omega (arith, left.below, whole, kd_in)) left.here left.next held in
            omega (arith, waits)
        | inl in_d ↦ elim (cases_Bool (is_in cut leg.to kr)) [
          | inr out_r ↦
              let one = tally_is (goes_out all cut leg) (left_is (is_in cut leg.from kd) (is_in cut leg.to kr) in_d out_r) in
              omega (arith, one)
          | inl in_r ↦
              let minutes_to = minutes_at all leg.to in
              let later = crosses legs leg.to (leg.ready + 1) kr turn.3 events.4 events.3
              (minute_within 0 leg.ready minutes_to (rises leg.to) events.1) (over_at_minute 0 leg.ready minutes_to (rises leg.to) events.1) in_r out in
              omega (arith, later, wait_more at since leg legs turn)
        ]
      ]
