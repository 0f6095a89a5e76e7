-- The minutes of a station's moments are those at which something happens there, and no other minutes are.
use Rattle.std.proofs.Common.{◌≡◌, ℕ, zero, suc, ◌+◌, ◌≤◌, ◌<◌, Bool, true, false, List, [], ◌∷◌, length, refl, sym, ap, ◌∙◌, subst, arith, inl, inr, ◌⊎◌, get_or}
use Rattle.std.specs.Prelude.{if◌then◌else◌, ◌==◌, ◌&&◌, nat_lt}
use Rattle.std.specs.List.{Contains}
use Rattle.std.proofs.lemmas.Bool.{cases_Bool, cond-true, cond-false, eqb-true, eq-eqb}
use Rattle.timetable.specs.Minutes.{inserted}
use Rattle.urgent_units.specs.declared.legs.Leg.{Leg}
use Rattle.urgent_units.specs.Laws.{MomentsAreEvents}
use Rattle.urgent_units.specs.Legs.{TypeLegs, all_legs}
use Rattle.urgent_units.specs.Moments.{HappensAt, AreEventMinutes, minutes_at, with_legs, with_return}
use Rattle.urgent_units.proofs.EventMinutes.{minutes_rise, departs_among, ready_among}
use Rattle.urgent_units.proofs.LegMinutes.{pairs_of_rise, pairs_rise}
use Rattle.urgent_units.proofs.ListSums.{over, tally}
use Rattle.urgent_units.proofs.Moments.{Rise, Among, among_from}

-- ---- one of a list

contains_among : (ms : List ℕ) (m : ℕ) → Contains ms m → Among m ms
contains_among ms m (k, below, is) = at ms k below is
  where
    at : (ms : List ℕ) (k : ℕ) → k < length ms → get_or ms k m ≡ m → Among m ms
    at [] k below is = absurd (omega (arith, below))
    at (x ∷ ms) zero below is = inl is
    at (x ∷ ms) (suc k) below is = inr (at ms k (omega (arith, below)) is)

among_contains : (ms : List ℕ) (m : ℕ) → Among m ms → Contains ms m
among_contains [] m among = absurd among
among_contains (x ∷ ms) m (inl is) = (zero, omega arith, is)
among_contains (x ∷ ms) m (inr later) =
    let there = among_contains ms m later in
    (suc there.0, omega (arith, there.1), there.2)

over_at : (f : Leg → ℕ) (legs : List Leg) (k : ℕ) (d : Leg) → k < length legs → f (get_or legs k d) ≤ over f legs
over_at f [] k d below = absurd (omega (arith, below))
over_at f (leg ∷ legs) zero d below = omega arith
over_at f (leg ∷ legs) (suc k) d below = omega (arith, over_at f legs k d (omega (arith, below)))

-- ---- two lists that rise

-- with the same minutes are one
same_rising : (o : ℕ) (xs ys : List ℕ) → Rise o xs → Rise o ys → ((m : ℕ) → Among m xs → Among m ys) → ((m : ℕ) → Among m ys → Among m xs) → xs ≡ ys
same_rising o [] [] rise rise' to back = refl
same_rising o [] (y ∷ ys) rise rise' to back = absurd (back y (inl refl))
same_rising o (x ∷ xs) [] rise rise' to back = absurd (to x (inl refl))
same_rising o (x ∷ xs) (y ∷ ys) rise rise' to back =
    let same : x ≡ y = heads (to x (inl refl)) (back y (inl refl)) in
    ap (λ (k : ℕ). k ∷ xs) same
    ∙ ap (λ (ks : List ℕ). y ∷ ks) (same_rising (x + 1) xs ys rise.1 (subst (λ (k : ℕ). Rise (k + 1) ys) (sym same) rise'.1)
    (λ m among. later same m (among_from (x + 1) m xs rise.1 among) (to m (inr among)))
    (λ m among. later' same m (among_from (y + 1) m ys rise'.1 among) (back m (inr among))))
  where
    heads : Among x (y ∷ ys) → Among y (x ∷ xs) → x ≡ y
    heads (inl is) other = sym is
    heads (inr after) (inl is) = is
    heads (inr after) (inr after') = absurd (omega (arith, among_from (y + 1) x ys rise'.1 after, among_from (x + 1) y xs rise.1 after'))

    later : x ≡ y → (m : ℕ) → x + 1 ≤ m → Among m (y ∷ ys) → Among m ys
    later same m more (inl is) = absurd (omega (arith, same, more, is))
    later same m more (inr after) = after

    later' : x ≡ y → (m : ℕ) → y + 1 ≤ m → Among m (x ∷ xs) → Among m xs
    later' same m more (inl is) = absurd (omega (arith, same, more, is))
    later' same m more (inr after) = after

-- ---- what was inserted

inserted_from : (m d : ℕ) (ks : List ℕ) → Among d (inserted m ks) → (m ≡ d) ⊎ Among d ks
inserted_from m d [] (inl is) = inl is
inserted_from m d [] (inr none) = absurd none
inserted_from m d (k ∷ ks) among = elim (cases_Bool (nat_lt k m)) [
  | inl lower ↦ elim (subst (Among d) (cond-true (nat_lt k m) (k ∷ inserted m ks) (if k == m then k ∷ ks else m ∷ k ∷ ks) lower) among) [
    | inl here ↦ inr (inl here)
    | inr later ↦ elim (inserted_from m d ks later) [
      | inl is ↦ inl is
      | inr after ↦ inr (inr after)
    ]
  ]
  | inr not_lower ↦ elim (cases_Bool (k == m)) [
    | inl same ↦ inr (subst (Among d) (cond-false (nat_lt k m) (k ∷ inserted m ks) (if k == m then k ∷ ks else m ∷ k ∷ ks) not_lower ∙ cond-true (k == m) (k ∷ ks) (m ∷ k ∷ ks) same) among)
    | inr differs ↦ subst (Among d) (cond-false (nat_lt k m) (k ∷ inserted m ks) (if k == m then k ∷ ks else m ∷ k ∷ ks) not_lower ∙ cond-false (k == m) (k ∷ ks) (m ∷ k ∷ ks) differs) among
  ]
]

when_from : (b : Bool) (m d : ℕ) (ks : List ℕ) → Among d (if b then inserted m ks else ks) → ((b ≡ true) × (m ≡ d)) ⊎ Among d ks
when_from true m d ks among = elim (inserted_from m d ks among) [
  | inl is ↦ inl (refl, is)
  | inr other ↦ inr other
]
when_from false m d ks among = inr among

among_happens : (legs : List Leg) (s m : ℕ) → Among m (with_legs s legs []) → HappensAt legs s m
among_happens [] s m among = absurd among
among_happens (leg ∷ legs) s m among = elim (when_from (leg.from == s) leg.departs m (with_return s leg (with_legs s legs [])) among) [
  | inl here ↦ record { leg = leg; of_legs = (zero, omega arith, refl); at = inl (eqb-true leg.from s here.0, here.1) }
  | inr other ↦ elim (when_from (leg.to == s) leg.ready m (with_legs s legs []) other) [
    | inl here ↦ record { leg = leg; of_legs = (zero, omega arith, refl); at = inr (eqb-true leg.to s here.0, here.1) }
    | inr later ↦
        let there = among_happens legs s m later in
        let place = there.of_legs in
        record { leg = there.leg; of_legs = (suc place.0, omega (arith, place.1), place.2); at = there.at }
  ]
]

happens_among : (legs : List Leg) (s m : ℕ) → HappensAt legs s m → Among m (with_legs s legs [])
happens_among legs s m happens = on happens.at
  where
    one : (b c : Bool) → b ≡ true → c ≡ true → 1 ≤ tally (b && c)
    one true true h k = omega arith
    one true false h k = absurd cc
    one false c h k = absurd cc

    on : ((happens.leg.from ≡ s) × (happens.leg.departs ≡ m)) ⊎ ((happens.leg.to ≡ s) × (happens.leg.ready ≡ m)) → Among m (with_legs s legs [])
    on (inl left) =
        let place = happens.of_legs in
        let some = over_at (λ leg. tally (leg.from == s && leg.departs == m)) legs place.0 happens.leg place.1 in
        let here = subst (λ (leg : Leg). 1 ≤ tally (leg.from == s && leg.departs == m)) (sym place.2) (one (happens.leg.from == s) (happens.leg.departs == m) (eq-eqb happens.leg.from s left.0) (eq-eqb happens.leg.departs m left.1)) in
        departs_among legs s m (omega (arith, some, here))
    on (inr come) =
        let place = happens.of_legs in
        let some = over_at (λ leg. tally (leg.to == s && leg.ready == m)) legs place.0 happens.leg place.1 in
        let here = subst (λ (leg : Leg). 1 ≤ tally (leg.to == s && leg.ready == m)) (sym place.2) (one (happens.leg.to == s) (happens.leg.ready == m) (eq-eqb happens.leg.to s come.0) (eq-eqb happens.leg.ready m come.1)) in
        ready_among legs s m (omega (arith, some, here))

are_events : (legs : TypeLegs) (s : ℕ) → AreEventMinutes (all_legs legs) s (minutes_at legs s)
unfolding minutes_at
are_events legs s = record {
  rise = pairs_of_rise 0 (minutes_at legs s) (minutes_rise legs s);
  happen = λ m there. among_happens (all_legs legs) s m (contains_among (minutes_at legs s) m there);
  all = λ m happens. among_contains (minutes_at legs s) m (happens_among (all_legs legs) s m happens);
}

pub moments_are_events : MomentsAreEvents
moments_are_events legs s minutes = (forth, back)
  where
    forth : minutes ≡ minutes_at legs s → AreEventMinutes (all_legs legs) s minutes
    forth is = subst (AreEventMinutes (all_legs legs) s) (sym is) (are_events legs s)

    back : AreEventMinutes (all_legs legs) s minutes → minutes ≡ minutes_at legs s
    back are =
        let ours = are_events legs s in
        same_rising 0 minutes (minutes_at legs s) (pairs_rise minutes are.rise) (minutes_rise legs s)
        (λ m among. contains_among (minutes_at legs s) m (ours.all m (are.happen m (among_contains minutes m among))))
        (λ m among. contains_among minutes m (are.all m (ours.happen m (among_contains (minutes_at legs s) m among))))
