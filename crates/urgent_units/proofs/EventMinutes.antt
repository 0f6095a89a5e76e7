-- The minutes of a station's moments: they rise, and each leg leaves and is ready at one of them.
use Rattle.std.proofs.Common.{◌≡◌, ℕ, ◌+◌, ◌≤◌, Bool, true, false, List, [], ◌∷◌, refl, sym, ◌∙◌, subst, arith, inl, inr}
use Rattle.std.specs.Prelude.{if◌then◌else◌, ◌==◌, ◌&&◌, nat_lt}
use Rattle.std.proofs.lemmas.Bool.{cases_Bool, cond-true, cond-false, ltb-true, ltb-false, eqb-true, and_parts, eq-eqb, cases_lt, false≢true}
use Rattle.timetable.specs.Minutes.{inserted}
use Rattle.urgent_units.specs.declared.legs.Leg.{Leg}
use Rattle.urgent_units.specs.Legs.{TypeLegs, all_legs}
use Rattle.urgent_units.specs.Moments.{with_legs, minutes_at, with_return}
use Rattle.urgent_units.proofs.ListSums.{over, tally}
use Rattle.urgent_units.proofs.Moments.{Rise, Among}

-- ---- one minute more

inserted_rise : (over m : ℕ) (ks : List ℕ) → over ≤ m → Rise over ks → Rise over (inserted m ks)
inserted_rise over m [] from rise = (from, tt)
inserted_rise over m (k ∷ ks) from rise = elim (cases_Bool (nat_lt k m)) [
  | inl lower ↦
      subst (Rise over) (sym (cond-true (nat_lt k m) (k ∷ inserted m ks) (if k == m then k ∷ ks else m ∷ k ∷ ks) lower))
      (rise.0, inserted_rise (k + 1) m ks (omega (arith, ltb-true k m lower)) rise.1)
  | inr not_lower ↦ subst (Rise over) (sym (cond-false (nat_lt k m) (k ∷ inserted m ks) (if k == m then k ∷ ks else m ∷ k ∷ ks) not_lower)) (elim (cases_Bool (k == m)) [
    | inl same ↦ subst (Rise over) (sym (cond-true (k == m) (k ∷ ks) (m ∷ k ∷ ks) same)) rise
    | inr differs ↦ subst (Rise over) (sym (cond-false (k == m) (k ∷ ks) (m ∷ k ∷ ks) differs)) (from, (above k m not_lower differs, rise.1))
  ])
]
  where
    above : (k m : ℕ) → nat_lt k m ≡ false → (k == m) ≡ false → m + 1 ≤ k
    above k m not_lower differs = elim (cases_lt m k) [
      | inl less ↦ omega (arith, less)
      | inr le ↦ (let same : k ≡ m = omega (arith, ltb-false k m not_lower, le) in absurd (false≢true (sym differs ∙ eq-eqb k m same)))
    ]

inserted_has : (m : ℕ) (ks : List ℕ) → Among m (inserted m ks)
inserted_has m [] = inl refl
inserted_has m (k ∷ ks) = elim (cases_Bool (nat_lt k m)) [
  | inl lower ↦ subst (Among m) (sym (cond-true (nat_lt k m) (k ∷ inserted m ks) (if k == m then k ∷ ks else m ∷ k ∷ ks) lower)) (inr (inserted_has m ks))
  | inr not_lower ↦ subst (Among m) (sym (cond-false (nat_lt k m) (k ∷ inserted m ks) (if k == m then k ∷ ks else m ∷ k ∷ ks) not_lower)) (elim (cases_Bool (k == m)) [
    | inl same ↦ subst (Among m) (sym (cond-true (k == m) (k ∷ ks) (m ∷ k ∷ ks) same)) (inl (eqb-true k m same))
    | inr differs ↦ subst (Among m) (sym (cond-false (k == m) (k ∷ ks) (m ∷ k ∷ ks) differs)) (inl refl)
  ])
]

inserted_keeps : (m d : ℕ) (ks : List ℕ) → Among d ks → Among d (inserted m ks)
inserted_keeps m d [] among = absurd among
inserted_keeps m d (k ∷ ks) among = elim (cases_Bool (nat_lt k m)) [
  | inl lower ↦ subst (Among d) (sym (cond-true (nat_lt k m) (k ∷ inserted m ks) (if k == m then k ∷ ks else m ∷ k ∷ ks) lower)) (elim among [
    | inl here ↦ inl here
    | inr later ↦ inr (inserted_keeps m d ks later)
  ])
  | inr not_lower ↦ subst (Among d) (sym (cond-false (nat_lt k m) (k ∷ inserted m ks) (if k == m then k ∷ ks else m ∷ k ∷ ks) not_lower)) (elim (cases_Bool (k == m)) [
    | inl same ↦ subst (Among d) (sym (cond-true (k == m) (k ∷ ks) (m ∷ k ∷ ks) same)) among
    | inr differs ↦ subst (Among d) (sym (cond-false (k == m) (k ∷ ks) (m ∷ k ∷ ks) differs)) (inr among)
  ])
]

-- ---- the minutes of legs

when_rise : (b : Bool) (m : ℕ) (ks : List ℕ) → Rise 0 ks → Rise 0 (if b then inserted m ks else ks)
when_rise true m ks rise = inserted_rise 0 m ks (omega arith) rise
when_rise false m ks rise = rise

when_keeps : (b : Bool) (m d : ℕ) (ks : List ℕ) → Among d ks → Among d (if b then inserted m ks else ks)
when_keeps true m d ks among = inserted_keeps m d ks among
when_keeps false m d ks among = among

pub with_legs_rise : (legs : List Leg) (s : ℕ) (ms : List ℕ) → Rise 0 ms → Rise 0 (with_legs s legs ms)
with_legs_rise [] s ms rise = rise
with_legs_rise (leg ∷ legs) s ms rise = when_rise (leg.from == s) leg.departs (with_return s leg (with_legs s legs ms)) (when_rise (leg.to == s) leg.ready (with_legs s legs ms) (with_legs_rise legs s ms rise))

-- where some leg leaves the station at the minute
pub departs_among : (legs : List Leg) (s d : ℕ) → 1 ≤ over (λ leg. tally (leg.from == s && leg.departs == d)) legs → Among d (with_legs s legs [])
departs_among [] s d some = absurd (omega (arith, some))
departs_among (leg ∷ legs) s d some = elim (cases_Bool (leg.from == s && leg.departs == d)) [
  | inl is ↦
      let both = and_parts (leg.from == s) (leg.departs == d) is in
      let minutes = with_return s leg (with_legs s legs []) in
      subst (Among d) (sym (cond-true (leg.from == s) (inserted leg.departs minutes) minutes both.0)) (subst (λ (m : ℕ). Among m (inserted leg.departs minutes)) (eqb-true leg.departs d both.1) (inserted_has leg.departs minutes))
  | inr isnt ↦
      let none : tally (leg.from == s && leg.departs == d) ≡ 0 = cond-false {A = ℕ} (leg.from == s && leg.departs == d) 1 0 isnt in
      when_keeps (leg.from == s) leg.departs d (with_return s leg (with_legs s legs [])) (when_keeps (leg.to == s) leg.ready d (with_legs s legs []) (departs_among legs s d (omega (arith, some, none))))
]

-- and where some leg is ready there then
pub ready_among : (legs : List Leg) (s d : ℕ) → 1 ≤ over (λ leg. tally (leg.to == s && leg.ready == d)) legs → Among d (with_legs s legs [])
ready_among [] s d some = absurd (omega (arith, some))
ready_among (leg ∷ legs) s d some =
    when_keeps (leg.from == s) leg.departs d (with_return s leg (with_legs s legs [])) (elim (cases_Bool (leg.to == s && leg.ready == d)) [
      | inl is ↦
          let both = and_parts (leg.to == s) (leg.ready == d) is in
          let minutes = with_legs s legs [] in
          subst (Among d) (sym (cond-true (leg.to == s) (inserted leg.ready minutes) minutes both.0)) (subst (λ (m : ℕ). Among m (inserted leg.ready minutes)) (eqb-true leg.ready d both.1) (inserted_has leg.ready minutes))
      | inr isnt ↦
          let none : tally (leg.to == s && leg.ready == d) ≡ 0 = cond-false {A = ℕ} (leg.to == s && leg.ready == d) 1 0 isnt in
          when_keeps (leg.to == s) leg.ready d (with_legs s legs []) (ready_among legs s d (omega (arith, some, none)))
    ])

pub minutes_rise : (legs : TypeLegs) (s : ℕ) → Rise 0 (minutes_at legs s)
unfolding minutes_at
minutes_rise legs s = with_legs_rise (all_legs legs) s [] tt

pub departs_at : (legs : TypeLegs) (s d : ℕ) → 1 ≤ over (λ leg. tally (leg.from == s && leg.departs == d)) (all_legs legs) → Among d (minutes_at legs s)
unfolding minutes_at
departs_at legs s d some = departs_among (all_legs legs) s d some

pub ready_at_moment : (legs : TypeLegs) (s d : ℕ) → 1 ≤ over (λ leg. tally (leg.to == s && leg.ready == d)) (all_legs legs) → Among d (minutes_at legs s)
unfolding minutes_at
ready_at_moment legs s d some = ready_among (all_legs legs) s d some
