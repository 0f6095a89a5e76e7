-- Which units are held: those in the yard of the station and ready.
use Rattle.std.proofs.Common.{◌≡◌, ℕ, suc, ◌+◌, ◌≤◌, ◌<◌, true, List, [], ◌∷◌, ◌++◌, length, refl, sym, ap, ◌∙◌, subst, arith, inl, inr, ◌⊎◌, get_or}
use Rattle.std.specs.Prelude.{◌==◌, ◌&&◌, nat_lt, nat_le, IsTrue}
use Rattle.std.specs.List.{All, AllPairs}
use Rattle.std.proofs.lemmas.Bool.{cases_Bool, cond-true, cond-false, eqb-true, eq-eqb, lt-ltb, le-ltb, ltb-true, ltb-false, leb-true, le-leb, and_parts, and_from}
use Rattle.std.proofs.lemmas.List.Elements.{All-nil, All-cons, All-head}
use Rattle.urgent_units.specs.declared.legs.Leg.{Leg}
use Rattle.urgent_units.specs.Held.{IsHeld, is_held, is_held_from}
use Rattle.urgent_units.specs.Laws.{HeldUnitsAreReady}

abbrev InOrder : List Leg → Type 0
InOrder legs = AllPairs (λ one other. one.departs ≤ other.departs) legs

tail_in_order : (leg : Leg) (legs : List Leg) → InOrder (leg ∷ legs) → InOrder legs
tail_in_order leg legs order i j d before below = order (suc i) (suc j) d (omega (arith, before)) (omega (arith, below))

-- no leg has left, and it stands there and is ready
record Stands (at since : ℕ) (legs : List Leg) (s over : ℕ) : Type 0 where
  none : All (λ (l : Leg). over ≤ l.departs) legs
  here : at ≡ s
  is_ready : since ≤ over

-- it came by the last leg that has left
record Came (legs : List Leg) (s over : ℕ) : Type 0 where
  before : List Leg
  last : Leg
  after : List Leg
  parts : legs ≡ before ++ last ∷ after
  has_left : last.departs < over
  none : All (λ (l : Leg). over ≤ l.departs) after
  station : last.to ≡ s
  is_ready : last.ready < over

where_held : (legs : List Leg) (at since s over : ℕ) → InOrder legs → is_held_from at since legs s over ≡ true → Stands at since legs s over ⊎ Came legs s over
where_held [] at since s over order held =
    let both = and_parts (at == s) (nat_le since over) held in
    inl (record { none = All-nil (λ (l : Leg). over ≤ l.departs); here = eqb-true at s both.0; is_ready = leb-true since over both.1 })
where_held (leg ∷ legs) at since s over order held = elim (cases_Bool (nat_lt leg.departs over)) [
  | inl gone ↦
      let later = where_held legs leg.to (leg.ready + 1) s over (tail_in_order leg legs order) (sym (cond-true (nat_lt leg.departs over) (is_held_from leg.to (leg.ready + 1) legs s over) (at == s && nat_le since over) gone) ∙ held) in
      elim later [
        | inl stands ↦ inr (record { before = []; last = leg; after = legs; parts = refl; has_left = ltb-true leg.departs over gone; none = stands.none; station = stands.here; is_ready = omega (arith, stands.is_ready) })
        | inr came ↦ inr (record { before = leg ∷ came.before; last = came.last; after = came.after; parts = ap (λ (ls : List Leg). leg ∷ ls) came.parts; has_left = came.has_left; none = came.none; station = came.station; is_ready = came.is_ready })
      ]
  | inr waits ↦
      let both = and_parts (at == s) (nat_le since over) (sym (cond-false (nat_lt leg.departs over) (is_held_from leg.to (leg.ready + 1) legs s over) (at == s && nat_le since over) waits) ∙ held) in
      let first = ltb-false leg.departs over waits in
      inl (record {
        none = All-cons (λ (l : Leg). over ≤ l.departs) leg legs first (λ k d below. (let next = order 0 (suc k) d (omega arith) (omega (arith, below)) in omega (arith, first, next)));
        here = eqb-true at s both.0;
        is_ready = leb-true since over both.1;
      })
]

held_standing : (legs : List Leg) (at since s over : ℕ) → Stands at since legs s over → is_held_from at since legs s over ≡ true
held_standing [] at since s over stands = and_from (at == s) (nat_le since over) (eq-eqb at s stands.here) (le-leb since over stands.is_ready)
held_standing (leg ∷ legs) at since s over stands =
    cond-false (nat_lt leg.departs over) (is_held_from leg.to (leg.ready + 1) legs s over) (at == s && nat_le since over) (le-ltb leg.departs over (All-head (λ (l : Leg). over ≤ l.departs) leg legs stands.none))
    ∙ and_from (at == s) (nat_le since over) (eq-eqb at s stands.here) (le-leb since over stands.is_ready)

held_come : (before : List Leg) (last : Leg) (after : List Leg) (at since s over : ℕ) → InOrder (before ++ last ∷ after) → last.departs < over → All (λ (l : Leg). over ≤ l.departs) after → last.to ≡ s → last.ready < over
    → is_held_from at since (before ++ last ∷ after) s over ≡ true
held_come [] last after at since s over order gone none station ready =
    cond-true (nat_lt last.departs over) (is_held_from last.to (last.ready + 1) after s over) (at == s && nat_le since over) (lt-ltb last.departs over gone)
    ∙ held_standing after last.to (last.ready + 1) s over (record { none = none; here = station; is_ready = omega (arith, ready) })
held_come (leg ∷ before) last after at since s over order gone none station ready =
    cond-true (nat_lt leg.departs over) (is_held_from leg.to (leg.ready + 1) (before ++ last ∷ after) s over) (at == s && nat_le since over)
    (lt-ltb leg.departs over (let le = earlier in omega (arith, le, gone)))
    ∙ held_come before last after leg.to (leg.ready + 1) s over (tail_in_order leg (before ++ last ∷ after) order) gone none station ready
  where
    place : (bs : List Leg) → get_or (bs ++ last ∷ after) (length bs) leg ≡ last
    place [] = refl
    place (b ∷ bs) = place bs

    within : (bs : List Leg) → length bs < length (bs ++ last ∷ after)
    within [] = omega arith
    within (b ∷ bs) = omega (arith, within bs)

    earlier : leg.departs ≤ last.departs
    earlier = subst (λ (l : Leg). leg.departs ≤ l.departs) (place before) (order 0 (suc (length before)) leg (omega arith) (omega (arith, within before)))

pub held_units_are_ready : HeldUnitsAreReady
held_units_are_ready unit s over order = (forth, back)
  where
    forth : IsTrue (is_held unit s over) → IsHeld unit s over
    forth held = elim (where_held unit.legs unit.home 0 s over order held) [
      | inl stands ↦ inl (record { none_left = stands.none; home = stands.here })
      | inr came ↦ inr (record { before = came.before; last = came.last; after = came.after; legs = came.parts; has_left = came.has_left; none_left = came.none; station = came.station; is_ready = came.is_ready })
    ]

    back : IsHeld unit s over → IsTrue (is_held unit s over)
    back (inl home) = held_standing unit.legs unit.home 0 s over (record { none = home.none_left; here = home.home; is_ready = omega arith })
    back (inr come) = subst (λ (legs : List Leg). is_held_from unit.home 0 legs s over ≡ true) (sym come.legs)
        (held_come come.before come.last come.after unit.home 0 s over (subst InOrder come.legs order) come.has_left come.none_left come.station come.is_ready)
