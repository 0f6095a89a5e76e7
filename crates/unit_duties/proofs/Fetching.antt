-- Units that are fetched from a yard, one after another, are those that the rule names.
use Rattle.std.proofs.Common.{◌≡◌, ◌∙◌, ◌≢◌, ℕ, zero, suc, ◌+◌, ◌<◌, ◌≤◌, ◌⊎◌, inl, inr, List, [], ◌∷◌, ◌++◌, length}
use Rattle.std.proofs.Common.{drop, get_or, reverse, Bool, true, false, not, leb, Option, Some, None, unwrap_or, refl}
use Rattle.std.proofs.Common.{sym, ap, subst, arith, ⊎_elim, append_assoc, append-nil, length-append}
use Rattle.std.specs.Prelude.{◌==◌, ◌&&◌}
use Rattle.std.specs.BTreeSet.{BTreeSet}
use Rattle.std.specs.List.{Contains}
use Rattle.std.proofs.lemmas.Bool.{cases_eq, cases_Bool, cond-true, cond-false, false≢true, and_parts, and_from, eq-eqb}
use Rattle.std.proofs.lemmas.Bool.{le-leb, eqb-true, lt-ltb, ltb-true}
use Rattle.std.proofs.lemmas.Bool.Decides.{nat_tests}
use Rattle.std.proofs.lemmas.List.{reverse-append, drop_more, drop_all}
use Rattle.timetable.specs.Day.{Day, type_of, unit_count}
use Rattle.timetable.specs.Lists.{count_of, has}
use Rattle.inventory.specs.NamedUnits.{InYard, may_be_taken, ready_since, is_earlier, earliest, next_unit, fetched}
use Rattle.inventory.proofs.Fetching.{earliest_passes}
use Rattle.unit_duties.specs.declared.yards.Waiting.{Waiting}
use Rattle.unit_duties.proofs.AtHome.{same_waiting}
use Rattle.unit_duties.specs.Yards.{Waits, NoneReady, IsTaken, AreStanding, IsFree, AllFound}

-- ---- the earliest

-- one that passes, and that no other one that passes comes before, is the earliest
pub earliest_is : (key : ℕ → ℕ) (p : ℕ → Bool) (n u : ℕ) → p u ≡ true → u < n
    → ((v : ℕ) → v < n → p v ≡ true → (key u < key v) ⊎ ((key u ≡ key v) × (u ≤ v))) → earliest key p n ≡ Some u
earliest_is key p zero u passes lt least = absurd (omega arith)
earliest_is key p (suc n) u passes lt least = ⊎_elim
    (λ (e : u ≡ n). here e (earliest key p n) refl)
    (λ (ne : u ≢ n).
    let rest : earliest key p n ≡ Some u = earliest_is key p n u passes (omega arith) (λ v l q. least v (omega arith) q) in
    cond-false (p n && is_earlier key n (earliest key p n)) (Some n) (earliest key p n) (there ne rest) ∙ rest)
    (cases_eq u n)
  where
    here : u ≡ n → (o : Option ℕ) → earliest key p n ≡ o → earliest key p (suc n) ≡ Some u
    here e o is = cond-true (p n && is_earlier key n (earliest key p n)) (Some n) (earliest key p n) (and_from (p n) (is_earlier key n (earliest key p n)) (ap p (sym e) ∙ passes) (first o is)) ∙ ap Some (sym e)
      where
        first : (o : Option ℕ) → earliest key p n ≡ o → is_earlier key n (earliest key p n) ≡ true
        first None is = ap (is_earlier key n) is
        first (Some v) is =
            let found = earliest_passes key p n v is in
            let below : v < n = found.1 in
            ap (is_earlier key n) is ∙ elim (least v (omega arith) found.0) [
              | inl less ↦ lt-ltb (key n) (key v) (subst (λ (k : ℕ). key k < key v) e less)
              | inr same ↦ let le : u ≤ v = same.1 in absurd (omega arith)
            ]

    there : u ≢ n → earliest key p n ≡ Some u → (p n && is_earlier key n (earliest key p n)) ≡ false
    there ne rest = ⊎_elim
        (λ (both : (p n && is_earlier key n (earliest key p n)) ≡ true).
        let parts = and_parts (p n) (is_earlier key n (earliest key p n)) both in
        let less : key n < key u = ltb-true (key n) (key u) (sym (ap (is_earlier key n) rest) ∙ parts.1) in
        absurd (elim (least n (omega arith) parts.0) [ inl lt ↦ omega arith | inr same ↦ let e : key u ≡ key n = same.0 in omega arith ]))
        (λ (h : (p n && is_earlier key n (earliest key p n)) ≡ false). h)
        (cases_Bool (p n && is_earlier key n (earliest key p n)))

-- ---- one place after another

module _ (day : Day) (stands : ℕ → Option InYard) (s minute : ℕ) where
  -- as many units as the first types were fetched, and what is left of the rule takes the others
  pub record FetchedSoFar (types : List ℕ) (i : ℕ) (us : List ℕ) (yards : BTreeSet Waiting) : Type 0 where
    pub long : length us ≡ i
    pub standing : AreStanding day stands (reverse us) yards
    pub found : AllFound day stands s minute (reverse us) (drop i types)
    pub whole : us ++ fetched day stands s minute (reverse us) (drop i types) ≡ fetched day stands s minute [] types

  -- a free unit waits in the yard
  free_waits : (chosen : List ℕ) (yards : BTreeSet Waiting) (m u : ℕ) → AreStanding day stands chosen yards → (free : IsFree day stands s minute chosen m u) → Waits yards s m free.ready u
  free_waits chosen yards m u standing free = (standing.each (record { station = s; unit_type = m; ready = free.ready; unit = u })).1 (free.known, free.unit_type, free.stands_there, free.not_chosen)

  never_none : (chosen : List ℕ) (yards : BTreeSet Waiting) (m u : ℕ) → AreStanding day stands chosen yards → IsFree day stands s minute chosen m u → NoneReady yards s m minute → ⊥
  never_none chosen yards m u standing free none =
      let late : minute < free.ready = none free.ready u (free_waits chosen yards m u standing free) in
      let in_time = free.in_time in
      omega arith

  -- the test of the rule, and what it says
  passes : List ℕ → ℕ → ℕ → Bool
  passes chosen m u = may_be_taken s minute (stands u) && (type_of day u == m) && not (has u chosen)

  taken_passes : (chosen : List ℕ) (m r u : ℕ) → stands u ≡ Some (record { station = s; ready = r }) → r ≤ minute → type_of day u ≡ m → count_of u chosen ≡ 0 → passes chosen m u ≡ true
  unfolding passes
  taken_passes chosen m r u at le e new =
      and_from (may_be_taken s minute (stands u) && (type_of day u == m)) (not (has u chosen))
      (and_from (may_be_taken s minute (stands u)) (type_of day u == m) (ap (may_be_taken s minute) at ∙ and_from (s == s) (leb r minute) (eq-eqb s s refl) (le-leb r minute le)) (eq-eqb (type_of day u) m e))
      (ap (λ (n : ℕ). not (leb 1 n)) new)

  -- a unit that passes waits in the yard
  record WaitsThere (yards : BTreeSet Waiting) (m v : ℕ) : Type 0 where
    pub ready : ℕ
    pub at : stands v ≡ Some (record { station = s; ready = ready })
    pub waits : Waits yards s m ready v

  not_has : (u : ℕ) (us : List ℕ) → not (has u us) ≡ true → count_of u us ≡ 0
  not_has u us h = grind (arith, nat_tests)

  passing_waits : (chosen : List ℕ) (yards : BTreeSet Waiting) (m v : ℕ) → AreStanding day stands chosen yards → v < unit_count day → passes chosen m v ≡ true → WaitsThere yards m v
  unfolding passes
  passing_waits chosen yards m v standing lt pass = at (stands v) refl
    where
      outer : ((may_be_taken s minute (stands v) && (type_of day v == m)) ≡ true) × (not (has v chosen) ≡ true)
      outer = and_parts (may_be_taken s minute (stands v) && (type_of day v == m)) (not (has v chosen)) pass

      inner : (may_be_taken s minute (stands v) ≡ true) × ((type_of day v == m) ≡ true)
      inner = and_parts (may_be_taken s minute (stands v)) (type_of day v == m) outer.0

      at : (o : Option InYard) → stands v ≡ o → WaitsThere yards m v
      at None e = absurd (false≢true (sym (ap (may_be_taken s minute) e) ∙ inner.0))
      at (Some place) e =
          let tests = and_parts (place.station == s) (leb place.ready minute) (sym (ap (may_be_taken s minute) e) ∙ inner.0) in
          let here : stands v ≡ Some (record { station = s; ready = place.ready }) = e ∙ ap (λ (x : ℕ). Some (record { station = x; ready = place.ready })) (eqb-true place.station s tests.0) in
          record { ready = place.ready; at = here; waits = (standing.each (record { station = s; unit_type = m; ready = place.ready; unit = v })).1 (lt, eqb-true (type_of day v) m inner.1, here, not_has v chosen outer.1) }

  since : (v r : ℕ) → stands v ≡ Some (record { station = s; ready = r }) → ready_since (stands v) ≡ r
  since v r e = ap ready_since e

  -- the unit that was taken is the one that the rule names
  taken_is_next : (chosen : List ℕ) (yards after : BTreeSet Waiting) (m u : ℕ) → AreStanding day stands chosen yards → IsTaken yards s m minute after u → next_unit day stands s minute chosen m ≡ u
  unfolding next_unit passes
  taken_is_next chosen yards after m u standing taken =
      let (known, unit_type, at, new) = (standing.each (record { station = s; unit_type = m; ready = taken.ready; unit = u })).0 taken.is_first.there in
      ap (λ (o : Option ℕ). unwrap_or o 0)
      (earliest_is (λ v. ready_since (stands v)) (passes chosen m) (unit_count day) u (taken_passes chosen m taken.ready u at taken.is_first.ready unit_type new) known
      (λ v lt pass.
      let there = passing_waits chosen yards m v standing lt pass in
      let mine : ready_since (stands u) ≡ taken.ready = since u taken.ready at in
      let other : ready_since (stands v) ≡ there.ready = since v there.ready there.at in
      elim (taken.is_first.first there.ready v there.waits) [ inl less ↦ inl (omega arith) | inr same ↦ let e = same.0 in inr (omega arith, same.1) ]))

  same_place : (a b : InYard) → Some a ≡ Some b → (a.station ≡ b.station) × (a.ready ≡ b.ready)
  same_place a b e = (cc, cc)

  -- the yards without the unit
  standing_after : (chosen : List ℕ) (yards after : BTreeSet Waiting) (m u : ℕ) → AreStanding day stands chosen yards → IsTaken yards s m minute after u → AreStanding day stands (u ∷ chosen) after
  standing_after chosen yards after m u standing taken = record { each = λ w. (out w, back w) }
    where
      mine : (u < unit_count day) × (type_of day u ≡ m) × (stands u ≡ Some (record { station = s; ready = taken.ready })) × (count_of u chosen ≡ 0)
      mine = (standing.each (record { station = s; unit_type = m; ready = taken.ready; unit = u })).0 taken.is_first.there

      out : (w : Waiting) → Contains after.keys w → (w.unit < unit_count day) × (type_of day w.unit ≡ w.unit_type) × (stands w.unit ≡ Some (record { station = w.station; ready = w.ready })) × (count_of w.unit (u ∷ chosen) ≡ 0)
      out w there =
          let old = (taken.others w).0 there in
          let (known, unit_type, at, new) = (standing.each w).0 old.0 in (
            known,
            unit_type,
            at,
            ⊎_elim
                (λ (e : u ≡ w.unit).
                let places = same_place (record { station = w.station; ready = w.ready }) (record { station = s; ready = taken.ready }) (sym at ∙ ap stands (sym e) ∙ mine.2) in
                absurd (old.1 (same_waiting w s m taken.ready u places.0 (sym unit_type ∙ ap (type_of day) (sym e) ∙ mine.1) places.1 (sym e))))
                (λ (ne : u ≢ w.unit). grind (arith, nat_tests)) (cases_eq u w.unit),
          )

      back : (w : Waiting) → (w.unit < unit_count day) × (type_of day w.unit ≡ w.unit_type) × (stands w.unit ≡ Some (record { station = w.station; ready = w.ready })) × (count_of w.unit (u ∷ chosen) ≡ 0) → Contains after.keys w
      back w known =
          let free : count_of w.unit (u ∷ chosen) ≡ 0 = known.3 in
          let new : count_of w.unit chosen ≡ 0 = grind (arith, nat_tests) in
          let other : u ≢ w.unit = λ e. grind (arith, nat_tests) in
          (taken.others w).1 ((standing.each w).1 (known.0, known.1, known.2, new), λ e. other (sym (ap (λ (x : Waiting). x.unit) e)))

  reverse-push : (us : List ℕ) (u : ℕ) → reverse (us ++ u ∷ []) ≡ u ∷ reverse us
  reverse-push us u = reverse-append us (u ∷ [])

  -- what is left of the rule after one place more
  rest_after : (chosen : List ℕ) (m u : ℕ) (ms : List ℕ) → next_unit day stands s minute chosen m ≡ u → fetched day stands s minute chosen (m ∷ ms) ≡ u ∷ fetched day stands s minute (u ∷ chosen) ms
  unfolding fetched
  rest_after chosen m u ms e = ap (λ (v : ℕ). v ∷ fetched day stands s minute (v ∷ chosen) ms) e

  -- one place more
  pub fetched_more : (types : List ℕ) (i : ℕ) (us : List ℕ) (yards after : BTreeSet Waiting) (m u : ℕ) → i < length types → m ≡ get_or types i m
      → FetchedSoFar types i us yards → IsTaken yards s m minute after u → FetchedSoFar types (i + 1) (us ++ u ∷ []) after
  fetched_more types i us yards after m u lt at so_far taken =
      let next = taken_is_next (reverse us) yards after m u so_far.standing taken in
      let ms = drop (i + 1) types in
      let rest : drop i types ≡ m ∷ ms = drop_more types i m lt ∙ ap (λ (x : ℕ). x ∷ ms) (sym at) in
      let turn : reverse (us ++ u ∷ []) ≡ u ∷ reverse us = reverse-push us u in
      let long = so_far.long in
      let found : AllFound day stands s minute (reverse us) (m ∷ ms) = subst (λ (l : List ℕ). AllFound day stands s minute (reverse us) l) rest so_far.found in
      record {
        long = length-append us (u ∷ []) ∙ (omega arith);
        standing = subst (λ (l : List ℕ). AreStanding day stands l after) (sym turn) (standing_after (reverse us) yards after m u so_far.standing taken);
        found = subst (λ (l : List ℕ). AllFound day stands s minute l ms) (sym turn) (subst (λ (v : ℕ). AllFound day stands s minute (v ∷ reverse us) ms) next found.1);
        whole = append_assoc us (u ∷ []) (fetched day stands s minute (reverse (us ++ u ∷ [])) ms)
            ∙ ap (λ (l : List ℕ). us ++ u ∷ fetched day stands s minute l ms) turn
            ∙ ap (λ (l : List ℕ). us ++ l) (sym (rest_after (reverse us) m u ms next))
            ∙ ap (λ (l : List ℕ). us ++ fetched day stands s minute (reverse us) l) (sym rest) ∙ so_far.whole;
      }

  -- a unit is ready for each place
  pub never_missing : (types : List ℕ) (i : ℕ) (us : List ℕ) (yards : BTreeSet Waiting) (m : ℕ) → i < length types → m ≡ get_or types i m
      → FetchedSoFar types i us yards → NoneReady yards s m minute → ⊥
  never_missing types i us yards m lt at so_far none =
      let ms = drop (i + 1) types in
      let rest : drop i types ≡ m ∷ ms = drop_more types i m lt ∙ ap (λ (x : ℕ). x ∷ ms) (sym at) in
      let found : AllFound day stands s minute (reverse us) (m ∷ ms) = subst (λ (l : List ℕ). AllFound day stands s minute (reverse us) l) rest so_far.found in
      never_none (reverse us) yards m found.0.0 so_far.standing found.0.1 none

  -- before the first place, and after the last
  pub fetched_none : (types : List ℕ) (yards : BTreeSet Waiting) → AreStanding day stands [] yards → AllFound day stands s minute [] types → FetchedSoFar types 0 [] yards
  fetched_none types yards standing found = record { long = refl; standing = standing; found = found; whole = refl }

  pub fetched_all : (types : List ℕ) (i : ℕ) (us : List ℕ) (yards : BTreeSet Waiting) → length types ≤ i → FetchedSoFar types i us yards → us ≡ fetched day stands s minute [] types
  unfolding fetched
  fetched_all types i us yards le so_far =
      sym (append-nil us) ∙ ap (λ (l : List ℕ). us ++ fetched day stands s minute (reverse us) l) (sym (drop_all i types le)) ∙ so_far.whole
