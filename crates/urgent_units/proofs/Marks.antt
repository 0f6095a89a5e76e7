-- Sums over marked legs and over units at home.
use Rattle.std.proofs.Common.{◌≡◌, ◌≢◌, ℕ, zero, suc, ◌+◌, ◌≤◌, ◌<◌, Bool, true, false, List, [], ◌∷◌, ◌++◌, length, map, take, drop, refl, sym, ap, ◌∙◌, arith, inl, inr, Option, unwrap_or}
use Rattle.std.specs.Prelude.{if◌then◌else◌, not, ◌&&◌, ◌==◌, nat_le, nat_lt, filter}
use Rattle.std.specs.List.{All, flat_map}
use Rattle.std.proofs.lemmas.Bool.{cases_Bool, cases_lt, cases_eq, cond-true, cond-false, eq-eqb, eqb-true, le-leb, leb-true, lt-ltb, le-ltb}
use Rattle.std.proofs.lemmas.List.Elements.{All-head, All-tail}
use Rattle.inventory.specs.CountTable.{earlier}
use Rattle.inventory.proofs.Running.{none_past, same_plans}
use Rattle.timetable.specs.Links.{list_of}
use Rattle.timetable.specs.Lists.{count_of, has, below, listed, IsDistinct}
use Rattle.timetable.proofs.Listing.{get_listed, length-listed}
use Rattle.timetable.proofs.Ones.{one_same, one_other}
use Rattle.timetable.proofs.Sums.{sum_same}
use Rattle.flow_network.specs.declared.network.Arc.{Arc}
use Rattle.urgent_units.specs.declared.legs.Leg.{Leg}
use Rattle.urgent_units.specs.declared.legs.UnitLegs.{UnitLegs}
use Rattle.urgent_units.specs.declared.swaps.MarkedLeg.{MarkedLeg}
use Rattle.urgent_units.specs.Moments.{over_after}
use Rattle.urgent_units.specs.UnderWay.{added, ones}
use Rattle.urgent_units.specs.YardFlow.{aheads_from, marked_from, taken_units}
use Rattle.urgent_units.proofs.CutLaw.{picked, picked_all, picked_none}
use Rattle.urgent_units.proofs.LabelSums.{over-filter}
use Rattle.urgent_units.proofs.ListSums.{over, tally}
use Rattle.urgent_units.proofs.Moments.{Among, Rise, among_from, minute_within, over_at_minute, over_less, over_more}

drop_none : {X : Type 0} (n : ℕ) → drop {A = X} n [] ≡ []
drop_none zero = refl
drop_none (suc n) = refl

pub added_append : {X : Type 0} (f : X → ℕ) (xs ys : List X) → added f (xs ++ ys) ≡ added f xs + added f ys
added_append f [] ys = omega arith
added_append f (x ∷ xs) ys = omega (arith, added_append f xs ys)

pub added_map : {X Y : Type 0} (f : Y → ℕ) (g : X → Y) (xs : List X) → added f (map g xs) ≡ added (λ x. f (g x)) xs
added_map f g [] = refl
added_map f g (x ∷ xs) = omega (arith, added_map f g xs)

pub added_same : {X : Type 0} (f g : X → ℕ) (xs : List X) → All (λ x. f x ≡ g x) xs → added f xs ≡ added g xs
added_same f g [] same = refl
added_same {X} f g (x ∷ xs) same = omega (arith, All-head (λ (x : X). f x ≡ g x) x xs same, added_same f g xs (All-tail (λ (x : X). f x ≡ g x) x xs same))

-- ---- marked legs

marked_append : (xs ys : List Leg) (arcs : List Arc) → marked_from (xs ++ ys) arcs ≡ marked_from xs arcs ++ marked_from ys (drop (length xs) arcs)
marked_append [] ys arcs = refl
marked_append (x ∷ xs) ys [] =
    ap (λ (ms : List MarkedLeg). (record { leg = x; is_brought = false }) ∷ ms) (marked_append xs ys [] ∙ ap (λ (arcs : List Arc). marked_from xs [] ++ marked_from ys arcs) (drop_none (length xs)))
marked_append (x ∷ xs) ys (a ∷ arcs) = ap (λ (ms : List MarkedLeg). (record { leg = x; is_brought = nat_lt 0 a.flow }) ∷ ms) (marked_append xs ys arcs)

pub aheads_sum : (g : MarkedLeg → ℕ) (units : List UnitLegs) (arcs : List Arc) → added (λ legs. added g legs) (aheads_from units arcs) ≡ added g (marked_from (flat_map (λ unit. unit.legs) units) arcs)
aheads_sum g [] arcs = refl
aheads_sum g (unit ∷ units) arcs =
    let rest = aheads_sum g units (drop (length unit.legs) arcs) in
    let whole = ap (added g) (marked_append unit.legs (flat_map (λ (unit : UnitLegs). unit.legs) units) arcs) ∙ added_append g (marked_from unit.legs arcs) (marked_from (flat_map (λ (unit : UnitLegs). unit.legs) units) (drop (length unit.legs) arcs)) in
    omega (arith, rest, whole)

pub marked_front : (ls : List Leg) (arcs : List Arc) → marked_from ls (take (length ls) arcs) ≡ marked_from ls arcs
marked_front [] arcs = refl
marked_front (leg ∷ ls) [] = refl
marked_front (leg ∷ ls) (a ∷ arcs) = ap (λ (ms : List MarkedLeg). (record { leg = leg; is_brought = nat_lt 0 a.flow }) ∷ ms) (marked_front ls arcs)

pub legs_marked : (ls : List Leg) (arcs : List Arc) → map (λ x. x.leg) (marked_from ls arcs) ≡ ls
legs_marked [] arcs = refl
legs_marked (leg ∷ ls) [] = ap (λ (xs : List Leg). leg ∷ xs) (legs_marked ls [])
legs_marked (leg ∷ ls) (a ∷ arcs) = ap (λ (xs : List Leg). leg ∷ xs) (legs_marked ls arcs)

pub tests_same : (A : Bool → Bool) (T U : Leg → Bool) (ls : List Leg) (arcs : List Arc) → All (λ leg. T leg ≡ U leg) ls → added (λ x. ones (A x.is_brought && T x.leg)) (marked_from ls arcs) ≡ added (λ x. ones (A x.is_brought && U x.leg)) (marked_from ls arcs)
tests_same A T U [] arcs same = refl
tests_same A T U (leg ∷ ls) [] same =
    let here = ap (λ (b : Bool). ones (A false && b)) (All-head (λ (leg : Leg). T leg ≡ U leg) leg ls same) in
    omega (arith, here, tests_same A T U ls [] (All-tail (λ (leg : Leg). T leg ≡ U leg) leg ls same))
tests_same A T U (leg ∷ ls) (a ∷ arcs) same =
    let here = ap (λ (b : Bool). ones (A (nat_lt 0 a.flow) && b)) (All-head (λ (leg : Leg). T leg ≡ U leg) leg ls same) in
    omega (arith, here, tests_same A T U ls arcs (All-tail (λ (leg : Leg). T leg ≡ U leg) leg ls same))

halves : (b c : Bool) → ones (b && c) + ones (not b && c) ≡ tally c
halves true true = refl
halves true false = refl
halves false true = refl
halves false false = refl

-- marked ones and the others
pub both_marks : (T : Leg → Bool) (ls : List Leg) (arcs : List Arc) → added (λ x. ones (x.is_brought && T x.leg)) (marked_from ls arcs) + added (λ x. ones (not x.is_brought && T x.leg)) (marked_from ls arcs) ≡ over (λ leg. tally (T leg)) ls
both_marks T [] arcs = refl
both_marks T (leg ∷ ls) [] = omega (arith, halves false (T leg), both_marks T ls [])
both_marks T (leg ∷ ls) (a ∷ arcs) = omega (arith, halves (nat_lt 0 a.flow) (T leg), both_marks T ls arcs)

-- ---- units that are brought

pub taken_front : (us : List ℕ) (arcs : List Arc) → taken_units us (take (length us) arcs) ≡ taken_units us arcs
taken_front [] arcs = refl
taken_front (u ∷ us) [] = refl
taken_front (u ∷ us) (a ∷ arcs) = ap (λ (xs : List ℕ). if nat_lt 0 a.flow then u ∷ xs else xs) (taken_front us arcs)

pub taken_within : (us : List ℕ) (arcs : List Arc) (u : ℕ) → count_of u (taken_units us arcs) ≤ count_of u us
taken_within [] arcs u = omega arith
taken_within (v ∷ us) [] u = omega arith
taken_within (v ∷ us) (a ∷ arcs) u = either (nat_lt 0 a.flow) (taken_within us arcs u)
  where
    either : (b : Bool) → count_of u (taken_units us arcs) ≤ count_of u us → count_of u (if b then v ∷ taken_units us arcs else taken_units us arcs) ≤ (if v == u then 1 else 0) + count_of u us
    either true less = omega (arith, less)
    either false less = omega (arith, less)

-- what holds of the units that are brought, holds of no fewer
pub taken_few : (p : ℕ → Bool) (us : List ℕ) (arcs : List Arc) → ((u : ℕ) → 1 ≤ count_of u (taken_units us arcs) → p u ≡ true) → length (taken_units us arcs) ≤ over (λ u. tally (p u)) us
taken_few p [] arcs holds = omega arith
taken_few p (u ∷ us) [] holds = omega arith
taken_few p (u ∷ us) (a ∷ arcs) holds = either (nat_lt 0 a.flow) (λ each. taken_few p us arcs each) holds
  where
    either : (b : Bool) → (((v : ℕ) → 1 ≤ count_of v (taken_units us arcs) → p v ≡ true) → length (taken_units us arcs) ≤ over (λ u. tally (p u)) us)
        → ((v : ℕ) → 1 ≤ count_of v (if b then u ∷ taken_units us arcs else taken_units us arcs) → p v ≡ true) → length (if b then u ∷ taken_units us arcs else taken_units us arcs) ≤ tally (p u) + over (λ u. tally (p u)) us
    either true few holds =
        let here = holds u (let one = one_same u u refl in omega (arith, one)) in
        let rest = few (λ v there. holds v (omega (arith, there))) in
        omega (arith, rest, cond-true {A = ℕ} (p u) 1 0 here)
    either false few holds = (let rest = few holds in omega (arith, rest))

picked_one : (f : ℕ → ℕ) (u : ℕ) (ws : List ℕ) → count_of u ws ≡ 1 → picked f u ws ≡ f u
picked_one f u [] one = absurd (omega (arith, one))
picked_one f u (w ∷ ws) one = elim (cases_eq w u) [
  | inl same ↦
      let here = one_same w u same in
      let none = picked_none f u ws (omega (arith, one, here)) in
      omega (arith, cond-true {A = ℕ} (w == u) (f u) 0 (eq-eqb w u same), none)
  | inr differs ↦
      let other = one_other w u differs in
      let rest = picked_one f u ws (omega (arith, one, other)) in
      omega (arith, cond-false {A = ℕ} (w == u) (f u) 0 (not_same w u differs), rest)
]
  where
    not_same : (x y : ℕ) → x ≢ y → (x == y) ≡ false
    not_same x y differs = elim (cases_Bool (x == y)) [
      | inl same ↦ absurd (differs (eqb-true x y same))
      | inr isnt ↦ isnt
    ]

-- a sum over some units of all, each once
pub some_sum : (f : ℕ → ℕ) (p : ℕ → Bool) (ws : List ℕ) (n : ℕ) → IsDistinct ws → ((u : ℕ) → 1 ≤ count_of u ws → u < n) → ((u : ℕ) → 1 ≤ count_of u ws → p u ≡ true)
    → over (λ u. if has u ws then f u else 0) (filter p (below n)) ≡ over f ws
some_sum f p ws n once known pass =
    over-filter (λ u. if has u ws then f u else 0) p n
    ∙ sum_same (λ u. if p u then (if has u ws then f u else 0) else 0) (λ u. picked f u ws) n (λ u below. each u)
    ∙ sym (picked_all f ws n known)
  where
    each : (u : ℕ) → (if p u then (if has u ws then f u else 0) else 0) ≡ picked f u ws
    each u = elim (cases_lt 0 (count_of u ws)) [
      | inl some ↦
          let few = once u in
          cond-true {A = ℕ} (p u) (if has u ws then f u else 0) 0 (pass u some)
          ∙ cond-true {A = ℕ} (has u ws) (f u) 0 (le-leb 1 (count_of u ws) some)
          ∙ sym (picked_one f u ws (omega (arith, some, few)))
      | inr none ↦ nothing (p u) (has u ws) (refute (has u ws) (λ h. absurd (let some = leb-true 1 (count_of u ws) h in omega (arith, some, none)))) ∙ sym (picked_none f u ws (omega (arith, none)))
    ]
      where
        refute : (b : Bool) → (b ≡ true → ⊥) → b ≡ false
        refute true h = absurd (h refl)
        refute false h = refl

        nothing : (b c : Bool) → c ≡ false → (if b then (if c then f u else 0) else 0) ≡ 0
        nothing true c is = cond-false {A = ℕ} c (f u) 0 is
        nothing false c is = refl

-- ---- minutes and moments

pub refuted : (b : Bool) → (b ≡ true → ⊥) → b ≡ false
refuted true h = absurd (h refl)
refuted false h = refl

earlier_more : (over_ m d : ℕ) (ms : List ℕ) → Rise over_ ms → Among m ms → m ≤ d → suc (earlier m ms) ≤ earlier (suc d) ms
earlier_more over_ m d [] rise among le = absurd among
earlier_more over_ m d (x ∷ ms) rise (inl is) le =
    let none : earlier m (x ∷ ms) ≡ 0 = cond-false (nat_lt x m) (suc (earlier m ms)) 0 (le-ltb x m (omega (arith, is))) in
    let some : earlier (suc d) (x ∷ ms) ≡ suc (earlier (suc d) ms) = cond-true (nat_lt x (suc d)) (suc (earlier (suc d) ms)) 0 (lt-ltb x (suc d) (omega (arith, is, le))) in
    omega (arith, none, some)
earlier_more over_ m d (x ∷ ms) rise (inr later) le =
    let past = among_from (x + 1) m ms rise.1 later in
    let one : earlier m (x ∷ ms) ≡ suc (earlier m ms) = cond-true (nat_lt x m) (suc (earlier m ms)) 0 (lt-ltb x m (omega (arith, past))) in
    let other : earlier (suc d) (x ∷ ms) ≡ suc (earlier (suc d) ms) = cond-true (nat_lt x (suc d)) (suc (earlier (suc d) ms)) 0 (lt-ltb x (suc d) (omega (arith, past, le))) in
    omega (arith, one, other, earlier_more (x + 1) m d ms rise.1 later le)

earlier_less : (m d : ℕ) (ms : List ℕ) → d < m → earlier (suc d) ms ≤ earlier m ms
earlier_less m d [] less = omega arith
earlier_less m d (x ∷ ms) less = elim (cases_lt x (suc d)) [
  | inl early ↦
      let one : earlier m (x ∷ ms) ≡ suc (earlier m ms) = cond-true (nat_lt x m) (suc (earlier m ms)) 0 (lt-ltb x m (omega (arith, early, less))) in
      let other : earlier (suc d) (x ∷ ms) ≡ suc (earlier (suc d) ms) = cond-true (nat_lt x (suc d)) (suc (earlier (suc d) ms)) 0 (lt-ltb x (suc d) early) in
      omega (arith, one, other, earlier_less m d ms less)
  | inr late ↦
      let none : earlier (suc d) (x ∷ ms) ≡ 0 = cond-false (nat_lt x (suc d)) (suc (earlier (suc d) ms)) 0 (le-ltb x (suc d) late) in
      omega (arith, none)
]

-- the moment of a minute is among those up to another minute exactly where it is no later
pub moment_le : (m d : ℕ) (ms : List ℕ) → Rise 0 ms → Among m ms → nat_le (suc (earlier m ms)) (earlier (suc d) ms) ≡ nat_le m d
moment_le m d ms rise among = elim (cases_lt d m) [
  | inl late ↦
      let less = earlier_less m d ms late in
      refuted (nat_le (suc (earlier m ms)) (earlier (suc d) ms)) (λ h. absurd (let le = leb-true (suc (earlier m ms)) (earlier (suc d) ms) h in omega (arith, le, less)))
      ∙ sym (refuted (nat_le m d) (λ h. absurd (let le = leb-true m d h in omega (arith, le, late))))
  | inr early ↦ le-leb (suc (earlier m ms)) (earlier (suc d) ms) (earlier_more 0 m d ms rise among early) ∙ sym (le-leb m d early)
]

pub over_lt : (m d : ℕ) (ms : List ℕ) → Rise 0 ms → Among m ms → nat_lt m (over_after 0 ms (earlier (suc d) ms)) ≡ nat_le m d
over_lt m d ms rise among =
    let at = over_at_minute 0 m ms rise among in
    elim (cases_lt d m) [
      | inl late ↦
          let less = earlier_less m d ms late in
          let before = over_less 0 ms (earlier (suc d) ms) (suc (earlier m ms)) rise (omega (arith, less)) (minute_within 0 m ms rise among) in
          le-ltb m (over_after 0 ms (earlier (suc d) ms)) (omega (arith, at, before))
          ∙ sym (refuted (nat_le m d) (λ h. absurd (let le = leb-true m d h in omega (arith, le, late))))
      | inr early ↦
          let more = over_more 0 ms (suc (earlier m ms)) (earlier (suc d) ms) rise (earlier_more 0 m d ms rise among early) in
          lt-ltb m (over_after 0 ms (earlier (suc d) ms)) (omega (arith, at, more)) ∙ sym (le-leb m d early)
    ]

-- ---- one after another

listed_list : (plan : List (List ℕ)) (n t : ℕ) → t < n → list_of (listed (λ t. list_of plan t) n) t ≡ list_of plan t
unfolding list_of
listed_list plan n t below = ap (λ (o : Option (List ℕ)). unwrap_or o []) (get_listed (λ t. list_of plan t) n t below)

-- the plan list by list
pub listed_plan : (plan : List (List ℕ)) (n : ℕ) → n ≡ length plan → listed (λ t. list_of plan t) n ≡ plan
listed_plan plan n long = same_plans (listed (λ t. list_of plan t) n) plan (length-listed (λ t. list_of plan t) n ∙ long) (λ t. elim (cases_lt t n) [
  | inl below ↦ listed_list plan n t below
  | inr past ↦ none_past (listed (λ t. list_of plan t) n) t (let same = length-listed (λ t. list_of plan t) n in omega (arith, same, past)) ∙ sym (none_past plan t (omega (arith, long, past)))
])
