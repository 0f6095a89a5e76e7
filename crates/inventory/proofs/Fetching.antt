-- The units that are taken for the places of a trip: where the yard has enough of each type, each place gets a unit of
-- its type.
use Rattle.std.proofs.Common.{◌≡◌, ℕ, zero, suc, ◌+◌, ◌<◌, ◌≤◌, List, [], ◌∷◌, Bool, true, cond, Option, Some, None}
use Rattle.std.proofs.Common.{refl, sym, ap, ◌∙◌, subst, arith, inl, inr, false}
use Rattle.std.specs.Prelude.{if◌then◌else◌, ◌==◌, ◌&&◌, not, unwrap_or, nat_le, nat_lt}
use Rattle.std.proofs.lemmas.Bool.{cases_eq, cases_lt, cases_Bool, cond-true, cond-false, false≢true, ltb-true}
use Rattle.std.proofs.lemmas.Bool.{ltb-false, and_parts, and_from, eqb-true, eq-eqb, lt-leb}
use Rattle.std.proofs.lemmas.Bool.Decides.{nat_tests}
use Rattle.timetable.specs.Day.{Day, type_of, types_of, unit_count}
use Rattle.timetable.specs.Lists.{count_of, has, count_below}
use Rattle.inventory.specs.NamedUnits.{InYard, may_be_taken, ready_since, is_earlier, earliest, next_unit, fetched}
use Rattle.inventory.proofs.Order.{in_list}
use Rattle.inventory.specs.NamingLaws.{IsAvailable, IsNextUnit, UnitsAreTakenInTurn}
use Rattle.inventory.proofs.Sums.{one, one_same, one_other, sum_one_more}

-- ---- the earliest

-- what is found passes
pub earliest_passes : (key : ℕ → ℕ) (p : ℕ → Bool) (n u : ℕ) → earliest key p n ≡ Some u → (p u ≡ true) × (u < n)
earliest_passes key p zero u e = absurd (cc)
earliest_passes key p (suc n) u e = elim (cases_Bool (p n && is_earlier key n (earliest key p n))) [
  | inl first ↦
      let is : Some n ≡ Some u = sym (cond-true (p n && is_earlier key n (earliest key p n)) (Some n) (earliest key p n) first) ∙ e in
      let same : n ≡ u = cc in
      (subst (λ k. p k ≡ true) same (and_parts (p n) (is_earlier key n (earliest key p n)) first).0, omega arith)
  | inr later ↦
      let rest = earliest_passes key p n u (sym (cond-false (p n && is_earlier key n (earliest key p n)) (Some n) (earliest key p n) later) ∙ e) in
      let below : u < n = rest.1 in
      (rest.0, omega arith)
]

-- where one passes, one is found
pub earliest_found : (key : ℕ → ℕ) (p : ℕ → Bool) (n : ℕ) → 1 ≤ count_below p n → (u : ℕ) × (earliest key p n ≡ Some u)
earliest_found key p zero c = absurd (omega arith)
earliest_found key p (suc n) c = on (earliest key p n) refl (earliest_found key p n)
  where
    none : earliest key p n ≡ None → (1 ≤ count_below p n → (u : ℕ) × (earliest key p n ≡ Some u)) → p n ≡ true
    none e found = elim (cases_Bool (p n)) [
      | inl is ↦ is
      | inr isnt ↦
          let zero_here : cond {A = ℕ} (p n) 1 0 ≡ 0 = cond-false (p n) 1 0 isnt in
          let rest = found (omega arith) in
          let there = rest.1 in
          absurd (cc)
    ]

    on : (o : Option ℕ) → earliest key p n ≡ o → (1 ≤ count_below p n → (u : ℕ) × (earliest key p n ≡ Some u)) → (u : ℕ) × (earliest key p (suc n) ≡ Some u)
    on None e found = (n, cond-true (p n && is_earlier key n (earliest key p n)) (Some n) (earliest key p n) (and_from _ _ (none e found) (ap (is_earlier key n) e)))
    on (Some k) e found = elim (cases_Bool (p n && is_earlier key n (earliest key p n))) [
      | inl first ↦ (n, cond-true (p n && is_earlier key n (earliest key p n)) (Some n) (earliest key p n) first)
      | inr later ↦ (k, cond-false (p n && is_earlier key n (earliest key p n)) (Some n) (earliest key p n) later ∙ e)
    ]

-- where none is found, none passes
earliest_none : (key : ℕ → ℕ) (p : ℕ → Bool) (n k : ℕ) → earliest key p n ≡ None → k < n → p k ≡ true → ⊥
earliest_none key p zero k e lt passes = omega arith
earliest_none key p (suc n) k e lt passes = elim (cases_Bool (p n && is_earlier key n (earliest key p n))) [
  | inl first ↦ let some : Some n ≡ None = sym (cond-true (p n && is_earlier key n (earliest key p n)) (Some n) (earliest key p n) first) ∙ e in cc
  | inr later ↦
      let rest : earliest key p n ≡ None = sym (cond-false (p n && is_earlier key n (earliest key p n)) (Some n) (earliest key p n) later) ∙ e in
      elim (cases_eq k n) [
        | inl same ↦ false≢true (sym later ∙ and_from (p n) (is_earlier key n (earliest key p n)) (ap p (sym same) ∙ passes) (ap (is_earlier key n) rest))
        | inr ne ↦ earliest_none key p n k rest (omega arith) passes
      ]
]

-- a number has the least key of those that pass, and is the smallest of those with that key
pub record IsEarliest (key : ℕ → ℕ) (p : ℕ → Bool) (n u : ℕ) : Type 0 where
  pub least : (k : ℕ) → k < n → p k ≡ true → key u ≤ key k
  pub smallest : (k : ℕ) → k < n → p k ≡ true → key k ≡ key u → u ≤ k

pub earliest_least : (key : ℕ → ℕ) (p : ℕ → Bool) (n u : ℕ) → earliest key p n ≡ Some u → IsEarliest key p n u
earliest_least key p zero u e = absurd (cc)
earliest_least key p (suc n) u e = elim (cases_Bool (p n && is_earlier key n (earliest key p n))) [
  | inl first ↦
      let is : Some n ≡ Some u = sym (cond-true (p n && is_earlier key n (earliest key p n)) (Some n) (earliest key p n) first) ∙ e in
      let same : n ≡ u = cc in
      subst (IsEarliest key p (suc n)) same (at_last (earliest key p n) refl (and_parts (p n) (is_earlier key n (earliest key p n)) first).1 (earliest_least key p n))
  | inr later ↦
      let found : earliest key p n ≡ Some u = sym (cond-false (p n && is_earlier key n (earliest key p n)) (Some n) (earliest key p n) later) ∙ e in
      let rest : IsEarliest key p n u = earliest_least key p n u found in
      let below = (earliest_passes key p n u found).1 in
      let not_last : p n ≡ true → key u ≤ key n =
      λ passes. ltb-false (key n) (key u) (not_second (p n) (is_earlier key n (earliest key p n)) (key n) (key u) (ap (is_earlier key n) found) passes later) in
      record {
        least = λ k lt passes. elim (cases_eq k n) [
          | inl same ↦ let le = not_last (ap p (sym same) ∙ passes) in let e = ap key same in omega arith
          | inr ne ↦ rest.least k (omega arith) passes
        ];
        smallest = λ k lt passes e. elim (cases_eq k n) [
          | inl same ↦ omega arith
          | inr ne ↦ rest.smallest k (omega arith) passes e
        ];
      }
]
  where
    not_second : (b c : Bool) (x y : ℕ) → c ≡ nat_lt x y → b ≡ true → (b && c) ≡ false → nat_lt x y ≡ false
    not_second true c x y is passes e = sym is ∙ e
    not_second false c x y is passes e = absurd (false≢true passes)

    at_last : (o : Option ℕ) → earliest key p n ≡ o → is_earlier key n (earliest key p n) ≡ true → ((u : ℕ) → earliest key p n ≡ Some u → IsEarliest key p n u) → IsEarliest key p (suc n) n
    at_last None is first rest = record {
      least = λ k lt passes. elim (cases_eq k n) [
        | inl same ↦ let e = ap key same in omega arith
        | inr ne ↦ absurd (earliest_none key p n k is (omega arith) passes)
      ];
      smallest = λ k lt passes e. elim (cases_eq k n) [
        | inl same ↦ omega arith
        | inr ne ↦ absurd (earliest_none key p n k is (omega arith) passes)
      ];
    }
    at_last (Some v) is first rest =
        let before = ltb-true (key n) (key v) (ap (is_earlier key n) (sym is) ∙ first) in
        let earlier : IsEarliest key p n v = rest v is in
        record {
          least = λ k lt passes. elim (cases_eq k n) [
            | inl same ↦ let e = ap key same in omega arith
            | inr ne ↦ let le = earlier.least k (omega arith) passes in omega arith
          ];
          smallest = λ k lt passes e. elim (cases_eq k n) [
            | inl same ↦ omega arith
            | inr ne ↦ let le = earlier.least k (omega arith) passes in absurd (omega arith)
          ];
        }

-- ---- the units taken

module _ (day : Day) (stands : ℕ → Option InYard) (s minute : ℕ) where
  -- a unit of the type that is there and was not taken
  unfoldable pub is_free : List ℕ → ℕ → ℕ → Bool
  is_free chosen m u = may_be_taken s minute (stands u) && (type_of day u == m) && not (has u chosen)

  unfoldable pub free_count : List ℕ → ℕ → ℕ
  free_count chosen m = count_below (is_free chosen m) (unit_count day)

  pub record AreFetched (chosen types us : List ℕ) : Type 0 where
    pub types_are : types_of day us ≡ types
    pub known : (u : ℕ) → 1 ≤ count_of u us → u < unit_count day
    pub there : (u : ℕ) → 1 ≤ count_of u us → may_be_taken s minute (stands u) ≡ true
    pub others : (u : ℕ) → 1 ≤ count_of u us → count_of u chosen ≡ 0
    pub distinct : (u : ℕ) → count_of u us ≤ 1

  not_has : (u : ℕ) (us : List ℕ) → not (has u us) ≡ true → count_of u us ≡ 0
  not_has u us h = elim (cases_lt 0 (count_of u us)) [
    | inl there ↦ absurd (false≢true (sym (ap not (le_has u us (omega arith))) ∙ h))
    | inr none ↦ omega arith
  ]
    where
      le_has : (u : ℕ) (us : List ℕ) → 1 ≤ count_of u us → has u us ≡ true
      le_has u us c = grind (arith, nat_tests)

  -- one fewer is free once one is taken
  one_fewer : (chosen : List ℕ) (m u k : ℕ) → u < unit_count day → is_free chosen m u ≡ true → free_count chosen k ≡ free_count (u ∷ chosen) k + one m k
  unfolding free_count is_free
  one_fewer chosen m u k lt free = sum_one_more (λ v. if is_free chosen k v then 1 else 0) (λ v. if is_free (u ∷ chosen) k v then 1 else 0) u (one m k) (unit_count day) lt
      (here (may_be_taken s minute (stands u)) (count_of u chosen) (type_of day u) inner.0 (eqb-true _ _ inner.1) (not_has u chosen outer.1))
      (λ v ne. let o = one_other u v (λ e. ne (sym e)) in let same : count_of v (u ∷ chosen) ≡ count_of v chosen = omega arith in
      ap (λ (c : ℕ). cond {A = ℕ} (may_be_taken s minute (stands v) && (type_of day v == k) && not (nat_le 1 c)) 1 0) (sym same))
    where
      outer : ((may_be_taken s minute (stands u) && (type_of day u == m)) ≡ true) × (not (has u chosen) ≡ true)
      outer = and_parts (may_be_taken s minute (stands u) && (type_of day u == m)) (not (has u chosen)) free

      inner : (may_be_taken s minute (stands u) ≡ true) × ((type_of day u == m) ≡ true)
      inner = and_parts (may_be_taken s minute (stands u)) (type_of day u == m) outer.0

      here : (b : Bool) (c t : ℕ) → b ≡ true → t ≡ m → c ≡ 0
          → cond {A = ℕ} (b && (t == k) && not (nat_le 1 c)) 1 0 ≡ cond {A = ℕ} (b && (t == k) && not (nat_le 1 (one u u + c))) 1 0 + one m k
      here b c t is e none = grind (arith, nat_tests)

  next_is : (chosen : List ℕ) (m u : ℕ) → earliest (λ u. ready_since (stands u)) (is_free chosen m) (unit_count day) ≡ Some u → next_unit day stands s minute chosen m ≡ u
  unfolding next_unit is_free
  next_is chosen m u e = ap (λ (o : Option ℕ). unwrap_or o 0) e

  some_free : (chosen : List ℕ) (m : ℕ) → 1 ≤ free_count chosen m → 1 ≤ count_below (is_free chosen m) (unit_count day)
  unfolding free_count
  some_free chosen m h = h

  free_parts : (chosen : List ℕ) (m u : ℕ) → is_free chosen m u ≡ true → (may_be_taken s minute (stands u) ≡ true) × (type_of day u ≡ m) × (count_of u chosen ≡ 0)
  unfolding is_free
  free_parts chosen m u free =
      let outer = and_parts (may_be_taken s minute (stands u) && (type_of day u == m)) (not (has u chosen)) free in
      let inner = and_parts (may_be_taken s minute (stands u)) (type_of day u == m) outer.0 in
      (inner.0, eqb-true (type_of day u) m inner.1, not_has u chosen outer.1)

  one_more : (chosen : List ℕ) (m u : ℕ) (types us : List ℕ) → u < unit_count day → is_free chosen m u ≡ true → AreFetched (u ∷ chosen) types us → AreFetched chosen (m ∷ types) (u ∷ us)
  one_more chosen m u types us lt free rest =
      let (there, type_is, new) = free_parts chosen m u free in
      let self = one_same u u refl in
      record {
        types_are = ap (λ k. k ∷ types_of day us) type_is ∙ ap (λ ks. m ∷ ks) rest.types_are;
        known = λ v c. elim (in_list v u us c) [ inl e ↦ subst (λ w. w < unit_count day) e lt | inr later ↦ rest.known v later ];
        there = λ v c. elim (in_list v u us c) [ inl e ↦ subst (λ w. may_be_taken s minute (stands w) ≡ true) e there | inr later ↦ rest.there v later ];
        others = λ v c. elim (in_list v u us c) [ inl e ↦ subst (λ w. count_of w chosen ≡ 0) e new | inr later ↦ let o = rest.others v later in omega arith ];
        distinct = λ v. elim (cases_lt 0 (count_of v us)) [
          | inl more ↦ let o = rest.others v (omega arith) in let few = rest.distinct v in omega arith
          | inr none ↦ elim (cases_eq u v) [
            | inl e ↦ let o = one_same u v e in omega arith
            | inr ne ↦ let o = one_other u v ne in omega arith
          ]
        ];
      }

  -- where enough are free of each type, each place gets its unit
  pub are_fetched : (chosen types : List ℕ) → ((m : ℕ) → count_of m types ≤ free_count chosen m) → AreFetched chosen types (fetched day stands s minute chosen types)
  unfolding fetched
  are_fetched chosen [] enough = record {
    types_are = refl;
    known = λ u c. absurd (omega arith);
    there = λ u c. absurd (omega arith);
    others = λ u c. absurd (omega arith);
    distinct = λ u. omega arith;
  }
  are_fetched chosen (m ∷ types) enough =
      let enough_here = enough m in
      let self = one_same m m refl in
      let found = earliest_found (λ u. ready_since (stands u)) (is_free chosen m) (unit_count day) (some_free chosen m (omega arith)) in
      let passes = earliest_passes (λ u. ready_since (stands u)) (is_free chosen m) (unit_count day) found.0 found.1 in
      let is = next_is chosen m found.0 found.1 in
      let fewer : (k : ℕ) → free_count chosen k ≡ free_count (found.0 ∷ chosen) k + one m k = λ k. one_fewer chosen m found.0 k passes.1 passes.0 in
      let rest : AreFetched (found.0 ∷ chosen) types (fetched day stands s minute (found.0 ∷ chosen) types) =
      are_fetched (found.0 ∷ chosen) types (λ k. let few = enough k in let less = fewer k in omega arith) in
      subst (λ v. AreFetched chosen (m ∷ types) (v ∷ fetched day stands s minute (v ∷ chosen) types)) (sym is)
      (one_more chosen m found.0 types (fetched day stands s minute (found.0 ∷ chosen) types) passes.1 passes.0 rest)

-- ---- the unit that is taken next

is_available : (day : Day) (stands : ℕ → Option InYard) (s minute : ℕ) (chosen : List ℕ) (m u : ℕ) → IsAvailable day stands s minute chosen m u
    → (may_be_taken s minute (stands u) && (type_of day u == m) && not (has u chosen)) ≡ true
is_available day stands s minute chosen m u a =
    and_from (may_be_taken s minute (stands u) && (type_of day u == m)) (not (has u chosen))
    (and_from (may_be_taken s minute (stands u)) (type_of day u == m) a.there (eq-eqb (type_of day u) m a.type_is)) (ap not (lt-leb 1 (count_of u chosen) (let new = a.new in omega arith)))

count_some : (p : ℕ → Bool) (n u : ℕ) → u < n → p u ≡ true → 1 ≤ count_below p n
count_some p zero u lt is = absurd (omega arith)
count_some p (suc n) u lt is = elim (cases_eq u n) [
  | inl e ↦ let o = cond-true {A = ℕ} (p n) 1 0 (ap p (sym e) ∙ is) in omega arith
  | inr ne ↦ let rest = count_some p n u (omega arith) is in omega arith
]

pub next_units : UnitsAreTakenInTurn
unfolding next_unit is_free
next_units day stands s minute chosen m v known available =
    let key : ℕ → ℕ = λ u. ready_since (stands u) in
    let passes : ℕ → Bool = λ u. may_be_taken s minute (stands u) && (type_of day u == m) && not (has u chosen) in
    let found = earliest_found (λ u. ready_since (stands u)) (λ u. may_be_taken s minute (stands u) && (type_of day u == m) && not (has u chosen)) (unit_count day)
    (count_some (λ u. may_be_taken s minute (stands u) && (type_of day u == m) && not (has u chosen)) (unit_count day) v known (is_available day stands s minute chosen m v available)) in
    let is = earliest_passes (λ u. ready_since (stands u)) (λ u. may_be_taken s minute (stands u) && (type_of day u == m) && not (has u chosen)) (unit_count day) found.0 found.1 in
    let first = earliest_least (λ u. ready_since (stands u)) (λ u. may_be_taken s minute (stands u) && (type_of day u == m) && not (has u chosen)) (unit_count day) found.0 found.1 in
    let parts = free_parts day stands s minute chosen m found.0 (as_free day stands s minute chosen m found.0 is.0) in
    subst (IsNextUnit day stands s minute chosen m) (sym (ap (λ (o : Option ℕ). unwrap_or o 0) found.1)) (record {
      known = is.1;
      available = record { there = parts.0; type_is = parts.1; new = parts.2 };
      earliest = λ u lt a. first.least u lt (is_available day stands s minute chosen m u a);
      smallest = λ u lt a e. first.smallest u lt (is_available day stands s minute chosen m u a) e;
    })
  where
    as_free : (day : Day) (stands : ℕ → Option InYard) (s minute : ℕ) (chosen : List ℕ) (m u : ℕ) → (may_be_taken s minute (stands u) && (type_of day u == m) && not (has u chosen)) ≡ true → is_free day stands s minute chosen m u ≡ true
    as_free day stands s minute chosen m u e = e
