-- What a table of counts holds, once it is filled.
use Rattle.std.proofs.Common.{◌≡◌, ◌≢◌, ℕ, zero, suc, ◌+◌, ◌*◌, ◌-◌, ◌^◌, ◌<◌, ◌≤◌, List, [], ◌∷◌, length, set, get_or}
use Rattle.std.proofs.Common.{Bool, true, false, cond, refl, sym, ap, ◌∙◌, subst, arith, inl, inr, pos, negsuc, ℤ, ◌+ℤ◌}
use Rattle.std.proofs.Common.{◌-ℤ◌, length-set}
use Rattle.std.specs.Prelude.{if◌then◌else◌, ◌==◌, ◌&&◌, ◌≤ℤ◌, neg_ℤ, min}
use Rattle.std.specs.Int.{saturate_to_bits}
use Rattle.std.proofs.lemmas.Bool.{cases_eq, cases_Bool, cond-true, cond-false, false≢true, and_parts, and_from}
use Rattle.std.proofs.lemmas.Bool.{eqb-true, eq-eqb}
use Rattle.std.proofs.lemmas.Int.{ints}
use Rattle.std.proofs.lemmas.List.{get_or-set_same, get_or-set_other}
use Rattle.timetable.specs.Day.{Day, leaves, from_of, to_of, ready_at}
use Rattle.timetable.specs.Lists.{count_of, sum_below}
use Rattle.timetable.specs.Links.{itself, given_with, taken_with}
use Rattle.timetable.specs.Minutes.{minutes_of}
use Rattle.inventory.specs.CountTable.{plus, earlier, changed_at, changed_in, changed, changed_for, with_given}
use Rattle.inventory.specs.CountTable.{with_trips, MoveFew}
use Rattle.inventory.specs.Counted.{counts_of, number_at, HasPlaces}
use Rattle.inventory.proofs.Sums.{one_same, one_other}
use Rattle.inventory.specs.Counts.{takes_of, gives_of}

-- ---- sums that stay small

-- no larger than a bound, whatever the sign
pub record IsSmall (bound : ℕ) (x : ℤ) : Type 0 where
  pub above : neg_ℤ (pos bound) ≤ℤ x
  pub below : x ≤ℤ pos bound

pub plus_is : (x y : ℤ) → IsSmall 1000000000000 (x +ℤ y) → plus x y ≡ x +ℤ y
plus_is x y small = of_sum (x +ℤ y) small
  where
    of_sum : (z : ℤ) → IsSmall 1000000000000 z → saturate_to_bits 63 z ≡ z
    of_sum (pos n) small = (let le = small.below in let least : min n (2 ^ 63 - 1) ≡ n = omega (arith, ints) in ap pos least)
    of_sum (negsuc n) small = (let le = small.above in let least : min n (2 ^ 63 - 1) ≡ n = omega (arith, ints) in ap negsuc least)

-- ---- one number changed

module _ (day : Day) (T : List (List (List ℤ))) (places : HasPlaces day T) (s0 m0 k0 : ℕ) (x : ℤ) where
  abbrev row : List (List ℤ)
  row = changed_in m0 k0 x (get_or T s0 [])

  abbrev counts : List ℤ
  counts = changed_at k0 x (get_or (get_or T s0 []) m0 [])

  row_here : (s : ℕ) → s < length day.stations → s ≡ s0 → get_or (changed s0 m0 k0 x T) s [] ≡ row
  row_here s lt e = subst (λ (t : ℕ). get_or (set T s0 row) t [] ≡ row) (sym e) (get_or-set_same T s0 row [] (let n = places.stations in let e' = e in omega arith))

  row_other : (s : ℕ) → s ≢ s0 → get_or (changed s0 m0 k0 x T) s [] ≡ get_or T s []
  row_other s ne = get_or-set_other T s0 s row [] ne

  counts_here : (s m : ℕ) → s < length day.stations → m < length day.types → s ≡ s0 → m ≡ m0 → counts_of (changed s0 m0 k0 x T) s m ≡ counts
  counts_here s m lt lt' e e' =
      let n = places.types s lt in
      let long : length (get_or T s0 []) ≡ length day.types = ap (λ (t : ℕ). length (get_or T t [])) (sym e) ∙ n in
      ap (λ (r : List (List ℤ)). get_or r m []) (row_here s lt e)
      ∙ subst (λ (t : ℕ). get_or row t [] ≡ counts) (sym e') (get_or-set_same (get_or T s0 []) m0 counts [] (omega arith))

  counts_other_type : (s m : ℕ) → s < length day.stations → s ≡ s0 → m ≢ m0 → counts_of (changed s0 m0 k0 x T) s m ≡ counts_of T s m
  counts_other_type s m lt e ne =
      ap (λ (r : List (List ℤ)). get_or r m []) (row_here s lt e)
      ∙ get_or-set_other (get_or T s0 []) m0 m counts [] ne
      ∙ ap (λ (t : ℕ). get_or (get_or T t []) m []) (sym e)

  pub changed_here : (s m k : ℕ) → s < length day.stations → m < length day.types → k ≤ length (minutes_of day s) → s ≡ s0 → m ≡ m0 → k ≡ k0
      → number_at (changed s0 m0 k0 x T) s m k ≡ plus (number_at T s m k) x
  changed_here s m k lt lt' le e e' e'' =
      let n = places.minutes s m lt lt' in
      let long : length (counts_of T s0 m0) ≡ length (counts_of T s m) = ap (λ (t : ℕ). length (counts_of T t m0)) (sym e) ∙ ap (λ (t : ℕ). length (counts_of T s t)) (sym e') in
      ap (λ (c : List ℤ). get_or c k (pos 0)) (counts_here s m lt lt' e e')
      ∙ subst (λ (t : ℕ). get_or counts t (pos 0) ≡ plus (number_at T s0 m0 t) x) (sym e'') (get_or-set_same (counts_of T s0 m0) k0 (plus (number_at T s0 m0 k0) x) (pos 0) (omega arith))
      ∙ ap (λ (t : ℕ). plus (number_at T t m0 k) x) (sym e) ∙ ap (λ (t : ℕ). plus (number_at T s t k) x) (sym e')

  pub elsewhere : (s m k : ℕ) → s < length day.stations → m < length day.types → (s ≡ s0 → m ≡ m0 → k ≡ k0 → ⊥) → number_at (changed s0 m0 k0 x T) s m k ≡ number_at T s m k
  elsewhere s m k lt lt' apart = elim (cases_eq s s0) [
    | inr ne ↦ ap (λ (r : List (List ℤ)). get_or (get_or r m []) k (pos 0)) (row_other s ne)
    | inl e ↦ elim (cases_eq m m0) [
      | inr ne ↦ ap (λ (c : List ℤ). get_or c k (pos 0)) (counts_other_type s m lt e ne)
      | inl e' ↦ elim (cases_eq k k0) [
        | inl e'' ↦ absurd (apart e e' e'')
        | inr ne ↦
            ap (λ (c : List ℤ). get_or c k (pos 0)) (counts_here s m lt lt' e e')
            ∙ get_or-set_other (counts_of T s0 m0) k0 k (plus (number_at T s0 m0 k0) x) (pos 0) ne
            ∙ ap (λ (t : ℕ). number_at T t m0 k) (sym e) ∙ ap (λ (t : ℕ). number_at T s t k) (sym e')
      ]
    ]
  ]

  pub changed_places : HasPlaces day (changed s0 m0 k0 x T)
  changed_places = record {
    stations = length-set T s0 row ∙ places.stations;
    types = λ s lt. elim (cases_eq s s0) [
      | inl e ↦ ap length (row_here s lt e) ∙ length-set (get_or T s0 []) m0 counts ∙ ap (λ (t : ℕ). length (get_or T t [])) (sym e) ∙ places.types s lt
      | inr ne ↦ ap length (row_other s ne) ∙ places.types s lt
    ];
    minutes = λ s m lt lt'. elim (cases_eq s s0) [
      | inr ne ↦ ap (λ (r : List (List ℤ)). length (get_or r m [])) (row_other s ne) ∙ places.minutes s m lt lt'
      | inl e ↦ elim (cases_eq m m0) [
        | inr ne ↦ ap length (counts_other_type s m lt e ne) ∙ places.minutes s m lt lt'
        | inl e' ↦ ap length (counts_here s m lt lt' e e') ∙ length-set (counts_of T s0 m0) k0 (plus (number_at T s0 m0 k0) x)
            ∙ ap (λ (t : ℕ). length (counts_of T t m0)) (sym e) ∙ ap (λ (t : ℕ). length (counts_of T s t)) (sym e') ∙ places.minutes s m lt lt'
      ]
    ];
  }

-- a number of units that counts at one station and place, and not at others
abbrev pub at_place : ℕ → ℕ → ℕ → ℕ → ℕ → ℕ
at_place s0 k0 s k n = if (s0 == s) && (k0 == k) then n else 0

count_le : (m : ℕ) (us : List ℕ) → count_of m us ≤ length us
count_le m [] = omega arith
count_le m (u ∷ us) = let rest = count_le m us in elim (cases_eq u m) [
  | inl e ↦ let one = one_same u m e in omega arith
  | inr ne ↦ let other = one_other u m ne in omega arith
]

module _ (day : Day) (s m k : ℕ) (lt : s < length day.stations) (lt' : m < length day.types) (le : k ≤ length (minutes_of day s)) where
  nothing : (t : Bool) (f : ℕ → ℤ) → f 0 ≡ f (cond {A = ℕ} t 0 0)
  nothing true f = refl
  nothing false f = refl

  -- a number is changed once for each unit of the type
  pub each_for : (s0 k0 : ℕ) (x : ℤ) (f : ℕ → ℤ) (us : List ℕ) (T : List (List (List ℤ))) → HasPlaces day T → number_at T s m k ≡ f 0 → ((i : ℕ) → i < length us → plus (f i) x ≡ f (suc i))
      → (number_at (changed_for s0 k0 x us T) s m k ≡ f (at_place s0 k0 s k (count_of m us))) × HasPlaces day (changed_for s0 k0 x us T)
  each_for s0 k0 x f [] T places is steps = (is ∙ nothing ((s0 == s) && (k0 == k)) f, places)
  each_for s0 k0 x f (u ∷ us) T places is steps =
      let later : HasPlaces day (changed s0 u k0 x T) = changed_places day T places s0 u k0 x in
      elim (cases_Bool ((s0 == s) && (k0 == k))) [
        | inl here ↦
            let both = and_parts (s0 == s) (k0 == k) here in
            elim (cases_eq u m) [
              | inl e ↦
                  let now : number_at (changed s0 u k0 x T) s m k ≡ f 1 =
                  changed_here day T places s0 u k0 x s m k lt lt' le (sym (eqb-true s0 s both.0)) (sym e) (sym (eqb-true k0 k both.1)) ∙ ap (λ (z : ℤ). plus z x) is ∙ steps 0 (omega arith) in
                  let rest = each_for s0 k0 x (λ i. f (suc i)) us (changed s0 u k0 x T) later now (λ i less. steps (suc i) (omega arith)) in
                  let one = one_same u m e in
                  let first = cond-true {A = ℕ} ((s0 == s) && (k0 == k)) (count_of m us) 0 here in
                  let all = cond-true {A = ℕ} ((s0 == s) && (k0 == k)) (count_of m (u ∷ us)) 0 here in
                  let same : suc (at_place s0 k0 s k (count_of m us)) ≡ at_place s0 k0 s k (count_of m (u ∷ us)) = omega arith in
                  (rest.0 ∙ ap f same, rest.1)
              | inr ne ↦
                  let now : number_at (changed s0 u k0 x T) s m k ≡ f 0 = elsewhere day T places s0 u k0 x s m k lt lt' (λ e e' e''. ne (sym e')) ∙ is in
                  let rest = each_for s0 k0 x f us (changed s0 u k0 x T) later now (λ i less. steps i (omega arith)) in
                  let other = one_other u m ne in
                  let same : count_of m us ≡ count_of m (u ∷ us) = omega arith in
                  (rest.0 ∙ ap (λ (n : ℕ). f (at_place s0 k0 s k n)) same, rest.1)
            ]
        | inr not_here ↦
            let now : number_at (changed s0 u k0 x T) s m k ≡ f 0 =
            elsewhere day T places s0 u k0 x s m k lt lt' (λ e e' e''. false≢true (sym not_here ∙ and_from (s0 == s) (k0 == k) (eq-eqb s0 s (sym e)) (eq-eqb k0 k (sym e'')))) ∙ is in
            let rest = each_for s0 k0 x f us (changed s0 u k0 x T) later now (λ i less. steps i (omega arith)) in
            let before = cond-false {A = ℕ} ((s0 == s) && (k0 == k)) (count_of m us) 0 not_here in
            let after = cond-false {A = ℕ} ((s0 == s) && (k0 == k)) (count_of m (u ∷ us)) 0 not_here in
            let same : at_place s0 k0 s k (count_of m us) ≡ at_place s0 k0 s k (count_of m (u ∷ us)) = omega arith in
            (rest.0 ∙ ap f same, rest.1)
      ]

  module _ (lists : List (List ℕ)) where
    abbrev pub gives_in : ℕ → ℕ
    gives_in n = sum_below (λ t. at_place (to_of day t) (earlier (ready_at day t) (minutes_of day (to_of day t))) s k (gives_of day lists m t)) n

    abbrev pub takes_in : ℕ → ℕ
    takes_in n = sum_below (λ t. at_place (from_of day t) (earlier (leaves day t) (minutes_of day (from_of day t))) s k (takes_of day lists m t)) n

    at_most : (b : Bool) (us : List ℕ) → length us ≤ 6 → cond {A = ℕ} b (count_of m us) 0 ≤ 6
    at_most true us few = let less = count_le m us in omega arith
    at_most false us few = omega arith

    pub trips_are : (n : ℕ) (T : List (List (List ℤ))) → ((t : ℕ) → t < n → MoveFew day lists t) → n ≤ 400 → HasPlaces day T → number_at T s m k ≡ pos 0
        → (number_at (with_trips day lists n T) s m k ≡ pos (gives_in n) -ℤ pos (takes_in n)) × HasPlaces day (with_trips day lists n T) × (gives_in n ≤ 6 * n) × (takes_in n ≤ 6 * n)
    trips_are zero T few within places is = (is, places, omega arith, omega arith)
    trips_are (suc n) T few within places is =
        let (number, there, gave, took) = trips_are n T (λ t less. few t (omega arith)) (omega arith) places is in
        let here : MoveFew day lists n = few n (omega arith) in
        let few_given = here.given in
        let few_taken = here.taken in
        let given = each_for (to_of day n) (earlier (ready_at day n) (minutes_of day (to_of day n))) (pos 1) (λ i. pos (gives_in n + i) -ℤ pos (takes_in n)) (given_with itself day lists n) (with_trips day lists n T) there
        (number ∙ start (gives_in n) (takes_in n)) (λ i less. one_given (gives_in n) (takes_in n) i (omega arith) (omega arith)) in
        let g = at_place (to_of day n) (earlier (ready_at day n) (minutes_of day (to_of day n))) s k (gives_of day lists m n) in
        let taken = each_for (from_of day n) (earlier (leaves day n) (minutes_of day (from_of day n))) (negsuc 0) (λ i. pos (gives_in n + at_place (to_of day n) (earlier (ready_at day n) (minutes_of day (to_of day n))) s k (gives_of day lists m n)) -ℤ pos (takes_in n + i)) (taken_with itself day lists n) (with_given day lists n (with_trips day lists n T)) given.1
        (given.0 ∙ start' (gives_in (suc n)) (takes_in n)) (λ i less. one_taken (gives_in (suc n)) (takes_in n) i (let most = at_most ((to_of day n == s) && (earlier (ready_at day n) (minutes_of day (to_of day n)) == k)) (given_with itself day lists n) few_given in omega arith) (omega arith)) in
        let most = at_most ((to_of day n == s) && (earlier (ready_at day n) (minutes_of day (to_of day n)) == k)) (given_with itself day lists n) few_given in
        let most' = at_most ((from_of day n == s) && (earlier (leaves day n) (minutes_of day (from_of day n)) == k)) (taken_with itself day lists n) few_taken in
        (taken.0, taken.1, omega arith, omega arith)
      where
        start : (a b : ℕ) → pos a -ℤ pos b ≡ pos (a + 0) -ℤ pos b
        start a b = let e : a ≡ a + 0 = omega arith in ap (λ (n : ℕ). pos n -ℤ pos b) e

        start' : (a b : ℕ) → pos a -ℤ pos b ≡ pos a -ℤ pos (b + 0)
        start' a b = let e : b ≡ b + 0 = omega arith in ap (λ (n : ℕ). pos a -ℤ pos n) e

        one_given : (a b i : ℕ) → a + i ≤ 100000 → b ≤ 100000 → plus (pos (a + i) -ℤ pos b) (pos 1) ≡ pos (a + suc i) -ℤ pos b
        one_given a b i le le' = plus_is (pos (a + i) -ℤ pos b) (pos 1) (record { above = omega (arith, ints); below = omega (arith, ints) }) ∙ (omega (arith, ints))

        one_taken : (a b i : ℕ) → a ≤ 100000 → b + i ≤ 100000 → plus (pos a -ℤ pos (b + i)) (negsuc 0) ≡ pos a -ℤ pos (b + suc i)
        one_taken a b i le le' = plus_is (pos a -ℤ pos (b + i)) (negsuc 0) (record { above = omega (arith, ints); below = omega (arith, ints) }) ∙ (omega (arith, ints))
