-- A table that is filled holds the counts of the yards.
use Rattle.std.proofs.Common.{◌≡◌, ℕ, zero, suc, ◌+◌, ◌<◌, ◌≤◌, List, [], ◌∷◌, length, get_or, Bool, true, false, refl}
use Rattle.std.proofs.Common.{sym, ap, ◌∙◌, arith, inl, inr, pos, ℤ, ◌-ℤ◌}
use Rattle.std.specs.Prelude.{if◌then◌else◌, ◌==◌, ◌&&◌, nat_le, nat_lt}
use Rattle.std.specs.List.{AllPairs}
use Rattle.std.proofs.lemmas.Bool.{cases_eq, cases_lt, cases_Bool, cond-true, cond-false, lt-ltb, le-ltb, lt-leb}
use Rattle.std.proofs.lemmas.Bool.{le-leb, eq-eqb, ne_eqb}
use Rattle.std.proofs.lemmas.Bool.Decides.{nat_tests}
use Rattle.std.proofs.lemmas.Int.{ints}
use Rattle.timetable.specs.Day.{Day}
use Rattle.timetable.specs.Lists.{sum_below}
use Rattle.timetable.specs.Starts.{start_of}
use Rattle.inventory.specs.CountTable.{plus, earlier, sums_from, sums_for, all_sums}
use Rattle.inventory.proofs.Sums.{sum_first, sum_same, sum_zero, sum_swap}
use Rattle.inventory.proofs.Tables.{plus_is, at_place}

-- ---- numbers added up

-- a sum is what came before it and all numbers up to it
pub sums_at : (a b : ℕ → ℕ) (p q : ℕ) (counts : List ℤ) (k : ℕ) → k < length counts → ((j : ℕ) → j ≤ k → get_or counts j (pos 0) ≡ pos (a j) -ℤ pos (b j))
    → p + sum_below a (suc k) ≤ 100000000000 → q + sum_below b (suc k) ≤ 100000000000
    → get_or (sums_from (pos p -ℤ pos q) counts) k (pos 0) ≡ pos (p + sum_below a (suc k)) -ℤ pos (q + sum_below b (suc k))
sums_at a b p q [] k lt are few few' = absurd (omega arith)
sums_at a b p q (x ∷ counts) zero lt are few few' =
    let is : x ≡ pos (a 0) -ℤ pos (b 0) = are 0 (omega arith) in
    let same : p + a 0 ≡ p + sum_below a 1 = omega arith in
    let same' : q + b 0 ≡ q + sum_below b 1 = omega arith in
    ap (plus (pos p -ℤ pos q)) is ∙ added p q (a 0) (b 0) (omega arith) (omega arith)
    ∙ ap (λ (n : ℕ). pos n -ℤ pos (q + b 0)) same ∙ ap (λ (n : ℕ). pos (p + sum_below a 1) -ℤ pos n) same'
  where
    added : (p q c d : ℕ) → p + c ≤ 100000000000 → q + d ≤ 100000000000 → plus (pos p -ℤ pos q) (pos c -ℤ pos d) ≡ pos (p + c) -ℤ pos (q + d)
    added p q c d le le' = plus_is (pos p -ℤ pos q) (pos c -ℤ pos d) (record { above = omega (arith, ints); below = omega (arith, ints) }) ∙ (omega (arith, ints))
sums_at a b p q (x ∷ counts) (suc k) lt are few few' =
    let is : x ≡ pos (a 0) -ℤ pos (b 0) = are 0 (omega arith) in
    let firsts = sum_first a (suc k) in
    let firsts' = sum_first b (suc k) in
    let rest = sums_at (λ j. a (suc j)) (λ j. b (suc j)) (p + a 0) (q + b 0) counts k (omega arith) (λ j le. are (suc j) (omega arith)) (omega arith) (omega arith) in
    let same : (p + a 0) + sum_below (λ j. a (suc j)) (suc k) ≡ p + sum_below a (suc (suc k)) = omega arith in
    let same' : (q + b 0) + sum_below (λ j. b (suc j)) (suc k) ≡ q + sum_below b (suc (suc k)) = omega arith in
    ap (λ (z : ℤ). get_or (sums_from z counts) k (pos 0)) (ap (plus (pos p -ℤ pos q)) is ∙ added p q (a 0) (b 0) (omega arith) (omega arith))
    ∙ rest ∙ ap (λ (n : ℕ). pos n -ℤ pos ((q + b 0) + sum_below (λ j. b (suc j)) (suc k))) same ∙ ap (λ (n : ℕ). pos (p + sum_below a (suc (suc k))) -ℤ pos n) same'
  where
    added : (p q c d : ℕ) → p + c ≤ 100000000000 → q + d ≤ 100000000000 → plus (pos p -ℤ pos q) (pos c -ℤ pos d) ≡ pos (p + c) -ℤ pos (q + d)
    added p q c d le le' = plus_is (pos p -ℤ pos q) (pos c -ℤ pos d) (record { above = omega (arith, ints); below = omega (arith, ints) }) ∙ (omega (arith, ints))

types_at : (day : Day) (s m0 m : ℕ) (types : List (List ℤ)) → m < length types → get_or (sums_for day s m0 types) m [] ≡ sums_from (pos (start_of day s (m0 + m))) (get_or types m [])
types_at day s m0 m [] lt = absurd (omega arith)
types_at day s m0 zero (counts ∷ types) lt = let e : m0 ≡ m0 + 0 = omega arith in ap (λ (n : ℕ). sums_from (pos (start_of day s n)) counts) e
types_at day s m0 (suc m) (counts ∷ types) lt =
    let e : suc m0 + m ≡ m0 + suc m = omega arith in
    types_at day s (suc m0) m types (omega arith) ∙ ap (λ (n : ℕ). sums_from (pos (start_of day s n)) (get_or types m [])) e

stations_at : (day : Day) (s0 s : ℕ) (table : List (List (List ℤ))) → s < length table → get_or (all_sums day s0 table) s [] ≡ sums_for day (s0 + s) 0 (get_or table s [])
stations_at day s0 s [] lt = absurd (omega arith)
stations_at day s0 zero (types ∷ table) lt = let e : s0 ≡ s0 + 0 = omega arith in ap (λ (n : ℕ). sums_for day n 0 types) e
stations_at day s0 (suc s) (types ∷ table) lt =
    let e : suc s0 + s ≡ s0 + suc s = omega arith in
    stations_at day (suc s0) s table (omega arith) ∙ ap (λ (n : ℕ). sums_for day n 0 (get_or table s [])) e

pub summed_at : (day : Day) (s m : ℕ) (table : List (List (List ℤ))) → s < length table → m < length (get_or table s [])
    → get_or (get_or (all_sums day 0 table) s []) m [] ≡ sums_from (pos (start_of day s m)) (get_or (get_or table s []) m [])
summed_at day s m table lt lt' =
    let e : 0 + s ≡ s = omega arith in
    let e' : 0 + m ≡ m = omega arith in
    ap (λ (types : List (List ℤ)). get_or types m []) (stations_at day 0 s table lt ∙ ap (λ (n : ℕ). sums_for day n 0 (get_or table s [])) e) ∙ types_at day s 0 m (get_or table s []) lt'
    ∙ ap (λ (n : ℕ). sums_from (pos (start_of day s n)) (get_or (get_or table s []) m [])) e'

-- ---- up to a place

-- what counts at one of the places below a bound
pub up_to : (b : Bool) (p n K : ℕ) → sum_below (λ k. if b && (p == k) then n else 0) K ≡ (if b && nat_lt p K then n else 0)
up_to false p n K = sum_zero (λ k. 0) K (λ k lt. refl)
up_to true p n zero = sym (cond-false (nat_lt p 0) n 0 (le-ltb p 0 (omega arith)))
up_to true p n (suc K) = let rest = up_to true p n K in elim (cases_eq p K) [
  | inl e ↦
      let here = cond-true {A = ℕ} (p == K) n 0 (eq-eqb p K e) in
      let before = cond-false {A = ℕ} (nat_lt p K) n 0 (le-ltb p K (omega arith)) in
      let now = cond-true {A = ℕ} (nat_lt p (suc K)) n 0 (lt-ltb p (suc K) (omega arith)) in
      omega arith
  | inr ne ↦
      let here = cond-false {A = ℕ} (p == K) n 0 (ne_eqb p K ne) in
      elim (cases_lt p K) [
        | inl lt ↦
            let before = cond-true {A = ℕ} (nat_lt p K) n 0 (lt-ltb p K lt) in
            let now = cond-true {A = ℕ} (nat_lt p (suc K)) n 0 (lt-ltb p (suc K) (omega arith)) in
            omega arith
        | inr ge ↦
            let before = cond-false {A = ℕ} (nat_lt p K) n 0 (le-ltb p K ge) in
            let now = cond-false {A = ℕ} (nat_lt p (suc K)) n 0 (le-ltb p (suc K) (omega arith)) in
            omega arith
      ]
]

less_by_one : (a b : ℕ) → nat_lt (suc a) (suc b) ≡ nat_lt a b
less_by_one a b = grind (arith, nat_tests)

-- the place of a minute is at most k where the minute is at most the one at k
pub place_le : (ks : List ℕ) (minute k : ℕ) → AllPairs (λ a b. a < b) ks → k < length ks → nat_lt (earlier minute ks) (suc k) ≡ nat_le minute (get_or ks k 0)
place_le [] minute k rise lt = absurd (omega arith)
place_le (x ∷ ks) minute zero rise lt = elim (cases_lt x minute) [
  | inl less ↦
      let e : earlier minute (x ∷ ks) ≡ suc (earlier minute ks) = cond-true (nat_lt x minute) (suc (earlier minute ks)) 0 (lt-ltb x minute less) in
      le-ltb (earlier minute (x ∷ ks)) 1 (omega arith) ∙ sym (lt-leb minute x less)
  | inr ge ↦
      let e : earlier minute (x ∷ ks) ≡ 0 = cond-false (nat_lt x minute) (suc (earlier minute ks)) 0 (le-ltb x minute ge) in
      lt-ltb (earlier minute (x ∷ ks)) 1 (omega arith) ∙ sym (le-leb minute x ge)
]
place_le (x ∷ ks) minute (suc k) rise lt = elim (cases_lt x minute) [
  | inl less ↦
      let e : earlier minute (x ∷ ks) ≡ suc (earlier minute ks) = cond-true (nat_lt x minute) (suc (earlier minute ks)) 0 (lt-ltb x minute less) in
      ap (λ (n : ℕ). nat_lt n (suc (suc k))) e ∙ less_by_one (earlier minute ks) (suc k) ∙ place_le ks minute k (λ i j d before below. rise (suc i) (suc j) d (omega arith) (omega arith)) (omega arith)
  | inr ge ↦
      let e : earlier minute (x ∷ ks) ≡ 0 = cond-false (nat_lt x minute) (suc (earlier minute ks)) 0 (le-ltb x minute ge) in
      let more : x < get_or ks k 0 = rise 0 (suc k) 0 (omega arith) (omega arith) in
      lt-ltb (earlier minute (x ∷ ks)) (suc (suc k)) (omega arith) ∙ sym (le-leb minute (get_or ks k 0) (omega arith))
]

pub place_within : (ks : List ℕ) (minute : ℕ) → earlier minute ks ≤ length ks
place_within [] minute = omega arith
place_within (x ∷ ks) minute = let rest = place_within ks minute in elim (cases_Bool (nat_lt x minute)) [
  | inl less ↦ let e = cond-true (nat_lt x minute) (suc (earlier minute ks)) 0 less in omega arith
  | inr ge ↦ let e = cond-false (nat_lt x minute) (suc (earlier minute ks)) 0 ge in omega arith
]

-- what is noted at the places below a bound, over all trips
pub noted_below : (from place takes : ℕ → ℕ) (s K n : ℕ)
    → sum_below (λ k. sum_below (λ t. at_place (from t) (place t) s k (takes t)) n) K ≡ sum_below (λ t. if (from t == s) && nat_lt (place t) K then takes t else 0) n
noted_below from place takes s K n =
    sum_swap (λ k t. at_place (from t) (place t) s k (takes t)) K n
    ∙ sum_same (λ t. sum_below (λ k. at_place (from t) (place t) s k (takes t)) K) (λ t. if (from t == s) && nat_lt (place t) K then takes t else 0) n
    (λ t lt. up_to (from t == s) (place t) (takes t) K)
