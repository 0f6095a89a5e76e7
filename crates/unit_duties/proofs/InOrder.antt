-- Trips in the order in which they leave: a stable sort by the minute gives it, and a test keeps it.
use Rattle.std.proofs.Common.{◌≡◌, ℕ, ◌<◌, ◌≤◌, List, [], ◌∷◌, Bool, true, false, cond, ◌&&◌, ◌||◌, ltb, refl, ap, ◌∙◌}
use Rattle.std.proofs.Common.{arith}
use Rattle.std.specs.Prelude.{◌==◌}
use Rattle.std.specs.List.{All, AllByRecursion}
use Rattle.std.proofs.lemmas.Bool.{cond_both, eqb-true}
use Rattle.std.proofs.lemmas.Bool.Decides.{nat_tests}
use Rattle.std.proofs.lemmas.List.Elements.{All-from_recursion}
use Rattle.timetable.specs.Day.{Day, leaves}
use Rattle.timetable.specs.Duties.{is_before, insert_trip, in_order}
use Rattle.timetable.specs.Lists.{below}
use Rattle.timetable.proofs.Numbered.{AllLater, Rise, AllBelow, all_below}
use Rattle.timetable.proofs.Sorting.{From, Rises, with_number}

before_leaves : (m n a b : ℕ) → ltb m n || ((m == n) && ltb a b) ≡ true → m ≤ n
before_leaves m n a b h = grind (arith, nat_tests)

other_leaves : (m n a b : ℕ) → ltb m n || ((m == n) && ltb a b) ≡ false → n ≤ m
other_leaves m n a b h = grind (arith, nat_tests)

-- of two trips the one with the greater number leaves strictly before the other, where the other isn't before it
later_leaves : (m n a b : ℕ) → ltb m n || ((m == n) && ltb a b) ≡ false → a < b → n < m
later_leaves m n a b h lt = grind (arith, nat_tests)

-- two choices one after another come to the same in each order
swapped : (b c : Bool) (x y : ℕ) (zs : List ℕ) → (b ≡ true → c ≡ true → ⊥) → cond c (y ∷ cond b (x ∷ zs) zs) (cond b (x ∷ zs) zs) ≡ cond b (x ∷ cond c (y ∷ zs) zs) (cond c (y ∷ zs) zs)
swapped true true x y zs never = absurd (never refl refl)
swapped true false x y zs never = refl
swapped false true x y zs never = refl
swapped false false x y zs never = refl

module _ (day : Day) where
  from_earlier : (m k : ℕ) (ts : List ℕ) → m ≤ k → From (leaves day) k ts → From (leaves day) m ts
  from_earlier m k [] le h = tt
  from_earlier m k (t ∷ ts) le h = (omega (arith, h.0), from_earlier m k ts le h.1)

  from_insert : (m t : ℕ) (ts : List ℕ) → m ≤ leaves day t → From (leaves day) m ts → From (leaves day) m (insert_trip day t ts)
  from_insert m t [] le h = (le, tt)
  from_insert m t (s ∷ ss) le h =
      cond_both (is_before day t s) (t ∷ s ∷ ss) (s ∷ insert_trip day t ss) (λ l. From (leaves day) m l) (λ b. (le, h)) (λ b. (h.0, from_insert m t ss le h.1))

  insert_rises : (t : ℕ) (ts : List ℕ) → Rises (leaves day) ts → Rises (leaves day) (insert_trip day t ts)
  insert_rises t [] h = (tt, tt)
  insert_rises t (s ∷ ss) h =
      cond_both (is_before day t s) (t ∷ s ∷ ss) (s ∷ insert_trip day t ss) (λ l. Rises (leaves day) l)
      (λ b. let le = before_leaves (leaves day t) (leaves day s) t s b in ((le, from_earlier _ _ ss le h.0), h))
      (λ b. let le = other_leaves (leaves day t) (leaves day s) t s b in (from_insert _ t ss le h.0, insert_rises t ss h.1))

  -- the trips leave one no earlier than the one before it
  pub in_order_rises : (ts : List ℕ) → Rises (leaves day) (in_order day ts)
  in_order_rises [] = tt
  in_order_rises (t ∷ ts) = insert_rises t (in_order day ts) (in_order_rises ts)

  later_insert : (m t : ℕ) (ts : List ℕ) → m < t → AllLater m ts → AllLater m (insert_trip day t ts)
  later_insert m t [] lt h = (lt, tt)
  later_insert m t (s ∷ ss) lt h =
      cond_both (is_before day t s) (t ∷ s ∷ ss) (s ∷ insert_trip day t ss) (λ l. AllLater m l) (λ b. (lt, h)) (λ b. (h.0, later_insert m t ss lt h.1))

  later_in_order : (m : ℕ) (ts : List ℕ) → AllLater m ts → AllLater m (in_order day ts)
  later_in_order m [] h = tt
  later_in_order m (t ∷ ts) h = later_insert m t (in_order day ts) h.0 (later_in_order m ts h.1)

  with_minute-insert : (k t : ℕ) (ts : List ℕ) → AllLater t ts → with_number (leaves day) k (insert_trip day t ts) ≡ with_number (leaves day) k (t ∷ ts)
  with_minute-insert k t [] later = refl
  with_minute-insert k t (s ∷ ss) later =
      cond_both (is_before day t s) (t ∷ s ∷ ss) (s ∷ insert_trip day t ss) (λ l. with_number (leaves day) k l ≡ with_number (leaves day) k (t ∷ s ∷ ss))
      (λ b. refl)
      (λ b.
      let lt = later_leaves (leaves day t) (leaves day s) t s b later.0 in
      ap (λ (l : List ℕ). cond (leaves day s == k) (s ∷ l) l) (with_minute-insert k t ss later.1)
      ∙ swapped (leaves day t == k) (leaves day s == k) t s (with_number (leaves day) k ss)
      (λ x y. absurd (omega (arith, lt, eqb-true (leaves day t) k x, eqb-true (leaves day s) k y))))

  -- trips of one minute come by their numbers
  pub with_minute : (k : ℕ) (ts : List ℕ) → Rise ts → with_number (leaves day) k (in_order day ts) ≡ with_number (leaves day) k ts
  with_minute k [] h = refl
  with_minute k (t ∷ ts) h =
      with_minute-insert k t (in_order day ts) (later_in_order t ts h.0) ∙ ap (λ (l : List ℕ). cond (leaves day t == k) (t ∷ l) l) (with_minute k ts h.1)

  known_insert : (n t : ℕ) (ts : List ℕ) → t < n → AllByRecursion (λ s. s < n) ts → AllByRecursion (λ s. s < n) (insert_trip day t ts)
  known_insert n t [] lt h = (lt, tt)
  known_insert n t (s ∷ ss) lt h =
      cond_both (is_before day t s) (t ∷ s ∷ ss) (s ∷ insert_trip day t ss) (AllByRecursion (λ s. s < n)) (λ b. (lt, h)) (λ b. (h.0, known_insert n t ss lt h.1))

  known_in_order : (n : ℕ) (ts : List ℕ) → AllBelow n ts → AllByRecursion (λ s. s < n) (in_order day ts)
  known_in_order n [] h = tt
  known_in_order n (t ∷ ts) h = known_insert n t (in_order day ts) h.0 (known_in_order n ts h.1)

  -- the trips below a number
  pub in_order_known : (n : ℕ) → All (λ t. t < n) (in_order day (below n))
  in_order_known n = All-from_recursion (λ (t : ℕ). t < n) (in_order day (below n)) (known_in_order n (below n) (all_below n))
