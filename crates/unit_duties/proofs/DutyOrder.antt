-- The duty of a unit is the one list that has the trips of the unit, each once, in the order in which they leave.
use Rattle.std.proofs.Common.{◌≡◌, ℕ, zero, suc, ◌+◌, ◌<◌, ◌≤◌, List, [], ◌∷◌, length, Bool, true, false, cond}
use Rattle.std.proofs.Common.{IsTrue, AllPairs, get_or, refl, sym, ap, ◌∙◌, subst, arith, inl, inr}
use Rattle.std.specs.Prelude.{filter}
use Rattle.std.proofs.lemmas.Bool.{cases_lt, cases_Bool, cond-true, cond-false, false≢true, le-leb, leb-true}
use Rattle.std.proofs.lemmas.Bool.Decides.{nat_tests}
use Rattle.timetable.specs.Day.{Day, leaves}
use Rattle.timetable.specs.Duties.{is_before, duty}
use Rattle.timetable.specs.Links.{list_of}
use Rattle.timetable.specs.Lists.{count_of, has, below, IsDistinct}
use Rattle.timetable.proofs.Ones.{one, one_same, one_other, count_below_in, count_below_out}
use Rattle.inventory.proofs.Order.{InLine, in_list, in_order_in_line, count_of-in_order}
use Rattle.inventory.proofs.Order.{is_strict, is_total, before_leaves, leaves_before, not_itself}
use Rattle.unit_duties.specs.DutyLaws.{IsOnTrip, LeavesFirst, IsDutyOf, DutiesAreInOrder}

-- ---- of two trips

smaller : (day : Day) (a b : ℕ) → is_before day a b ≡ true → leaves day b ≤ leaves day a → a < b
smaller day a b h le = grind (arith, nat_tests)

same_minute : (day : Day) (a b : ℕ) → leaves day a ≡ leaves day b → a < b → is_before day a b ≡ true
same_minute day a b e lt = grind (arith, nat_tests)

leaves_first : (day : Day) (a b : ℕ) → is_before day a b ≡ true → LeavesFirst day a b
leaves_first day a b h = elim (cases_lt (leaves day a) (leaves day b)) [
  | inl lt ↦ inl lt
  | inr ge ↦ let le = before_leaves day a b h in inr (omega arith, smaller day a b h ge)
]

is_first : (day : Day) (a b : ℕ) → LeavesFirst day a b → is_before day a b ≡ true
is_first day a b h = elim h [
  | inl lt ↦ leaves_before day a b lt
  | inr same ↦ same_minute day a b same.0 same.1
]

-- ---- lists

-- a list has what stands at a place of it
at_place : (xs : List ℕ) (k d : ℕ) → k < length xs → 1 ≤ count_of (get_or xs k d) xs
at_place [] k d lt = absurd (omega arith)
at_place (x ∷ xs) zero d lt = let here = one_same x x refl in omega arith
at_place (x ∷ xs) (suc k) d lt = let there = at_place xs k d (omega arith) in omega arith

-- and what it has stands at a place of it
place_of : (xs : List ℕ) (x : ℕ) → 1 ≤ count_of x xs → (k : ℕ) × (k < length xs) × (get_or xs k x ≡ x)
place_of [] x c = absurd (omega arith)
place_of (y ∷ xs) x c = elim (in_list x y xs c) [
  | inl e ↦ (0, omega arith, e)
  | inr later ↦ let there = place_of xs x later in let within : there.0 < length xs = there.1 in (suc there.0, omega arith, there.2)
]

passing : (p : ℕ → Bool) (x : ℕ) (ys : List ℕ) → count_of x (filter p ys) ≡ cond (p x) (count_of x ys) 0
passing p x ys = elim (cases_Bool (p x)) [
  | inl is ↦ stays ys is ∙ sym (cond-true (p x) (count_of x ys) 0 is)
  | inr isnt ↦ goes ys isnt ∙ sym (cond-false (p x) (count_of x ys) 0 isnt)
]
  where
    stays : (ys : List ℕ) → p x ≡ true → count_of x (filter p ys) ≡ count_of x ys
    stays [] is = refl
    stays (y ∷ ys) is = let rest = stays ys is in elim (cases_Bool (p y)) [
      | inl passes ↦
          let e : count_of x (filter p (y ∷ ys)) ≡ one y x + count_of x (filter p ys) = ap (count_of x) (cond-true (p y) (y ∷ filter p ys) (filter p ys) passes) in
          omega arith
      | inr fails ↦
          let e : count_of x (filter p (y ∷ ys)) ≡ count_of x (filter p ys) = ap (count_of x) (cond-false (p y) (y ∷ filter p ys) (filter p ys) fails) in
          let other = one_other y x (λ same. false≢true (sym fails ∙ ap p same ∙ is)) in
          omega arith
    ]

    goes : (ys : List ℕ) → p x ≡ false → count_of x (filter p ys) ≡ 0
    goes [] isnt = refl
    goes (y ∷ ys) isnt = let rest = goes ys isnt in elim (cases_Bool (p y)) [
      | inl passes ↦
          let e : count_of x (filter p (y ∷ ys)) ≡ one y x + count_of x (filter p ys) = ap (count_of x) (cond-true (p y) (y ∷ filter p ys) (filter p ys) passes) in
          let other = one_other y x (λ same. false≢true (sym isnt ∙ ap p (sym same) ∙ passes)) in
          omega arith
      | inr fails ↦
          let e : count_of x (filter p (y ∷ ys)) ≡ count_of x (filter p ys) = ap (count_of x) (cond-false (p y) (y ∷ filter p ys) (filter p ys) fails) in
          omega arith
    ]

-- ---- trips one after another

-- each trip of the list leaves before all the later ones of it
abbrev InTurn : Day → List ℕ → Type 0
InTurn day [] = Unit {0}
InTurn day (t ∷ ts) = ((b : ℕ) → 1 ≤ count_of b ts → is_before day t b ≡ true) × InTurn day ts

-- where none leaves before an earlier one, and no trip is there twice
line_in_turn : (day : Day) (ts : List ℕ) → InLine day ts → IsDistinct ts → InTurn day ts
line_in_turn day [] line once = tt
line_in_turn day (t ∷ ts) line once = (
  λ b c. is_total day b t (line.0 b c) (λ e. let here = one_same t b (sym e) in let two = once b in absurd (omega arith)),
  line_in_turn day ts line.1 (λ x. let both = once x in omega arith),
)

-- of any two the first one leaves first
by_place : (day : Day) (ts : List ℕ) → InTurn day ts → AllPairs (LeavesFirst day) ts
by_place day [] turn i j d lt within = absurd (omega arith)
by_place day (t ∷ ts) turn i zero d lt within = absurd (omega arith)
by_place day (t ∷ ts) turn zero (suc j) d lt within = leaves_first day t (get_or ts j d) (turn.0 (get_or ts j d) (at_place ts j d (omega arith)))
by_place day (t ∷ ts) turn (suc i) (suc j) d lt within = by_place day ts turn.1 i j d (omega arith) (omega arith)

by_turn : (day : Day) (ts : List ℕ) → AllPairs (LeavesFirst day) ts → InTurn day ts
by_turn day [] order = tt
by_turn day (t ∷ ts) order = (
  λ b c. (let place = place_of ts b c in
      let within : place.0 < length ts = place.1 in
      is_first day t b (subst (LeavesFirst day t) place.2 (order 0 (suc place.0) b (omega arith) (omega arith)))),
  by_turn day ts (λ i j d lt within. order (suc i) (suc j) d (omega arith) (omega arith)),
)

-- two such lists of the same trips are one
same_trips : (day : Day) (xs ys : List ℕ) → InTurn day xs → InTurn day ys → ((t : ℕ) → 1 ≤ count_of t xs → 1 ≤ count_of t ys) → ((t : ℕ) → 1 ≤ count_of t ys → 1 ≤ count_of t xs) → xs ≡ ys
same_trips day [] [] one_turn other_turn out back = refl
same_trips day [] (y ∷ ys) one_turn other_turn out back =
    let here = one_same y y refl in let none : 1 ≤ count_of y [] = back y (omega arith) in absurd (omega arith)
same_trips day (x ∷ xs) [] one_turn other_turn out back =
    let here = one_same x x refl in let none : 1 ≤ count_of x [] = out x (omega arith) in absurd (omega arith)
same_trips day (x ∷ xs) (y ∷ ys) one_turn other_turn out back =
    subst (λ z. x ∷ xs ≡ z ∷ ys) first (ap (λ (l : List ℕ). x ∷ l) (same_trips day xs ys one_turn.1 other_turn.1 rest rest_back))
  where
    first : x ≡ y
    first = let x_here = one_same x x refl in let y_here = one_same y y refl in elim (in_list x y ys (out x (omega arith))) [
      | inl e ↦ sym e
      | inr after_y ↦ elim (in_list y x xs (back y (omega arith))) [
        | inl e ↦ e
        | inr after_x ↦ absurd (false≢true (sym (is_strict day x y (one_turn.0 y after_x)) ∙ other_turn.0 x after_y))
      ]
    ]

    rest : (t : ℕ) → 1 ≤ count_of t xs → 1 ≤ count_of t ys
    rest t c = elim (in_list t y ys (out t (omega arith))) [
      | inl e ↦ absurd (false≢true (sym (not_itself day x) ∙ subst (λ z. is_before day x z ≡ true) (sym (first ∙ e)) (one_turn.0 t c)))
      | inr later ↦ later
    ]

    rest_back : (t : ℕ) → 1 ≤ count_of t ys → 1 ≤ count_of t xs
    rest_back t c = elim (in_list t x xs (back t (omega arith))) [
      | inl e ↦ absurd (false≢true (sym (not_itself day y) ∙ subst (λ z. is_before day y z ≡ true) (sym (sym first ∙ e)) (other_turn.0 t c)))
      | inr later ↦ later
    ]

-- ---- the duty

module _ (day : Day) (plan : List (List ℕ)) (u : ℕ) where
  -- the unit is on a trip
  abbrev on_trip : ℕ → Bool
  on_trip t = has u (list_of plan t)

  -- a trip is there once where the unit is on it, and else it isn't there
  listed : (t : ℕ) → count_of t (duty day plan u) ≡ cond (on_trip t) (count_of t (below (length day.trips))) 0
  unfolding duty
  listed t = count_of-in_order day t (filter on_trip (below (length day.trips))) ∙ passing on_trip t (below (length day.trips))

  few : (t : ℕ) → count_of t (below (length day.trips)) ≤ 1
  few t = elim (cases_lt t (length day.trips)) [
    | inl lt ↦ let c = count_below_in t (length day.trips) lt in omega arith
    | inr past ↦ let c = count_below_out t (length day.trips) past in omega arith
  ]

  its_trip : (t : ℕ) → IsTrue (has t (duty day plan u)) → IsOnTrip day plan u t
  its_trip t there = let c : 1 ≤ count_of t (duty day plan u) = leb-true 1 (count_of t (duty day plan u)) there in let is = listed t in elim (cases_Bool (on_trip t)) [
    | inl on ↦
        let all = cond-true (on_trip t) (count_of t (below (length day.trips))) 0 on in
        record {
          known = elim (cases_lt t (length day.trips)) [
            | inl lt ↦ lt
            | inr past ↦ let none = count_below_out t (length day.trips) past in absurd (omega arith)
          ];
          listed = on;
        }
    | inr off ↦ let none = cond-false (on_trip t) (count_of t (below (length day.trips))) 0 off in absurd (omega arith)
  ]

  on_duty : (t : ℕ) → IsOnTrip day plan u t → IsTrue (has t (duty day plan u))
  on_duty t on =
      let is = listed t in
      let all = cond-true (on_trip t) (count_of t (below (length day.trips))) 0 on.listed in
      let one = count_below_in t (length day.trips) on.known in
      le-leb 1 (count_of t (duty day plan u)) (omega arith)

  once : IsDistinct (duty day plan u)
  once t = let is = listed t in let most = few t in elim (cases_Bool (on_trip t)) [
    | inl on ↦ let all = cond-true (on_trip t) (count_of t (below (length day.trips))) 0 on in omega arith
    | inr off ↦ let none = cond-false (on_trip t) (count_of t (below (length day.trips))) 0 off in omega arith
  ]

  in_line : InLine day (duty day plan u)
  unfolding duty
  in_line = in_order_in_line day (filter on_trip (below (length day.trips)))

  in_turn : InTurn day (duty day plan u)
  in_turn = line_in_turn day (duty day plan u) in_line once

  is_duty : IsDutyOf day plan u (duty day plan u)
  is_duty = record {
    its_trips = λ t. (its_trip t, on_duty t);
    once = once;
    in_order = by_place day (duty day plan u) in_turn;
  }

  no_other : (trips : List ℕ) → IsDutyOf day plan u trips → trips ≡ duty day plan u
  no_other trips is = same_trips day trips (duty day plan u) (by_turn day trips is.in_order) in_turn
      (λ t c. leb-true 1 (count_of t (duty day plan u)) (on_duty t ((is.its_trips t).0 (le-leb 1 (count_of t trips) c))))
      (λ t c. leb-true 1 (count_of t trips) ((is.its_trips t).1 (its_trip t (le-leb 1 (count_of t (duty day plan u)) c))))

pub in_order_alone : DutiesAreInOrder
in_order_alone day plan u trips = (
  λ e. subst (IsDutyOf day plan u) (sym e) (is_duty day plan u),
  no_other day plan u trips,
)
