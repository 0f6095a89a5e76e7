-- One more trip is named: what code that names the trips one after another keeps and meets.
use Rattle.std.proofs.Common.{◌≡◌, ℕ, ◌+◌, ◌<◌, ◌≤◌, List, [], ◌∷◌, ◌++◌, length, reverse, take, drop, get_or, eqb}
use Rattle.std.proofs.Common.{Option, true, false, refl, sym, ap, ◌∙◌, subst, arith, ◌≢◌, inl, inr}
use Rattle.std.specs.Prelude.{nat_lt}
use Rattle.std.proofs.lemmas.Bool.{cases_eq, cond-true, cond-false, eq-eqb, ne_eqb}
use Rattle.std.proofs.lemmas.List.{take_more, reverse-append, take-append-drop}
use Rattle.timetable.specs.Accepted.{IsDay, AreLinks, IsStocked}
use Rattle.timetable.specs.Day.{Day, leaves, from_of, types_of, type_of, unit_count}
use Rattle.timetable.specs.Duties.{in_order}
use Rattle.timetable.specs.Links.{list_of, itself, taken_with}
use Rattle.timetable.specs.Lists.{count_of, has, below}
use Rattle.inventory.specs.Counts.{AreServed}
use Rattle.inventory.specs.NamedBefore.{IsNamedBefore}
use Rattle.inventory.specs.NamedUnits.{InYard, after_trip, standing, fetched, named_list, list_from, naming}
use Rattle.inventory.specs.NamedUnits.{latest_first}
use Rattle.inventory.proofs.Sums.{one_same, one_other}
use Rattle.inventory.proofs.Order.{AreInTurn, latest_in_turn}
use Rattle.inventory.proofs.Fetching.{AreFetched, are_fetched}
use Rattle.inventory.proofs.Standing.{AreRight, le_has, none_has}
use Rattle.inventory.proofs.Enough.{enough}
use Rattle.inventory.proofs.Righting.{all_right}
use Rattle.inventory.proofs.Named.{by_rule, standing_same}
use Rattle.inventory.proofs.Following.{AreLed, led_before}
use Rattle.inventory.proofs.Laws.{all_led}

-- ---- the order

-- the trips up to a place, the latest first, and one more
pub reverse_more : (ts : List ℕ) (i d : ℕ) → i < length ts → reverse (take (i + 1) ts) ≡ get_or ts i d ∷ reverse (take i ts)
reverse_more ts i d lt = ap reverse (take_more ts i d lt) ∙ reverse-append (take i ts) (get_or ts i d ∷ [])

turns_less : (day : Day) (later done : List ℕ) → AreInTurn day (later ++ done) → AreInTurn day done
turns_less day [] done turns = turns
turns_less day (t ∷ later) done turns = turns_less day later done turns.1

parts_so_far : (day : Day) (i : ℕ) → latest_first day ≡ reverse (drop i (in_order day (below (length day.trips)))) ++ reverse (take i (in_order day (below (length day.trips))))
unfolding latest_first
parts_so_far day i =
    ap reverse (sym (take-append-drop i (in_order day (below (length day.trips))))) ∙ reverse-append (take i (in_order day (below (length day.trips)))) (drop i (in_order day (below (length day.trips))))

-- they are in turn
pub turns_so_far : (day : Day) (i : ℕ) → AreInTurn day (reverse (take i (in_order day (below (length day.trips)))))
turns_so_far day i =
    turns_less day (reverse (drop i (in_order day (below (length day.trips))))) (reverse (take i (in_order day (below (length day.trips))))) (subst (AreInTurn day) (parts_so_far day i) (latest_in_turn day))

module _ (day : Day) (types : List (List ℕ)) (minute : ℕ) (plan : List (List ℕ)) where
  -- ---- the lists

  -- the lists that are named once trips have run
  abbrev pub so_far : List ℕ → ℕ → List ℕ
  so_far done = naming day types minute plan done

  -- a trip that leaves at the minute or later is named by the rule
  pub named_here : (b : ℕ) (before : List ℕ) → nat_lt (leaves day b) minute ≡ false → so_far (b ∷ before) b ≡ named_list day types (so_far before) before b
  unfolding naming list_from
  named_here b before late =
      cond-true (eqb b b) (list_from day types minute plan (so_far before) before b) (so_far before b) (eq-eqb b b refl)
      ∙ cond-false (nat_lt (leaves day b) minute) (list_of plan b) (named_list day types (so_far before) before b) late

  -- another has the list of the plan
  pub given_here : (b : ℕ) (before : List ℕ) → nat_lt (leaves day b) minute ≡ true → so_far (b ∷ before) b ≡ list_of plan b
  unfolding naming list_from
  given_here b before early =
      cond-true (eqb b b) (list_from day types minute plan (so_far before) before b) (so_far before b) (eq-eqb b b refl)
      ∙ cond-true (nat_lt (leaves day b) minute) (list_of plan b) (named_list day types (so_far before) before b) early

  pub named_elsewhere : (b t : ℕ) (before : List ℕ) → t ≢ b → so_far (b ∷ before) t ≡ so_far before t
  unfolding naming
  named_elsewhere b t before ne = cond-false (eqb t b) (list_from day types minute plan (so_far before) before b) (so_far before t) (ne_eqb t b ne)

  -- ---- where units stand

  pub stands_here : (b u : ℕ) (before : List ℕ) → 1 ≤ count_of u (so_far (b ∷ before) b)
      → standing day types (so_far (b ∷ before)) (b ∷ before) u ≡ after_trip day types (so_far (b ∷ before)) b u
  unfolding standing
  stands_here b u before c =
      cond-true (has u (so_far (b ∷ before) b)) (after_trip day types (so_far (b ∷ before)) b u) (standing day types (so_far (b ∷ before)) before u) (le_has u (so_far (b ∷ before) b) c)

  pub stands_elsewhere : (b u : ℕ) (before : List ℕ) → count_of b before ≡ 0 → count_of u (so_far (b ∷ before) b) ≡ 0
      → standing day types (so_far (b ∷ before)) (b ∷ before) u ≡ standing day types (so_far before) before u
  unfolding standing
  stands_elsewhere b u before new none =
      cond-false (has u (so_far (b ∷ before) b)) (after_trip day types (so_far (b ∷ before)) b u) (standing day types (so_far (b ∷ before)) before u) (none_has u (so_far (b ∷ before) b) none)
      ∙ standing_same day types minute plan (so_far (b ∷ before)) (so_far before) before
      (λ t c. named_elsewhere b t before (λ e. let same = ap (λ x. count_of x before) e in absurd (omega arith))) u

  -- ---- each trip that was named is right, and the next finds its units

  -- each unit goes on as it may, in the trips of the plan that leave before the minute
  abbrev pub AreAllLed : List ℕ → Type 0
  AreAllLed done = (u : ℕ) → u < unit_count day → AreLed day types minute plan u done

  led_less : (later done : List ℕ) → AreAllLed (later ++ done) → AreAllLed done
  led_less [] done led = led
  led_less (t ∷ later) done led = led_less later done (λ u lt. led_before day types minute plan u t (later ++ done) (led u lt))

  pub led_so_far : IsNamedBefore day types minute plan → (i : ℕ) → AreAllLed (reverse (take i (in_order day (below (length day.trips)))))
  led_so_far named i =
      led_less (reverse (drop i (in_order day (below (length day.trips))))) (reverse (take i (in_order day (below (length day.trips)))))
      (subst AreAllLed (parts_so_far day i) (all_led day types minute plan named))

  module _ (links : AreLinks day) (is_day : IsDay day) (stocked : IsStocked day) (served : AreServed day types) (named : IsNamedBefore day types minute plan) where
    pub right_so_far : (done : List ℕ) → AreInTurn day done → AreAllLed done → AreRight day types (so_far done) done
    right_so_far done turns led =
        all_right day types minute plan (so_far done) links is_day stocked served named done turns
        (by_rule day types minute plan links is_day (so_far done) done turns (λ t c. refl)) led

    pub fetched_next : (b : ℕ) (before : List ℕ) → AreInTurn day (b ∷ before) → AreAllLed before
        → AreFetched day (standing day types (so_far before) before) (from_of day b) (leaves day b) [] (taken_with itself day types b)
        (fetched day (standing day types (so_far before) before) (from_of day b) (leaves day b) [] (taken_with itself day types b))
    fetched_next b before turns led =
        are_fetched day (standing day types (so_far before) before) (from_of day b) (leaves day b) [] (taken_with itself day types b)
        (enough day types (so_far before) links is_day stocked served b before turns (right_so_far before turns.1 led))

-- the units for the other places, once the first is taken
pub fetched_less : (day : Day) (stands : ℕ → Option InYard) (s minute : ℕ) (chosen types us : List ℕ) (m u : ℕ)
    → AreFetched day stands s minute chosen (m ∷ types) (u ∷ us) → AreFetched day stands s minute (u ∷ chosen) types us
fetched_less day stands s minute chosen types us m u all = record {
  types_are = tails (type_of day u) m (types_of day us) types all.types_are;
  known = λ v c. all.known v (omega arith);
  there = λ v c. all.there v (omega arith);
  others = λ v c. elim (cases_eq u v) [
    | inl e ↦ let o = one_same u v e in let few = all.distinct v in absurd (omega arith)
    | inr ne ↦ let o = one_other u v ne in let none = all.others v (omega arith) in omega arith
  ];
  distinct = λ v. let few = all.distinct v in omega arith;
}
  where
    tails : (x y : ℕ) (xs ys : List ℕ) → x ∷ xs ≡ y ∷ ys → xs ≡ ys
    tails x y xs ys e = cc
