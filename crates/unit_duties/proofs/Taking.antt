-- Trips take units in the order in which they leave, and each fills its places from front to rear.
use Rattle.std.proofs.Common.{◌≡◌, ℕ, zero, suc, ◌+◌, ◌<◌, ◌≤◌, List, [], ◌∷◌, length, take, reverse, Bool, true, false}
use Rattle.std.proofs.Common.{Option, Some, slice_get, refl, sym, ap, ◌∙◌, subst, arith, inl, inr}
use Rattle.std.specs.Prelude.{filter, nat_lt}
use Rattle.std.proofs.lemmas.Bool.{cond-true, cond-false, le-ltb}
use Rattle.std.proofs.lemmas.Option.{none-some, same_Some}
use Rattle.timetable.specs.Accepted.{IsDay, AreLinks}
use Rattle.timetable.specs.Day.{Day, leaves, from_of, unit_count}
use Rattle.timetable.specs.Duties.{is_before, in_order}
use Rattle.timetable.specs.Links.{list_of, itself, taken_with}
use Rattle.timetable.specs.Lists.{count_of, below}
use Rattle.timetable.proofs.Ones.{one_same}
use Rattle.inventory.specs.NamedUnits.{InYard, next_unit, fetched, named_list, list_from, latest_first, named_plan}
use Rattle.inventory.specs.NamingLaws.{IsAvailable, IsNextUnit}
use Rattle.inventory.specs.Places.{coming, put_together}
use Rattle.inventory.proofs.Fetching.{next_units}
use Rattle.inventory.proofs.Named.{named_by_rule}
use Rattle.inventory.proofs.Order.{AreInTurn, in_list, is_strict, not_itself, is_there, latest_in_turn}
use Rattle.inventory.proofs.Order.{filter_in_order, filter-reverse}
use Rattle.inventory.proofs.Righting.{AreNamedBy}
use Rattle.unit_duties.specs.TakingLaws.{trips_before, stands_for, TakesInTurn, TripsTakeInTurn}

-- ---- the places of a trip

module _ (day : Day) (stands : ℕ → Option InYard) (s minute : ℕ) where
  -- a place has the unit that is taken next, once these were taken: those before the trip's, and those of the places
  -- before it
  record IsNextAt (chosen us : List ℕ) (k m : ℕ) : Type 0 where
    taken : List ℕ
    unit : slice_get us k ≡ Some (next_unit day stands s minute taken m)
    counts : (x : ℕ) → count_of x taken ≡ count_of x chosen + count_of x (take k us)

  next_at : (chosen ms : List ℕ) (k m : ℕ) → slice_get ms k ≡ Some m → IsNextAt chosen (fetched day stands s minute chosen ms) k m
  unfolding fetched
  next_at chosen [] k m e = absurd (none-some m e)
  next_at chosen (n ∷ ms) zero m e = record {
    taken = chosen;
    unit = ap (λ l. Some (next_unit day stands s minute chosen l)) (same_Some n m e);
    counts = λ x. omega arith;
  }
  next_at chosen (n ∷ ms) (suc k) m e =
      let first = next_unit day stands s minute chosen n in
      let rest = next_at (next_unit day stands s minute chosen n ∷ chosen) ms k m e in
      record {
        taken = rest.taken;
        unit = rest.unit;
        counts = λ x. let later = rest.counts x in omega arith;
      }

  each_place : (chosen ms : List ℕ) → length (fetched day stands s minute chosen ms) ≡ length ms
  unfolding fetched
  each_place chosen [] = refl
  each_place chosen (m ∷ ms) = ap suc (each_place (next_unit day stands s minute chosen m ∷ chosen) ms)

  -- only how often a unit was taken matters
  available_too : (some others : List ℕ) (m v : ℕ) → ((x : ℕ) → count_of x some ≡ count_of x others)
      → IsAvailable day stands s minute some m v → IsAvailable day stands s minute others m v
  available_too some others m v same free = record { there = free.there; type_is = free.type_is; new = sym (same v) ∙ free.new }

  next_too : (some others : List ℕ) (m u : ℕ) → ((x : ℕ) → count_of x some ≡ count_of x others)
      → IsNextUnit day stands s minute some m u → IsNextUnit day stands s minute others m u
  next_too some others m u same next = record {
    known = next.known;
    available = available_too some others m u same next.available;
    earliest = λ v lt free. next.earliest v lt (available_too others some m v (λ x. sym (same x)) free);
    smallest = λ v lt free. next.smallest v lt (available_too others some m v (λ x. sym (same x)) free);
  }

  front_to_rear : (ms : List ℕ) (k m u v : ℕ) → slice_get ms k ≡ Some m → slice_get (fetched day stands s minute [] ms) k ≡ Some u → v < unit_count day
      → IsAvailable day stands s minute (take k (fetched day stands s minute [] ms)) m v
      → IsNextUnit day stands s minute (take k (fetched day stands s minute [] ms)) m u
  front_to_rear ms k m u v at_type at_unit lt free =
      let us = fetched day stands s minute [] ms in
      let place = next_at [] ms k m at_type in
      let same : (x : ℕ) → count_of x place.taken ≡ count_of x (take k (fetched day stands s minute [] ms)) = λ x. let counted = place.counts x in omega arith in
      let next = next_units day stands s minute place.taken m v lt (available_too (take k us) place.taken m v (λ x. sym (same x)) free) in
      next_too place.taken (take k us) m u same
      (subst (IsNextUnit day stands s minute place.taken m) (same_Some (next_unit day stands s minute place.taken m) u (sym place.unit ∙ at_unit)) next)

-- ---- the trips

all_pass : (p : ℕ → Bool) (xs : List ℕ) → ((x : ℕ) → 1 ≤ count_of x xs → p x ≡ true) → filter p xs ≡ xs
all_pass p [] pass = refl
all_pass p (x ∷ xs) pass =
    let here = one_same x x refl in
    cond-true (p x) (x ∷ filter p xs) (filter p xs) (pass x (omega arith)) ∙ ap (λ (l : List ℕ). x ∷ l) (all_pass p xs (λ y c. pass y (omega arith)))

module _ (day : Day) (types : List (List ℕ)) (lists : ℕ → List ℕ) where
  -- a trip is named by the rule once those that leave before it were
  by_turn : (done : List ℕ) → AreInTurn day done → AreNamedBy day types 0 [] lists done → (t : ℕ) → 1 ≤ count_of t done
      → lists t ≡ named_list day types lists (filter (λ b. is_before day b t) done) t
  unfolding list_from
  by_turn [] turns by t c = absurd (omega arith)
  by_turn (b ∷ before) turns by t c = elim (in_list t b before c) [
    | inl e ↦
        let not_b = subst (λ x. is_before day b x ≡ false) e (not_itself day b) in
        let all : filter (λ a. is_before day a t) (b ∷ before) ≡ before =
        cond-false (is_before day b t) (b ∷ filter (λ a. is_before day a t) before) (filter (λ a. is_before day a t) before) not_b
        ∙ all_pass (λ a. is_before day a t) before (λ x there. subst (λ y. is_before day x y ≡ true) e (turns.0.earlier x there)) in
        sym (ap lists e) ∙ by.0.named
        ∙ cond-false (nat_lt (leaves day b) 0) (list_of [] b) (named_list day types lists before b) (le-ltb (leaves day b) 0 (omega arith))
        ∙ ap (named_list day types lists before) e ∙ ap (λ (l : List ℕ). named_list day types lists l t) (sym all)
    | inr later ↦
        let skipped : filter (λ a. is_before day a t) (b ∷ before) ≡ filter (λ a. is_before day a t) before =
        cond-false (is_before day b t) (b ∷ filter (λ a. is_before day a t) before) (filter (λ a. is_before day a t) before) (is_strict day t b (turns.0.earlier t later)) in
        by_turn before turns.1 by.1 t later ∙ ap (λ (l : List ℕ). named_list day types lists l t) (sym skipped)
  ]

before_is : (day : Day) (t : ℕ) → filter (λ b. is_before day b t) (latest_first day) ≡ trips_before day t
unfolding latest_first
before_is day t =
    filter-reverse (λ b. is_before day b t) (in_order day (below (length day.trips)))
    ∙ ap reverse (sym (filter_in_order day (λ b. is_before day b t) (below (length day.trips))))

module _ (day : Day) (types : List (List ℕ)) (t : ℕ) (is_day : IsDay day) (links : AreLinks day) (known : t < length day.trips) where
  units : List ℕ
  units = fetched day (stands_for day types (named_plan day types) t) (from_of day t) (leaves day t) [] (taken_with itself day types t)

  its_list : list_of (named_plan day types) t ≡ put_together day t (coming day types (list_of (named_plan day types)) t) units
  unfolding named_list units
  its_list =
      by_turn day types (list_of (named_plan day types)) (latest_first day) (latest_in_turn day) (named_by_rule day types 0 [] links is_day) t (is_there day t known)
      ∙ ap (λ (l : List ℕ). named_list day types (list_of (named_plan day types)) l t) (before_is day t)

  takes : TakesInTurn day types (named_plan day types) t units
  unfolding units
  takes = record {
    its_list = its_list;
    each_place = each_place day (stands_for day types (named_plan day types) t) (from_of day t) (leaves day t) [] (taken_with itself day types t);
    in_turn = front_to_rear day (stands_for day types (named_plan day types) t) (from_of day t) (leaves day t) (taken_with itself day types t);
  }

pub trips_take_in_turn : TripsTakeInTurn
trips_take_in_turn day types t is_day links holds known = (units day types t is_day links known, takes day types t is_day links known)
