-- The changes so far are changes of a day.
use Rattle.std.proofs.Common.{◌≡◌, ◌<◌, ◌≤◌, ◌+◌, ℕ, List, length, take, get_or, length-take, subst, sym, arith, inl}
use Rattle.std.proofs.Common.{inr}
use Rattle.std.specs.List.{All}
use Rattle.std.proofs.lemmas.Bool.{cases_eq}
use Rattle.std.proofs.lemmas.List.{get_or-take, take_all}
use Rattle.std.proofs.lemmas.List.Elements.{All-get_or, All-more}
use Rattle.rail_base.specs.declared.limits.TheConstants.{MAX_CHANGE}
use Rattle.timetable.specs.Compositions.{compositions_of}
use Rattle.timetable.specs.Day.{Day}
use Rattle.price_bound.specs.declared.changes.Change.{Change}
use Rattle.price_bound.specs.ChangedDays.{AreChanges}

pub record AreChangesBelow (day : Day) (changes : List Change) (n : ℕ) : Type 0 where
  pub trips : All (λ change. change.trip < length day.trips) (take n changes)
  pub bases : All (λ change. change.base < length (compositions_of day)) (take n changes)
  pub costs : All (λ change. change.cost ≤ MAX_CHANGE) (take n changes)
  pub rising : (i j : ℕ) (d : Change) → i < j → j < n → (get_or changes i d).trip < (get_or changes j d).trip

-- one change more
pub one_more : (day : Day) (changes : List Change) (n : ℕ) (change : Change) → n < length changes → ((d : Change) → change ≡ get_or changes n d)
    → AreChangesBelow day changes n → change.trip < length day.trips → change.base < length (compositions_of day)
    → change.cost ≤ MAX_CHANGE → All (λ other. other.trip < change.trip) (take n changes) → AreChangesBelow day changes (n + 1)
one_more day changes n change below is done trip base cost after = record {
  trips = All-more (λ (c : Change). c.trip < length day.trips) changes n change below done.trips (subst (λ (c : Change). c.trip < length day.trips) (is change) trip);
  bases = All-more (λ (c : Change). c.base < length (compositions_of day)) changes n change below done.bases
      (subst (λ (c : Change). c.base < length (compositions_of day)) (is change) base);
  costs = All-more (λ (c : Change). c.cost ≤ MAX_CHANGE) changes n change below done.costs (subst (λ (c : Change). c.cost ≤ MAX_CHANGE) (is change) cost);
  rising = λ i j d lt before. elim (cases_eq j n) [
    | inl same ↦ last i j d lt same
    | inr differ ↦ done.rising i j d lt (omega (arith, before, differ))
  ];
}
  where
    last : (i j : ℕ) (d : Change) → i < j → j ≡ n → (get_or changes i d).trip < (get_or changes j d).trip
    last i j d lt same =
        let earlier : i < n = omega (arith, lt, same) in
        let long : i < length (take n changes) = omega (arith, earlier, below, length-take n changes) in
        let less : (get_or (take n changes) i d).trip < change.trip = All-get_or (λ (c : Change). c.trip < change.trip) (take n changes) i d long after in
        subst (λ (k : ℕ). (get_or changes i d).trip < (get_or changes k d).trip) (sym same)
        (subst (λ (c : Change). (get_or changes i d).trip < c.trip) (is d)
        (subst (λ (c : Change). c.trip < change.trip) (get_or-take n changes i d earlier) less))

-- all of them
pub all_are : (day : Day) (changes : List Change) (n : ℕ) → length changes ≤ n → AreChangesBelow day changes n → AreChanges day changes
all_are day changes n past done = record {
  rising = λ i j d lt below. done.rising i j d lt (omega (arith, past, below));
  trips = subst (All (λ (c : Change). c.trip < length day.trips)) (take_all n changes past) done.trips;
  bases = subst (All (λ (c : Change). c.base < length (compositions_of day))) (take_all n changes past) done.bases;
  costs = subst (All (λ (c : Change). c.cost ≤ MAX_CHANGE)) (take_all n changes past) done.costs;
}
