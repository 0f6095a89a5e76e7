-- The stops of a unit among the duties of all units, and that they are on trips of the day.
use Rattle.std.proofs.Common.{◌≡◌, ◌∙◌, ℕ, zero, suc, ◌<◌, List, [], ◌∷◌, ◌++◌, length, map, filter, refl, sym, ap}
use Rattle.std.proofs.Common.{arith, Some, slice_get, unwrap_or}
use Rattle.std.specs.List.{All}
use Rattle.std.proofs.lemmas.Bool.{cond_both}
use Rattle.std.proofs.lemmas.List.Elements.{All-nil, All-cons, All-head, All-tail, All-push, All-filter, All-map}
use Rattle.std.proofs.lemmas.List.{map-append}
use Rattle.timetable.specs.Day.{Day, unit_count}
use Rattle.timetable.specs.Duties.{is_before, insert_trip, in_order, duty}
use Rattle.timetable.specs.Links.{list_of}
use Rattle.timetable.specs.Lists.{has, below, listed}
use Rattle.timetable.proofs.Listing.{get_listed}
use Rattle.unit_duties.specs.declared.stops.Stop.{Stop}
use Rattle.unit_duties.specs.Stops.{stop_on, stops_of, duties_of}

-- numbers below a bound are less than a greater bound
all_below : (n bound : ℕ) → ((k : ℕ) → k < n → k < bound) → All (λ k. k < bound) (below n)
all_below zero bound less = All-nil (λ k. k < bound)
all_below (suc n) bound less = All-push (λ k. k < bound) (below n) n (all_below n bound (λ k lt. less k (omega arith))) (less n (omega arith))

module _ (day : Day) (P : ℕ → Type 0) where
  all_insert : (t : ℕ) (ts : List ℕ) → P t → All P ts → All P (insert_trip day t ts)
  all_insert t [] one all = All-cons P t [] one (All-nil P)
  all_insert t (s ∷ ss) one all =
      cond_both (is_before day t s) (t ∷ s ∷ ss) (s ∷ insert_trip day t ss) (All P)
      (λ _. All-cons P t (s ∷ ss) one all)
      (λ _. All-cons P s (insert_trip day t ss) (All-head P s ss all) (all_insert t ss one (All-tail P s ss all)))

  all_in_order : (ts : List ℕ) → All P ts → All P (in_order day ts)
  all_in_order [] all = All-nil P
  all_in_order (t ∷ ts) all = all_insert t (in_order day ts) (All-head P t ts all) (all_in_order ts (All-tail P t ts all))

-- each trip of a duty is a trip of the day
duty_known : (day : Day) (plan : List (List ℕ)) (u : ℕ) → All (λ t. t < length day.trips) (duty day plan u)
unfolding duty
duty_known day plan u =
    let trips = length day.trips in
    let known : ℕ → Type 0 = λ (t : ℕ). t < trips in
    all_in_order day known (filter (λ t. has u (list_of plan t)) (below trips)) (All-filter (λ t. has u (list_of plan t)) known (below trips) (all_below trips trips (λ k lt. lt)))

pub stops_known : (day : Day) (plan : List (List ℕ)) (u : ℕ) → All (λ stop. stop.trip < length day.trips) (stops_of day plan u)
stops_known day plan u = All-map (λ (stop : Stop). stop.trip < length day.trips) (stop_on plan u) (duty day plan u) (duty_known day plan u)

-- what a function gives of the numbers below a bound
map_below : {X : Type 0} (f : ℕ → X) (n : ℕ) → map f (below n) ≡ listed f n
map_below f zero = refl
map_below f (suc n) = map-append f (below n) (n ∷ []) ∙ ap (λ xs. xs ++ f n ∷ []) (map_below f n)

-- the stops of a unit are those of its duty
pub stops_are : (day : Day) (plan : List (List ℕ)) (u : ℕ) (duties : List (List Stop)) (stops : List Stop) → u < unit_count day → duties ≡ duties_of day plan
    → slice_get duties u ≡ Some stops → stops ≡ stops_of day plan u
unfolding duties_of
stops_are day plan u duties stops known are at =
    let all : duties ≡ listed (stops_of day plan) (unit_count day) = are ∙ map_below (stops_of day plan) (unit_count day) in
    let same : Some stops ≡ Some (stops_of day plan u) = sym at ∙ ap (λ lists. slice_get lists u) all ∙ get_listed (stops_of day plan) (unit_count day) u known in
    ap (λ o. unwrap_or o []) same
