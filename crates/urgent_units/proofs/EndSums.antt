-- At the end of the day all units that are brought are at the depot, and they are as many as the cut is worth.
use Rattle.std.proofs.Common.{◌≡◌, ◌≢◌, ℕ, zero, suc, ◌+◌, ◌-◌, ◌≤◌, ◌<◌, Bool, true, false, List, [], ◌∷◌, ◌++◌, append_assoc, length, map, take, drop, get_or, refl, sym, ap, ◌∙◌, subst, arith, inl, inr, Option, Some, None}
use Rattle.std.specs.Prelude.{if◌then◌else◌, ◌&&◌, ◌==◌, nat_le, nat_lt}
use Rattle.std.specs.List.{All, sum_by}
use Rattle.std.proofs.lemmas.Bool.{cases_Bool, cases_lt, cases_eq, cond-true, cond-false, eq-eqb, eqb-true, le-leb, lt-ltb, le-ltb, false≢true}
use Rattle.std.proofs.lemmas.List.{append-nil, length-map}
use Rattle.std.proofs.lemmas.List.Elements.{All-head, All-tail, All-nil, All-cons}
use Rattle.std.proofs.lemmas.List.Sums.{sum_by-cons, sum_by-append}
use Rattle.flow_network.specs.declared.network.Arc.{Arc}
use Rattle.flow_network.specs.Flows.{IsFlow, IsReach, IsSameNet, Net, empty, is_reached, leaving_from}
use Rattle.flow_network.proofs.Largest.{crossing, flows_fill_their_cut}
use Rattle.timetable.specs.Accepted.{IsDay, AreLinks, DoMeet}
use Rattle.timetable.specs.Day.{Day, home_of, types_of}
use Rattle.timetable.specs.Duties.{last_place}
use Rattle.timetable.specs.Lists.{count_of, joined}
use Rattle.timetable.specs.Running.{Runs}
use Rattle.timetable.proofs.Ones.{one_same}
use Rattle.urgent_units.specs.declared.legs.Leg.{Leg}
use Rattle.urgent_units.specs.declared.legs.UnitLegs.{UnitLegs}
use Rattle.urgent_units.specs.declared.swaps.MarkedLeg.{MarkedLeg}
use Rattle.urgent_units.specs.declared.swaps.Rider.{Rider}
use Rattle.urgent_units.specs.declared.swaps.Yards.{Yards}
use Rattle.urgent_units.specs.declared.wish.Wish.{Wish}
use Rattle.urgent_units.specs.Cuts.{cut_value, is_in, value_of}
use Rattle.urgent_units.specs.Held.{held}
use Rattle.urgent_units.specs.LegParts.{AreLegs, IsLegAt}
use Rattle.urgent_units.specs.Legs.{TypeLegs, all_legs, end_of, legs_of, legs_of_unit}
use Rattle.urgent_units.specs.Moments.{minutes_at, moment_count, moment_of}
use Rattle.urgent_units.specs.Namings.{IsNaming, brought}
use Rattle.urgent_units.specs.UnderWay.{Advances, IsUnderWay, added, brought_at, brought_from, brought_to, carried, legs_left, ones}
use Rattle.urgent_units.specs.Wishes.{IsWish}
use Rattle.urgent_units.specs.YardFlow.{AreAtHome, marked_from, taken_units}
use Rattle.urgent_units.specs.YardNetwork.{home_arc, leg_arc, reached_cut, sink_of, source_of, wait_arc, wait_arcs, yard_arcs, yard_network}
use Rattle.urgent_units.proofs.Added.{added_at, added_none}
use Rattle.urgent_units.proofs.CutLaw.{cuts_bound_namings, type_units}
use Rattle.urgent_units.proofs.CutNodes.{node_below, reached_in}
use Rattle.urgent_units.proofs.FlowSums.{Parts, all_joined_up, all_listed, empty_yard_arcs, homes_here, in_few, parts, test_from, test_to}
use Rattle.urgent_units.proofs.ListSums.{counted_over}
use Rattle.urgent_units.proofs.Marks.{added_same, marked_front, refuted, taken_few, taken_front, tests_same}
use Rattle.urgent_units.proofs.Moments.{earlier_within}
use Rattle.urgent_units.proofs.NetworkCapacity.{all_joined, capacity_empty, capacity_is_value}
use Rattle.urgent_units.proofs.StartSums.{brought as taken, brought_in_wish, home_brought, home_sum, leg_sum}
use Rattle.urgent_units.proofs.UnitTurns.{legs_in_turn}

-- ---- sums that are nothing, and sums that are something

one_most : (b : Bool) → ones b ≤ 1
one_most true = omega arith
one_most false = omega arith

few_marks : (p : MarkedLeg → Bool) (legs : List MarkedLeg) → added (λ x. ones (p x)) legs ≤ length legs
few_marks p [] = omega arith
few_marks p (x ∷ legs) = omega (arith, one_most (p x), few_marks p legs)

all_few : (p : MarkedLeg → Bool) (aheads : List (List MarkedLeg)) → added (λ legs. added (λ x. ones (p x)) legs) aheads ≤ added (λ legs. length legs) aheads
all_few p [] = omega arith
all_few p (legs ∷ aheads) = omega (arith, few_marks p legs, all_few p aheads)

pub record IsAt {X : Type 0} (p : X → Bool) (xs : List X) : Type 0 where
  pub place : ℕ
  pub within : place < length xs
  pub passes : (d : X) → p (get_or xs place d) ≡ true

one_at : {X : Type 0} (p : X → Bool) (xs : List X) → 1 ≤ added (λ x. ones (p x)) xs → IsAt p xs
one_at p [] some = absurd (omega (arith, some))
one_at p (x ∷ xs) some = elim (cases_Bool (p x)) [
  | inl passes ↦ record { place = 0; within = omega arith; passes = λ d. passes }
  | inr fails ↦
      let rest = one_at p xs (omega (arith, some, cond-false {A = ℕ} (p x) 1 0 fails)) in
      record { place = suc rest.place; within = (let under = rest.within in omega (arith, under)); passes = λ d. rest.passes d }
]

none_of : {X : Type 0} (legs : List X) → length legs ≡ 0 → legs ≡ []
none_of [] none = refl
none_of (x ∷ legs) none = absurd (omega (arith, none))

-- ---- what leaves the source

no_source : (n : ℕ) (arcs ws : List Arc) → map empty arcs ≡ ws → All (λ w. w.from < n) ws → sum_by (λ a. if a.from == n then a.flow else 0) arcs ≡ 0
no_source n [] ws same before = refl
no_source n (a ∷ arcs) [] same before = absurd cc
no_source n (a ∷ arcs) (w ∷ ws) same before =
    let head : empty a ≡ w = cc in
    let tail : map empty arcs ≡ ws = cc in
    let rest = no_source n arcs ws tail (All-tail (λ (w : Arc). w.from < n) w ws before) in
    let is = ap (λ (a : Arc). a.from) head in
    let less = All-head (λ (w : Arc). w.from < n) w ws before in
    let none = cond-false {A = ℕ} (a.from == n) a.flow 0 (refuted (a.from == n) (λ h. absurd (let e = eqb-true a.from n h in omega (arith, e, is, less)))) in
    omega (arith, sum_by-cons (λ a. if a.from == n then a.flow else 0) a arcs, rest, none)

by_homes : (day : Day) (legs : TypeLegs) (n : ℕ) (us : List ℕ) (arcs : List Arc) → map empty arcs ≡ map (home_arc day legs) us → All (λ a. a.flow ≤ a.capacity) arcs → sum_by (λ a. if a.from == n then a.flow else 0) arcs ≤ length (taken_units us arcs)
by_homes day legs n [] [] same within = omega arith
by_homes day legs n [] (a ∷ arcs) same within = absurd cc
by_homes day legs n (u ∷ us) [] same within = absurd cc
by_homes day legs n (u ∷ us) (a ∷ arcs) same within =
    let head : empty a ≡ home_arc day legs u = cc in
    let tail : map empty arcs ≡ map (home_arc day legs) us = cc in
    let rest = by_homes day legs n us arcs tail (All-tail (λ (a : Arc). a.flow ≤ a.capacity) a arcs within) in
    let capacity = ap (λ (a : Arc). a.capacity) head in
    let few = All-head (λ (a : Arc). a.flow ≤ a.capacity) a arcs within in
    let part = at_most (a.from == n) a.flow in
    elim (cases_lt 0 a.flow) [
      | inl some ↦
          let is = ap (λ (us : List ℕ). length us) (cond-true (nat_lt 0 a.flow) (u ∷ taken_units us arcs) (taken_units us arcs) (lt-ltb 0 a.flow some)) in
          omega (arith, sum_by-cons (λ a. if a.from == n then a.flow else 0) a arcs, rest, capacity, few, part, is)
      | inr none ↦
          let is = ap (λ (us : List ℕ). length us) (cond-false (nat_lt 0 a.flow) (u ∷ taken_units us arcs) (taken_units us arcs) (le-ltb 0 a.flow none)) in
          omega (arith, sum_by-cons (λ a. if a.from == n then a.flow else 0) a arcs, rest, none, part, is)
    ]
  where
    at_most : (b : Bool) (k : ℕ) → (if b then k else 0) ≤ k
    at_most true k = omega arith
    at_most false k = omega arith

front_of : {X : Type 0} (P : X → Type 0) (xs ys : List X) → All P (xs ++ ys) → All P xs
front_of P [] ys each = All-nil P
front_of P (x ∷ xs) ys each = All-cons P x xs (All-head P x (xs ++ ys) each) (front_of P xs ys (All-tail P x (xs ++ ys) each))

back_of : {X : Type 0} (P : X → Type 0) (xs ys : List X) → All P (xs ++ ys) → All P ys
back_of P [] ys each = each
back_of P (x ∷ xs) ys each = back_of P xs ys (All-tail P x (xs ++ ys) each)

over_mapped : {X Y : Type 0} (P : Y → Type 0) (f : X → Y) (xs : List X) → All (λ x. P (f x)) xs → All P (map f xs)
over_mapped P f [] each = All-nil P
over_mapped {X} P f (x ∷ xs) each = All-cons P (f x) (map f xs) (All-head (λ (x : X). P (f x)) x xs each) (over_mapped P f xs (All-tail (λ (x : X). P (f x)) x xs each))

module _ (day : Day) (plan : List (List ℕ)) (wish : Wish) (is_day : IsDay day) (links : AreLinks day) (meet : DoMeet day) (is_wish : IsWish day wish) (runs : Runs day plan) (net : Net)
    (are : AreLegs (legs_of day plan wish.unit_type)) (same : IsSameNet (yard_network day (legs_of day plan wish.unit_type) wish) net) (flow : IsFlow net) where
  abbrev m : ℕ
  m = wish.unit_type

  abbrev legs : TypeLegs
  legs = legs_of day plan m

  abbrev units : List ℕ
  units = type_units day m

  abbrev all : List Leg
  all = all_legs legs

  abbrev bring : List ℕ
  bring = taken day plan wish is_day links meet is_wish runs net are same flow

  arcs_parts : map empty net.arcs ≡ map (leg_arc legs) all ++ (map (home_arc day legs) wish.units ++ joined (wait_arcs legs) legs.stations)
  unfolding yard_network
  arcs_parts = same.arcs ∙ empty_yard_arcs day legs wish

  arcs_are : map empty net.arcs ≡ yard_arcs day legs wish
  arcs_are = arcs_parts ∙ sym (append_assoc (map (leg_arc legs) all) (map (home_arc day legs) wish.units) (joined (wait_arcs legs) legs.stations))

  source_is : net.source ≡ source_of legs
  unfolding yard_network
  source_is = same.source

  sink_is : net.sink ≡ sink_of legs wish
  unfolding yard_network
  sink_is = same.sink

  stations_of : All (IsLegAt legs) all
  stations_of = all_joined (IsLegAt legs) (λ (unit : UnitLegs). unit.legs) legs.units are.each

  -- as many leave the source as are brought, at the most
  source_few : leaving_from net.arcs net.source ≤ length bring
  source_few =
      let ls = map (leg_arc legs) all in
      let hs = map (home_arc day legs) wish.units in
      let ws = joined (wait_arcs legs) legs.stations in
      let first : Parts ls (hs ++ ws) net.arcs = parts ls (hs ++ ws) net.arcs arcs_parts in
      let others = drop (length ls) net.arcs in
      let second : Parts hs ws others = parts hs ws others first.back in
      let f : Arc → ℕ = λ a. if a.from == net.source then a.flow else 0 in
      let n = source_of legs in
      let one = ap (sum_by f) first.is ∙ sum_by-append f (take (length ls) net.arcs) others in
      let two = ap (sum_by f) second.is ∙ sum_by-append f (take (length hs) others) (drop (length hs) others) in
      let leg_before : All (λ w. w.from < net.source) ls = over_mapped (λ (w : Arc). w.from < net.source) (leg_arc legs) all (λ k d below.
      let at = stations_of k d below in
      let under = node_below legs (get_or all k d).from (moment_of legs (get_or all k d).from (get_or all k d).departs) at.from (let w = earlier_within (get_or all k d).departs (minutes_at legs (get_or all k d).from) in omega (arith, w)) in
      omega (arith, under, source_is)) in
      let wait_before : All (λ w. w.from < net.source) ws = all_joined_up (λ (w : Arc). w.from < net.source) (wait_arcs legs) legs.stations (λ t at_t. all_listed (λ (w : Arc). w.from < net.source) (wait_arc legs t) (moment_count legs t - 1) (λ k at_k.
      let under = node_below legs t k at_t (omega (arith, at_k)) in
      omega (arith, under, source_is))) in
      let by_legs = no_source net.source (take (length ls) net.arcs) ls first.front leg_before in
      let by_waits = no_source net.source (drop (length hs) others) ws second.back wait_before in
      let within : All (λ a. a.flow ≤ a.capacity) net.arcs = λ k d below. (flow.arcs k d below).within in
      let within_others = back_of (λ (a : Arc). a.flow ≤ a.capacity) (take (length ls) net.arcs) others (subst (All (λ (a : Arc). a.flow ≤ a.capacity)) first.is within) in
      let within_homes = front_of (λ (a : Arc). a.flow ≤ a.capacity) (take (length hs) others) (drop (length hs) others) (subst (All (λ (a : Arc). a.flow ≤ a.capacity)) second.is within_others) in
      let homes = by_homes day legs net.source wish.units (take (length hs) others) second.front within_homes in
      let bring_is = ap (λ (us : List ℕ). length us) (ap (λ (k : ℕ). taken_units wish.units (take k others)) (length-map wish.units (home_arc day legs)) ∙ taken_front wish.units others ∙ ap (λ (k : ℕ). taken_units wish.units (drop k net.arcs)) (length-map all (leg_arc legs))) in
      omega (arith, one, two, by_legs, by_waits, homes, bring_is)

  -- ---- the cut

  module _ (reached : List Bool) (reach : IsReach net reached) where
    abbrev cut : List (List Bool)
    cut = reached_cut legs reached

    depot_out : is_in cut wish.depot (moment_count legs wish.depot - 1) ≡ false
    depot_out = sym (reached_in legs reached wish.depot (moment_count legs wish.depot - 1) is_wish.depot (omega arith)) ∙ ap (is_reached reached) (sym sink_is) ∙ reach.sink

    pub has_value : value_of day legs wish cut ≡ Some (cut_value day legs wish cut)
    unfolding value_of
    has_value = cond-false {A = Option ℕ} (is_in cut wish.depot (moment_count legs wish.depot - 1)) None (Some (cut_value day legs wish cut)) depot_out

    pub value_few : cut_value day legs wish cut ≤ length bring
    value_few =
        let fills = flows_fill_their_cut net reached flow reach in
        let capacity = capacity_is_value day legs wish cut (is_reached reached) are is_day refl is_wish (ap (is_reached reached) (sym source_is) ∙ reach.source) (reached_in legs reached) in
        let arcs = sym (capacity_empty (is_reached reached) net.arcs) ∙ ap (sum_by (crossing (is_reached reached))) arcs_are in
        omega (arith, fills, capacity, arcs, source_few)

  -- ---- the end

  -- away from the depot as many that are brought come as leave
  module _ (s : ℕ) (away : wish.depot ≢ s) (at_s : s < legs.stations) where
    abbrev last : ℕ
    last = moment_count legs s - 1

    at_last : last < moment_count legs s
    at_last = omega arith

    from_same : All (λ leg. test_from legs s last at_s at_last leg ≡ ((leg.from == s) && true)) all
    from_same = λ k d below. under (get_or all k d).from (get_or all k d).departs
      where
        under : (t d : ℕ) → ((t == s) && nat_le (moment_of legs t d) last) ≡ ((t == s) && true)
        under t d = elim (cases_Bool (t == s)) [
          | inl is ↦
              let w = earlier_within d (minutes_at legs t) in
              let count = ap (moment_count legs) (eqb-true t s is) in
              ap (λ (x : Bool). (t == s) && x) (le-leb (moment_of legs t d) last (omega (arith, w, count)))
          | inr isnt ↦ ap (λ (x : Bool). x && nat_le (moment_of legs t d) last) isnt ∙ sym (ap (λ (x : Bool). x && true) isnt)
        ]

    to_same : All (λ leg. test_to legs s last at_s at_last leg ≡ ((leg.to == s) && true)) all
    to_same = λ k d below. under (get_or all k d).to (get_or all k d).ready
      where
        under : (t d : ℕ) → ((t == s) && nat_le (moment_of legs t d) last) ≡ ((t == s) && true)
        under t d = elim (cases_Bool (t == s)) [
          | inl is ↦
              let w = earlier_within d (minutes_at legs t) in
              let count = ap (moment_count legs) (eqb-true t s is) in
              ap (λ (x : Bool). (t == s) && x) (le-leb (moment_of legs t d) last (omega (arith, w, count)))
          | inr isnt ↦ ap (λ (x : Bool). x && nat_le (moment_of legs t d) last) isnt ∙ sym (ap (λ (x : Bool). x && true) isnt)
        ]

    home_few : added (λ u. ones (home_of day u == s)) bring + added (λ x. ones (x.is_brought && ((x.leg.to == s) && true))) (marked_from all net.arcs) ≤ added (λ x. ones (x.is_brought && ((x.leg.from == s) && true))) (marked_from all net.arcs)
    home_few =
        let few = in_few legs s last at_s at_last day wish net are is_day refl is_wish same flow (inl away) in
        let stay = cond-false {A = ℕ} (nat_lt last (moment_count legs s - 1)) (held legs s last) 0 (le-ltb last (moment_count legs s - 1) (omega arith)) in
        let marks : marked_from all (take (length (map (leg_arc legs) all)) net.arcs) ≡ marked_from all net.arcs = ap (λ (n : ℕ). marked_from all (take n net.arcs)) (length-map all (leg_arc legs)) ∙ marked_front all net.arcs in
        let brings : taken_units wish.units (take (length (map (home_arc day legs) wish.units)) (drop (length (map (leg_arc legs) all)) net.arcs)) ≡ bring = ap (λ (n : ℕ). taken_units wish.units (take n (drop (length (map (leg_arc legs) all)) net.arcs))) (length-map wish.units (home_arc day legs))
        ∙ taken_front wish.units (drop (length (map (leg_arc legs) all)) net.arcs) ∙ ap (λ (n : ℕ). taken_units wish.units (drop n net.arcs)) (length-map all (leg_arc legs)) in
        let out = ap (λ (ms : List MarkedLeg). added (λ x. ones (x.is_brought && test_from legs s last at_s at_last x.leg)) ms) marks ∙ tests_same (λ b. b) (test_from legs s last at_s at_last) (λ leg. (leg.from == s) && true) all net.arcs from_same in
        let into = ap (λ (ms : List MarkedLeg). added (λ x. ones (x.is_brought && test_to legs s last at_s at_last x.leg)) ms) marks ∙ tests_same (λ b. b) (test_to legs s last at_s at_last) (λ leg. (leg.to == s) && true) all net.arcs to_same in
        let homes = ap (λ (us : List ℕ). added (λ u. ones (homes_here legs s last at_s at_last day u)) us) brings
        ∙ added_same (λ u. ones (homes_here legs s last at_s at_last day u)) (λ u. ones (home_of day u == s)) bring (λ k d below. and_le (home_of day (get_or bring k d) == s)) in
        omega (arith, few, stay, out, into, homes)
      where
        and_le : (b : Bool) → ones (b && nat_le 0 last) ≡ ones b
        and_le true = ap ones (le-leb 0 last (omega arith))
        and_le false = refl

  with_true : (a b : Bool) → ones (a && (b && true)) ≡ ones (a && b)
  with_true true true = refl
  with_true true false = refl
  with_true false b = refl

  marks_with_true : (t : Leg → Bool) (ms : List MarkedLeg) → added (λ x. ones (x.is_brought && (t x.leg && true))) ms ≡ added (λ x. ones (x.is_brought && t x.leg)) ms
  marks_with_true t [] = refl
  marks_with_true t (x ∷ ms) = omega (arith, with_true x.is_brought (t x.leg), marks_with_true t ms)

  module _ (start end : Yards) (home : AreAtHome plan legs wish net.arcs start) (way : IsUnderWay day end) (on : Advances day start end) (none : legs_left end ≡ 0) where
    start_few : (s : ℕ) → wish.depot ≢ s → brought_at s start.riders.items + brought_to s start.aheads.items ≤ brought_from s start.aheads.items
    start_few s away =
        let riders = ap (brought_at s) home.riders ∙ home_sum day plan wish is_day links meet is_wish runs net are same flow (λ r. ones (r.is_brought && (r.station == s))) ∙ home_brought day plan wish is_day links meet is_wish runs net are same flow (λ u. home_of day u == s) in
        let to = ap (brought_to s) home.aheads ∙ leg_sum day plan wish is_day links meet is_wish runs net are same flow (λ x. ones (x.is_brought && (x.leg.to == s))) in
        let from = ap (brought_from s) home.aheads ∙ leg_sum day plan wish is_day links meet is_wish runs net are same flow (λ x. ones (x.is_brought && (x.leg.from == s))) in
        elim (cases_lt s legs.stations) [
          | inl at_s ↦
              let few = home_few s away at_s in
              omega (arith, riders, to, from, few, marks_with_true (λ leg. leg.to == s) (marked_from all net.arcs), marks_with_true (λ leg. leg.from == s) (marked_from all net.arcs))
          | inr past ↦
              let no_legs = tests_same (λ b. b) (λ leg. leg.to == s) (λ leg. false) all net.arcs (λ k d below. refuted ((get_or all k d).to == s) (λ h. absurd (
              let at = (stations_of k d below).to in
              let is = eqb-true (get_or all k d).to s h in
              omega (arith, at, is, past)))) ∙ none_marked (marked_from all net.arcs) in
              let no_homes = added_none (λ u. ones (home_of day u == s)) bring 0 (λ k below. no_one (home_of day (get_or bring k 0) == s) (refuted (home_of day (get_or bring k 0) == s) (λ h. absurd (
              let is = eqb-true (home_of day (get_or bring k 0)) s h in
              let at = bring_home k below in
              omega (arith, at, is, past))))) in
              omega (arith, riders, to, from, no_legs, no_homes)
        ]
      where
        no_one : (b : Bool) → b ≡ false → ones b ≡ 0
        no_one true h = absurd (false≢true (sym h))
        no_one false h = refl

        none_true : (b : Bool) → ones (b && false) ≡ 0
        none_true true = refl
        none_true false = refl

        none_marked : (ms : List MarkedLeg) → added (λ x. ones (x.is_brought && false)) ms ≡ 0
        none_marked [] = refl
        none_marked (x ∷ ms) = omega (arith, none_true x.is_brought, none_marked ms)

        there_is : (us : List ℕ) (k : ℕ) → k < length us → 1 ≤ count_of (get_or us k 0) us
        there_is [] k below = absurd (omega (arith, below))
        there_is (x ∷ xs) zero below = (let here = one_same x x refl in omega (arith, here))
        there_is (x ∷ xs) (suc k) below = (let later : 1 ≤ count_of (get_or xs k 0) xs = there_is xs k (omega (arith, below)) in omega (arith, later))

        bring_home : (k : ℕ) → k < length bring → home_of day (get_or bring k 0) < legs.stations
        bring_home k below = is_day.units.home (get_or bring k 0) (is_wish.known (get_or bring k 0) (le-leb 1 (count_of (get_or bring k 0) wish.units) (brought_in_wish day plan wish is_day links meet is_wish runs net are same flow (get_or bring k 0) (there_is bring k below))))

    -- so none of them is elsewhere at the end
    none_away : (s : ℕ) → wish.depot ≢ s → brought_at s end.riders.items ≡ 0
    none_away s away =
        let first = start_few s away in
        let same_flow = on.stations s in
        let to = all_few (λ x. x.is_brought && (x.leg.to == s)) end.aheads.items in
        let from = all_few (λ x. x.is_brought && (x.leg.from == s)) end.aheads.items in
        omega (arith, first, same_flow, to, from, none)

    -- each unit that is brought ends at the depot
    ends_there : (u : ℕ) → 1 ≤ count_of u bring → (last_place day end.plan u == wish.depot) ≡ true
    ends_there u there =
        let at = one_at (λ (r : Rider). r.is_brought && (r.unit == u)) end.riders.items carried_there in
        let d : Rider = record { unit = 0; is_brought = false; station = 0; ready = 0 } in
        let r = get_or end.riders.items at.place d in
        let passes = at.passes d in
        let come = way.come d at.place at.within in
        let known = way.known d at.place at.within in
        let unit_is : r.unit ≡ u = eqb-true r.unit u (second r.is_brought (r.unit == u) passes) in
        let empty_ahead : get_or end.aheads.items at.place [] ≡ [] = none_of (get_or end.aheads.items at.place []) (
        let one = added_at (λ (legs : List MarkedLeg). length legs) end.aheads.items at.place [] (let long = way.long in let w = at.within in omega (arith, long, w)) in
        omega (arith, one, none)) in
        let legs_are : legs_of_unit day end.plan r.unit ≡ come.behind = come.are ∙ ap (λ (legs : List MarkedLeg). come.behind ++ map (λ x. x.leg) legs) empty_ahead ∙ append-nil come.behind in
        let ends : last_place day end.plan r.unit ≡ r.station = sym (legs_in_turn day is_day links meet end.plan way.runs r.unit known).1 ∙ ap (end_of (home_of day r.unit)) legs_are ∙ come.there in
        let place : wish.depot ≡ r.station = elim (cases_eq wish.depot r.station) [
          | inl is ↦ is
          | inr away ↦ absurd (
              let zero_there = none_away r.station away in
              let one = added_at (λ (x : Rider). ones (x.is_brought && (x.station == r.station))) end.riders.items at.place d at.within in
              let is_one = one_true (r.is_brought && (r.station == r.station)) (both r.is_brought (r.station == r.station) (first r.is_brought (r.unit == u) passes) (eq-eqb r.station r.station refl)) in
              omega (arith, zero_there, one, is_one))
        ] in
        eq-eqb (last_place day end.plan u) wish.depot (ap (last_place day end.plan) (sym unit_is) ∙ ends ∙ sym place)
      where
        first : (a b : Bool) → (a && b) ≡ true → a ≡ true
        first true b h = refl
        first false b h = absurd (false≢true h)

        second : (a b : Bool) → (a && b) ≡ true → b ≡ true
        second true b h = h
        second false b h = absurd (false≢true h)

        both : (a b : Bool) → a ≡ true → b ≡ true → (a && b) ≡ true
        both true b one two = two
        both false b one two = absurd (false≢true one)

        one_true : (b : Bool) → b ≡ true → ones b ≡ 1
        one_true true h = refl
        one_true false h = absurd (false≢true h)

        count_as : (us : List ℕ) → added (λ v. ones (v == u)) us ≡ count_of u us
        count_as [] = refl
        count_as (v ∷ us) = omega (arith, count_as us)

        carried_there : 1 ≤ added (λ (r : Rider). ones (r.is_brought && (r.unit == u))) end.riders.items
        carried_there =
            let same_carried = on.carried u in
            let first_carried = ap (carried u) home.riders ∙ home_sum day plan wish is_day links meet is_wish runs net are same flow (λ r. ones (r.is_brought && (r.unit == u))) ∙ home_brought day plan wish is_day links meet is_wish runs net are same flow (λ v. v == u) in
            omega (arith, same_carried, first_carried, count_as bring, there)

    pub naming : IsNaming day plan end.plan
    naming = record { runs = way.runs; types = on.types ∙ ap (map (types_of day)) home.plan_is }

    brings_some : length bring ≤ brought day wish end.plan
    unfolding brought
    brings_some =
        let few = taken_few (λ u. last_place day end.plan u == wish.depot) wish.units (drop (length all) net.arcs) ends_there in
        let counted = counted_over (λ u. last_place day end.plan u == wish.depot) wish.units in
        omega (arith, few, counted)

    -- the plan brings as many as the cut is worth
    pub brings_value : (reached : List Bool) (reach : IsReach net reached) (value : ℕ) → value_of day legs wish (reached_cut legs reached) ≡ Some value → brought day wish end.plan ≡ value
    brings_value reached reach value is =
        let most = cuts_bound_namings day plan end.plan wish (reached_cut legs reached) value is_day links meet is_wish runs naming is in
        let worth : value ≡ cut_value day legs wish (reached_cut legs reached) = (let both : Some value ≡ Some (cut_value day legs wish (reached_cut legs reached)) = sym is ∙ has_value reached reach in cc) in
        let few = value_few reached reach in
        omega (arith, most, worth, few, brings_some)
