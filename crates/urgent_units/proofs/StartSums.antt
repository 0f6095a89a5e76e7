-- Units at home, with the legs that a flow has for them, are under way.
use Rattle.std.proofs.Common.{◌≡◌, ℕ, zero, suc, ◌+◌, ◌-◌, ◌≤◌, ◌<◌, Bool, true, false, List, [], ◌∷◌, length, map, take, drop, get_or, refl, sym, ap, ◌∙◌, subst, arith, inl, inr}
use Rattle.std.specs.Prelude.{if◌then◌else◌, not, ◌&&◌, ◌==◌, nat_le, nat_lt, filter}
use Rattle.std.specs.List.{All}
use Rattle.std.proofs.lemmas.Bool.{cases_Bool, cases_lt, cond-true, cond-false, eq-eqb, eqb-true, le-leb, lt-ltb}
use Rattle.std.proofs.lemmas.List.{length-map}
use Rattle.std.proofs.lemmas.List.Elements.{All-head, All-tail, All-nil, All-cons, All-append, filter-append}
use Rattle.flow_network.specs.declared.network.Arc.{Arc}
use Rattle.flow_network.specs.Flows.{IsFlow, IsSameNet, Net}
use Rattle.inventory.specs.CountTable.{earlier}
use Rattle.timetable.specs.Accepted.{IsDay, AreLinks, DoMeet}
use Rattle.timetable.specs.Day.{Day, home_of, type_of, unit_count}
use Rattle.timetable.specs.Lists.{count_of, has, below}
use Rattle.timetable.specs.Running.{Runs}
use Rattle.timetable.proofs.Sums.{sum_le, sum_one}
use Rattle.urgent_units.specs.declared.legs.Leg.{Leg}
use Rattle.urgent_units.specs.declared.legs.UnitLegs.{UnitLegs}
use Rattle.urgent_units.specs.declared.swaps.MarkedLeg.{MarkedLeg}
use Rattle.urgent_units.specs.declared.swaps.Rider.{Rider}
use Rattle.urgent_units.specs.declared.swaps.Yards.{Yards}
use Rattle.urgent_units.specs.declared.wish.Wish.{Wish}
use Rattle.urgent_units.specs.Held.{held}
use Rattle.urgent_units.specs.LegParts.{AreLegs, IsLegAt}
use Rattle.urgent_units.specs.Legs.{TypeLegs, all_legs, legs_of, legs_of_unit, unit_legs}
use Rattle.urgent_units.specs.Moments.{minutes_at, moment_count, moment_of, over_at}
use Rattle.urgent_units.specs.Namings.{IsNaming}
use Rattle.urgent_units.specs.UnderWay.{IsOnItsWay, IsUnderWay, NoneBefore, added, leaving_legs, ones, ready_legs, standing}
use Rattle.urgent_units.specs.Wishes.{IsWish}
use Rattle.urgent_units.specs.YardFlow.{AreAtHome, aheads_from, marked_from, rider_at_home, taken_units}
use Rattle.urgent_units.specs.YardNetwork.{home_arc, leg_arc, yard_network}
use Rattle.urgent_units.proofs.Added.{added_at, added_is}
use Rattle.urgent_units.proofs.CutLaw.{held_is, held_sum, in_by, of_leg, out_by, over_all_legs, type_units}
use Rattle.urgent_units.proofs.EventMinutes.{departs_at, minutes_rise, ready_at_moment}
use Rattle.urgent_units.proofs.FlowSums.{homes_here, in_few, on_homes, on_legs, out_few, test_from, test_to}
use Rattle.urgent_units.proofs.LabelSums.{over-filter}
use Rattle.urgent_units.proofs.ListSums.{over, over_add, over_same, tally}
use Rattle.urgent_units.proofs.Marks.{added_map, added_same, aheads_sum, both_marks, legs_marked, marked_front, moment_le, over_lt, refuted, some_sum, taken_front, taken_within, tests_same}
use Rattle.urgent_units.proofs.Moments.{Among, earlier_within}
use Rattle.urgent_units.proofs.NetworkCapacity.{all_joined}

-- ---- lists

mapped : {X Y : Type 0} (P : Y → Type 0) (f : X → Y) (xs : List X) → All (λ x. P (f x)) xs → (d : Y) (k : ℕ) → k < length (map f xs) → P (get_or (map f xs) k d)
mapped P f [] each d k below = absurd (omega (arith, below))
mapped {X} P f (x ∷ xs) each d zero below = All-head (λ (x : X). P (f x)) x xs each
mapped {X} P f (x ∷ xs) each d (suc k) below = mapped P f xs (All-tail (λ (x : X). P (f x)) x xs each) d k (omega (arith, below))

-- all units of a type
all_of_type : (P : ℕ → Type 0) (p : ℕ → Bool) (n : ℕ) → ((u : ℕ) → u < n → p u ≡ true → P u) → All P (filter p (below n))
all_of_type P p zero each = All-nil P
all_of_type P p (suc n) each =
    subst (All P) (sym (filter-append p (below n) (n ∷ [])))
    (All-append P (filter p (below n)) (filter p (n ∷ [])) (all_of_type P p n (λ u under passes. each u (omega (arith, under)) passes)) (elim (cases_Bool (p n)) [
      | inl passes ↦ subst (All P) (sym (cond-true (p n) (n ∷ []) [] passes)) (All-cons P n [] (each n (omega arith) passes) (All-nil P))
      | inr fails ↦ subst (All P) (sym (cond-false (p n) (n ∷ []) [] fails)) (All-nil P)
    ]))

aheads_long : (units : List UnitLegs) (arcs : List Arc) → length (aheads_from units arcs) ≡ length units
aheads_long [] arcs = refl
aheads_long (unit ∷ units) arcs = ap (λ (n : ℕ). suc n) (aheads_long units (drop (length unit.legs) arcs))

-- a unit at home has all its legs ahead
module _ (day : Day) (plan : List (List ℕ)) (brought : List ℕ) where
  no_minute : (legs : List MarkedLeg) → NoneBefore 0 legs
  no_minute [] = tt
  no_minute (x ∷ legs) = omega arith

  at_home : (us : List ℕ) (arcs : List Arc) (d : Rider) (k : ℕ) → k < length us
      → IsOnItsWay day plan (get_or (map (rider_at_home brought) (map (unit_legs day plan) us)) k d) (get_or (aheads_from (map (unit_legs day plan) us) arcs) k [])
  at_home [] arcs d k below = absurd (omega (arith, below))
  at_home (u ∷ us) arcs d zero below = record {
    behind = [];
    are = sym (legs_marked (legs_of_unit day plan u) arcs);
    there = refl;
    ready = All-nil (λ (leg : Leg). leg.ready ≤ 0);
    on_time = no_minute (marked_from (legs_of_unit day plan u) arcs);
  }
  at_home (u ∷ us) arcs d (suc k) below = at_home us (drop (length (legs_of_unit day plan u)) arcs) d k (omega (arith, below))

both_test : (b c : Bool) (n : ℕ) → ones (b && c) ≡ (if b then ones c else 0)
both_test true c n = refl
both_test false c n = refl

not_test : (b c : Bool) → ones (b && c) + ones (not b && c) ≡ tally c
not_test true true = refl
not_test true false = refl
not_test false true = refl
not_test false false = refl

module _ (day : Day) (plan : List (List ℕ)) (wish : Wish) (is_day : IsDay day) (links : AreLinks day) (meet : DoMeet day) (is_wish : IsWish day wish) (runs : Runs day plan) (net : Net)
    (are : AreLegs (legs_of day plan wish.unit_type)) (same : IsSameNet (yard_network day (legs_of day plan wish.unit_type) wish) net) (flow : IsFlow net) where
  abbrev m : ℕ
  m = wish.unit_type

  abbrev legs : TypeLegs
  legs = legs_of day plan m

  abbrev units : List ℕ
  units = type_units day m

  abbrev all : List Leg
  all = all_legs legs

  abbrev pub brought : List ℕ
  brought = taken_units wish.units (drop (length all) net.arcs)

  abbrev riders : List Rider
  riders = map (rider_at_home brought) legs.units

  abbrev aheads : List (List MarkedLeg)
  aheads = aheads_from legs.units net.arcs

  -- ---- who is brought

  pub brought_in_wish : (u : ℕ) → 1 ≤ count_of u brought → 1 ≤ count_of u wish.units
  brought_in_wish u there = (let less = taken_within wish.units (drop (length all) net.arcs) u in omega (arith, there, less))

  brought_sum : (F : ℕ → ℕ) → over (λ u. if has u brought then F u else 0) units ≡ over F brought
  brought_sum F = some_sum F (λ u. type_of day u == m) brought (unit_count day)
      (λ u. (let less = taken_within wish.units (drop (length all) net.arcs) u in let few = is_wish.distinct u in omega (arith, less, few)))
      (λ u there. is_wish.known u (le-leb 1 (count_of u wish.units) (brought_in_wish u there)))
      (λ u there. eq-eqb (type_of day u) m (is_wish.types u (le-leb 1 (count_of u wish.units) (brought_in_wish u there))))

  -- sums over units at home
  pub home_sum : (f : Rider → ℕ) → added f riders ≡ over (λ u. f (rider_at_home brought (unit_legs day plan u))) units
  home_sum f = added_map f (rider_at_home brought) legs.units ∙ added_map (λ (unit : UnitLegs). f (rider_at_home brought unit)) (unit_legs day plan) units ∙ added_is (λ u. f (rider_at_home brought (unit_legs day plan u))) units

  pub home_brought : (T : ℕ → Bool) → over (λ u. ones (has u brought && T u)) units ≡ added (λ u. ones (T u)) brought
  home_brought T =
      over_same (λ u. ones (has u brought && T u)) (λ u. if has u brought then ones (T u) else 0) units (λ k d below. both_test (has (get_or units k d) brought) (T (get_or units k d)) 0)
      ∙ brought_sum (λ u. ones (T u)) ∙ sym (added_is (λ u. ones (T u)) brought)

  home_both : (T : ℕ → Bool) → over (λ u. ones (has u brought && T u)) units + over (λ u. ones (not (has u brought) && T u)) units ≡ over (λ u. tally (T u)) units
  home_both T =
      sym (over_add (λ u. ones (has u brought && T u)) (λ u. ones (not (has u brought) && T u)) units)
      ∙ over_same (λ u. ones (has u brought && T u) + ones (not (has u brought) && T u)) (λ u. tally (T u)) units (λ k d below. not_test (has (get_or units k d) brought) (T (get_or units k d)))

  -- sums over legs
  pub leg_sum : (g : MarkedLeg → ℕ) → added (λ legs. added g legs) aheads ≡ added g (marked_from all net.arcs)
  leg_sum g = aheads_sum g legs.units net.arcs

  -- each leg leaves and is ready at one of the minutes
  leg_departs : (k : ℕ) (d : Leg) → k < length all → Among (get_or all k d).departs (minutes_at legs (get_or all k d).from)
  leg_departs k d below =
      let leg = get_or all k d in
      let here = added_at (λ (x : Leg). tally (x.from == leg.from && x.departs == leg.departs)) all k d below in
      let is = added_is (λ (x : Leg). tally (x.from == leg.from && x.departs == leg.departs)) all in
      departs_at legs leg.from leg.departs (let one = both_same leg.from leg.departs in omega (arith, here, is, one))
    where
      both_same : (a b : ℕ) → tally (a == a && b == b) ≡ 1
      both_same a b = ap (λ (x : Bool). tally (x && b == b)) (eq-eqb a a refl) ∙ ap (λ (x : Bool). tally (true && x)) (eq-eqb b b refl)

  leg_ready : (k : ℕ) (d : Leg) → k < length all → Among (get_or all k d).ready (minutes_at legs (get_or all k d).to)
  leg_ready k d below =
      let leg = get_or all k d in
      let here = added_at (λ (x : Leg). tally (x.to == leg.to && x.ready == leg.ready)) all k d below in
      let is = added_is (λ (x : Leg). tally (x.to == leg.to && x.ready == leg.ready)) all in
      ready_at_moment legs leg.to leg.ready (let one = both_same leg.to leg.ready in omega (arith, here, is, one))
    where
      both_same : (a b : ℕ) → tally (a == a && b == b) ≡ 1
      both_same a b = ap (λ (x : Bool). tally (x && b == b)) (eq-eqb a a refl) ∙ ap (λ (x : Bool). tally (true && x)) (eq-eqb b b refl)

  under_test : (a : ℕ) (s : ℕ) (b c : ℕ → Bool) → (a ≡ s → b a ≡ c a) → ((a == s) && b a) ≡ ((a == s) && c a)
  under_test a s b c same = elim (cases_Bool (a == s)) [
    | inl is ↦ ap (λ (x : Bool). (a == s) && x) (same (eqb-true a s is))
    | inr isnt ↦ ap (λ (x : Bool). x && b a) isnt ∙ sym (ap (λ (x : Bool). x && c a) isnt)
  ]

  naming : IsNaming day plan plan
  naming = record { runs = runs; types = refl }

  -- ---- at a station, by a minute

  module _ (s d : ℕ) (at_s : s < legs.stations) where
    abbrev last : ℕ
    last = earlier (suc d) (minutes_at legs s)

    at_last : last < moment_count legs s - 1
    at_last = (let within = earlier_within (suc d) (minutes_at legs s) in omega (arith, within))

    below_last : last < moment_count legs s
    below_last = (let within = earlier_within (suc d) (minutes_at legs s) in omega (arith, within))

    abbrev leaves_by : Leg → Bool
    leaves_by leg = (leg.from == s) && nat_le leg.departs d

    abbrev ready_by : Leg → Bool
    ready_by leg = (leg.to == s) && nat_le leg.ready d

    from_same : All (λ leg. test_from legs s last at_s below_last leg ≡ leaves_by leg) all
    from_same = λ k e below. under_test (get_or all k e).from s (λ t. nat_le (moment_of legs t (get_or all k e).departs) last) (λ t. nat_le (get_or all k e).departs d)
        (λ is. subst (λ (t : ℕ). nat_le (moment_of legs (get_or all k e).from (get_or all k e).departs) (earlier (suc d) (minutes_at legs t)) ≡ nat_le (get_or all k e).departs d) is
        (moment_le (get_or all k e).departs d (minutes_at legs (get_or all k e).from) (minutes_rise legs (get_or all k e).from) (leg_departs k e below)))

    to_same : All (λ leg. test_to legs s last at_s below_last leg ≡ ready_by leg) all
    to_same = λ k e below. under_test (get_or all k e).to s (λ t. nat_le (moment_of legs t (get_or all k e).ready) last) (λ t. nat_le (get_or all k e).ready d)
        (λ is. subst (λ (t : ℕ). nat_le (moment_of legs (get_or all k e).to (get_or all k e).ready) (earlier (suc d) (minutes_at legs t)) ≡ nat_le (get_or all k e).ready d) is
        (moment_le (get_or all k e).ready d (minutes_at legs (get_or all k e).to) (minutes_rise legs (get_or all k e).to) (leg_ready k e below)))

    out_same : All (λ leg. of_leg (out_by day plan plan wish [] is_day links meet is_wish runs naming s (over_at legs s last)) leg ≡ tally (leaves_by leg)) all
    out_same = λ k e below. ap tally (under_test (get_or all k e).from s (λ t. nat_lt (get_or all k e).departs (over_at legs s last)) (λ t. nat_le (get_or all k e).departs d)
        (λ is. over_lt (get_or all k e).departs d (minutes_at legs s) (minutes_rise legs s) (subst (λ (t : ℕ). Among (get_or all k e).departs (minutes_at legs t)) is (leg_departs k e below))))

    in_same : All (λ leg. of_leg (in_by day plan plan wish [] is_day links meet is_wish runs naming s (over_at legs s last)) leg ≡ tally (ready_by leg)) all
    in_same = λ k e below. ap tally (under_test (get_or all k e).to s (λ t. nat_lt (get_or all k e).ready (over_at legs s last)) (λ t. nat_le (get_or all k e).ready d)
        (λ is. over_lt (get_or all k e).ready d (minutes_at legs s) (minutes_rise legs s) (subst (λ (t : ℕ). Among (get_or all k e).ready (minutes_at legs t)) is (leg_ready k e below))))

    abbrev marks : List MarkedLeg
    marks = marked_from all net.arcs

    -- the flow's sums are those of the units
    marks_are : marked_from all (on_legs legs s last at_s below_last day wish net are is_day refl is_wish same flow (inr at_last)) ≡ marks
    marks_are = ap (λ (n : ℕ). marked_from all (take n net.arcs)) (length-map all (leg_arc legs)) ∙ marked_front all net.arcs

    brought_are : taken_units wish.units (on_homes legs s last at_s below_last day wish net are is_day refl is_wish same flow (inr at_last)) ≡ brought
    brought_are =
        ap (λ (n : ℕ). taken_units wish.units (take n (drop (length (map (leg_arc legs) all)) net.arcs))) (length-map wish.units (home_arc day legs))
        ∙ taken_front wish.units (drop (length (map (leg_arc legs) all)) net.arcs)
        ∙ ap (λ (n : ℕ). taken_units wish.units (drop n net.arcs)) (length-map all (leg_arc legs))

    abbrev out_marked : ℕ
    out_marked = added (λ x. ones (x.is_brought && leaves_by x.leg)) marks

    abbrev in_marked : ℕ
    in_marked = added (λ x. ones (x.is_brought && ready_by x.leg)) marks

    abbrev here : ℕ → Bool
    here u = (home_of day u == s) && nat_le 0 d

    flows_out : added (λ x. ones (x.is_brought && test_from legs s last at_s below_last x.leg)) (marked_from all (on_legs legs s last at_s below_last day wish net are is_day refl is_wish same flow (inr at_last))) ≡ out_marked
    flows_out =
        ap (λ (ms : List MarkedLeg). added (λ x. ones (x.is_brought && test_from legs s last at_s below_last x.leg)) ms) marks_are
        ∙ tests_same (λ b. b) (test_from legs s last at_s below_last) leaves_by all net.arcs from_same

    flows_in : added (λ x. ones (x.is_brought && test_to legs s last at_s below_last x.leg)) (marked_from all (on_legs legs s last at_s below_last day wish net are is_day refl is_wish same flow (inr at_last))) ≡ in_marked
    flows_in =
        ap (λ (ms : List MarkedLeg). added (λ x. ones (x.is_brought && test_to legs s last at_s below_last x.leg)) ms) marks_are
        ∙ tests_same (λ b. b) (test_to legs s last at_s below_last) ready_by all net.arcs to_same

    flows_home : added (λ u. ones (homes_here legs s last at_s below_last day u)) (taken_units wish.units (on_homes legs s last at_s below_last day wish net are is_day refl is_wish same flow (inr at_last))) ≡ over (λ u. ones (has u brought && here u)) units
    flows_home =
        ap (λ (us : List ℕ). added (λ u. ones (homes_here legs s last at_s below_last day u)) us) brought_are
        ∙ added_same (λ u. ones (homes_here legs s last at_s below_last day u)) (λ u. ones (here u)) brought
        (λ k e below. ap (λ (x : Bool). ones ((home_of day (get_or brought k e) == s) && x)) (le-leb 0 last (omega arith) ∙ sym (le-leb 0 d (omega arith))))
        ∙ sym (home_brought here)

    -- of units that are brought
    enough_brought : out_marked ≤ over (λ u. ones (has u brought && here u)) units + in_marked
    enough_brought =
        let few = out_few legs s last at_s below_last day wish net are is_day refl is_wish same flow (inr at_last) in
        omega (arith, few, flows_out, flows_in, flows_home)

    -- of the others
    enough_others : added (λ x. ones (not x.is_brought && leaves_by x.leg)) marks ≤ over (λ u. ones (not (has u brought) && here u)) units + added (λ x. ones (not x.is_brought && ready_by x.leg)) marks
    enough_others =
        let few = in_few legs s last at_s below_last day wish net are is_day refl is_wish same flow (inr at_last) in
        let stay = cond-true {A = ℕ} (nat_lt last (moment_count legs s - 1)) (held legs s last) 0 (lt-ltb last (moment_count legs s - 1) at_last) in
        let o = over_at legs s last in
        let sum = held_sum day plan plan wish [] is_day links meet is_wish runs naming plan runs s o in
        let is = held_is day plan plan wish [] is_day links meet is_wish runs naming s last in
        let outs = sym (over_all_legs day plan m (of_leg (out_by day plan plan wish [] is_day links meet is_wish runs naming s o)))
        ∙ over_same (of_leg (out_by day plan plan wish [] is_day links meet is_wish runs naming s o)) (λ leg. tally (leaves_by leg)) all out_same in
        let ins = sym (over_all_legs day plan m (of_leg (in_by day plan plan wish [] is_day links meet is_wish runs naming s o)))
        ∙ over_same (of_leg (in_by day plan plan wish [] is_day links meet is_wish runs naming s o)) (λ leg. tally (ready_by leg)) all in_same in
        let homes : over (λ u. tally (home_of day u == s && nat_le 0 o)) units ≡ over (λ u. tally (here u)) units =
        over_same (λ u. tally (home_of day u == s && nat_le 0 o)) (λ u. tally (here u)) units (λ k e below. ap (λ (x : Bool). tally ((home_of day (get_or units k e) == s) && x)) (le-leb 0 o (omega arith) ∙ sym (le-leb 0 d (omega arith)))) in
        let out_all = both_marks leaves_by all net.arcs in
        let in_all = both_marks ready_by all net.arcs in
        let home_all = home_both here in
        omega (arith, few, stay, sum, is, outs, ins, homes, out_all, in_all, home_all, flows_out, flows_in, flows_home)

  -- where there is no such station nothing leaves
  none_leaves : (A : Bool → Bool) (s d : ℕ) → legs.stations ≤ s → added (λ x. ones (A x.is_brought && ((x.leg.from == s) && nat_le x.leg.departs d))) (marked_from all net.arcs) ≡ 0
  none_leaves A s d past =
      tests_same A (λ leg. (leg.from == s) && nat_le leg.departs d) (λ leg. false) all net.arcs
      (λ k e below. ap (λ (b : Bool). b && nat_le (get_or all k e).departs d) (refuted ((get_or all k e).from == s) (λ h. absurd (
      let at = (stations_of k e below).from in
      let is = eqb-true (get_or all k e).from s h in
      omega (arith, at, is, past)))))
      ∙ none (marked_from all net.arcs)
    where
      stations_of : All (IsLegAt legs) all
      stations_of = all_joined (IsLegAt legs) (λ (unit : UnitLegs). unit.legs) legs.units are.each

      none_true : (b : Bool) → ones (b && false) ≡ 0
      none_true true = refl
      none_true false = refl

      none : (ms : List MarkedLeg) → added (λ x. ones (A x.is_brought && false)) ms ≡ 0
      none [] = refl
      none (x ∷ ms) = omega (arith, none_true (A x.is_brought), none ms)

  enough : (b : Bool) (s d : ℕ) → leaving_legs b s d aheads ≤ standing b s d riders + ready_legs b s d aheads
  enough true s d = elim (cases_lt s legs.stations) [
    | inl at_s ↦
        let few = enough_brought s d at_s in
        let out = leg_sum (λ x. ones (x.is_brought && ((x.leg.from == s) && nat_le x.leg.departs d))) in
        let into = leg_sum (λ x. ones (x.is_brought && ((x.leg.to == s) && nat_le x.leg.ready d))) in
        let homes = home_sum (λ r. ones (r.is_brought && ((r.station == s) && nat_le r.ready d))) in
        omega (arith, few, out, into, homes)
    | inr past ↦
        let out = leg_sum (λ x. ones (x.is_brought && ((x.leg.from == s) && nat_le x.leg.departs d))) in
        let none = none_leaves (λ b. b) s d past in
        omega (arith, out, none)
  ]
  enough false s d = elim (cases_lt s legs.stations) [
    | inl at_s ↦
        let few = enough_others s d at_s in
        let out = leg_sum (λ x. ones (not x.is_brought && ((x.leg.from == s) && nat_le x.leg.departs d))) in
        let into = leg_sum (λ x. ones (not x.is_brought && ((x.leg.to == s) && nat_le x.leg.ready d))) in
        let homes = home_sum (λ r. ones (not r.is_brought && ((r.station == s) && nat_le r.ready d))) in
        omega (arith, few, out, into, homes)
    | inr past ↦
        let out = leg_sum (λ x. ones (not x.is_brought && ((x.leg.from == s) && nat_le x.leg.departs d))) in
        let none = none_leaves not s d past in
        omega (arith, out, none)
  ]

  -- ---- under way

  module _ (yards : Yards) (home : AreAtHome plan legs wish net.arcs yards) where
    once : (u : ℕ) → added (λ r. ones (r.unit == u)) riders ≤ 1
    once u =
        let sum = home_sum (λ r. ones (r.unit == u)) in
        let over_type = over-filter (λ v. ones (v == u)) (λ v. type_of day v == m) (unit_count day) in
        let less = sum_le (λ v. if type_of day v == m then ones (v == u) else 0) (λ v. if u == v then 1 else 0) (unit_count day) (λ v below. each (type_of day v == m) v) in
        let few = sum_one u (unit_count day) in
        omega (arith, sum, over_type, less, few)
      where
        each : (b : Bool) (v : ℕ) → (if b then ones (v == u) else 0) ≤ (if u == v then 1 else 0)
        each false v = omega arith
        each true v = elim (cases_Bool (v == u)) [
          | inl is ↦ omega (arith, cond-true {A = ℕ} (v == u) 1 0 is, cond-true {A = ℕ} (u == v) 1 0 (eq-eqb u v (sym (eqb-true v u is))))
          | inr isnt ↦ omega (arith, cond-false {A = ℕ} (v == u) 1 0 isnt)
        ]

    each_rider : (P : ℕ → Type 0) → ((u : ℕ) → u < unit_count day → type_of day u ≡ m → P u) → (d : Rider) (k : ℕ) → k < length riders → P (get_or riders k d).unit
    each_rider P holds d k below =
        mapped (λ (r : Rider). P r.unit) (rider_at_home brought) legs.units
        (λ j e under. mapped (λ (unit : UnitLegs). P unit.unit) (unit_legs day plan) units
        (all_of_type P (λ u. type_of day u == m) (unit_count day) (λ u known is. holds u known (eqb-true (type_of day u) m is))) e j under) d k below

    units_long : length riders ≡ length units
    units_long = length-map legs.units (rider_at_home brought) ∙ length-map units (unit_legs day plan)

    pub start_way : IsUnderWay day yards
    start_way = record {
      runs = subst (Runs day) (sym home.plan_is) runs;
      long = ap (λ (arcs : List (List MarkedLeg)). length arcs) home.aheads ∙ aheads_long legs.units net.arcs ∙ sym (length-map legs.units (rider_at_home brought)) ∙ ap (λ (rs : List Rider). length rs) (sym home.riders);
      known = subst (λ (rs : List Rider). (d : Rider) (k : ℕ) → k < length rs → (get_or rs k d).unit < unit_count day) (sym home.riders) (each_rider (λ u. u < unit_count day) (λ u known is. known));
      unit_type = m;
      one_type = subst (λ (rs : List Rider). (d : Rider) (k : ℕ) → k < length rs → type_of day (get_or rs k d).unit ≡ m) (sym home.riders) (each_rider (λ u. type_of day u ≡ m) (λ u known is. is));
      apart = subst (λ (rs : List Rider). (u : ℕ) → added (λ r. ones (r.unit == u)) rs ≤ 1) (sym home.riders) once;
      come = subst (λ (rs : List Rider). (d : Rider) (k : ℕ) → k < length rs → IsOnItsWay day yards.plan (get_or rs k d) (get_or yards.aheads.items k [])) (sym home.riders)
          (subst (λ (arcs : List (List MarkedLeg)). (d : Rider) (k : ℕ) → k < length riders → IsOnItsWay day yards.plan (get_or riders k d) (get_or arcs k [])) (sym home.aheads)
          (subst (λ (p : List (List ℕ)). (d : Rider) (k : ℕ) → k < length riders → IsOnItsWay day p (get_or riders k d) (get_or aheads k [])) (sym home.plan_is)
          (λ d k below. at_home day plan brought units net.arcs d k (omega (arith, below, units_long)))));
      enough = subst (λ (rs : List Rider). (b : Bool) (s d : ℕ) → leaving_legs b s d yards.aheads.items ≤ standing b s d rs + ready_legs b s d yards.aheads.items) (sym home.riders)
          (subst (λ (arcs : List (List MarkedLeg)). (b : Bool) (s d : ℕ) → leaving_legs b s d arcs ≤ standing b s d riders + ready_legs b s d arcs) (sym home.aheads) enough);
    }
