-- The fault of an event is that of the first of its tests that fails.
use Rattle.std.proofs.Common.{◌≡◌, inl, inr, ℕ, zero, suc, ◌+◌, ◌*◌, ◌/◌, ◌%◌, ◌<◌, ◌≤◌, List, [], ◌∷◌, ◌++◌, length}
use Rattle.std.proofs.Common.{map, take, get_or, set, Bool, true, false, not, cond}
use Rattle.std.proofs.Common.{IsTrue, Option, Some, None, refl, sym, ap, ◌∙◌, subst, arith, eqb, ⊎_elim, ◌⊎◌, ◌≢◌}
use Rattle.std.specs.Prelude.{option_map, option_and_then, unwrap_or, slice_get, ◌&&◌, ◌==◌, nat_le, if◌then◌else◌}
use Rattle.std.specs.List.{list_all}
use Rattle.std.proofs.Math.Seq.{take-append_seam, get_or-append_seam}
use Rattle.std.proofs.lemmas.List.{length-append, append_assoc}
use Rattle.std.proofs.lemmas.Bool.{both_ways, cases_eq, and_parts, and_from, eqb-true, eq-eqb, leb-true, le-leb}
use Rattle.rules.specs.declared.records.Link.{Link}
use Rattle.rules.specs.declared.records.LinkKind.{LinkKind}
use Rattle.rules.specs.declared.records.LinkKind.TheVariants.{Turn, Join, Split}
use Rattle.timetable.specs.Admissible.{is_admissible}
use Rattle.timetable.specs.Day.{Day, leaves, arrives, from_of, type_of, types_of, unit_count}
use Rattle.timetable.specs.Links.{list_of, incoming, outgoing, link_into, link_holds, arriving_in, taken, trips_into}
use Rattle.timetable.specs.Lists.{count_of, has, below}
use Rattle.timetable.specs.Running.{IsPlan}
use Rattle.timetable.specs.Tests.{Test, ◌when◌}
use Rattle.timetable.proofs.Ones.{one_same, one_other}
use Rattle.day_simulator.specs.declared.events.DayEvent.TheVariants.{Depart, Arrive}
use Rattle.day_simulator.specs.declared.events.UnitLocation.{UnitLocation}
use Rattle.day_simulator.specs.declared.events.UnitLocation.TheVariants.{Yard, Aboard, Standing}
use Rattle.day_simulator.specs.declared.events.Stage.{Stage}
use Rattle.day_simulator.specs.declared.events.Stage.TheVariants as stage
use Rattle.day_simulator.specs.declared.events.StepFault.{StepFault}
use Rattle.day_simulator.specs.declared.events.StepFault.TheVariants.{NotNow, NoUnits, NotAdmissible, LinkBroken}
use Rattle.day_simulator.specs.declared.events.StepFault.TheVariants.{NotInYard}
use Rattle.day_simulator.specs.State.{State, location_of, stage_of, moment_of, is_waiting, is_under_way, has_arrived, is_ready}
use Rattle.day_simulator.specs.State.{put_all}
use Rattle.day_simulator.specs.Steps.{is_now, is_tested_at, broken, broken_into, broken_out, first_missing}
use Rattle.day_simulator.specs.Steps.{train_fault, fault_of}
use Rattle.day_simulator.specs.StepTests.{MayLeave, MayArrive, IsJoin, IsTurnOrSplit, BreaksRule, rule_tests, StandsReady}
use Rattle.day_simulator.specs.StepTests.{CannotBeTaken, unit_tests, step_tests, StepsAreTested}
use Rattle.day_simulator.proofs.FirstTests.{Tested, tested_none, tested_failed, tested_passed, tested_unless, tested_where}
use Rattle.day_simulator.proofs.FirstTests.{tested_before, tested_behind, told}
use Rattle.day_simulator.proofs.LinkTrips.{taken_known}
use Rattle.day_simulator.proofs.PutPlaces.{location_of-put_all, put_all-append}
use Rattle.day_simulator.proofs.Timely.{all_arrived}

-- ---- that an event comes now

-- the moment of an event has not passed, by minutes and by whether a departure was made in the last one
departs_in_time : (moment minute : ℕ) → moment ≤ 2 * minute + 1 → moment / 2 ≤ minute
departs_in_time moment minute le = omega arith

until_departure : (moment minute : ℕ) → moment / 2 ≤ minute → moment ≤ 2 * minute + 1
until_departure moment minute le = omega arith

arrives_in_time : (moment minute : ℕ) → moment ≤ 2 * minute → (moment / 2 < minute) ⊎ ((moment / 2 ≡ minute) × (¬ (moment % 2 ≡ 1)))
arrives_in_time moment minute le =
    ⊎_elim (λ (same : moment / 2 ≡ minute). inr (same, λ one. omega (arith, le, same, one))) (λ (ne : moment / 2 ≢ minute). inl (omega arith)) (cases_eq (moment / 2) minute)

until_arrival : (moment minute : ℕ) → (moment / 2 < minute) ⊎ ((moment / 2 ≡ minute) × (¬ (moment % 2 ≡ 1))) → moment ≤ 2 * minute
until_arrival moment minute in_time =
    ⊎_elim (λ (earlier : moment / 2 < minute). omega (arith, earlier))
    (λ (same : (moment / 2 ≡ minute) × (¬ (moment % 2 ≡ 1))).
    ⊎_elim (λ (one : moment % 2 ≡ 1). absurd (same.1 one)) (λ (none : moment % 2 ≢ 1). omega (arith, same.0, none)) (cases_eq (moment % 2) 1)) in_time

waiting : (s : Stage) → is_waiting s ≡ true → s ≡ stage.Waiting
waiting stage.Waiting e = refl
waiting stage.UnderWay e = absurd cc
waiting stage.Arrived e = absurd cc

under_way : (s : Stage) → is_under_way s ≡ true → s ≡ stage.UnderWay
under_way stage.Waiting e = absurd cc
under_way stage.UnderWay e = refl
under_way stage.Arrived e = absurd cc

arrived : (s : Stage) → has_arrived s ≡ true → s ≡ stage.Arrived
arrived stage.Waiting e = absurd cc
arrived stage.UnderWay e = absurd cc
arrived stage.Arrived e = refl

-- of trips that have all arrived, each has
each_arrived : (stages : List Stage) (ts : List ℕ) → list_all (λ a. has_arrived (stage_of stages a)) ts ≡ true → (a : ℕ) → 1 ≤ count_of a ts → stage_of stages a ≡ stage.Arrived
each_arrived stages [] all a c = absurd (omega arith)
each_arrived stages (b ∷ ts) all a c =
    let parts = and_parts (has_arrived (stage_of stages b)) (list_all (λ a. has_arrived (stage_of stages a)) ts) all in
    ⊎_elim (λ (same : b ≡ a). subst (λ (x : ℕ). stage_of stages x ≡ stage.Arrived) same (arrived (stage_of stages b) parts.0))
    (λ (ne : b ≢ a). let other = one_other b a ne in each_arrived stages ts parts.1 a (omega arith)) (cases_eq b a)

module _ (day : Day) (state : State) (t : ℕ) where
  -- all the trips into this one have arrived exactly where each one has that arrives for the link into it
  each_into : list_all (λ a. has_arrived (stage_of state.stages a)) (trips_into day t) ≡ true
      → (link : Link) (a : ℕ) → link_into day t ≡ Some link → IsTrue (has a (arriving_in link.kind)) → stage_of state.stages a ≡ stage.Arrived
  each_into all link a into there =
      let these : trips_into day t ≡ arriving_in link.kind = ap (λ (o : Option Link). unwrap_or (option_map (λ link. arriving_in link.kind) o) []) into in
      each_arrived state.stages (arriving_in link.kind) (subst (λ (ts : List ℕ). list_all (λ a. has_arrived (stage_of state.stages a)) ts ≡ true) these all) a
      (leb-true 1 (count_of a (arriving_in link.kind)) there)

  all_into : ((link : Link) (a : ℕ) → link_into day t ≡ Some link → IsTrue (has a (arriving_in link.kind)) → stage_of state.stages a ≡ stage.Arrived)
      → list_all (λ a. has_arrived (stage_of state.stages a)) (trips_into day t) ≡ true
  all_into each = by_link (link_into day t) refl
    where
      by_link : (o : Option Link) → link_into day t ≡ o → list_all (λ a. has_arrived (stage_of state.stages a)) (unwrap_or (option_map (λ link. arriving_in link.kind) o) []) ≡ true
      by_link None into = refl
      by_link (Some link) into = all_arrived state.stages (arriving_in link.kind) (λ a c. each link a into (le-leb 1 (count_of a (arriving_in link.kind)) c))

  may_leave : is_now day state (Depart t) ≡ true → MayLeave day state t
  unfolding is_now moment_of
  may_leave now =
      let all = and_parts (nat_le state.moment (moment_of day (Depart t)) && is_waiting (stage_of state.stages t)) (list_all (λ a. has_arrived (stage_of state.stages a)) (trips_into day t)) now in
      let parts = and_parts (nat_le state.moment (moment_of day (Depart t))) (is_waiting (stage_of state.stages t)) all.0 in
      record {
        in_time = departs_in_time state.moment (leaves day t) (leb-true state.moment (moment_of day (Depart t)) parts.0);
        waits = waiting (stage_of state.stages t) parts.1;
        arrived = each_into all.1;
      }

  leaves_now : MayLeave day state t → is_now day state (Depart t) ≡ true
  unfolding is_now moment_of
  leaves_now may =
      and_from _ _ (and_from _ _ (le-leb state.moment (moment_of day (Depart t)) (until_departure state.moment (leaves day t) may.in_time)) (ap is_waiting may.waits)) (all_into may.arrived)

  may_arrive : is_now day state (Arrive t) ≡ true → MayArrive day state t
  unfolding is_now moment_of
  may_arrive now =
      let parts = and_parts (nat_le state.moment (moment_of day (Arrive t))) (is_under_way (stage_of state.stages t)) now in
      record {
        in_time = arrives_in_time state.moment (arrives day t) (leb-true state.moment (moment_of day (Arrive t)) parts.0);
        under_way = under_way (stage_of state.stages t) parts.1;
      }

  arrives_now : MayArrive day state t → is_now day state (Arrive t) ≡ true
  unfolding is_now moment_of
  arrives_now may = and_from _ _ (le-leb state.moment (moment_of day (Arrive t)) (until_arrival state.moment (arrives day t) may.in_time)) (ap is_under_way may.under_way)

-- ---- that the rule of a link holds

-- the links whose rule is tested here are those of a kind
abbrev IsKindTested : Bool → (LinkKind → Type 0) → Type 0
IsKindTested departure OfKind = (kind : LinkKind) → (is_tested_at departure kind ≡ true → OfKind kind) × (is_tested_at departure kind ≡ false → OfKind kind → ⊥)

joins : IsKindTested true IsJoin
joins (Turn a b uncouple couple exchange) = ((λ e. absurd cc), (λ e is. is))
joins (Join a1 a2 b) = ((λ e. tt), (λ e is. absurd cc))
joins (Split a b1 b2) = ((λ e. absurd cc), (λ e is. is))

turns_and_splits : IsKindTested false IsTurnOrSplit
turns_and_splits (Turn a b uncouple couple exchange) = ((λ e. tt), (λ e is. absurd cc))
turns_and_splits (Join a1 a2 b) = ((λ e. absurd cc), (λ e is. is))
turns_and_splits (Split a b1 b2) = ((λ e. tt), (λ e is. absurd cc))

module _ (day : Day) (plan : List (List ℕ)) (departure : Bool) (OfKind : LinkKind → Type 0) (tested_kind : IsKindTested departure OfKind) where
  abbrev rule_test : ℕ → Test StepFault
  rule_test l = LinkBroken l when BreaksRule day plan OfKind l

  same_link : (link other : Link) → ◌≡◌ {A = Option Link} (Some link) (Some other) → link ≡ other
  same_link link other h = cc

  -- a link of such a kind, by what its rule says
  by_rule : (l : ℕ) (link : Link) (tested holds : Bool) → slice_get day.links l ≡ Some link → is_tested_at departure link.kind ≡ tested → link_holds (type_of day) link plan ≡ holds
      → Tested (rule_test l ∷ []) (option_map (λ l. LinkBroken l) (cond (tested && not holds) (Some l) None))
  by_rule l link true false is of_kind rule = tested_failed (rule_test l) [] (record { link = link; is = is; kind = (tested_kind link.kind).0 of_kind; broken = rule })
  by_rule l link true true is of_kind rule =
      tested_passed (rule_test l) [] None
      (λ breaks. let same : link ≡ breaks.link = same_link link breaks.link (sym is ∙ breaks.is) in
      both_ways (link_holds (type_of day) link plan) (subst (λ (x : Link). link_holds (type_of day) x plan ≡ false) (sym same) breaks.broken) rule)
      (tested_none StepFault)
  by_rule l link false holds is of_kind rule =
      tested_passed (rule_test l) [] None
      (λ breaks. let same : link ≡ breaks.link = same_link link breaks.link (sym is ∙ breaks.is) in
      (tested_kind link.kind).1 of_kind (subst (λ (x : Link). OfKind x.kind) (sym same) breaks.kind))
      (tested_none StepFault)

  rule_tested : (number : Option ℕ) → Tested (rule_tests (BreaksRule day plan OfKind) number) (option_map (λ l. LinkBroken l) (broken day plan departure number))
  rule_tested None = tested_none StepFault
  rule_tested (Some l) = by_link (slice_get day.links l) refl
    where
      by_link : (o : Option Link) → slice_get day.links l ≡ o
          → Tested (rule_test l ∷ []) (option_map (λ l. LinkBroken l) (option_and_then (λ link. if is_tested_at departure link.kind && not (link_holds (type_of day) link plan) then Some l else None) o))
      by_link None is = tested_passed (rule_test l) [] None (λ breaks. let some : ◌≡◌ {A = Option Link} None (Some breaks.link) = sym is ∙ breaks.is in absurd cc) (tested_none StepFault)
      by_link (Some link) is = by_rule l link (is_tested_at departure link.kind) (link_holds (type_of day) link plan) is refl refl

-- the test of a link, and those behind it
rule_then : (tests tests' : List (Test StepFault)) (number : Option ℕ) (rest : Option StepFault) → Tested tests (option_map (λ l. LinkBroken l) number) → Tested tests' rest
    → Tested (tests ++ tests') (unwrap_or (option_map (λ l. Some (LinkBroken l)) number) rest)
rule_then tests tests' None rest none later = tested_behind tests tests' rest none later
rule_then tests tests' (Some l) rest first later = tested_before tests tests' (LinkBroken l) first

-- ---- that units can be taken

-- so many numbers, from one on
abbrev numbers_from : ℕ → ℕ → List ℕ
numbers_from k zero = []
numbers_from k (suc n) = k ∷ numbers_from (suc k) n

numbers_more : (k n : ℕ) → numbers_from k (suc n) ≡ numbers_from k n ++ (k + n) ∷ []
numbers_more k zero = let same : k ≡ k + 0 = omega arith in ap (λ (m : ℕ). m ∷ []) same
numbers_more k (suc n) =
    let same : suc k + n ≡ k + suc n = omega arith in
    ap (λ (l : List ℕ). k ∷ l) (numbers_more (suc k) n ∙ ap (λ (m : ℕ). numbers_from (suc k) n ++ m ∷ []) same)

below_is : (n : ℕ) → below n ≡ numbers_from 0 n
below_is zero = refl
below_is (suc n) =
    let same : 0 + n ≡ n = omega arith in
    ap (λ (l : List ℕ). l ++ n ∷ []) (below_is n) ∙ sym (numbers_more 0 n ∙ ap (λ (m : ℕ). numbers_from 0 n ++ m ∷ []) same)

module _ (day : Day) (state : State) (t : ℕ) where
  abbrev ready_in : UnitLocation → Bool
  ready_in place = is_ready (from_of day t) (leaves day t) place

  stands_ready : (u : ℕ) → ready_in (location_of state.locations u) ≡ true → StandsReady day state t u
  stands_ready u = by_place (location_of state.locations u) refl
    where
      by_place : (p : UnitLocation) → location_of state.locations u ≡ p → ready_in p ≡ true → StandsReady day state t u
      by_place (Yard s ready) is h =
          let parts = and_parts (s == from_of day t) (nat_le ready (leaves day t)) h in
          record {
            ready = ready;
            yard = is ∙ ap (λ (k : ℕ). Yard k ready) (eqb-true s (from_of day t) parts.0);
            in_time = leb-true ready (leaves day t) parts.1;
          }
      by_place (Aboard s) is h = absurd cc
      by_place (Standing s) is h = absurd cc

  is_ready_there : (u : ℕ) → StandsReady day state t u → ready_in (location_of state.locations u) ≡ true
  is_ready_there u stands =
      ap ready_in stands.yard ∙ and_from (eqb (from_of day t) (from_of day t)) (nat_le stands.ready (leaves day t)) (eq-eqb (from_of day t) (from_of day t) refl) (le-leb stands.ready (leaves day t) stands.in_time)

  -- a unit among others that were taken one by one
  abbrev unit_test : List ℕ → ℕ → Test StepFault
  unit_test before u = NotInYard u t when ((¬ StandsReady day state t u) ⊎ IsTrue (has u before))

  abbrev places_after : List ℕ → List UnitLocation
  places_after before = put_all state.locations before (Aboard t)

  ready_after : (before : List ℕ) (u : ℕ) (b : Bool) → u < length state.locations → has u before ≡ b → ready_in (location_of (places_after before) u) ≡ ready_in (cond b (Aboard t) (location_of state.locations u))
  ready_after before u b inside h = ap ready_in (location_of-put_all state.locations before (Aboard t) u inside ∙ ap (λ (c : Bool). cond c (Aboard t) (location_of state.locations u)) h)

  can_be_taken : (before : List ℕ) (u : ℕ) → u < length state.locations → ready_in (location_of (places_after before) u) ≡ true → ¬ (unit_test before u).fault
  can_be_taken before u inside ready fault = by_taken (has u before) refl
    where
      by_taken : (b : Bool) → has u before ≡ b → ⊥
      by_taken true h = let none : false ≡ true = sym (ready_after before u true inside h) ∙ ready in absurd cc
      by_taken false h =
          ⊎_elim (λ (absent : ¬ StandsReady day state t u). absent (stands_ready u (sym (ready_after before u false inside h) ∙ ready)))
          (λ (there : IsTrue (has u before)). both_ways (has u before) h there) fault

  cannot_be_taken : (before : List ℕ) (u : ℕ) → u < length state.locations → ready_in (location_of (places_after before) u) ≡ false → (unit_test before u).fault
  cannot_be_taken before u inside ready = by_taken (has u before) refl
    where
      by_taken : (b : Bool) → has u before ≡ b → (¬ StandsReady day state t u) ⊎ IsTrue (has u before)
      by_taken true h = inr h
      by_taken false h = inl (λ stands. both_ways (ready_in (location_of state.locations u)) (sym (ready_after before u false inside h) ∙ ready) (is_ready_there u stands))

  -- the test of a place
  abbrev place_test : List ℕ → ℕ → Test StepFault
  place_test all k = NotInYard (get_or all k 0) t when CannotBeTaken day state t all k

  -- where some units stand before a unit and others behind it, the test of its place is the unit's
  at_seam : (all before us : List ℕ) (u : ℕ) (tests : List (Test StepFault)) (fault : Option StepFault) → all ≡ before ++ u ∷ us
      → Tested (unit_test before u ∷ tests) fault → Tested (place_test all (length before) ∷ tests) fault
  at_seam all before us u tests fault is tested =
      subst (λ (v : ℕ). Tested ((NotInYard v t when ((¬ StandsReady day state t v) ⊎ IsTrue (has v (take (length before) all)))) ∷ tests) fault)
      (sym (ap (λ (l : List ℕ). get_or l (length before) 0) is ∙ get_or-append_seam before u us 0))
      (subst (λ (l : List ℕ). Tested ((NotInYard u t when ((¬ StandsReady day state t u) ⊎ IsTrue (has u l))) ∷ tests) fault)
      (sym (ap (λ (l : List ℕ). take (length before) l) is ∙ take-append_seam before (u ∷ us))) tested)

  units_tested : (all before us : List ℕ) → all ≡ before ++ us → ((u : ℕ) → 1 ≤ count_of u us → u < length state.locations)
      → Tested (map (place_test all) (numbers_from (length before) (length us))) (option_map (λ u. NotInYard u t) (first_missing day t (places_after before) us))
  units_tested all before [] is inside = tested_none StepFault
  units_tested all before (u ∷ us) is inside =
      at_seam all before us u (map (place_test all) (numbers_from (suc (length before)) (length us))) _ is
      (by_test (ready_in (location_of (places_after before) u)) refl
      (subst (λ (n : ℕ). Tested (map (place_test all) (numbers_from n (length us))) (option_map (λ u. NotInYard u t) (first_missing day t (set (places_after before) u (Aboard t)) us)))
      (length-append before (u ∷ []) ∙ omega arith)
      (subst (λ (ps : List UnitLocation). Tested (map (place_test all) (numbers_from (length (before ++ u ∷ [])) (length us))) (option_map (λ u. NotInYard u t) (first_missing day t ps us)))
      (put_all-append state.locations before (u ∷ []) (Aboard t))
      (units_tested all (before ++ u ∷ []) us (is ∙ sym (append_assoc before (u ∷ []) us)) (λ v c. inside v (omega arith))))))
    where
      here : u < length state.locations
      here = let one = one_same u u refl in inside u (omega arith)

      by_test : (b : Bool) → ready_in (location_of (places_after before) u) ≡ b
          → Tested (map (place_test all) (numbers_from (suc (length before)) (length us))) (option_map (λ u. NotInYard u t) (first_missing day t (set (places_after before) u (Aboard t)) us))
          → Tested (unit_test before u ∷ map (place_test all) (numbers_from (suc (length before)) (length us))) (option_map (λ u. NotInYard u t) (cond b (first_missing day t (set (places_after before) u (Aboard t)) us) (Some u)))
      by_test true ready rest = tested_passed (unit_test before u) (map (place_test all) (numbers_from (suc (length before)) (length us))) _ (can_be_taken before u here ready) rest
      by_test false ready rest = tested_failed (unit_test before u) (map (place_test all) (numbers_from (suc (length before)) (length us))) (cannot_be_taken before u here ready)

  all_tested : (us : List ℕ) → ((u : ℕ) → 1 ≤ count_of u us → u < length state.locations)
      → Tested (unit_tests day state t us) (option_map (λ u. NotInYard u t) (first_missing day t state.locations us))
  all_tested us inside =
      subst (λ (ks : List ℕ). Tested (map (place_test us) ks) (option_map (λ u. NotInYard u t) (first_missing day t state.locations us))) (sym (below_is (length us))) (units_tested us [] us refl inside)

-- ---- the tests of an event

empty : (us : List ℕ) → eqb (length us) 0 ≡ true → us ≡ []
empty [] e = refl
empty (u ∷ us) e = let none = eqb-true (length (u ∷ us)) 0 e in absurd (omega (arith, none))

not_empty : (us : List ℕ) → eqb (length us) 0 ≡ false → us ≡ [] → ⊥
not_empty us e none = both_ways (eqb (length us) 0) e (eq-eqb (length us) 0 (ap (λ (vs : List ℕ). length vs) none))

module _ (day : Day) (plan : List (List ℕ)) (state : State) (t : ℕ) where
  -- the tests of a departure, each with those behind it
  abbrev of_units : List (Test StepFault)
  of_units = unit_tests day state t (taken day plan t)

  abbrev of_join : List (Test StepFault)
  of_join = rule_tests (BreaksRule day plan IsJoin) (incoming day t) ++ of_units

  abbrev of_types : List (Test StepFault)
  of_types = NotAdmissible t when (is_admissible day t (types_of day (list_of plan t)) ≡ false) ∷ of_join

  abbrev of_train : List (Test StepFault)
  of_train = NoUnits t when (list_of plan t ≡ []) ∷ of_types

  join_tested : Tested (rule_tests (BreaksRule day plan IsJoin) (incoming day t)) (option_map (λ l. LinkBroken l) (broken_into day plan t))
  unfolding broken_into
  join_tested = rule_tested day plan true IsJoin joins (incoming day t)

  departure_tested : IsPlan day plan → length state.locations ≡ unit_count day → Tested (step_tests day plan state (Depart t)) (fault_of day plan state (Depart t))
  unfolding fault_of
  departure_tested is_plan locations =
      tested_where (NotNow (Depart t) when (¬ MayLeave day state t)) of_train (is_now day state (Depart t)) (train_fault day plan state.locations t)
      (λ late may. both_ways (is_now day state (Depart t)) late (leaves_now day state t may)) (λ now refused. refused (may_leave day state t now)) (λ now.
      tested_unless (NoUnits t when (list_of plan t ≡ [])) of_types (eqb (length (list_of plan t)) 0) _
      (empty (list_of plan t)) (not_empty (list_of plan t)) (λ some.
      tested_where (NotAdmissible t when (is_admissible day t (types_of day (list_of plan t)) ≡ false)) of_join (is_admissible day t (types_of day (list_of plan t))) _
      (λ unfit. unfit) (λ fits unfit. both_ways (is_admissible day t (types_of day (list_of plan t))) unfit fits) (λ fits.
      rule_then (rule_tests (BreaksRule day plan IsJoin) (incoming day t)) of_units (broken_into day plan t) (option_map (λ u. NotInYard u t) (first_missing day t state.locations (taken day plan t)))
      join_tested (all_tested day state t (taken day plan t) inside))))
    where
      inside : (u : ℕ) → 1 ≤ count_of u (taken day plan t) → u < length state.locations
      inside u c = let known = taken_known day plan is_plan t u (le-leb 1 (count_of u (taken day plan t)) c) in omega (arith, known, locations)

  arrival_tested : Tested (step_tests day plan state (Arrive t)) (fault_of day plan state (Arrive t))
  unfolding fault_of broken_out
  arrival_tested =
      tested_where (NotNow (Arrive t) when (¬ MayArrive day state t)) (rule_tests (BreaksRule day plan IsTurnOrSplit) (outgoing day t)) (is_now day state (Arrive t)) (option_map (λ l. LinkBroken l) (broken_out day plan t))
      (λ late may. both_ways (is_now day state (Arrive t)) late (arrives_now day state t may)) (λ now refused. refused (may_arrive day state t now))
      (λ now. rule_tested day plan false IsTurnOrSplit turns_and_splits (outgoing day t))

pub steps_are_tested : StepsAreTested
steps_are_tested day plan state (Depart t) is_plan trip locations = told (step_tests day plan state (Depart t)) (fault_of day plan state (Depart t)) (departure_tested day plan state t is_plan locations)
steps_are_tested day plan state (Arrive t) is_plan trip locations = told (step_tests day plan state (Arrive t)) (fault_of day plan state (Arrive t)) (arrival_tested day plan state t)
