-- What is told at the end of a day is the first event that was not made, or else the first yard that differs.
use Rattle.std.proofs.Common.{◌≡◌, ◌≢◌, ◌⊎◌, inl, inr, ℕ, zero, suc, ◌+◌, ◌*◌, ◌<◌, ◌≤◌, List, [], ◌∷◌, length, Bool, true}
use Rattle.std.proofs.Common.{false, not, cond, eqb, Option, Some, None, Result, Ok, Err, refl, sym, ap, ◌∙◌, subst, arith, ⊎_elim}
use Rattle.std.proofs.lemmas.Bool.{cases_eq, cases_lt, cases_order, eqb-true, eqb-false, both_ways}
use Rattle.timetable.specs.Cost.{plan_cost}
use Rattle.timetable.specs.Day.{Day, leaves, arrives, wanted_of}
use Rattle.timetable.specs.Lists.{below}
use Rattle.timetable.proofs.Ones.{one_same, one_other}
use Rattle.day_simulator.specs.declared.events.DayEvent.{DayEvent}
use Rattle.day_simulator.specs.declared.events.DayEvent.TheVariants.{Depart, Arrive}
use Rattle.day_simulator.specs.declared.events.Stage.{Stage}
use Rattle.day_simulator.specs.declared.events.Stage.TheVariants as stage
use Rattle.day_simulator.specs.declared.events.StepFault.{StepFault}
use Rattle.day_simulator.specs.declared.events.StepFault.TheVariants.{NotNow, NoUnits, NotAdmissible, LinkBroken}
use Rattle.day_simulator.specs.declared.events.StepFault.TheVariants.{NotInYard, Balance}
use Rattle.day_simulator.specs.State.{State, stage_of, is_waiting, has_arrived, moment_of, trip_of}
use Rattle.day_simulator.specs.Steps.{fixed_order}
use Rattle.day_simulator.specs.Finish.{is_made, first_not_made, yard_count, first_differing_type, first_differing, or_else}
use Rattle.day_simulator.specs.Finish.{ended, finish_of}
use Rattle.day_simulator.specs.Orders.{departures, arrivals, AllFrom, NeverFalls, IsOrder, LaterTrips, RisesByTrip}
use Rattle.day_simulator.specs.EndFaults.{WasMade, ComesBefore, AllWereMade, IsFirstUnmade, IsAsWanted, AllAsWanted}
use Rattle.day_simulator.specs.EndFaults.{IsFirstDiffering, IsEndFault, EndsAreTold}
use Rattle.day_simulator.proofs.ByTrip.{in_fixed_order, never_together}
use Rattle.day_simulator.proofs.Differing.{fault_at, types_more, stations_more}
use Rattle.day_simulator.proofs.End.{balance_from_none, or_else_none}

-- ---- events

was_made : (state : State) (e : DayEvent) → is_made state e ≡ true → WasMade state e
was_made state (Depart t) made = λ waits. let waiting : not (is_waiting (stage_of state.stages t)) ≡ false = ap (λ s. not (is_waiting s)) waits in both_ways (not (is_waiting (stage_of state.stages t))) waiting made
was_made state (Arrive t) made = by_stage (stage_of state.stages t) made
  where
    by_stage : (s : Stage) → has_arrived s ≡ true → s ≡ stage.Arrived
    by_stage stage.Waiting h = absurd cc
    by_stage stage.UnderWay h = absurd cc
    by_stage stage.Arrived h = refl

was_not_made : (state : State) (e : DayEvent) → is_made state e ≡ false → ¬ WasMade state e
was_not_made state (Depart t) unmade left = by_stage (stage_of state.stages t) left unmade
  where
    by_stage : (s : Stage) → s ≢ stage.Waiting → not (is_waiting s) ≡ false → ⊥
    by_stage stage.Waiting left h = left refl
    by_stage stage.UnderWay left h = cc
    by_stage stage.Arrived left h = cc
was_not_made state (Arrive t) unmade arrived = both_ways (has_arrived (stage_of state.stages t)) unmade (ap has_arrived arrived)

-- one event comes before another, by moment and then by trip number
abbrev ComesEarlier : Day → DayEvent → DayEvent → Type 0
ComesEarlier day e f = (moment_of day e < moment_of day f) ⊎ ((moment_of day e ≡ moment_of day f) × (trip_of e < trip_of f))

-- it is the same by minute, in a minute arrivals before departures, and then by trip number
by_moment : (day : Day) (e f : DayEvent) → ComesBefore day e f → ComesEarlier day e f
unfolding moment_of
by_moment day (Arrive s) (Arrive t) before =
    ⊎_elim (λ (less : arrives day s < arrives day t). inl (omega (arith, less)))
    (λ (same : (arrives day s ≡ arrives day t) × (s < t)). inr (omega (arith, same.0), same.1)) before
by_moment day (Arrive s) (Depart t) before =
    ⊎_elim (λ (less : arrives day s < leaves day t). inl (omega (arith, less))) (λ (same : (arrives day s ≡ leaves day t) × (Unit {0})). inl (omega (arith, same.0))) before
by_moment day (Depart s) (Arrive t) before =
    ⊎_elim (λ (less : leaves day s < arrives day t). inl (omega (arith, less))) (λ (same : (leaves day s ≡ arrives day t) × ⊥). absurd same.1) before
by_moment day (Depart s) (Depart t) before =
    ⊎_elim (λ (less : leaves day s < leaves day t). inl (omega (arith, less)))
    (λ (same : (leaves day s ≡ leaves day t) × (s < t)). inr (omega (arith, same.0), same.1)) before

by_minute : (day : Day) (e f : DayEvent) → ComesEarlier day e f → ComesBefore day e f
unfolding moment_of
by_minute day (Arrive s) (Arrive t) before =
    ⊎_elim (λ (less : 2 * arrives day s < 2 * arrives day t). inl (omega (arith, less)))
    (λ (same : (2 * arrives day s ≡ 2 * arrives day t) × (s < t)). inr (omega (arith, same.0), same.1)) before
by_minute day (Arrive s) (Depart t) before =
    ⊎_elim
    (λ (less : 2 * arrives day s < 2 * leaves day t + 1).
    ⊎_elim (λ (same : arrives day s ≡ leaves day t). inr (same, tt)) (λ (ne : arrives day s ≢ leaves day t). inl (omega (arith, less, ne))) (cases_eq (arrives day s) (leaves day t)))
    (λ (same : (2 * arrives day s ≡ 2 * leaves day t + 1) × (s < t)). absurd (omega (arith, same.0))) before
by_minute day (Depart s) (Arrive t) before =
    ⊎_elim (λ (less : 2 * leaves day s + 1 < 2 * arrives day t). inl (omega (arith, less)))
    (λ (same : (2 * leaves day s + 1 ≡ 2 * arrives day t) × (s < t)). absurd (omega (arith, same.0))) before
by_minute day (Depart s) (Depart t) before =
    ⊎_elim (λ (less : 2 * leaves day s + 1 < 2 * leaves day t + 1). inl (omega (arith, less)))
    (λ (same : (2 * leaves day s + 1 ≡ 2 * leaves day t + 1) × (s < t)). inr (omega (arith, same.0), same.1)) before

-- an event is one of these
abbrev IsAmong : DayEvent → List DayEvent → Type 0
IsAmong e [] = ⊥
IsAmong e (f ∷ fs) = (e ≡ f) ⊎ IsAmong e fs

departs_among : (t : ℕ) (es : List DayEvent) → 1 ≤ departures t es → IsAmong (Depart t) es
departs_among t [] c = absurd (omega arith)
departs_among t (Depart s ∷ es) c =
    ⊎_elim (λ (same : s ≡ t). inl (ap (λ (x : ℕ). Depart x) (sym same))) (λ (ne : s ≢ t). let other = one_other s t ne in inr (departs_among t es (omega arith))) (cases_eq s t)
departs_among t (Arrive s ∷ es) c = inr (departs_among t es c)

arrives_among : (t : ℕ) (es : List DayEvent) → 1 ≤ arrivals t es → IsAmong (Arrive t) es
arrives_among t [] c = absurd (omega arith)
arrives_among t (Arrive s ∷ es) c =
    ⊎_elim (λ (same : s ≡ t). inl (ap (λ (x : ℕ). Arrive x) (sym same))) (λ (ne : s ≢ t). let other = one_other s t ne in inr (arrives_among t es (omega arith))) (cases_eq s t)
arrives_among t (Depart s ∷ es) c = inr (arrives_among t es c)

among_departs : (t : ℕ) (es : List DayEvent) → IsAmong (Depart t) es → 1 ≤ departures t es
among_departs t [] there = absurd there
among_departs t (Depart s ∷ es) there =
    ⊎_elim (λ (same : Depart t ≡ Depart s). let is : s ≡ t = cc in let one = one_same s t is in omega arith) (λ (later : IsAmong (Depart t) es). let rest = among_departs t es later in omega arith) there
among_departs t (Arrive s ∷ es) there = ⊎_elim (λ (same : Depart t ≡ Arrive s). absurd cc) (λ (later : IsAmong (Depart t) es). among_departs t es later) there

among_arrives : (t : ℕ) (es : List DayEvent) → IsAmong (Arrive t) es → 1 ≤ arrivals t es
among_arrives t [] there = absurd there
among_arrives t (Arrive s ∷ es) there =
    ⊎_elim (λ (same : Arrive t ≡ Arrive s). let is : s ≡ t = cc in let one = one_same s t is in omega arith) (λ (later : IsAmong (Arrive t) es). let rest = among_arrives t es later in omega arith) there
among_arrives t (Depart s ∷ es) there = ⊎_elim (λ (same : Arrive t ≡ Depart s). absurd cc) (λ (later : IsAmong (Arrive t) es). among_arrives t es later) there

module _ (day : Day) where
  -- an order of the day has the events of its trips, and no others
  has_events : (es : List DayEvent) → IsOrder day es → (e : DayEvent) → trip_of e < length day.trips → IsAmong e es
  has_events es order (Depart t) known = let one = order.departs_once t known in departs_among t es (omega arith)
  has_events es order (Arrive t) known = let one = order.arrives_once t known in arrives_among t es (omega arith)

  has_trips : (es : List DayEvent) → IsOrder day es → (e : DayEvent) → IsAmong e es → trip_of e < length day.trips
  has_trips es order (Depart t) there =
      ⊎_elim (λ (lt : t < length day.trips). lt) (λ (ge : length day.trips ≤ t). let none = order.none_departs_beyond t ge in let some = among_departs t es there in absurd (omega arith)) (cases_lt t (length day.trips))
  has_trips es order (Arrive t) there =
      ⊎_elim (λ (lt : t < length day.trips). lt) (λ (ge : length day.trips ≤ t). let none = order.none_arrives_beyond t ge in let some = among_arrives t es there in absurd (omega arith)) (cases_lt t (length day.trips))

  -- an event behind another does not come before it
  not_behind : (e f : DayEvent) (fs : List DayEvent) → AllFrom day (moment_of day e) fs → LaterTrips day e fs → IsAmong f fs → ComesEarlier day f e → ⊥
  not_behind e f [] from later there before = there
  not_behind e f (g ∷ gs) from later there before =
      ⊎_elim
      (λ (same : f ≡ g).
      let is = ap (moment_of day) same in
      let trip = ap trip_of same in
      ⊎_elim (λ (earlier : moment_of day f < moment_of day e). omega (arith, from.0, is, earlier))
      (λ (lesser : (moment_of day f ≡ moment_of day e) × (trip_of f < trip_of e)). let more = later.0 (sym is ∙ lesser.0) in omega (arith, more, trip, lesser.1)) before)
      (λ (rest : IsAmong f gs). not_behind e f gs from.1 later.1 rest before) there

  not_before_itself : (e : DayEvent) → ComesEarlier day e e → ⊥
  not_before_itself e before =
      ⊎_elim (λ (earlier : moment_of day e < moment_of day e). omega (arith, earlier)) (λ (lesser : (moment_of day e ≡ moment_of day e) × (trip_of e < trip_of e)). omega (arith, lesser.1)) before

  -- two events of one moment and one trip are one
  same_event : (e f : DayEvent) → moment_of day e ≡ moment_of day f → trip_of e ≡ trip_of f → e ≡ f
  same_event (Depart s) (Depart t) moment trip = ap (λ (x : ℕ). Depart x) trip
  same_event (Arrive s) (Arrive t) moment trip = ap (λ (x : ℕ). Arrive x) trip
  same_event (Depart s) (Arrive t) moment trip = let less = never_together day s t moment in absurd (omega (arith, less, trip))
  same_event (Arrive s) (Depart t) moment trip = let less = never_together day t s (sym moment) in absurd (omega (arith, less, trip))

  comes_first : (e f : DayEvent) → (e ≡ f) ⊎ (ComesEarlier day e f ⊎ ComesEarlier day f e)
  comes_first e f = ⊎_elim at_once apart (cases_order (moment_of day e) (moment_of day f))
    where
      at_once : moment_of day e ≡ moment_of day f → (e ≡ f) ⊎ (ComesEarlier day e f ⊎ ComesEarlier day f e)
      at_once moment =
          ⊎_elim (λ (trip : trip_of e ≡ trip_of f). inl (same_event e f moment trip))
          (λ (ne : (trip_of e < trip_of f) ⊎ (trip_of f < trip_of e)).
          ⊎_elim (λ (less : trip_of e < trip_of f). inr (inl (inr (moment, less)))) (λ (more : trip_of f < trip_of e). inr (inr (inr (sym moment, more)))) ne)
          (cases_order (trip_of e) (trip_of f))

      apart : (moment_of day e < moment_of day f) ⊎ (moment_of day f < moment_of day e) → (e ≡ f) ⊎ (ComesEarlier day e f ⊎ ComesEarlier day f e)
      apart ne = ⊎_elim (λ (earlier : moment_of day e < moment_of day f). inr (inl (inl earlier))) (λ (later : moment_of day f < moment_of day e). inr (inr (inl later))) ne

  module _ (state : State) where
    same_event_told : (e f : DayEvent) → ◌≡◌ {A = Option DayEvent} (Some e) (Some f) → e ≡ f
    same_event_told e f h = cc

    -- the first event that was not made is one of these, was not made, and those that come before it were
    told_is_among : (es : List DayEvent) (e : DayEvent) → first_not_made state es ≡ Some e → IsAmong e es × (¬ WasMade state e)
    told_is_among [] e told = absurd cc
    told_is_among (f ∷ fs) e told = by_test (is_made state f) refl told (told_is_among fs e)
      where
        by_test : (b : Bool) → is_made state f ≡ b → cond b (first_not_made state fs) (Some f) ≡ Some e → (first_not_made state fs ≡ Some e → IsAmong e fs × (¬ WasMade state e))
            → IsAmong e (f ∷ fs) × (¬ WasMade state e)
        by_test true made told later = let there = later told in (inr there.0, there.1)
        by_test false unmade told later = let same = same_event_told f e told in (inl (sym same), subst (λ (x : DayEvent). ¬ WasMade state x) same (was_not_made state f unmade))

    made_before : (es : List DayEvent) (e : DayEvent) → NeverFalls day es → RisesByTrip day es → first_not_made state es ≡ Some e → (f : DayEvent) → IsAmong f es → ComesEarlier day f e → WasMade state f
    made_before [] e falls rises told f there before = absurd there
    made_before (g ∷ gs) e falls rises told f there before = by_test (is_made state g) refl told (λ h rest. made_before gs e falls.1 rises.1 h f rest before)
      where
        by_test : (b : Bool) → is_made state g ≡ b → cond b (first_not_made state gs) (Some g) ≡ Some e → (first_not_made state gs ≡ Some e → IsAmong f gs → WasMade state f) → WasMade state f
        by_test true made told later = ⊎_elim (λ (same : f ≡ g). subst (λ (x : DayEvent). WasMade state x) (sym same) (was_made state g made)) (λ (rest : IsAmong f gs). later told rest) there
        by_test false unmade told later =
            let same = same_event_told g e told in
            let ahead : ComesEarlier day f g = subst (λ (x : DayEvent). ComesEarlier day f x) (sym same) before in
            ⊎_elim (λ (is : f ≡ g). absurd (not_before_itself g (subst (λ (x : DayEvent). ComesEarlier day x g) is ahead)))
            (λ (rest : IsAmong f gs). absurd (not_behind g f gs falls.0 rises.0 rest ahead)) there

    each_made : (es : List DayEvent) → first_not_made state es ≡ None → (e : DayEvent) → IsAmong e es → WasMade state e
    each_made [] told e there = absurd there
    each_made (f ∷ fs) told e there = by_test (is_made state f) refl told (λ h rest. each_made fs h e rest)
      where
        by_test : (b : Bool) → is_made state f ≡ b → cond b (first_not_made state fs) (Some f) ≡ None → (first_not_made state fs ≡ None → IsAmong e fs → WasMade state e) → WasMade state e
        by_test true made told later = ⊎_elim (λ (same : e ≡ f). subst (λ (x : DayEvent). WasMade state x) (sym same) (was_made state f made)) (λ (rest : IsAmong e fs). later told rest) there
        by_test false unmade told later = absurd cc

    all_made : first_not_made state (fixed_order day) ≡ None → AllWereMade day state
    all_made told e known = each_made (fixed_order day) told e (has_events (fixed_order day) (in_fixed_order day).0 e known)

    first_unmade : (e : DayEvent) → first_not_made state (fixed_order day) ≡ Some e → IsFirstUnmade day state e
    first_unmade e told =
        let order = in_fixed_order day in
        let there = told_is_among (fixed_order day) e told in
        record {
          known = has_trips (fixed_order day) order.0 e there.0;
          unmade = there.1;
          before = λ f known before. made_before (fixed_order day) e order.0.never_falls order.1 told f (has_events (fixed_order day) order.0 f known) (by_moment day f e before);
        }

    one_unmade : (e f : DayEvent) → IsFirstUnmade day state e → IsFirstUnmade day state f → e ≡ f
    one_unmade e f is other =
        ⊎_elim (λ (same : e ≡ f). same)
        (λ (ne : ComesEarlier day e f ⊎ ComesEarlier day f e).
        ⊎_elim (λ (before : ComesEarlier day e f). absurd (is.unmade (other.before e is.known (by_minute day e f before)))) (λ (before : ComesEarlier day f e). absurd (other.unmade (is.before f other.known (by_minute day f e before)))) ne)
        (comes_first e f)

-- ---- yards

same_fault : (f g : StepFault) → ◌≡◌ {A = Option StepFault} (Some f) (Some g) → f ≡ g
same_fault f g h = cc

-- the first of two faults is the one, or else the other where the one is none
or_else_some : (a b : Option StepFault) (f : StepFault) → or_else a b ≡ Some f → (a ≡ Some f) ⊎ ((a ≡ None) × (b ≡ Some f))
or_else_some None b f h = inr (refl, h)
or_else_some (Some g) b f h = inl h

module _ (day : Day) (state : State) where
  -- the type is the first of those below a bound of which a station has not as many units as are wanted
  record DiffersAt (s n : ℕ) (f : StepFault) : Type 0 where
    unit_type : ℕ
    known : unit_type < n
    is : f ≡ Balance s unit_type (yard_count day state s unit_type) (wanted_of day s unit_type)
    differs : yard_count day state s unit_type ≢ wanted_of day s unit_type
    before : (m : ℕ) → m < unit_type → IsAsWanted day state s m

  -- the station is the first of those below a bound that has such a type
  record DiffersIn (n : ℕ) (f : StepFault) : Type 0 where
    station : ℕ
    known : station < n
    at : DiffersAt station (length day.types) f
    before : (s m : ℕ) → s < station → m < length day.types → IsAsWanted day state s m

  at_type : (s m : ℕ) → fault_at day state s m ≡ None → IsAsWanted day state s m
  at_type s m = by_test (eqb (yard_count day state s m) (wanted_of day s m)) refl
    where
      by_test : (b : Bool) → eqb (yard_count day state s m) (wanted_of day s m) ≡ b → cond b None (Some (Balance s m (yard_count day state s m) (wanted_of day s m))) ≡ None → IsAsWanted day state s m
      by_test true is h = eqb-true (yard_count day state s m) (wanted_of day s m) is
      by_test false isnt h = absurd cc

  at_type_differs : (s m : ℕ) (f : StepFault) → fault_at day state s m ≡ Some f → (f ≡ Balance s m (yard_count day state s m) (wanted_of day s m)) × (yard_count day state s m ≢ wanted_of day s m)
  at_type_differs s m f = by_test (eqb (yard_count day state s m) (wanted_of day s m)) refl
    where
      by_test : (b : Bool) → eqb (yard_count day state s m) (wanted_of day s m) ≡ b → cond b None (Some (Balance s m (yard_count day state s m) (wanted_of day s m))) ≡ Some f
          → (f ≡ Balance s m (yard_count day state s m) (wanted_of day s m)) × (yard_count day state s m ≢ wanted_of day s m)
      by_test true is h = absurd cc
      by_test false isnt h = (sym (same_fault (Balance s m (yard_count day state s m) (wanted_of day s m)) f h), eqb-false (yard_count day state s m) (wanted_of day s m) isnt)

  next : (n : ℕ) → suc n ≡ n + 1
  next n = omega arith

  types_next : (s n : ℕ) → first_differing_type day state s (below (suc n)) ≡ or_else (first_differing_type day state s (below n)) (fault_at day state s n)
  types_next s n = ap (λ (k : ℕ). first_differing_type day state s (below k)) (next n) ∙ types_more day state s n

  stations_next : (n : ℕ) → first_differing day state (below (suc n)) ≡ or_else (first_differing day state (below n)) (first_differing_type day state n (below (length day.types)))
  stations_next n = ap (λ (k : ℕ). first_differing day state (below k)) (next n) ∙ stations_more day state n

  types_as_wanted : (s n : ℕ) → first_differing_type day state s (below n) ≡ None → (m : ℕ) → m < n → IsAsWanted day state s m
  types_as_wanted s zero none m lt = absurd (omega arith)
  types_as_wanted s (suc n) none m lt =
      let both = or_else_none (first_differing_type day state s (below n)) (fault_at day state s n) (sym (types_next s n) ∙ none) in
      ⊎_elim (λ (same : m ≡ n). subst (λ (k : ℕ). IsAsWanted day state s k) (sym same) (at_type s n both.1)) (λ (ne : m ≢ n). types_as_wanted s n both.0 m (omega arith)) (cases_eq m n)

  stations_as_wanted : (n : ℕ) → first_differing day state (below n) ≡ None → (s m : ℕ) → s < n → m < length day.types → IsAsWanted day state s m
  stations_as_wanted zero none s m lt known = absurd (omega arith)
  stations_as_wanted (suc n) none s m lt known =
      let both = or_else_none (first_differing day state (below n)) (first_differing_type day state n (below (length day.types))) (sym (stations_next n) ∙ none) in
      ⊎_elim (λ (same : s ≡ n). subst (λ (k : ℕ). IsAsWanted day state k m) (sym same) (types_as_wanted n (length day.types) both.1 m known))
      (λ (ne : s ≢ n). stations_as_wanted n both.0 s m (omega arith) known) (cases_eq s n)

  type_differs : (s n : ℕ) (f : StepFault) → first_differing_type day state s (below n) ≡ Some f → DiffersAt s n f
  type_differs s zero f told = absurd cc
  type_differs s (suc n) f told =
      ⊎_elim
      (λ (earlier : first_differing_type day state s (below n) ≡ Some f).
      let first = type_differs s n f earlier in
      record { unit_type = first.unit_type; known = omega (arith, first.known); is = first.is; differs = first.differs; before = first.before })
      (λ (here : (first_differing_type day state s (below n) ≡ None) × (fault_at day state s n ≡ Some f)).
      let fault = at_type_differs s n f here.1 in
      record { unit_type = n; known = omega arith; is = fault.0; differs = fault.1; before = types_as_wanted s n here.0 })
      (or_else_some (first_differing_type day state s (below n)) (fault_at day state s n) f (sym (types_next s n) ∙ told))

  station_differs : (n : ℕ) (f : StepFault) → first_differing day state (below n) ≡ Some f → DiffersIn n f
  station_differs zero f told = absurd cc
  station_differs (suc n) f told =
      ⊎_elim
      (λ (earlier : first_differing day state (below n) ≡ Some f).
      let first = station_differs n f earlier in
      record { station = first.station; known = omega (arith, first.known); at = first.at; before = first.before })
      (λ (here : (first_differing day state (below n) ≡ None) × (first_differing_type day state n (below (length day.types)) ≡ Some f)).
      record { station = n; known = omega arith; at = type_differs n (length day.types) f here.1; before = stations_as_wanted n here.0 })
      (or_else_some (first_differing day state (below n)) (first_differing_type day state n (below (length day.types))) f (sym (stations_next n) ∙ told))

  -- two first yards that differ are one
  one_differs : (s m c w s' m' c' w' : ℕ) → IsFirstDiffering day state s m c w → IsFirstDiffering day state s' m' c' w' → Balance s m c w ≡ Balance s' m' c' w'
  one_differs s m c w s' m' c' w' is other =
      let station : s ≡ s' = ⊎_elim (λ (same : s ≡ s'). same)
      (λ (ne : (s < s') ⊎ (s' < s)).
      ⊎_elim (λ (less : s < s'). absurd (is.differs (is.count_is ∙ other.stations_before s m less is.known_type ∙ sym is.wanted_is)))
      (λ (more : s' < s). absurd (other.differs (other.count_is ∙ is.stations_before s' m' more other.known_type ∙ sym other.wanted_is))) ne)
      (cases_order s s') in
      let unit_type : m ≡ m' = ⊎_elim (λ (same : m ≡ m'). same)
      (λ (ne : (m < m') ⊎ (m' < m)).
      ⊎_elim (λ (less : m < m'). absurd (is.differs (is.count_is ∙ subst (λ (k : ℕ). IsAsWanted day state k m) (sym station) (other.types_before m less) ∙ sym is.wanted_is)))
      (λ (more : m' < m). absurd (other.differs (other.count_is ∙ subst (λ (k : ℕ). IsAsWanted day state k m') station (is.types_before m' more) ∙ sym other.wanted_is))) ne)
      (cases_order m m') in
      let counts : c ≡ c' = is.count_is ∙ ap (λ (k : ℕ). yard_count day state k m) station ∙ ap (λ (k : ℕ). yard_count day state s' k) unit_type ∙ sym other.count_is in
      let wants : w ≡ w' = is.wanted_is ∙ ap (λ (k : ℕ). wanted_of day k m) station ∙ ap (λ (k : ℕ). wanted_of day s' k) unit_type ∙ sym other.wanted_is in
      cc

  first_differs : (f : StepFault) → first_differing day state (below (length day.stations)) ≡ Some f
      → (s : ℕ) × (m : ℕ) × (c : ℕ) × (w : ℕ) × (f ≡ Balance s m c w) × IsFirstDiffering day state s m c w
  first_differs f told =
      let first = station_differs (length day.stations) f told in
      let at = first.at in (
        first.station,
        at.unit_type,
        yard_count day state first.station at.unit_type,
        wanted_of day first.station at.unit_type,
        at.is,
        record {
          known_station = first.known;
          known_type = at.known;
          count_is = refl;
          wanted_is = refl;
          differs = at.differs;
          types_before = at.before;
          stations_before = first.before;
        },
      )

-- ---- the end

module _ (day : Day) (plan : List (List ℕ)) (state : State) where
  -- once all is as it should be, there is no fault
  none_at_end : AllWereMade day state → AllAsWanted day state → (f : StepFault) → IsEndFault day state f → ⊥
  none_at_end made balanced (NotNow e) is = is.unmade (made e is.known)
  none_at_end made balanced (Balance s m c w) is =
      let differing = is.1 in differing.differs (differing.count_is ∙ balanced s m differing.known_station differing.known_type ∙ sym differing.wanted_is)
  none_at_end made balanced (NoUnits t) is = is
  none_at_end made balanced (NotAdmissible t) is = is
  none_at_end made balanced (LinkBroken l) is = is
  none_at_end made balanced (NotInYard u t) is = is

  -- there is one fault
  one_at_end : (f g : StepFault) → IsEndFault day state f → IsEndFault day state g → f ≡ g
  one_at_end (NotNow e) (NotNow f) is other = ap (λ (x : DayEvent). NotNow x) (one_unmade day state e f is other)
  one_at_end (NotNow e) (Balance s m c w) is other = absurd (is.unmade (other.0 e is.known))
  one_at_end (Balance s m c w) (NotNow e) is other = absurd (other.unmade (is.0 e other.known))
  one_at_end (Balance s m c w) (Balance s' m' c' w') is other = one_differs day state s m c w s' m' c' w' is.1 other.1
  one_at_end (NotNow e) (NoUnits t) is other = absurd other
  one_at_end (NotNow e) (NotAdmissible t) is other = absurd other
  one_at_end (NotNow e) (LinkBroken l) is other = absurd other
  one_at_end (NotNow e) (NotInYard u t) is other = absurd other
  one_at_end (Balance s m c w) (NoUnits t) is other = absurd other
  one_at_end (Balance s m c w) (NotAdmissible t) is other = absurd other
  one_at_end (Balance s m c w) (LinkBroken l) is other = absurd other
  one_at_end (Balance s m c w) (NotInYard u t) is other = absurd other
  one_at_end (NoUnits t) g is other = absurd is
  one_at_end (NotAdmissible t) g is other = absurd is
  one_at_end (LinkBroken l) g is other = absurd is
  one_at_end (NotInYard u t) g is other = absurd is

  -- a fault is told that is one, or a cost where all is as it should be
  abbrev EndsSo : Result ℕ StepFault → Type 0
  EndsSo (Err f) = IsEndFault day state f
  EndsSo (Ok cost) = AllWereMade day state × AllAsWanted day state × (cost ≡ plan_cost day plan)

  ends_so : EndsSo (finish_of day plan state)
  unfolding finish_of
  ends_so = by_end (first_not_made state (fixed_order day)) (first_differing day state (below (length day.stations))) refl refl
    where
      by_end : (event : Option DayEvent) (differing : Option StepFault) → first_not_made state (fixed_order day) ≡ event → first_differing day state (below (length day.stations)) ≡ differing
          → EndsSo (ended event differing (plan_cost day plan))
      by_end (Some e) differing missing differs = first_unmade day state e missing
      by_end None (Some f) missing differs = let (s, m, c, w, is, first) = first_differs day state f differs in subst (IsEndFault day state) (sym is) (all_made day state missing, first)
      by_end None None missing differs = (all_made day state missing, balance_from_none day state differs, refl)

  fault_is_told : (r : Result ℕ StepFault) (f : StepFault) → EndsSo r → IsEndFault day state f → r ≡ Err f
  fault_is_told (Err g) f so is = let same : g ≡ f = one_at_end g f so is in ap (λ (x : StepFault). Err x) same
  fault_is_told (Ok cost) f so is = let (made, balanced, _) = so in absurd (none_at_end made balanced f is)

  cost_is_told : (r : Result ℕ StepFault) (cost : ℕ) → EndsSo r → EndsSo (Ok cost) → r ≡ Ok cost
  cost_is_told (Err g) cost so is = let (made, balanced, _) = is in absurd (none_at_end made balanced g so)
  cost_is_told (Ok c) cost so is =
      let (_, _, costs) = so in
      let (_, _, is_cost) = is in
      let same : c ≡ cost = costs ∙ sym is_cost in
      ap (λ (x : ℕ). Ok x) same

pub ends_are_told : EndsAreTold
ends_are_told = record {
  fault = λ day plan state f.
      ((λ told. subst (EndsSo day plan state) told (ends_so day plan state)), (λ is. fault_is_told day plan state (finish_of day plan state) f (ends_so day plan state) is));
  cost = λ day plan state cost.
      ((λ told. subst (EndsSo day plan state) told (ends_so day plan state)), (λ is. cost_is_told day plan state (finish_of day plan state) cost (ends_so day plan state) is));
}
