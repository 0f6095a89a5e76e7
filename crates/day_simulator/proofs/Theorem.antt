-- In every order of the day's events, the machine goes through to the day's end exactly where the plan runs.
use Rattle.std.proofs.Common.{◌≡◌, ℕ, ◌<◌, ◌≤◌, List, [], ◌∷◌, length, true, Some, None, Result, Ok, Err, refl, sym, ap}
use Rattle.std.proofs.Common.{◌∙◌, subst, arith, ⊎_elim, inl, inr}
use Rattle.std.specs.Prelude.{slice_get}
use Rattle.std.proofs.lemmas.Bool.{cases_lt, leb-true, le-leb}
use Rattle.timetable.specs.Day.{Day, leaves, home_of, unit_count, type_of}
use Rattle.timetable.specs.Lists.{count_of, below}
use Rattle.timetable.specs.Accepted.{IsDay, AreLinks}
use Rattle.timetable.specs.Links.{list_of, link_holds, kept, taken}
use Rattle.rules.specs.declared.records.Link.{Link}
use Rattle.rules.proofs.OfTheStock.{MayFollow}
use Rattle.timetable.specs.Duties.{duty, last_place, last_place_of}
use Rattle.timetable.specs.Running.{IsPlan, Runs, EachFollows, BeginsAt}
use Rattle.timetable.specs.Cost.{plan_cost}
use Rattle.day_simulator.specs.declared.events.DayEvent.{DayEvent}
use Rattle.day_simulator.specs.declared.events.UnitLocation.TheVariants.{Yard, Aboard}
use Rattle.day_simulator.specs.declared.events.StepFault.{StepFault}
use Rattle.day_simulator.specs.State.{State, first_state, location_of}
use Rattle.day_simulator.specs.Steps.{steps, fixed_order}
use Rattle.day_simulator.specs.Finish.{finish_of, finish_after, simulation, ended, first_not_made, first_differing}
use Rattle.day_simulator.specs.Orders.{departures, IsOrder, last_ready, EndsAsPlanned}
use Rattle.day_simulator.specs.Laws.{InEveryOrder, RunInFixedOrder}
use Rattle.day_simulator.proofs.Lawful.{fixed_is_order}
use Rattle.day_simulator.proofs.Legs.{legs_fixed, leads}
use Rattle.timetable.proofs.Ones.{one_same}
use Rattle.day_simulator.proofs.Rising.{Rises, rises_more, in_legs, same_legs}
use Rattle.day_simulator.proofs.Unbroken.{IsUnbroken}
use Rattle.timetable.proofs.Accounts.{kept_arrives, comes_from}
use Rattle.day_simulator.proofs.Linked.{linked_hands}
use Rattle.day_simulator.proofs.Tested.{links_hold}
use Rattle.day_simulator.proofs.Moves.{BoardsAll, is_trip}
use Rattle.day_simulator.proofs.Going.{going_start, start_place}
use Rattle.day_simulator.proofs.Whole.{Good, Ran, runs_on, to_board, end_of, run_forward, run_backward}
use Rattle.day_simulator.proofs.End.{all_made, balance_from_none, none_from_balance, same_count, ended_ok}

follows_from_boards_all : (day : Day) (plan : List (List ℕ)) (u a : ℕ) (ts : List ℕ) → BoardsAll day plan u (Aboard a) ts → EachFollows (MayFollow day plan u) (a ∷ ts)
follows_from_boards_all day plan u a [] h = tt
follows_from_boards_all day plan u a (b ∷ ts) h = (h.0, follows_from_boards_all day plan u b ts h.1)

boards_all_from_follows : (day : Day) (plan : List (List ℕ)) (u a : ℕ) (ts : List ℕ) → EachFollows (MayFollow day plan u) (a ∷ ts) → BoardsAll day plan u (Aboard a) ts
boards_all_from_follows day plan u a [] h = tt
boards_all_from_follows day plan u a (b ∷ ts) h = (h.0, boards_all_from_follows day plan u b ts h.1)

begins : (day : Day) (plan : List (List ℕ)) (u s : ℕ) (ts : List ℕ) → BoardsAll day plan u (Yard s 0) ts → BeginsAt day s ts × EachFollows (MayFollow day plan u) ts
begins day plan u s [] h = (tt, tt)
begins day plan u s (t ∷ ts) h = (h.0.1, follows_from_boards_all day plan u t ts h.1)

-- what a unit boards along the fixed order is its duty
boards_duty : (day : Day) (plan : List (List ℕ)) (u : ℕ) → to_board plan u (fixed_order day) ≡ duty day plan u
unfolding duty
boards_duty day plan u = legs_fixed day (runs_on plan u)

same_departures : (day : Day) (es fs : List DayEvent) → IsOrder day es → IsOrder day fs → (t : ℕ) → departures t es ≡ departures t fs
same_departures day es fs order other t =
    ⊎_elim (λ (lt : t < length day.trips). order.departs_once t lt ∙ sym (other.departs_once t lt))
    (λ (ge : length day.trips ≤ t). order.none_departs_beyond t ge ∙ sym (other.none_departs_beyond t ge)) (cases_lt t (length day.trips))

-- a day that ends has gone through all its events
after_ok : (day : Day) (plan : List (List ℕ)) (r : Result State StepFault) (cost : ℕ) → finish_after day plan r ≡ Ok cost → (final : State) × (r ≡ Ok final) × (finish_of day plan final ≡ Ok cost)
after_ok day plan (Ok final) cost e = (final, refl, e)
after_ok day plan (Err fault) cost e = absurd (cc)

module _ (day : Day) (plan : List (List ℕ)) (is_day : IsDay day) (is_plan : IsPlan day plan) (accounted : IsUnbroken day plan) where
  -- the first trip of a unit takes it from the yard
  first_taken : (u t : ℕ) (ts : List ℕ) → to_board plan u (fixed_order day) ≡ t ∷ ts → 1 ≤ count_of u (taken day plan t)
  first_taken u t ts e =
      let first = leads day (runs_on plan u) (fixed_order day) t ts (fixed_is_order day).never_falls e in
      ⊎_elim (λ (c : 1 ≤ count_of u (taken day plan t)). c)
      (λ (k : (a : ℕ) × (1 ≤ count_of u (kept day plan a t))).
      let some = k.1 in
      let le = kept_arrives day plan accounted.accounts u k.0 t in
      let mine : 1 ≤ count_of u (list_of plan k.0) = omega arith in
      let trip = is_trip day plan u k.0 is_plan mine in
      let time = is_day.timetable.time k.0 trip in
      let before = accounted.accounts.time u k.0 t k.1 in
      let once = (fixed_is_order day).departs_once k.0 trip in
      let later = first.1 k.0 (le-leb 1 (count_of u (list_of plan k.0)) mine) (omega arith) in
      absurd (omega arith))
      (comes_from day plan accounted.accounts u t (leb-true 1 (count_of u (list_of plan t)) first.0))

  boards_all_start : (u s : ℕ) (ts : List ℕ) → to_board plan u (fixed_order day) ≡ ts → BeginsAt day s ts → EachFollows (MayFollow day plan u) ts → BoardsAll day plan u (Yard s 0) ts
  boards_all_start u s [] e begin follow = tt
  boards_all_start u s (t ∷ ts) e begin follow = ((first_taken u t ts e, begin, omega arith), boards_all_from_follows day plan u t ts follow)

  -- trips that a unit can board one after another leave one strictly after another
  boards_all_rises : (u a : ℕ) (ts : List ℕ) → a < length day.trips → ((t : ℕ) → 1 ≤ count_of t ts → t < length day.trips) → BoardsAll day plan u (Aboard a) ts → Rises day (a ∷ ts)
  boards_all_rises u a [] trip trips h = ((λ b c. absurd (omega arith)), tt)
  boards_all_rises u a (b ∷ ts) trip trips h =
      let o = one_same b b refl in
      rises_more day a b ts (on h.0) (boards_all_rises u b ts (trips b (omega arith)) (λ t c. trips t (omega arith)) h.1)
    where
      on : MayFollow day plan u a b → leaves day a < leaves day b
      on (inl k) = let time = is_day.timetable.time a trip in let before = accounted.accounts.time u a b (leb-true 1 (count_of u (kept day plan a b)) k) in omega arith
      on (inr y) = let time = is_day.timetable.time a trip in let ready = y.ready in omega arith

  start_rises : (u s : ℕ) (ts : List ℕ) → ((t : ℕ) → 1 ≤ count_of t ts → t < length day.trips) → BoardsAll day plan u (Yard s 0) ts → Rises day ts
  start_rises u s [] trips h = tt
  start_rises u s (t ∷ ts) trips h =
      let o = one_same t t refl in
      boards_all_rises u t ts (trips t (omega arith)) (λ r c. trips r (omega arith)) h.1

  -- what a unit can board along one order is what it boards along each other
  same_boards : (u : ℕ) (es fs : List DayEvent) → IsOrder day es → IsOrder day fs → BoardsAll day plan u (Yard (home_of day u) 0) (to_board plan u es) → to_board plan u es ≡ to_board plan u fs
  same_boards u es fs order other boarding_all =
      same_legs day (runs_on plan u) es fs other.never_falls (same_departures day es fs order other)
      (start_rises u (home_of day u) (to_board plan u es)
      (λ t c. is_trip day plan u t is_plan (leb-true 1 (count_of u (list_of plan t)) (in_legs (runs_on plan u) t es c).0)) boarding_all)

  module _ (es : List DayEvent) (order : IsOrder day es) where
    good_start : Runs day plan → Good day plan (first_state day) es
    good_start runs = record {
      lists = λ t c. runs.lists t (trip t c);
      boardings = λ u lt.
          let same = boards_duty day plan u in
          let begin = subst (λ l. BeginsAt day (home_of day u) l) (sym same) (runs.homes u lt) in
          let follow = subst (λ l. EachFollows (MayFollow day plan u) l) (sym same) (runs.follows u lt) in
          let boarding_all = boards_all_start u (home_of day u) (to_board plan u (fixed_order day)) refl begin follow in
          let boarding_all' = subst (λ l. BoardsAll day plan u (Yard (home_of day u) 0) l) (same_boards u (fixed_order day) es (fixed_is_order day) order boarding_all) boarding_all in
          subst (λ p. BoardsAll day plan u p (to_board plan u es)) (sym (start_place day u lt)) boarding_all';
    }
      where
        trip : (t : ℕ) → 1 ≤ departures t es → t < length day.trips
        trip t c = ⊎_elim (λ (lt : t < length day.trips). lt)
            (λ (ge : length day.trips ≤ t). let z = order.none_departs_beyond t ge in absurd (omega arith)) (cases_lt t (length day.trips))

    -- what a unit boards is its duty, where it can board it
    good_duty : Good day plan (first_state day) es → (u : ℕ) → u < unit_count day → to_board plan u es ≡ duty day plan u
    good_duty good u lt =
        same_boards u es (fixed_order day) order (fixed_is_order day) (subst (λ p. BoardsAll day plan u p (to_board plan u es)) (start_place day u lt) (good.boardings u lt))
        ∙ boards_duty day plan u

    good_conditions : Good day plan (first_state day) es → (u : ℕ) → u < unit_count day → BeginsAt day (home_of day u) (duty day plan u) × EachFollows (MayFollow day plan u) (duty day plan u)
    good_conditions good u lt =
        begins day plan u (home_of day u) (duty day plan u)
        (subst (λ l. BoardsAll day plan u (Yard (home_of day u) 0) l) (good_duty good u lt)
        (subst (λ p. BoardsAll day plan u p (to_board plan u es)) (start_place day u lt) (good.boardings u lt)))

    yards_end : (final : State) → Ran day plan (first_state day) es final → (u : ℕ) → u < unit_count day → location_of final.locations u ≡ Yard (last_place day plan u) (last_ready day plan u)
    unfolding last_place_of last_ready
    yards_end final ran u lt =
        ran.ended.yards u lt
        ∙ ap (λ p. end_of day p (to_board plan u es)) (start_place day u lt)
        ∙ ap (λ l. end_of day (Yard (home_of day u) 0) l) (good_duty ran.good u lt)

    pub runs_then_ends : Runs day plan → EndsAsPlanned day plan es
    unfolding finish_of
    runs_then_ends runs =
        let going = going_start day plan es order is_plan accounted in
        let run = run_forward day plan is_day is_plan accounted es (first_state day) going (good_start runs) in
        let ran = run_backward day plan is_day is_plan accounted es (first_state day) run.0 going run.1 in
        let yards = yards_end run.0 ran in
        let made = all_made run.0 (fixed_order day) ran.ended.arrived in
        let none = none_from_balance day run.0 (λ s m c d. same_count day plan run.0 (λ u lt. (last_ready day plan u, yards u lt)) s m ∙ runs.balance s m c d) in
        record {
          final = run.0;
          made = run.1;
          yards = yards;
          cost =
              ap (λ o. ended o (first_differing day run.0 (below (length day.stations))) (plan_cost day plan)) made
              ∙ ap (λ o. ended None o (plan_cost day plan)) none;
        }

    pub ends_then_runs : ((l : ℕ) (link : Link) → slice_get day.links l ≡ Some link → link_holds (type_of day) link plan ≡ true) → (final : State) (cost : ℕ) → steps day plan (first_state day) es ≡ Ok final → finish_of day plan final ≡ Ok cost → Runs day plan × (cost ≡ plan_cost day plan)
    unfolding finish_of
    ends_then_runs links final cost e f =
        let going = going_start day plan es order is_plan accounted in
        let ran = run_backward day plan is_day is_plan accounted es (first_state day) final going e in
        let yards = yards_end final ran in
        let ok = ended_ok (first_not_made final (fixed_order day)) (first_differing day final (below (length day.stations))) (plan_cost day plan) cost f in (
          record {
            is_plan = is_plan;
            lists = λ t lt. (let once = order.departs_once t lt in ran.good.lists t (omega arith));
            links = links;
            homes = λ u lt. (good_conditions ran.good u lt).0;
            follows = λ u lt. (good_conditions ran.good u lt).1;
            balance = λ s m c d. sym (same_count day plan final (λ u lt. (last_ready day plan u, yards u lt)) s m) ∙ balance_from_none day final ok.1 s m c d;
          },
          ok.2,
        )

module _ (day : Day) (plan : List (List ℕ)) (is_day : IsDay day) (links : AreLinks day) (is_plan : IsPlan day plan) (es : List DayEvent) (order : IsOrder day es) where
  planned : Runs day plan → EndsAsPlanned day plan es
  planned runs = runs_then_ends day plan is_day is_plan (linked_hands day plan links (record { holds = runs.links })) es order runs

  run_and_cost : (final : State) (cost : ℕ) → steps day plan (first_state day) es ≡ Ok final → finish_of day plan final ≡ Ok cost → Runs day plan × (cost ≡ plan_cost day plan)
  run_and_cost final cost e f =
      let hold = links_hold day plan links es order final e in
      ends_then_runs day plan is_day is_plan (linked_hands day plan links hold) es order hold.holds final cost e f

pub in_every_order : InEveryOrder
in_every_order day plan es is_day links is_plan order = record {
  ends = planned day plan is_day links is_plan es order;
  runs = λ final cost e f. (run_and_cost day plan is_day links is_plan es order final cost e f).0;
}

pub run_in_fixed_order : RunInFixedOrder
unfolding simulation
run_in_fixed_order day plan is_day links is_plan = (
  λ runs.
      let end = planned day plan is_day links is_plan (fixed_order day) (fixed_is_order day) runs in
      ap (finish_after day plan) end.made ∙ end.cost,
  λ cost e.
      let final = after_ok day plan (steps day plan (first_state day) (fixed_order day)) cost e in
      run_and_cost day plan is_day links is_plan (fixed_order day) (fixed_is_order day) final.0 cost final.1 final.2,
)
