-- The units of a week where a plan of a day leaves them.
use Rattle.std.proofs.Common.{◌≡◌, ℕ, zero, suc, ◌+◌, ◌<◌, List, [], ◌∷◌, All, Some, length, drop, get_or, map, refl, slice_get, sym, ap, ◌∙◌, subst, arith}
use Rattle.std.specs.Prelude.{option_map, unwrap_or}
use Rattle.std.proofs.lemmas.List.{drop_more}
use Rattle.std.proofs.lemmas.List.Elements.{All-map}
use Rattle.rules.specs.declared.records.Trip.{Trip}
use Rattle.rules.specs.declared.records.Unit as unit
use Rattle.timetable.specs.Day.{Day, home_of, stock_units, to_of, unit_count, units_of}
use Rattle.timetable.specs.Duties.{duty, ends_at, last_place, last_place_of}
use Rattle.timetable.specs.Lists.{listed, of_entry}
use Rattle.timetable.specs.Renumbering.{RunsAlike}
use Rattle.timetable.specs.Running.{IsPlan}
use Rattle.timetable.proofs.ListedUnits.{has_at}
use Rattle.timetable.proofs.Renumbered.{renumbered_plans_run, units_are_renumbered_back}
use Rattle.inventory.specs.ServingLaws.{units_after}
use Rattle.inventory.proofs.Named.{at_below}
use Rattle.unit_duties.specs.declared.stops.Stop.{Stop}
use Rattle.unit_duties.specs.Stops.{duties_of, stop_on, stops_of}
use Rattle.unit_duties.proofs.DutyOrder.{in_order_alone}
use Rattle.week_units.specs.Listed.{AreAlike, ArePlaced, units_listed}
use Rattle.week_units.specs.Names.{AreNames, by_name, name_in}
use Rattle.week_units.proofs.NamedDays.{name_listed}

-- ---- stops

duty_known : (day : Day) (plan : List (List ℕ)) (u : ℕ) → All (λ t. t < length day.trips) (duty day plan u)
duty_known day plan u k d lt =
    ((((in_order_alone day plan u (duty day plan u)).0 refl).its_trips (get_or (duty day plan u) k d)).0 (has_at (duty day plan u) k (get_or (duty day plan u) k d) lt (same_read (duty day plan u) k d lt))).known
  where
    same_read : (ts : List ℕ) (k d : ℕ) → k < length ts → get_or ts k d ≡ get_or ts k (get_or ts k d)
    same_read [] k d lt = absurd (omega arith)
    same_read (t ∷ ts) zero d lt = refl
    same_read (t ∷ ts) (suc k) d lt = same_read ts k d (omega arith)

pub stops_known : (day : Day) (plan : List (List ℕ)) (u : ℕ) → All (λ stop. stop.trip < length day.trips) (stops_of day plan u)
stops_known day plan u = All-map (λ (stop : Stop). stop.trip < length day.trips) (stop_on plan u) (duty day plan u) (duty_known day plan u)

pub trips_of_stops : (day : Day) (plan : List (List ℕ)) (u : ℕ) → map (λ stop. stop.trip) (stops_of day plan u) ≡ duty day plan u
trips_of_stops day plan u = same (duty day plan u)
  where
    same : (ts : List ℕ) → map (λ stop. stop.trip) (map (stop_on plan u) ts) ≡ ts
    same [] = refl
    same (t ∷ ts) = ap (λ (rest : List ℕ). t ∷ rest) (same ts)

-- where the stops of a unit end, which begin where it stands
pub ends_last : (day : Day) (plan : List (List ℕ)) (u : ℕ) → ends_at day (home_of day u) (map (λ stop. stop.trip) (stops_of day plan u)) ≡ last_place day plan u
unfolding last_place_of
ends_last day plan u = ap (λ (ts : List ℕ). ends_at day (home_of day u) ts) (trips_of_stops day plan u)

-- the stops of a unit among the duties of all
pub stops_are : (day : Day) (plan : List (List ℕ)) (u : ℕ) (duties : List (List Stop)) (stops : List Stop) → u < unit_count day → duties ≡ duties_of day plan → slice_get duties u ≡ Some stops → stops ≡ stops_of day plan u
unfolding duties_of
stops_are day plan u duties stops known are at =
    let same : Some stops ≡ Some (stops_of day plan u) = sym at ∙ ap (λ (all : List (List Stop)). slice_get all u) are ∙ at_below (stops_of day plan) (unit_count day) u known in
    ap (λ o. unwrap_or o []) same

-- where a unit is at home
pub home_is : (day : Day) (u : ℕ) (x : unit.Unit) → slice_get (units_of day) u ≡ Some x → x.home ≡ home_of day u
unfolding home_of
home_is day u x at = sym (ap (λ o. unwrap_or (option_map (λ y. y.home) o) 0) at)

-- one stop more
pub ends_more : (day : Day) (place : ℕ) (stops : List Stop) (i : ℕ) (stop : Stop) (trip : Trip) → i < length stops → stop ≡ get_or stops i stop → slice_get day.trips stop.trip ≡ Some trip
    → ends_at day trip.to (map (λ s. s.trip) (drop (i + 1) stops)) ≡ ends_at day place (map (λ s. s.trip) (drop i stops))
unfolding to_of
ends_more day place stops i stop trip lt is at =
    let more : drop i stops ≡ stop ∷ drop (i + 1) stops = drop_more stops i stop lt ∙ ap (λ (s : Stop). s ∷ drop (i + 1) stops) (sym is) in
    let goal_is : to_of day stop.trip ≡ trip.to = ap (λ o. unwrap_or (option_map (λ t. t.to) o) 0) at in
    ap (λ (s : ℕ). ends_at day s (map (λ s. s.trip) (drop (i + 1) stops))) (sym goal_is) ∙ sym (ap (λ (ss : List Stop). ends_at day place (map (λ s. s.trip) ss)) more)

-- ---- the units as a plan leaves them

module _ (us : List unit.Unit) (day : Day) (plan : List (List ℕ)) (names : List ℕ) (are : AreNames (units_listed us) day names) (is_plan : IsPlan day plan) where
  same : RunsAlike (stock_units day) (units_listed us) (name_in names) day plan
  same = renumbered_plans_run (stock_units day) (units_listed us) (name_in names) day plan are.renumbers is_plan

  last_same : (u : ℕ) → u < unit_count day → last_place_of (units_listed us) day (by_name names plan) (name_in names u) ≡ last_place day plan u
  unfolding last_place_of
  last_same u lt =
      ap (λ (s : ℕ). ends_at day s (duty day (by_name names plan) (name_in names u))) (are.renumbers.among.home u lt)
      ∙ ap (λ (ts : List ℕ). ends_at day (home_of day u) ts) (same.duties u lt)

  pub placed_after : (after : List unit.Unit) (places : List ℕ) → places ≡ listed (last_place day plan) (unit_count day) → ArePlaced names places (length names) us after
      → AreAlike (units_listed after) (units_after (units_listed us) day (by_name names plan))
  placed_after after places is placed =
      let (back, undone) = units_are_renumbered_back (stock_units day) (units_listed us) (name_in names) are.renumbers in
      record {
        count = sym placed.count;
        unit_type = λ v lt. sym (placed.unit_type v);
        home = λ v lt.
            let known : v < length us = subst (λ (n : ℕ). v < n) placed.count lt in
            let back_known : back v < unit_count day = undone.renumbers.among.known v known in
            let number : name_in names (back v) ≡ v = undone.number_is v known in
            sym (ap (λ (w : ℕ). last_place_of (units_listed us) day (by_name names plan) w) number)
            ∙ last_same (back v) back_known
            ∙ sym (name_listed (last_place day plan) (unit_count day) (back v) back_known)
            ∙ sym (ap (λ (ps : List ℕ). of_entry (λ s. s) ps (back v) 0) is)
            ∙ sym (placed.placed (back v) (subst (λ (n : ℕ). back v < n) (sym are.each) back_known))
            ∙ ap (λ (w : ℕ). (units_listed after).home w) number;
      }
