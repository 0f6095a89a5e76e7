-- The legs of a unit in a plan that runs leave one after another, and end at its last place.
use Rattle.std.proofs.Common.{◌≡◌, ℕ, ◌≤◌, ◌<◌, List, [], ◌∷◌, length, map, refl, sym, subst, arith}
use Rattle.timetable.specs.Accepted.{IsDay, AreLinks, DoMeet}
use Rattle.timetable.specs.Day.{Day, from_of, home_of, unit_count, stock_units}
use Rattle.timetable.specs.Duties.{duty, ends_at, last_place, last_place_of}
use Rattle.timetable.specs.Laws.{GoesOnTo}
use Rattle.timetable.specs.Lists.{count_of}
use Rattle.rules.proofs.OfTheStock.{MayFollow}
use Rattle.timetable.specs.Running.{Runs, EachFollows, BeginsAt}
use Rattle.timetable.proofs.OnePlace.{units_are_in_one_place}
use Rattle.timetable.proofs.Ones.{one_same}
use Rattle.inventory.proofs.OnDuty.{duty_within}
use Rattle.urgent_units.specs.declared.legs.Leg.{Leg}
use Rattle.urgent_units.specs.Legs.{end_of, leg_of, legs_of_unit, stays}
use Rattle.urgent_units.specs.Runs.{runs_of}
use Rattle.urgent_units.proofs.Crossing.{InTurn}
use Rattle.urgent_units.proofs.InTurn.{AreTrips, AtStations, in_turn, end_of_trips, at_stations}

module _ (day : Day) (is_day : IsDay day) (links : AreLinks day) (meet : DoMeet day) where
  duty_known : (u : ℕ) (ts : List ℕ) → ((t : ℕ) → 1 ≤ count_of t ts → t < length day.trips) → AreTrips day ts
  duty_known u [] known = tt
  duty_known u (t ∷ ts) known = (known t (let here = one_same t t refl in omega (arith, here)), duty_known u ts (λ x c. known x (omega (arith, c))))

  -- its legs leave one after another from home, and end at its last place
  pub legs_in_turn : (p : List (List ℕ)) → Runs day p → (u : ℕ) → u < unit_count day → InTurn (home_of day u) 0 (legs_of_unit day p u) × (end_of (home_of day u) (legs_of_unit day p u) ≡ last_place day p u) × AtStations day is_day.timetable.time p u (legs_of_unit day p u)
  unfolding last_place_of
  legs_in_turn p p_runs u known = on (duty day p u) refl
    where
      on : (ts : List ℕ) → duty day p u ≡ ts → InTurn (home_of day u) 0 (legs_of_unit day p u) × (end_of (home_of day u) (legs_of_unit day p u) ≡ ends_at day (home_of day u) (duty day p u)) × AtStations day is_day.timetable.time p u (legs_of_unit day p u)
      on [] is =
          let legs : List ℕ → List Leg = λ ts. map (leg_of day) (runs_of (stays day p u) ts) in (
            subst (λ (ts : List ℕ). InTurn (home_of day u) 0 (legs ts)) (sym is) tt,
            subst (λ (ts : List ℕ). end_of (home_of day u) (legs ts) ≡ ends_at day (home_of day u) ts) (sym is) refl,
            subst (λ (ts : List ℕ). AtStations day is_day.timetable.time p u (legs ts)) (sym is) tt,
          )
      on (t ∷ ts) is =
          let legs : List ℕ → List Leg = λ ts. map (leg_of day) (runs_of (stays day p u) ts) in
          let place = units_are_in_one_place (stock_units day) day p u is_day.timetable links meet p_runs known in
          let trips : AreTrips day (t ∷ ts) = duty_known u (t ∷ ts) (λ x c. duty_within day p is_day links p_runs u x (subst (λ (xs : List ℕ). 1 ≤ count_of x xs) (sym is) c)) in
          let begins : from_of day t ≡ home_of day u = subst (λ (xs : List ℕ). BeginsAt day (home_of day u) xs) is (p_runs.homes u known) in (
            subst (λ (xs : List ℕ). InTurn (home_of day u) 0 (legs xs)) (sym is)
                (in_turn day is_day.timetable.time p u ts t (home_of day u) 0 begins (omega arith) trips
                (subst (λ (xs : List ℕ). EachFollows (MayFollow day p u) xs) is (p_runs.follows u known)) (subst (λ (xs : List ℕ). EachFollows (GoesOnTo day) xs) is place.follows)),
            subst (λ (xs : List ℕ). end_of (home_of day u) (legs xs) ≡ ends_at day (home_of day u) xs) (sym is) (end_of_trips day is_day.timetable.time p u ts t (home_of day u)),
            subst (λ (xs : List ℕ). AtStations day is_day.timetable.time p u (legs xs)) (sym is) (at_stations day is_day.timetable.time p u is_day.timetable.origin is_day.timetable.goal ts t trips),
          )
