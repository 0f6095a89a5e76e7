-- A trip gives no more units than a composition has, so that no count of given units is far above zero.
use Rattle.std.proofs.Common.{◌≤◌, ◌-◌, ℕ, List, [], length, map, Bool, true, false, Option, Some, None, unwrap_or}
use Rattle.std.proofs.Common.{arith}
use Rattle.std.specs.Prelude.{option_map, option_and_then, ◌==◌, ◌&&◌, if◌then◌else◌, nat_le}
use Rattle.rules.specs.declared.records.End.{End}
use Rattle.rules.specs.declared.records.Link.{Link}
use Rattle.rules.specs.declared.records.LinkKind.{LinkKind}
use Rattle.rules.specs.declared.records.LinkKind.TheVariants.{Turn, Join, Split}
use Rattle.timetable.specs.Accepted.{IsDay}
use Rattle.timetable.specs.Day.{Day, to_of, ready_at}
use Rattle.timetable.specs.Links.{list_of, itself, link_out, given_by, given_with, turned}
use Rattle.timetable.specs.Picks.{ArePicks, picked}
use Rattle.timetable.specs.Turns.{Parts, beyond, kept_length, may_shunt, parts_at, same, staying, turn_parts}
use Rattle.transitions.proofs.Kept.{length-turned}
use Rattle.inventory.specs.Counts.{all_given, gives_of, ready_until}
use Rattle.price_bound.proofs.FewTaken.{chosen, count_le, few_beyond, few_listed, few_summed}

-- what a turn gives is of the arriving list
module _ (uncouple couple : End) (exchange : Bool) (arriving departing : List ℕ) where
  abbrev parts_or : Option Parts → Parts
  parts_or o = unwrap_or o (record { kept = []; given = arriving; taken = departing })

  few_of : (b : Bool) (parts : Parts) → length parts.given ≤ length arriving → length (parts_or (if b then Some parts else None)).given ≤ length arriving
  few_of true parts few = few
  few_of false parts few = omega arith

  few_by : (kept : Option ℕ) → length (parts_or (option_and_then (parts_at uncouple couple exchange arriving departing) kept)).given ≤ length arriving
  few_by None = omega arith
  few_by (Some n) =
      few_of (same (staying uncouple arriving n) (staying couple departing n) && may_shunt exchange (length arriving - n) (length departing - n))
      (record { kept = staying uncouple arriving n; given = beyond uncouple arriving n; taken = beyond couple departing n }) (few_beyond uncouple arriving n)

module _ (day : Day) (picks : List ℕ) (is_day : IsDay day) (are_picks : ArePicks day picks) where
  few_of_kind : (kind : LinkKind) (r : Bool) → length (given_by itself kind r (picked day picks)) ≤ 6
  unfolding turn_parts
  few_of_kind (Turn a b uncouple couple exchange) r =
      let arriving : List ℕ = turned r (list_of (picked day picks) a) in
      let departing : List ℕ = list_of (picked day picks) b in
      let few = few_by uncouple couple exchange arriving departing (kept_length uncouple couple (map itself arriving) (map itself departing)) in
      let all = few_listed day picks is_day are_picks a in
      let turns = length-turned r (list_of (picked day picks) a) in
      omega arith
  few_of_kind (Join a1 a2 b) r = omega arith
  few_of_kind (Split a b1 b2) r = omega arith

  few_out_of : (t : ℕ) (o : Option Link) → length (unwrap_or (option_map (λ (link : Link). given_by itself link.kind link.reverse (picked day picks)) o) (list_of (picked day picks) t)) ≤ 6
  few_out_of t None = few_listed day picks is_day are_picks t
  few_out_of t (Some link) = few_of_kind link.kind link.reverse

  few_gives : (m t : ℕ) → gives_of day (picked day picks) m t ≤ 6
  unfolding given_with
  few_gives m t =
      let few : length (given_with itself day (picked day picks) t) ≤ 6 = few_out_of t (link_out day t) in
      let count = count_le m (given_with itself day (picked day picks) t) in
      omega arith

  pub few_ready : (s m minute : ℕ) → ready_until day (picked day picks) s m minute ≤ 2400
  unfolding ready_until
  few_ready s m minute =
      let few = few_summed (λ t. if (to_of day t == s) && nat_le (ready_at day t) minute then gives_of day (picked day picks) m t else 0) (length day.trips)
      (λ t. chosen ((to_of day t == s) && nat_le (ready_at day t) minute) (gives_of day (picked day picks) m t) (few_gives m t)) in
      let trips = is_day.timetable.trip_count in
      omega arith

  pub few_all_given : (s m : ℕ) → all_given day (picked day picks) s m ≤ 2400
  unfolding all_given
  few_all_given s m =
      let few = few_summed (λ t. if to_of day t == s then gives_of day (picked day picks) m t else 0) (length day.trips)
      (λ t. chosen (to_of day t == s) (gives_of day (picked day picks) m t) (few_gives m t)) in
      let trips = is_day.timetable.trip_count in
      omega arith
