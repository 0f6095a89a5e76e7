-- A trip takes no more units than a composition has, so that no count of the yards is far below zero.
use Rattle.std.proofs.Common.{◌≤◌, ◌+◌, ◌-◌, ◌*◌, ℕ, zero, suc, List, [], ◌∷◌, length, map, Bool, true, false, cond}
use Rattle.std.proofs.Common.{Option, Some, None, unwrap_or, ap, arith, length-drop, length-take-le, pos, neg_ℤ, ◌-ℤ◌}
use Rattle.std.proofs.Common.{◌≤ℤ◌, inl, inr, ⊎_elim}
use Rattle.std.specs.Prelude.{option_map, option_and_then, ◌==◌, ◌&&◌, if◌then◌else◌, nat_le}
use Rattle.std.proofs.lemmas.Bool.{cases_lt}
use Rattle.std.proofs.lemmas.Int.{ints}
use Rattle.std.proofs.lemmas.List.{length-map}
use Rattle.std.proofs.lemmas.Option.{slice_get_cases}
use Rattle.rules.specs.declared.records.End.{End}
use Rattle.rules.specs.declared.records.End.TheVariants as at
use Rattle.rules.specs.declared.records.Link.{Link}
use Rattle.rules.specs.declared.records.LinkKind.{LinkKind}
use Rattle.rules.specs.declared.records.LinkKind.TheVariants.{Turn, Join, Split}
use Rattle.timetable.specs.Accepted.{IsDay}
use Rattle.timetable.specs.Compositions.{composition_at}
use Rattle.timetable.specs.Day.{Day, leaves, from_of}
use Rattle.timetable.specs.Links.{list_of, itself, link_into, taken_by, taken_with, turned}
use Rattle.timetable.specs.Lists.{count_of, sum_below}
use Rattle.timetable.specs.Picks.{ArePicks, picked}
use Rattle.timetable.specs.Turns.{Parts, beyond, kept_length, may_shunt, parts_at, same, staying, turn_parts}
use Rattle.transitions.proofs.Listed.{few_units}
use Rattle.inventory.specs.Counts.{all_taken, count_at, end_count_of, takes_of, taken_until}
use Rattle.price_bound.specs.FollowingPicks.{pick_of}
use Rattle.price_bound.proofs.Solving.{list_picked}

pub count_le : (m : ℕ) (us : List ℕ) → count_of m us ≤ length us
count_le m [] = omega arith
count_le m (u ∷ us) = let rest = count_le m us in by (u == m) rest
  where
    by : (b : Bool) → count_of m us ≤ length us → (if b then 1 else 0) + count_of m us ≤ suc (length us)
    by true rest = omega arith
    by false rest = omega arith

pub few_beyond : (end : End) (whole : List ℕ) (n : ℕ) → length (beyond end whole n) ≤ length whole
few_beyond at.None whole n = omega arith
few_beyond at.Rear whole n = let e = length-drop n whole in omega arith
few_beyond at.Front whole n = let e = length-take-le (length whole - n) whole (omega arith) in omega arith

-- what a turn takes is of the departing list
module _ (uncouple couple : End) (exchange : Bool) (arriving departing : List ℕ) where
  abbrev parts_or : Option Parts → Parts
  parts_or o = unwrap_or o (record { kept = []; given = arriving; taken = departing })

  few_of : (b : Bool) (parts : Parts) → length parts.taken ≤ length departing → length (parts_or (if b then Some parts else None)).taken ≤ length departing
  few_of true parts few = few
  few_of false parts few = omega arith

  few_by : (kept : Option ℕ) → length (parts_or (option_and_then (parts_at uncouple couple exchange arriving departing) kept)).taken ≤ length departing
  few_by None = omega arith
  few_by (Some n) =
      few_of (same (staying uncouple arriving n) (staying couple departing n) && may_shunt exchange (length arriving - n) (length departing - n))
      (record { kept = staying uncouple arriving n; given = beyond uncouple arriving n; taken = beyond couple departing n }) (few_beyond couple departing n)

-- a sum of small numbers
pub few_summed : (f : ℕ → ℕ) (n : ℕ) → ((k : ℕ) → f k ≤ 6) → sum_below f n ≤ 6 * n
few_summed f zero few = omega arith
few_summed f (suc n) few = let rest = few_summed f n few in let last = few n in omega arith

pub chosen : (b : Bool) (n : ℕ) → n ≤ 6 → cond {A = ℕ} b n 0 ≤ 6
chosen true n few = few
chosen false n few = omega arith

least : (a b : ℕ) → b ≤ 2400 → neg_ℤ (pos 2400) ≤ℤ (pos a -ℤ pos b)
least a b few = omega (arith, ints, few)

module _ (day : Day) (picks : List ℕ) (is_day : IsDay day) (are_picks : ArePicks day picks) where
  pub few_listed : (t : ℕ) → length (list_of (picked day picks) t) ≤ 6
  unfolding list_of
  few_listed t = elim (cases_lt t (length picks)) [
    | inl below ↦
        let few = few_units day (pick_of picks t) (are_picks.known t 0 below) in
        let e = ap length (list_picked day picks t below) in
        omega arith
    | inr past ↦
        let long = length-map picks (composition_at day) in
        ⊎_elim (λ there. absurd (let within = there.1 in omega arith))
        (λ none. let e = ap (λ (o : Option (List ℕ)). length (unwrap_or o [])) none.1 in omega arith) ((slice_get_cases (picked day picks) t).1)
  ]

  few_of_kind : (kind : LinkKind) (r : Bool) → length (taken_by itself kind r (picked day picks)) ≤ 6
  unfolding turn_parts
  few_of_kind (Turn a b uncouple couple exchange) r =
      let arriving : List ℕ = turned r (list_of (picked day picks) a) in
      let departing : List ℕ = list_of (picked day picks) b in
      let few = few_by uncouple couple exchange arriving departing (kept_length uncouple couple (map itself arriving) (map itself departing)) in
      let all = few_listed b in
      omega arith
  few_of_kind (Join a1 a2 b) r = omega arith
  few_of_kind (Split a b1 b2) r = omega arith

  few_into : (t : ℕ) (o : Option Link) → length (unwrap_or (option_map (λ (link : Link). taken_by itself link.kind link.reverse (picked day picks)) o) (list_of (picked day picks) t)) ≤ 6
  few_into t None = few_listed t
  few_into t (Some link) = few_of_kind link.kind link.reverse

  few_takes : (m t : ℕ) → takes_of day (picked day picks) m t ≤ 6
  unfolding taken_with
  few_takes m t =
      let few : length (taken_with itself day (picked day picks) t) ≤ 6 = few_into t (link_into day t) in
      let count = count_le m (taken_with itself day (picked day picks) t) in
      omega arith

  pub few_taken : (s m minute : ℕ) → taken_until day (picked day picks) s m minute ≤ 2400
  unfolding taken_until
  few_taken s m minute =
      let few = few_summed (λ t. if (from_of day t == s) && nat_le (leaves day t) minute then takes_of day (picked day picks) m t else 0) (length day.trips)
      (λ t. chosen ((from_of day t == s) && nat_le (leaves day t) minute) (takes_of day (picked day picks) m t) (few_takes m t)) in
      let trips = is_day.timetable.trip_count in
      omega arith

  pub few_all_taken : (s m : ℕ) → all_taken day (picked day picks) s m ≤ 2400
  unfolding all_taken
  few_all_taken s m =
      let few = few_summed (λ t. if from_of day t == s then takes_of day (picked day picks) m t else 0) (length day.trips)
      (λ t. chosen (from_of day t == s) (takes_of day (picked day picks) m t) (few_takes m t)) in
      let trips = is_day.timetable.trip_count in
      omega arith

  -- so no count is far below zero
  pub least_count : (s m minute : ℕ) → neg_ℤ (pos 2400) ≤ℤ count_at day (picked day picks) s m minute
  least_count s m minute = least _ (taken_until day (picked day picks) s m minute) (few_taken s m minute)

  pub least_last : (s m : ℕ) → neg_ℤ (pos 2400) ≤ℤ end_count_of day (picked day picks) s m
  least_last s m = least _ (all_taken day (picked day picks) s m) (few_all_taken s m)
