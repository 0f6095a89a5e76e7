-- The units that the links into a trip and on from it give and take are units of the day.
use Rattle.std.proofs.Common.{ℕ, ◌<◌, ◌≤◌, List, Bool, Option, Some, None, arith}
use Rattle.std.specs.Prelude.{option_map, unwrap_or}
use Rattle.std.proofs.lemmas.Bool.{le-leb, leb-true}
use Rattle.rules.specs.declared.records.Link.{Link}
use Rattle.rules.specs.declared.records.LinkKind.{LinkKind}
use Rattle.rules.specs.declared.records.LinkKind.TheVariants.{Turn, Join, Split}
use Rattle.timetable.specs.Day.{Day, unit_count, type_of}
use Rattle.timetable.specs.Lists.{count_of}
use Rattle.timetable.specs.Links.{list_of, link_into, link_out, turned}
use Rattle.timetable.specs.Links.{given_by, taken_by, given, taken, given_with, taken_with}
use Rattle.timetable.specs.Running.{IsPlan, AreUnits}
use Rattle.timetable.proofs.Shares.{turn_shares, count_of-turned}

-- the units that a link gives or takes are in the list of a trip
pub given_is_listed : (type_of : ℕ → ℕ) (kind : LinkKind) (r : Bool) (plan : List (List ℕ)) (u : ℕ) → 1 ≤ count_of u (given_by type_of kind r plan) → (t : ℕ) × (1 ≤ count_of u (list_of plan t))
given_is_listed type_of (Turn a b uncouple couple exchange) r plan u c =
    let shares = (turn_shares type_of uncouple couple exchange (turned r (list_of plan a)) (list_of plan b)).arrives u in
    let turns = count_of-turned u r (list_of plan a) in
    (a, omega arith)
given_is_listed type_of (Join a1 a2 b) r plan u c = absurd (omega arith)
given_is_listed type_of (Split a b1 b2) r plan u c = absurd (omega arith)

pub taken_is_listed : (type_of : ℕ → ℕ) (kind : LinkKind) (r : Bool) (plan : List (List ℕ)) (u : ℕ) → 1 ≤ count_of u (taken_by type_of kind r plan) → (t : ℕ) × (1 ≤ count_of u (list_of plan t))
taken_is_listed type_of (Turn a b uncouple couple exchange) r plan u c =
    let shares = (turn_shares type_of uncouple couple exchange (turned r (list_of plan a)) (list_of plan b)).departs u in
    (b, omega arith)
taken_is_listed type_of (Join a1 a2 b) r plan u c = absurd (omega arith)
taken_is_listed type_of (Split a b1 b2) r plan u c = absurd (omega arith)

module _ (day : Day) (plan : List (List ℕ)) (is_plan : IsPlan day plan) where
  -- units of a trip's list are units of the day
  pub listed_known : (t : ℕ) → AreUnits day (list_of plan t)
  listed_known t u h = is_plan.units t u h

  known : (u t : ℕ) → 1 ≤ count_of u (list_of plan t) → u < unit_count day
  known u t c = is_plan.units t u (le-leb 1 (count_of u (list_of plan t)) c)

  pub given_known : (t : ℕ) → AreUnits day (given day plan t)
  unfolding given_with
  given_known t = of_link (link_out day t)
    where
      of_link : (o : Option Link) → AreUnits day (unwrap_or (option_map (λ link. given_by (type_of day) link.kind link.reverse plan) o) (list_of plan t))
      of_link None u h = listed_known t u h
      of_link (Some link) u h = let there = given_is_listed (type_of day) link.kind link.reverse plan u (leb-true 1 (count_of u (given_by (type_of day) link.kind link.reverse plan)) h) in known u there.0 there.1

  pub taken_known : (t : ℕ) → AreUnits day (taken day plan t)
  unfolding taken_with
  taken_known t = of_link (link_into day t)
    where
      of_link : (o : Option Link) → AreUnits day (unwrap_or (option_map (λ link. taken_by (type_of day) link.kind link.reverse plan) o) (list_of plan t))
      of_link None u h = listed_known t u h
      of_link (Some link) u h = let there = taken_is_listed (type_of day) link.kind link.reverse plan u (leb-true 1 (count_of u (taken_by (type_of day) link.kind link.reverse plan)) h) in known u there.0 there.1
