-- The same day with any stock rows: its duties, what runs through it, and what it costs are the same.
use Rattle.std.proofs.Common.{◌≡◌, ℕ, List, [], ◌∷◌, length, map, Option, Some, None, refl, ap, ◌∙◌, subst, sym, arith}
use Rattle.std.proofs.Common.{inl, inr}
use Rattle.std.specs.Prelude.{if◌then◌else◌, ◌==◌, ◌&&◌, Bool, filter, slice_get, option_map, unwrap_or}
use Rattle.rules.specs.declared.records.Link.{Link}
use Rattle.rules.specs.declared.records.LinkKind.{LinkKind}
use Rattle.rules.specs.declared.records.LinkKind.TheVariants.{Turn, Join, Split}
use Rattle.rules.specs.declared.records.Stock.{Stock}
use Rattle.timetable.specs.Admissible.{is_admissible}
use Rattle.timetable.specs.Cost.{missing_seats, trip_cost, kind_cost, link_cost, cost_of}
use Rattle.timetable.specs.Day.{Day, Units, leaves, arrives, from_of, to_of, km_of, demand_of, first_demand_of, platform_of}
use Rattle.timetable.specs.Day.{reallocation_of}
use Rattle.timetable.specs.Duties.{is_before, insert_trip, in_order, duty, ends_at, last_place_of}
use Rattle.timetable.specs.Links.{list_of, incoming, outgoing, kept_with, given_with, taken_with}
use Rattle.timetable.specs.Lists.{has, below}
use Rattle.timetable.specs.Running.{MayFollowOf, EachFollows, BeginsAt, ending_of, RunsThrough}
use Rattle.timetable.proofs.Sums.{sum_same}

pub each_follows_so : (R S : ℕ → ℕ → Type 0) (ts : List ℕ) → ((a b : ℕ) → R a b → S a b) → EachFollows R ts → EachFollows S ts
each_follows_so R S [] so follows = tt
each_follows_so R S (a ∷ []) so follows = tt
each_follows_so R S (a ∷ b ∷ ts) so follows = (so a b follows.0, each_follows_so R S (b ∷ ts) so follows.1)

module _ (day : Day) (rows : List Stock) where
  abbrev with_rows : Day
  with_rows = record day { stock = rows }

  -- ---- duties

  insert_rows : (t : ℕ) (ss : List ℕ) → insert_trip with_rows t ss ≡ insert_trip day t ss
  unfolding leaves
  insert_rows t [] = refl
  insert_rows t (s ∷ ss) = ap (λ (rest : List ℕ). if is_before day t s then t ∷ s ∷ ss else s ∷ rest) (insert_rows t ss)

  in_order_rows : (ts : List ℕ) → in_order with_rows ts ≡ in_order day ts
  in_order_rows [] = refl
  in_order_rows (t ∷ ts) = insert_rows t (in_order with_rows ts) ∙ ap (insert_trip day t) (in_order_rows ts)

  pub duty_rows : (plan : List (List ℕ)) (u : ℕ) → duty with_rows plan u ≡ duty day plan u
  unfolding duty
  duty_rows plan u = in_order_rows (filter (λ t. has u (list_of plan t)) (below (length day.trips)))

  ends_rows : (s : ℕ) (ts : List ℕ) → ends_at with_rows s ts ≡ ends_at day s ts
  unfolding to_of
  ends_rows s [] = refl
  ends_rows s (t ∷ ts) = ends_rows (to_of day t) ts

  last_rows : (units : Units) (plan : List (List ℕ)) (u : ℕ) → last_place_of units with_rows plan u ≡ last_place_of units day plan u
  unfolding last_place_of
  last_rows units plan u = ends_rows (units.home u) (duty with_rows plan u) ∙ ap (ends_at day (units.home u)) (duty_rows plan u)

  pub ending_rows : (units : Units) (plan : List (List ℕ)) (s m : ℕ) → ending_of units with_rows plan s m ≡ ending_of units day plan s m
  unfolding ending_of
  ending_rows units plan s m =
      sum_same (λ u. if (last_place_of units with_rows plan u == s) && (units.unit_type u == m) then 1 else 0)
      (λ u. if (last_place_of units day plan u == s) && (units.unit_type u == m) then 1 else 0) units.count
      (λ u lt. ap (λ (p : ℕ). if (p == s) && (units.unit_type u == m) then 1 else 0) (last_rows units plan u))

  -- ---- what runs

  begins_rows : (s : ℕ) (ts : List ℕ) → BeginsAt day s ts → BeginsAt with_rows s ts
  unfolding from_of
  begins_rows s [] begins = tt
  begins_rows s (t ∷ ts) begins = begins

  may_rows : (type_of : ℕ → ℕ) (plan : List (List ℕ)) (u a b : ℕ) → MayFollowOf type_of day plan u a b → MayFollowOf type_of with_rows plan u a b
  unfolding kept_with given_with taken_with incoming outgoing leaves arrives from_of to_of reallocation_of
  may_rows type_of plan u a b (inl stays) = inl stays
  may_rows type_of plan u a b (inr yard) = inr (record { given = yard.given; taken = yard.taken; station = yard.station; ready = yard.ready })

  admissible_rows : (t : ℕ) (types : List ℕ) → is_admissible with_rows t types ≡ is_admissible day t types
  unfolding is_admissible platform_of from_of to_of
  admissible_rows t types = refl

  pub through_rows : (units : Units) (plan : List (List ℕ)) → RunsThrough units day plan → RunsThrough units with_rows plan
  through_rows units plan runs = record {
    is_plan = record { trips = runs.is_plan.trips; units = runs.is_plan.units };
    lists = λ t lt. record { distinct = (runs.lists t lt).distinct; admissible = admissible_rows t (map units.unit_type (list_of plan t)) ∙ (runs.lists t lt).admissible };
    links = runs.links;
    homes = λ u lt. subst (BeginsAt with_rows (units.home u)) (sym (duty_rows plan u)) (begins_rows (units.home u) (duty day plan u) (runs.homes u lt));
    follows = λ u lt.
        subst (EachFollows (MayFollowOf units.unit_type with_rows plan u)) (sym (duty_rows plan u))
        (each_follows_so (MayFollowOf units.unit_type day plan u) (MayFollowOf units.unit_type with_rows plan u) (duty day plan u) (may_rows units.unit_type plan u) (runs.follows u lt));
  }

  -- ---- what it costs

  trip_rows : (t : ℕ) (types : List ℕ) → trip_cost with_rows t types ≡ trip_cost day t types
  unfolding trip_cost missing_seats km_of demand_of first_demand_of
  trip_rows t types = refl

  kind_rows : (kind : LinkKind) (r : Bool) (lists : List (List ℕ)) → kind_cost with_rows kind r lists ≡ kind_cost day kind r lists
  kind_rows (Turn a b uncouple couple exchange) r lists = refl
  kind_rows (Join a1 a2 b) r lists = refl
  kind_rows (Split a b1 b2) r lists = refl

  link_rows : (l : ℕ) (lists : List (List ℕ)) → link_cost with_rows l lists ≡ link_cost day l lists
  unfolding link_cost
  link_rows l lists = by (slice_get day.links l)
    where
      by : (o : Option Link) → unwrap_or (option_map (λ link. kind_cost with_rows link.kind link.reverse lists) o) 0 ≡ unwrap_or (option_map (λ link. kind_cost day link.kind link.reverse lists) o) 0
      by None = refl
      by (Some link) = kind_rows link.kind link.reverse lists

  pub cost_rows : (lists : List (List ℕ)) → cost_of with_rows lists ≡ cost_of day lists
  unfolding cost_of
  cost_rows lists =
      let trips = sum_same (λ t. trip_cost with_rows t (list_of lists t)) (λ t. trip_cost day t (list_of lists t)) (length day.trips) (λ t lt. trip_rows t (list_of lists t)) in
      let links = sum_same (λ l. link_cost with_rows l lists) (λ l. link_cost day l lists) (length day.links) (λ l lt. link_rows l lists) in
      omega arith
