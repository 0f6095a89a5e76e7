-- The priced value, regrouped: a constant, what each trip adds by its own pick, and what each link adds by the picks of
-- the trips that it leads between.
use Rattle.std.specs.Prelude.{option_map, unwrap_or, slice_get, ℤ, pos, ◌+ℤ◌, ◌-ℤ◌, ◌*ℤ◌}
use Rattle.std.specs.Prelude.{ℕ, ◌+◌, ◌≡◌, List, length, ◌&&◌, ◌==◌}
use Rattle.rules.specs.declared.records.Link.{Link}
use Rattle.timetable.specs.Accepted.{AreLinks}
use Rattle.timetable.specs.Chains.{leads_from, leads_to}
use Rattle.timetable.specs.Compositions.{composition_at}
use Rattle.timetable.specs.Cost.{kind_cost, link_cost}
use Rattle.timetable.specs.Day.{Day}
use Rattle.timetable.specs.Links.{itself, given_by, taken_by}
use Rattle.timetable.specs.Lists.{sum_below}
use Rattle.timetable.specs.Picks.{picked}
use Rattle.timetable.specs.Turns.{same}
use Rattle.branch_tree.specs.IntSums.{int_sum}
use Rattle.branch_tree.specs.Meanings as meanings
use Rattle.branch_tree.specs.Meanings.{weighted}
use Rattle.branch_tree.specs.declared.multipliers.Entry.{Entry}
use Rattle.branch_tree.specs.declared.relaxation.Weight.{Weight}
use Rattle.price_bound.specs.ChainStages.{Priced, cost_on}
use Rattle.price_bound.specs.DayMeanings.{trips_by_chain}
use Rattle.price_bound.specs.FollowingPicks.{part_of, pick_of}
use Rattle.price_bound.specs.Near.{AreNear}
use Rattle.price_bound.specs.Regrouped.{constant_of, of_handover, trip_value}
use Rattle.price_bound.specs.Slacks.{slack_of}
use Rattle.price_bound.specs.YardPrices.{by_place, giving, taking}
use Rattle.price_bound.proofs.IntLaws.{int_below}

-- the multipliers of the part of a link's hand-over
unfoldable pub part_price : Day → List Entry → ℕ → List ℕ → ℤ
part_price day entries l part =
    int_sum (by_place day (of_handover day (λ handover c. (handover.link == l) && same part (composition_at day c))))
    entries

-- what the link of a number adds by the lists of its trips: the cost of shunting; the price of the units that are
-- taken, less that of the units that are given; and the multiplier of the part at the hand-over
abbrev pub value_at_link : Day → List Entry → Weight → List (List ℕ) → ℕ → Link → ℤ
value_at_link day entries weight lists l link =
    weighted weight (pos (kind_cost day link.kind link.reverse lists))
    +ℤ taking day entries (leads_to link.kind) (taken_by itself link.kind link.reverse lists)
    -ℤ giving day entries (leads_from link.kind) (given_by itself link.kind link.reverse lists)
    +ℤ part_price day entries l (part_of link lists)

unfoldable pub link_value : Day → List Entry → Weight → List (List ℕ) → ℕ → ℤ
link_value day entries weight lists l =
    unwrap_or (option_map (value_at_link day entries weight lists l) (slice_get day.links l)) (pos 0)

-- the constant, what each trip adds and what each link adds
unfoldable pub regrouped : Day → (ℕ → ℕ → ℕ) → List Entry → Weight → List ℕ → ℤ
regrouped day trip_cost entries weight picks =
    constant_of day entries
    +ℤ int_below (λ t. trip_value day trip_cost entries weight t (pick_of picks t)) (length day.trips)
    +ℤ int_below (λ l. link_value day entries weight (picked day picks) l) (length day.links)

-- Picks are priced, at costs that are told trip by trip and the cost of shunting, as they are regrouped.
abbrev pub AreRegrouped : Type 0
AreRegrouped = (day : Day) (trip_cost : ℕ → ℕ → ℕ) (entries : List Entry) (weight : Weight) (picks : List ℕ) →
    AreLinks day → length picks ≡ length day.trips →
    weighted weight (pos (sum_below (λ t. trip_cost t (pick_of picks t)) (length day.trips)
    + sum_below (λ l. link_cost day l (picked day picks)) (length day.links)))
    +ℤ int_sum (λ entry. entry.value *ℤ slack_of day picks entry.index) entries
    ≡ regrouped day trip_cost entries weight picks

-- A problem is that of what is priced: picks are near as they are on the day, in the order of its chains, and are
-- priced as they are regrouped.
pub record IsPricedBy (problem : meanings.Meanings) (priced : Priced) : Type 0 where
  pub order : problem.order ≡ trips_by_chain priced.day
  pub to_day : (picks : List ℕ) → problem.AreNear picks priced.region → AreNear priced.day picks priced.region
  pub from_day : (picks : List ℕ) → AreNear priced.day picks priced.region → problem.AreNear picks priced.region
  pub values : (picks : List ℕ) → length picks ≡ length priced.day.trips
      → meanings.priced problem priced.entries priced.weight picks
      ≡ regrouped priced.day (cost_on priced) priced.entries priced.weight picks
