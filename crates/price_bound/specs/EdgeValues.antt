-- What an edge of a link adds to a priced value: the cost of shunting, the prices of the units that are taken and
-- given, and the multiplier of the part at a hand-over.
use Rattle.std.specs.Prelude.{ℕ, ◌-◌, List, [], length, take, drop, ◌&&◌, ◌==◌, Option, Some, None, ℤ, pos, ◌+ℤ◌, ◌-ℤ◌}
use Rattle.rules.specs.declared.records.End.{End}
use Rattle.rules.specs.declared.records.End.TheVariants as at
use Rattle.rules.specs.declared.records.LinkKind.{LinkKind}
use Rattle.rules.specs.declared.records.LinkKind.TheVariants.{Turn, Join, Split}
use Rattle.timetable.specs.Compositions.{composition_at}
use Rattle.timetable.specs.Day.{Day}
use Rattle.transitions.specs.declared.edge.Edge.{Edge}
use Rattle.transitions.specs.declared.edge.Shunt.{Shunt}
use Rattle.transitions.specs.declared.edge.Shunt.TheVariants.{Keep, Uncouple, Couple, Exchange}
use Rattle.branch_tree.specs.declared.multipliers.Entry.{Entry}
use Rattle.branch_tree.specs.declared.relaxation.Weight.{Weight}
use Rattle.branch_tree.specs.IntSums.{int_sum}
use Rattle.branch_tree.specs.Meanings.{weighted}
use Rattle.price_bound.specs.Regrouped.{of_handover}
use Rattle.price_bound.specs.YardPrices.{by_place, giving, taking}

-- how many units a shunt couples
abbrev pub coupled : Shunt → ℕ
coupled Keep = 0
coupled (Uncouple units) = 0
coupled (Couple units) = units
coupled (Exchange uncouple couple) = couple

-- what a shunt costs
abbrev pub shunt_cost : Day → Shunt → ℕ
shunt_cost day Keep = 0
shunt_cost day (Uncouple units) = day.weights.shunting
shunt_cost day (Couple units) = day.weights.shunting
shunt_cost day (Exchange uncouple couple) = day.weights.shunting

-- what stayed in the train, of the types that depart, where so many units were coupled at this end
abbrev pub stayed : End → ℕ → List ℕ → List ℕ
stayed at.None units types = types
stayed at.Rear units types = take (length types - units) types
stayed at.Front units types = drop units types

-- and what came there
abbrev pub came : End → ℕ → List ℕ → List ℕ
came at.None units types = []
came at.Rear units types = drop (length types - units) types
came at.Front units types = take units types

abbrev pub stays_by : Day → End → Edge → List ℕ
stays_by day couple edge = stayed couple (coupled edge.shunt) (composition_at day edge.to)

-- a turn takes what departs and did not stay, and gives what arrived and did not stay
abbrev pub turn_value : Day → List Entry → Weight → ℕ → ℕ → End → Edge → ℤ
turn_value day entries weight a b couple edge =
    weighted weight (pos (shunt_cost day edge.shunt))
    +ℤ (taking day entries b (composition_at day edge.to) -ℤ taking day entries b (stays_by day couple edge))
    -ℤ (giving day entries a (composition_at day edge.from) -ℤ giving day entries a (stays_by day couple edge))

-- the same where units are uncoupled and none coupled: a turn gives what arrived and does not depart
abbrev pub uncoupling_value : Day → List Entry → Weight → ℕ → Edge → ℤ
uncoupling_value day entries weight a edge =
    weighted weight (pos day.weights.shunting)
    -ℤ (giving day entries a (composition_at day edge.from) -ℤ giving day entries a (composition_at day edge.to))

-- the same where units are coupled and none uncoupled: a turn takes what departs and had not arrived
abbrev pub coupling_value : Day → List Entry → Weight → ℕ → Edge → ℤ
coupling_value day entries weight b edge =
    weighted weight (pos day.weights.shunting)
    +ℤ (taking day entries b (composition_at day edge.to) -ℤ taking day entries b (composition_at day edge.from))

-- the multiplier of a part, by its number, at the hand-over of a link
unfoldable pub part_multiplier : Day → List Entry → ℕ → ℕ → ℤ
part_multiplier day entries l part =
    int_sum (by_place day (of_handover day (λ handover c. (handover.link == l) && (part == c)))) entries

abbrev pub part_value : Day → List Entry → ℕ → Option ℕ → ℤ
part_value day entries l None = pos 0
part_value day entries l (Some part) = part_multiplier day entries l part

-- what an edge of the link of a number adds, by the kind of the link
abbrev pub edge_value : Day → List Entry → Weight → ℕ → LinkKind → Edge → ℤ
edge_value day entries weight l (Turn a b uncouple couple exchange) edge = turn_value day entries weight a b couple edge
edge_value day entries weight l (Join a1 a2 b) edge = part_value day entries l edge.part
edge_value day entries weight l (Split a b1 b2) edge = part_value day entries l edge.part
