-- What departs is what stayed and what came; and the parts of what a turn adds are small.
use Rattle.std.proofs.Common.{◌*◌, ℕ, List, length, ℤ, pos, arith, ◌∙◌}
use Rattle.branch_tree.specs.declared.multipliers.Entry.{Entry}
use Rattle.branch_tree.specs.IntSums.{int_sum}
use Rattle.branch_tree.specs.Meanings.{weighted}
use Rattle.timetable.specs.Compositions.{composition_at}
use Rattle.timetable.specs.Day.{Day, from_of, leaves, to_of, ready_at}
use Rattle.transitions.proofs.Listed.{few_units}
use Rattle.price_bound.specs.CellSizes.{most_amount, most_cost, most_price, most_units_price}
use Rattle.price_bound.specs.EdgeValues.{came, coupled, shunt_cost, stayed}
use Rattle.price_bound.specs.YardPrices.{giving, taking, yard_price}
use Rattle.price_bound.proofs.Adding.{small_difference, small_more}
use Rattle.price_bound.proofs.Filling.{are_few, yard_small}
use Rattle.price_bound.proofs.Summing.{parted, parted_long, turn_is, turn_small, units_small}
use Rattle.price_bound.proofs.turn_prices.TurnPrices.parted_price.Goals as goal

pub credit-before-requires-clause-comp : goal.credit-before-requires-clause-comp
credit-before-requires-clause-comp c = c.requires.edge.from

pub credit-after-requires-clause-comp : goal.credit-after-requires-clause-comp
credit-after-requires-clause-comp c = c.requires.edge.to

pub minus-credit_difference-requires-clause-amount : goal.minus-credit_difference-requires-clause-amount
minus-credit_difference-requires-clause-amount c = small_more most_units_price most_amount c.credit-before.result.0 (omega arith) c.credit-before.ensures.small

pub minus-credit_difference-requires-clause-other : goal.minus-credit_difference-requires-clause-other
minus-credit_difference-requires-clause-other c = small_more most_units_price most_amount c.credit-after.result.0 (omega arith) c.credit-after.ensures.small

pub minus-cost_less_credits-requires-clause-amount : goal.minus-cost_less_credits-requires-clause-amount
minus-cost_less_credits-requires-clause-amount c = small_more most_cost most_amount c.shunt_cost-cost.result.0 (omega arith) c.shunt_cost-cost.ensures.small

pub minus-cost_less_credits-requires-clause-other : goal.minus-cost_less_credits-requires-clause-other
minus-cost_less_credits-requires-clause-other c =
    small_difference most_units_price most_units_price most_amount c.credit-before.result.0 c.credit-after.result.0 c.minus-credit_difference.result.0
    (omega arith) c.minus-credit_difference.ensures c.credit-before.ensures.small c.credit-after.ensures.small

pub plus-requires-clause-amount : goal.plus-requires-clause-amount
plus-requires-clause-amount c =
    small_difference most_cost (2 * most_units_price) most_amount c.shunt_cost-cost.result.0 c.minus-credit_difference.result.0 c.minus-cost_less_credits.result.0
    (omega arith) c.minus-cost_less_credits.ensures c.shunt_cost-cost.ensures.small
    (small_difference most_units_price most_units_price (2 * most_units_price) c.credit-before.result.0 c.credit-after.result.0
    c.minus-credit_difference.result.0 (omega arith) c.minus-credit_difference.ensures c.credit-before.ensures.small c.credit-after.ensures.small)

pub plus-requires-clause-more : goal.plus-requires-clause-more
plus-requires-clause-more c =
    small_more (2 * most_units_price) most_amount c.coupled_price-coupled_price.result.0 (omega arith) c.coupled_price-coupled_price.ensures.small

pub returns-clause-value : goal.returns-clause-value
returns-clause-value c =
    let day : Day = c.args.self.now.pricing.now.instance.now in
    let entries : List Entry = c.args.self.now.pricing.now.multipliers.now in
    let arriving : ℕ = c.args.self.now.turn.arriving in
    let departing : ℕ = c.args.self.now.turn.departing in
    let units : ℕ = coupled c.args.edge.now.shunt in
    let after : List ℕ = composition_at day c.args.edge.now.to in
    let stays : List ℕ = stayed c.args.self.now.turn.couple units after in
    let coming : List ℕ = came c.args.self.now.turn.couple units after in
    let take : List ℕ → ℤ = taking day entries departing in
    let give : List ℕ → ℤ = giving day entries arriving in
    turn_is (weighted c.args.self.now.pricing.now.weight (pos (shunt_cost day c.args.edge.now.shunt))) (take after) (take stays) (take coming)
    (give (composition_at day c.args.edge.now.from)) (give after) (give stays) (give coming) c.shunt_cost-cost.result.0
    c.credit-before.result.0 c.credit-after.result.0 c.coupled_price-coupled_price.result.0 c.minus-credit_difference.result.0 c.minus-cost_less_credits.result.0 c.plus.result.0
    (parted (yard_price day entries (from_of day departing) (leaves day departing)) c.args.self.now.turn.couple units after)
    (parted (yard_price day entries (to_of day arriving) (ready_at day arriving)) c.args.self.now.turn.couple units after)
    c.shunt_cost-cost.ensures.value c.credit-before.ensures.value c.credit-after.ensures.value c.coupled_price-coupled_price.ensures.value
    c.minus-credit_difference.ensures c.minus-cost_less_credits.ensures c.plus.ensures

pub returns-clause-small : goal.returns-clause-small
returns-clause-small c =
    let day : Day = c.args.self.now.pricing.now.instance.now in
    let entries : List Entry = c.args.self.now.pricing.now.multipliers.now in
    let arriving : ℕ = c.args.self.now.turn.arriving in
    let departing : ℕ = c.args.self.now.turn.departing in
    let units : ℕ = coupled c.args.edge.now.shunt in
    let after : List ℕ = composition_at day c.args.edge.now.to in
    let stays : List ℕ = stayed c.args.self.now.turn.couple units after in
    let coming : List ℕ = came c.args.self.now.turn.couple units after in
    let taken_at : ℕ → ℤ = yard_price day entries (from_of day departing) (leaves day departing) in
    let given_at : ℕ → ℤ = yard_price day entries (to_of day arriving) (ready_at day arriving) in
    turn_small c.shunt_cost-cost.result.0 c.credit-before.result.0 c.credit-after.result.0 c.coupled_price-coupled_price.result.0
    (int_sum given_at stays) (int_sum given_at coming) (int_sum taken_at coming) c.minus-credit_difference.result.0
    c.minus-cost_less_credits.result.0 c.plus.result.0 (length stays * most_price) (length coming * most_price)
    (omega (arith, parted_long c.args.self.now.turn.couple units after, few_units day c.args.edge.now.to c.requires.edge.to))
    c.shunt_cost-cost.ensures.small c.credit-before.ensures.small
    (units_small given_at (λ m. yard_small day entries (to_of day arriving) (ready_at day arriving) m
    (are_few day entries c.requires.is.priced.multipliers_are)) stays)
    (units_small taken_at (λ m. yard_small day entries (from_of day departing) (leaves day departing) m
    (are_few day entries c.requires.is.priced.multipliers_are)) coming)
    (c.credit-after.ensures.value ∙ parted given_at c.args.self.now.turn.couple units after) c.coupled_price-coupled_price.ensures.value
    c.minus-credit_difference.ensures c.minus-cost_less_credits.ensures c.plus.ensures
