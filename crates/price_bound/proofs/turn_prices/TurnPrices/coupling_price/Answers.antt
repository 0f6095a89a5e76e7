-- The cost of shunting, and the price of what departs less that of what had arrived.
use Rattle.std.proofs.Common.{◌≡◌, ◌*◌, ℕ, ℤ, pos, ◌+ℤ◌, ◌-ℤ◌, arith}
use Rattle.std.proofs.lemmas.Int.{ints}
use Rattle.timetable.specs.Compositions.{composition_at}
use Rattle.timetable.specs.Day.{Day}
use Rattle.branch_tree.specs.Meanings.{weighted}
use Rattle.price_bound.specs.CellSizes.{most_amount, most_cost, most_units_price}
use Rattle.price_bound.specs.YardPrices.{taking}
use Rattle.price_bound.proofs.Adding.{small_difference, small_more, small_total}
use Rattle.price_bound.proofs.turn_prices.TurnPrices.coupling_price.Goals as goal

total : (cost to from paid before after taken whole : ℤ) → paid ≡ cost → before ≡ from → after ≡ to → taken ≡ after -ℤ before → whole ≡ paid +ℤ taken
    → whole ≡ cost +ℤ (to -ℤ from)
total cost to from paid before after taken whole e f g h i = omega (arith, ints, e, f, g, h, i)

pub debit-arrived-requires-clause-comp : goal.debit-arrived-requires-clause-comp
debit-arrived-requires-clause-comp c = c.requires.edge.from

pub debit-departing-requires-clause-comp : goal.debit-departing-requires-clause-comp
debit-departing-requires-clause-comp c = c.requires.edge.to

pub minus-requires-clause-amount : goal.minus-requires-clause-amount
minus-requires-clause-amount c = small_more most_units_price most_amount c.debit-departing.result.0 (omega arith) c.debit-departing.ensures.small

pub minus-requires-clause-other : goal.minus-requires-clause-other
minus-requires-clause-other c = small_more most_units_price most_amount c.debit-arrived.result.0 (omega arith) c.debit-arrived.ensures.small

pub plus-requires-clause-amount : goal.plus-requires-clause-amount
plus-requires-clause-amount c = small_more most_cost most_amount c.args.self.now.shunting.0 (omega arith) c.requires.is.small

pub plus-requires-clause-more : goal.plus-requires-clause-more
plus-requires-clause-more c =
    small_difference most_units_price most_units_price most_amount c.debit-departing.result.0 c.debit-arrived.result.0 c.minus.result.0
    (omega arith) c.minus.ensures c.debit-departing.ensures.small c.debit-arrived.ensures.small

pub returns-clause-value : goal.returns-clause-value
returns-clause-value c =
    let day : Day = c.args.self.now.pricing.now.instance.now in
    let take : ℕ → ℤ = λ comp. taking day c.args.self.now.pricing.now.multipliers.now c.args.self.now.turn.departing (composition_at day comp) in
    total (weighted c.args.self.now.pricing.now.weight (pos day.weights.shunting)) (take c.args.edge.now.to) (take c.args.edge.now.from)
    c.args.self.now.shunting.0 c.debit-arrived.result.0 c.debit-departing.result.0 c.minus.result.0 c.plus.result.0
    c.requires.is.shunting c.debit-arrived.ensures.value c.debit-departing.ensures.value c.minus.ensures c.plus.ensures

pub returns-clause-small : goal.returns-clause-small
returns-clause-small c =
    small_total most_cost (2 * most_units_price) 13000000000000000 c.args.self.now.shunting.0 c.minus.result.0 c.plus.result.0
    (omega arith) c.plus.ensures c.requires.is.small
    (small_difference most_units_price most_units_price (2 * most_units_price) c.debit-departing.result.0 c.debit-arrived.result.0 c.minus.result.0
    (omega arith) c.minus.ensures c.debit-departing.ensures.small c.debit-arrived.ensures.small)
