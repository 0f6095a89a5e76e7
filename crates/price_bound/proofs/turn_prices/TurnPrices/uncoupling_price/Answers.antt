-- The cost of shunting, less the price of what had arrived and that of what departs taken from it.
use Rattle.std.proofs.Common.{◌≡◌, ◌*◌, ℕ, ℤ, pos, ◌-ℤ◌, arith}
use Rattle.std.proofs.lemmas.Int.{ints}
use Rattle.timetable.specs.Compositions.{composition_at}
use Rattle.timetable.specs.Day.{Day}
use Rattle.branch_tree.specs.Meanings.{weighted}
use Rattle.price_bound.specs.CellSizes.{most_amount, most_cost, most_units_price}
use Rattle.price_bound.specs.YardPrices.{giving}
use Rattle.price_bound.proofs.Adding.{small_difference, small_more}
use Rattle.price_bound.proofs.turn_prices.TurnPrices.uncoupling_price.Goals as goal

total : (cost from to paid before after given whole : ℤ) → paid ≡ cost → before ≡ from → after ≡ to → given ≡ before -ℤ after → whole ≡ paid -ℤ given
    → whole ≡ cost -ℤ (from -ℤ to)
total cost from to paid before after given whole e f g h i = omega (arith, ints, e, f, g, h, i)

pub credit-arrived-requires-clause-comp : goal.credit-arrived-requires-clause-comp
credit-arrived-requires-clause-comp c = c.requires.edge.from

pub credit-departing-requires-clause-comp : goal.credit-departing-requires-clause-comp
credit-departing-requires-clause-comp c = c.requires.edge.to

pub minus-requires-clause-amount : goal.minus-requires-clause-amount
minus-requires-clause-amount c = small_more most_units_price most_amount c.credit-arrived.result.0 (omega arith) c.credit-arrived.ensures.small

pub minus-requires-clause-other : goal.minus-requires-clause-other
minus-requires-clause-other c = small_more most_units_price most_amount c.credit-departing.result.0 (omega arith) c.credit-departing.ensures.small

pub minus-requires-2-clause-amount : goal.minus-requires-2-clause-amount
minus-requires-2-clause-amount c = small_more most_cost most_amount c.args.self.now.shunting.0 (omega arith) c.requires.is.small

pub minus-requires-2-clause-other : goal.minus-requires-2-clause-other
minus-requires-2-clause-other c =
    small_difference most_units_price most_units_price most_amount c.credit-arrived.result.0 c.credit-departing.result.0 c.minus.result.0
    (omega arith) c.minus.ensures c.credit-arrived.ensures.small c.credit-departing.ensures.small

pub returns-clause-value : goal.returns-clause-value
returns-clause-value c =
    let day : Day = c.args.self.now.pricing.now.instance.now in
    let give : ℕ → ℤ = λ comp. giving day c.args.self.now.pricing.now.multipliers.now c.args.self.now.turn.arriving (composition_at day comp) in
    total (weighted c.args.self.now.pricing.now.weight (pos day.weights.shunting)) (give c.args.edge.now.from) (give c.args.edge.now.to)
    c.args.self.now.shunting.0 c.credit-arrived.result.0 c.credit-departing.result.0 c.minus.result.0 c.minus-2.result.0
    c.requires.is.shunting c.credit-arrived.ensures.value c.credit-departing.ensures.value c.minus.ensures c.minus-2.ensures

pub returns-clause-small : goal.returns-clause-small
returns-clause-small c =
    small_difference most_cost (2 * most_units_price) 13000000000000000 c.args.self.now.shunting.0 c.minus.result.0 c.minus-2.result.0
    (omega arith) c.minus-2.ensures c.requires.is.small
    (small_difference most_units_price most_units_price (2 * most_units_price) c.credit-arrived.result.0 c.credit-departing.result.0 c.minus.result.0
    (omega arith) c.minus.ensures c.credit-arrived.ensures.small c.credit-departing.ensures.small)
