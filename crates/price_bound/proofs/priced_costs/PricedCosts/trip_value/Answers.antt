-- What a trip adds is the sum of its parts, and as small as they are.
use Rattle.std.proofs.Common.{◌≡◌, ◌+◌, ℤ, pos, ◌+ℤ◌, ◌-ℤ◌, Bool, true, false, arith}
use Rattle.std.specs.Prelude.{if◌then◌else◌, is_none}
use Rattle.std.proofs.lemmas.Int.{ints}
use Rattle.timetable.specs.Links.{outgoing}
use Rattle.price_bound.specs.CellSizes.{IsSmall, most_amount, most_cost, most_price, most_units_price, most_priced_cost}
use Rattle.price_bound.specs.Regrouped.{trip_value}
use Rattle.price_bound.proofs.Adding.{small_difference, small_more, small_total}
use Rattle.price_bound.proofs.priced_costs.PricedCosts.trip_value.Goals as goal

trip_is : (cost take give second paid taken given seconds cost_and_taken less_given whole : ℤ) → paid ≡ cost → taken ≡ take → given ≡ give
    → seconds ≡ second → cost_and_taken ≡ paid +ℤ taken → less_given ≡ cost_and_taken -ℤ given → whole ≡ less_given -ℤ seconds
    → whole ≡ cost +ℤ take -ℤ give -ℤ second
trip_is cost take give second paid taken given seconds cost_and_taken less_given whole e f g h i j k = omega (arith, ints, e, f, g, h, i, j, k)

-- nothing is given where a link leads on
priced_cost_small : (ends : Bool) (give paid taken given seconds cost_and_taken less_given whole : ℤ) → given ≡ (if ends then give else pos 0)
    → IsSmall most_cost paid → IsSmall most_units_price taken → IsSmall most_units_price given → IsSmall most_price seconds
    → cost_and_taken ≡ paid +ℤ taken → less_given ≡ cost_and_taken -ℤ given → whole ≡ less_given -ℤ seconds → IsSmall (most_priced_cost ends) whole
priced_cost_small true give paid taken given seconds cost_and_taken less_given whole is p q r s e f g = record {
  above = omega (arith, ints, p.above, q.above, r.below, s.below, e, f, g);
  below = omega (arith, ints, p.below, q.below, r.above, s.above, e, f, g);
}
priced_cost_small false give paid taken given seconds cost_and_taken less_given whole is p q r s e f g = record {
  above = omega (arith, ints, is, p.above, q.above, s.below, e, f, g);
  below = omega (arith, ints, is, p.below, q.below, s.above, e, f, g);
}

pub plus-cost_and_taken-requires-clause-amount : goal.plus-cost_and_taken-requires-clause-amount
plus-cost_and_taken-requires-clause-amount c = small_more most_cost most_amount c.args.cost.0 (omega arith) c.requires.few

pub plus-cost_and_taken-requires-clause-more : goal.plus-cost_and_taken-requires-clause-more
plus-cost_and_taken-requires-clause-more c =
    small_more most_units_price most_amount c.taken_at_begin-taken_price.result.0 (omega arith) c.taken_at_begin-taken_price.ensures.small

pub minus-less_given-requires-clause-amount : goal.minus-less_given-requires-clause-amount
minus-less_given-requires-clause-amount c =
    small_total most_cost most_units_price most_amount c.args.cost.0 c.taken_at_begin-taken_price.result.0 c.plus-cost_and_taken.result.0 (omega arith)
    c.plus-cost_and_taken.ensures c.requires.few c.taken_at_begin-taken_price.ensures.small

pub minus-less_given-requires-clause-other : goal.minus-less_given-requires-clause-other
minus-less_given-requires-clause-other c =
    small_more most_units_price most_amount c.given_at_end-given_price.result.0 (omega arith) c.given_at_end-given_price.ensures.small

pub minus-requires-clause-amount : goal.minus-requires-clause-amount
minus-requires-clause-amount c =
    small_difference (most_cost + most_units_price) most_units_price most_amount c.plus-cost_and_taken.result.0 c.given_at_end-given_price.result.0
    c.minus-less_given.result.0 (omega arith) c.minus-less_given.ensures
    (small_total most_cost most_units_price (most_cost + most_units_price) c.args.cost.0 c.taken_at_begin-taken_price.result.0
    c.plus-cost_and_taken.result.0 (omega arith) c.plus-cost_and_taken.ensures c.requires.few c.taken_at_begin-taken_price.ensures.small)
    c.given_at_end-given_price.ensures.small

pub minus-requires-clause-other : goal.minus-requires-clause-other
minus-requires-clause-other c = small_more most_price most_amount c.second-second_price.result.0 (omega arith) c.second-second_price.ensures.small

pub returns-clause-value : goal.returns-clause-value
unfolding trip_value
returns-clause-value c =
    trip_is _ _ _ _ c.args.cost.0 c.taken_at_begin-taken_price.result.0 c.given_at_end-given_price.result.0 c.second-second_price.result.0
    c.plus-cost_and_taken.result.0 c.minus-less_given.result.0 c.minus.result.0 c.requires.cost c.taken_at_begin-taken_price.ensures.value
    c.given_at_end-given_price.ensures.value c.second-second_price.ensures.value c.plus-cost_and_taken.ensures c.minus-less_given.ensures c.minus.ensures

pub returns-clause-small : goal.returns-clause-small
returns-clause-small c =
    priced_cost_small (is_none (outgoing c.args.self.now.pricing.now.instance.now c.args.self.now.trip)) _ c.args.cost.0
    c.taken_at_begin-taken_price.result.0 c.given_at_end-given_price.result.0 c.second-second_price.result.0 c.plus-cost_and_taken.result.0
    c.minus-less_given.result.0 c.minus.result.0 c.given_at_end-given_price.ensures.value c.requires.few
    c.taken_at_begin-taken_price.ensures.small c.given_at_end-given_price.ensures.small c.second-second_price.ensures.small
    c.plus-cost_and_taken.ensures c.minus-less_given.ensures c.minus.ensures
