-- The rows of the trips have the prices.
use Rattle.std.proofs.Common.{◌≡◌, ◌<◌, ◌≤◌, ◌*◌, ℕ, ℤ, List, length, ap, arith, sym, subst, ◌-ℤ◌, ◌∙◌}
use Rattle.std.specs.List.{All}
use Rattle.rail_base.specs.declared.limits.TheConstants.{MAX_COMPOSITION_UNITS}
use Rattle.rules.specs.declared.records.End.{End}
use Rattle.timetable.specs.Compositions.{composition_at}
use Rattle.timetable.specs.Day.{Day}
use Rattle.branch_tree.specs.declared.multipliers.Entry.{Entry}
use Rattle.price_bound.specs.CellSizes.{most_amount, most_units_price}
use Rattle.price_bound.specs.EdgeValues.{came, coupled}
use Rattle.price_bound.specs.YardPrices.{giving, taking}
use Rattle.price_bound.proofs.Adding.{small_difference, small_more}
use Rattle.price_bound.proofs.TripAndLinkPrices.{given_at, gives_row_long, gives_row_small, taken_at, takes_row_long}
use Rattle.price_bound.proofs.TripAndLinkPrices.{takes_row_small}
use Rattle.price_bound.proofs.Summing.{came_below, came_few, none_came}
use Rattle.price_bound.proofs.turn_prices.TurnPrices.coupled_price.Goals as goal

known_came : (end : End) (units : ℕ) (ms new : List ℕ) (n : ℕ) → new ≡ came end units ms → All (λ m. m < n) ms → All (λ m. m < n) new
known_came end units ms new n is known = subst (All (λ (m : ℕ). m < n)) (sym is) (came_below n end units ms known)

pub types_of-requires : goal.types_of-requires
types_of-requires c = c.requires.edge.to

pub returns-then-units-eq0-clause-value : goal.returns-then-units-eq0-clause-value
returns-then-units-eq0-clause-value c =
    let day : Day = c.args.self.now.pricing.now.instance.now in
    let entries : List Entry = c.args.self.now.pricing.now.multipliers.now in
    ap (λ (ms : List ℕ). taking day entries c.args.self.now.turn.departing ms -ℤ giving day entries c.args.self.now.turn.arriving ms)
    (sym (none_came c.args.self.now.turn.couple (coupled c.args.edge.now.shunt) (composition_at day c.args.edge.now.to)
    (sym c.coupled-units.ensures ∙ c.if-units-eq0.true)))

pub sum_in-requires-clause-few : goal.sum_in-requires-clause-few
sum_in-requires-clause-few c =
    subst (λ (ms : List ℕ). length ms ≤ MAX_COMPOSITION_UNITS) (sym c.came-came.ensures)
    (came_few c.args.self.now.turn.couple c.coupled-units.result c.types_of.result.now MAX_COMPOSITION_UNITS c.types_of.ensures.few)

pub sum_in-requires-2-clause-few : goal.sum_in-requires-2-clause-few
sum_in-requires-2-clause-few c =
    subst (λ (ms : List ℕ). length ms ≤ MAX_COMPOSITION_UNITS) (sym c.came-came.ensures)
    (came_few c.args.self.now.turn.couple c.coupled-units.result c.types_of.result.now MAX_COMPOSITION_UNITS c.types_of.ensures.few)

pub sum_in-requires-clause-known : goal.sum_in-requires-clause-known
sum_in-requires-clause-known c =
    subst (λ (n : ℕ). All (λ m. m < n) c.came-came.result.now)
    (sym (takes_row_long c.args.self.now.pricing.now c.requires.is.priced c.args.self.now.turn.departing c.requires.is.turn.departing
    c.args.self.now.takes.now c.requires.is.takes))
    (known_came c.args.self.now.turn.couple c.coupled-units.result c.types_of.result.now c.came-came.result.now
    (length c.args.self.now.pricing.now.instance.now.types) c.came-came.ensures c.types_of.ensures.known)

pub sum_in-requires-2-clause-known : goal.sum_in-requires-2-clause-known
sum_in-requires-2-clause-known c =
    subst (λ (n : ℕ). All (λ m. m < n) c.came-came.result.now)
    (sym (gives_row_long c.args.self.now.pricing.now c.requires.is.priced c.args.self.now.turn.arriving c.requires.is.turn.arriving
    c.args.self.now.gives.now c.requires.is.gives))
    (known_came c.args.self.now.turn.couple c.coupled-units.result c.types_of.result.now c.came-came.result.now
    (length c.args.self.now.pricing.now.instance.now.types) c.came-came.ensures c.types_of.ensures.known)

pub minus-requires-clause-amount : goal.minus-requires-clause-amount
minus-requires-clause-amount c = small_more most_units_price most_amount c.sum_in.result.0 (omega arith) c.sum_in.ensures.small

pub minus-requires-clause-other : goal.minus-requires-clause-other
minus-requires-clause-other c = small_more most_units_price most_amount c.sum_in-2.result.0 (omega arith) c.sum_in-2.ensures.small

pub returns-clause-small : goal.returns-clause-small
returns-clause-small c =
    small_difference most_units_price most_units_price (2 * most_units_price) c.sum_in.result.0 c.sum_in-2.result.0 c.minus.result.0
    (omega arith) c.minus.ensures c.sum_in.ensures.small c.sum_in-2.ensures.small

pub sum_in-requires-clause-small : goal.sum_in-requires-clause-small
sum_in-requires-clause-small c =
    takes_row_small c.args.self.now.pricing.now c.requires.is.priced c.args.self.now.turn.departing c.requires.is.turn.departing
    c.args.self.now.takes.now c.requires.is.takes

pub sum_in-requires-2-clause-small : goal.sum_in-requires-2-clause-small
sum_in-requires-2-clause-small c =
    gives_row_small c.args.self.now.pricing.now c.requires.is.priced c.args.self.now.turn.arriving c.requires.is.turn.arriving
    c.args.self.now.gives.now c.requires.is.gives

pub returns-clause-value : goal.returns-clause-value
returns-clause-value c =
    let day : Day = c.args.self.now.pricing.now.instance.now in
    let entries : List Entry = c.args.self.now.pricing.now.multipliers.now in
    let units : ℕ = coupled c.args.edge.now.shunt in
    let after : List ℕ = composition_at day c.args.edge.now.to in
    let take : List ℕ → ℤ = taking day entries c.args.self.now.turn.departing in
    let give : List ℕ → ℤ = giving day entries c.args.self.now.turn.arriving in
    let known : All (λ m. m < length day.types) c.came-came.result.now =
    known_came c.args.self.now.turn.couple c.coupled-units.result c.types_of.result.now c.came-came.result.now (length day.types)
    c.came-came.ensures c.types_of.ensures.known in
    let came_is : c.came-came.result.now ≡ came c.args.self.now.turn.couple units after =
    c.came-came.ensures ∙ (ap (λ (n : ℕ). came c.args.self.now.turn.couple n c.types_of.result.now) c.coupled-units.ensures
    ∙ ap (came c.args.self.now.turn.couple units) c.types_of.ensures.value) in
    let taken : c.sum_in.result.0 ≡ take (came c.args.self.now.turn.couple units after) =
    c.sum_in.ensures.value ∙ (taken_at c.args.self.now.pricing.now c.requires.is.priced c.args.self.now.turn.departing
    c.requires.is.turn.departing c.args.self.now.takes.now c.requires.is.takes c.came-came.result.now known ∙ ap take came_is) in
    let given : c.sum_in-2.result.0 ≡ give (came c.args.self.now.turn.couple units after) =
    c.sum_in-2.ensures.value ∙ (given_at c.args.self.now.pricing.now c.requires.is.priced c.args.self.now.turn.arriving
    c.requires.is.turn.arriving c.args.self.now.gives.now c.requires.is.gives c.came-came.result.now known ∙ ap give came_is) in
    c.minus.ensures ∙ (ap (λ (z : ℤ). z -ℤ c.sum_in-2.result.0) taken
    ∙ ap (λ (z : ℤ). take (came c.args.self.now.turn.couple units after) -ℤ z) given)
