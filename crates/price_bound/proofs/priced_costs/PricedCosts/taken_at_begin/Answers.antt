-- The row of the trip has the prices of the members of its set.
use Rattle.std.proofs.Common.{◌≡◌, ℕ, Bool, suc, List, length, ℤ, true, arith, pos, ap, sym, subst, ◌∙◌}
use Rattle.std.specs.Prelude.{if◌then◌else◌, is_none}
use Rattle.timetable.specs.Compositions.{compositions_of, composition_at}
use Rattle.timetable.specs.Day.{Day}
use Rattle.timetable.specs.Links.{incoming}
use Rattle.branch_tree.specs.declared.multipliers.Entry.{Entry}
use Rattle.price_bound.specs.CellSizes.{IsSmall, most_units_price}
use Rattle.price_bound.specs.YardPrices.{taking}
use Rattle.price_bound.proofs.TripAndLinkPrices.{unit_price_at, unit_price_small, unit_prices_long}
use Rattle.price_bound.proofs.priced_costs.PricedCosts.taken_at_begin.Goals as goal

pub amount_for-requires : goal.amount_for-requires
amount_for-requires c =
    let day : Day = c.args.self.now.pricing.now.instance.now in
    omega (
      arith,
      c.requires.comp,
      unit_prices_long (length day.trips) (suc (length (compositions_of day))) c.args.self.now.pricing.now.sums.now.debits
          c.requires.is.priced.sums.debits.sized c.args.self.now.trip c.requires.is.known c.args.self.now.debits.now c.requires.is.debits,
    )

pub returns-clause-value : goal.returns-clause-value
returns-clause-value c =
    let day : Day = c.args.self.now.pricing.now.instance.now in
    let entries : List Entry = c.args.self.now.pricing.now.multipliers.now in
    let trip : ℕ = c.args.self.now.trip in
    let is : is_none (incoming day trip) ≡ true = sym c.requires.is.begins ∙ c.if-not-self.false in
    c.amount_for.ensures
    ∙ (unit_price_at day (taking day entries) c.args.self.now.pricing.now.sums.now.debits trip c.args.comp
    (c.requires.is.priced.sums.debits.members trip c.args.comp c.requires.is.known c.requires.comp c.requires.member)
    c.args.self.now.debits.now c.requires.is.debits
    ∙ sym (ap (λ (b : Bool). if b then taking day entries trip (composition_at day c.args.comp) else pos 0) is))

pub returns-clause-small : goal.returns-clause-small
returns-clause-small c =
    let day : Day = c.args.self.now.pricing.now.instance.now in
    let price : ℕ → List ℕ → ℤ = taking day c.args.self.now.pricing.now.multipliers.now in
    subst (IsSmall most_units_price) (sym c.amount_for.ensures)
    (unit_price_small day price c.args.self.now.pricing.now.sums.now.debits c.args.self.now.trip c.args.comp
    (c.requires.is.priced.sums.debits.members c.args.self.now.trip c.args.comp c.requires.is.known c.requires.comp c.requires.member)
    c.args.self.now.debits.now c.requires.is.debits)
