-- Once all multipliers are added, trips can look, and what they find are the prices.
use Rattle.std.proofs.Common.{◌≡◌, ap, subst, sym, ◌∙◌}
use Rattle.std.specs.Prelude.{fold}
use Rattle.price_bound.specs.declared.price_tables.PriceTables.{PriceTables}
use Rattle.price_bound.specs.PriceTables.{ArePrices, cleared, looked_up, with_entry}
use Rattle.price_bound.specs.YardTables.{CanLook}
use Rattle.price_bound.proofs.Filling.{filled, gives_can, summed, takes_can, with_prices}
use Rattle.price_bound.proofs.YardSums.{sums_none}
use Rattle.price_bound.proofs.price_tables.PriceTables.fill.Goals as goal

pub clear-requires-clause-seconds : goal.clear-requires-clause-seconds
clear-requires-clause-seconds c = c.requires.sized.clear_seconds

pub clear-requires-clause-parts : goal.clear-requires-clause-parts
clear-requires-clause-parts c = c.requires.sized.clear_parts

pub add_up-requires : goal.add_up-requires
add_up-requires c none =
    let added : c.add_all-constant.new.self ≡ fold (with_entry c.args.instance.now) (cleared c.args.self.now) c.args.multipliers.now =
    c.add_all-constant.ensures.added ∙ ap (λ (tables : PriceTables). fold (with_entry c.args.instance.now) tables c.args.multipliers.now) c.clear.ensures in
    let empty : c.add_all-constant.new.self ≡ cleared c.args.self.now =
    added ∙ ap (fold (with_entry c.args.instance.now) (cleared c.args.self.now)) none in
    subst (λ (tables : PriceTables). summed tables ≡ tables.yards) (sym empty) (sums_none c.args.self.now.yards)

pub look_up_trips-requires-clause-taken : goal.look_up_trips-requires-clause-taken
look_up_trips-requires-clause-taken c =
    let added : c.add_all-constant.new.self ≡ fold (with_entry c.args.instance.now) (cleared c.args.self.now) c.args.multipliers.now =
    c.add_all-constant.ensures.added ∙ ap (λ (tables : PriceTables). fold (with_entry c.args.instance.now) tables c.args.multipliers.now) c.clear.ensures in
    subst (λ (tables : PriceTables). CanLook tables.yards tables.taken_at.items tables.takes) (sym c.add_up.ensures)
    (subst (λ (tables : PriceTables). CanLook (summed tables) tables.taken_at.items tables.takes) (sym added)
    (takes_can c.args.instance.now c.args.multipliers.now c.args.self.now c.add_all-constant.ensures.multipliers c.requires.sized))

pub look_up_trips-requires-clause-given : goal.look_up_trips-requires-clause-given
look_up_trips-requires-clause-given c =
    let added : c.add_all-constant.new.self ≡ fold (with_entry c.args.instance.now) (cleared c.args.self.now) c.args.multipliers.now =
    c.add_all-constant.ensures.added ∙ ap (λ (tables : PriceTables). fold (with_entry c.args.instance.now) tables c.args.multipliers.now) c.clear.ensures in
    subst (λ (tables : PriceTables). CanLook tables.yards tables.given_at.items tables.gives) (sym c.add_up.ensures)
    (subst (λ (tables : PriceTables). CanLook (summed tables) tables.given_at.items tables.gives) (sym added)
    (gives_can c.args.instance.now c.args.multipliers.now c.args.self.now c.add_all-constant.ensures.multipliers c.requires.sized))

pub returns-clause-prices : goal.returns-clause-prices
returns-clause-prices c =
    let added : c.add_all-constant.new.self ≡ fold (with_entry c.args.instance.now) (cleared c.args.self.now) c.args.multipliers.now =
    c.add_all-constant.ensures.added ∙ ap (λ (tables : PriceTables). fold (with_entry c.args.instance.now) tables c.args.multipliers.now) c.clear.ensures in
    subst (ArePrices c.args.instance.now c.args.multipliers.now)
    (sym (c.look_up_trips.ensures
    ∙ ap looked_up c.add_up.ensures ∙ ap with_prices added))
    (filled c.args.instance.now c.args.multipliers.now c.args.self.now c.add_all-constant.ensures.multipliers c.requires.sized)
