use Rattle.std.proofs.Common.{◌≡◌, [], pos, ◌+ℤ◌, true, false, sym, ◌∙◌, ap, arith}
use Rattle.std.proofs.lemmas.Int.{ints}
use Rattle.std.proofs.lemmas.List.{nil_from_length}
use Rattle.branch_tree.specs.Entries.{value_at}
use Rattle.branch_tree.specs.Meanings.{priced, weighted}
use Rattle.worked_bounds.specs.LonePicks.{is_short, lone, lone_picks}
use Rattle.worked_bounds.proofs.LonePrices.{short_price, solved_price, free_price}
use Rattle.worked_bounds.proofs.lone_picks.price.Goals as goal

pub returns-then-len-eq0 : goal.returns-then-len-eq0
returns-then-len-eq0 c =
    let none : c.args.multipliers.now ≡ [] = nil_from_length c.args.multipliers.now (sym c.len.ensures.value ∙ c.if-len-eq0.true) in
    let whole : priced (lone_picks c.args.catalogue.now) c.args.multipliers.now c.args.weight lone ≡ weighted c.args.weight (pos 7) =
    ap (λ multipliers. priced (lone_picks c.args.catalogue.now) multipliers c.args.weight lone) none ∙ free_price c.args.catalogue.now c.args.weight in
    omega (arith, ints, whole, c.cost-cost.ensures.value)

pub returns-then-not-is_short : goal.returns-then-not-is_short
returns-then-not-is_short c =
    let enough : is_short c.args.catalogue.now ≡ false = sym c.is_short.ensures ∙ c.if-not-is_short.true in
    omega (arith, ints, solved_price c.args.catalogue.now c.args.multipliers.now c.args.weight enough, c.cost-cost.ensures.value)

pub returns : goal.returns
returns c =
    let short : is_short c.args.catalogue.now ≡ true = sym c.is_short.ensures ∙ c.if-not-is_short.false in
    let whole : priced (lone_picks c.args.catalogue.now) c.args.multipliers.now c.args.weight lone ≡ (weighted c.args.weight (pos 7) +ℤ value_at c.args.multipliers.now 0) =
    short_price c.args.catalogue.now c.args.multipliers.now c.args.weight short c.len.ensures.multipliers c.requires in
    omega (arith, ints, whole, c.cost-cost.ensures.value, c.value.ensures, c.from.ensures)
