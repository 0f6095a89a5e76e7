use Rattle.std.proofs.Common.{subst, refl, List}
use Rattle.std.specs.List.{All}
use Rattle.std.proofs.lemmas.List.{take_all}
use Rattle.std.proofs.lemmas.List.Elements.{All-more}
use Rattle.urgent_units.specs.declared.wish.WishRow.{WishRow}
use Rattle.urgent_units.specs.Wishes.{GoTogether}
use Rattle.urgent_units.proofs.wish_table.go_together.Goals as goal

pub loop-other-preserved : goal.loop-other-preserved
loop-other-preserved c =
    All-more (λ other. GoTogether c.args.instance.now other c.args.row.now) c.args.before.now c.loop-other.other-index c.other-item.result
    c.loop-other-test.true c.loop-other.invariant
    (subst (λ (other : WishRow). GoTogether c.args.instance.now other c.args.row.now) c.other-item.is (c.goes_together.ensures.0 c.if-not-goes_together.false))

pub returns : goal.returns
returns c =
    let all = take_all c.loop-other.other-index c.args.before.now c.loop-other-test.false in
    (λ _. subst (λ (rows : List WishRow). All (λ other. GoTogether c.args.instance.now other c.args.row.now) rows) all c.loop-other.invariant, λ _. refl)
