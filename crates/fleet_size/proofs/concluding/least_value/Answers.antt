use Rattle.std.proofs.Common.{◌+◌, ◌∙◌, Option, List, ap, arith, refl, subst, sym, take}
use Rattle.rail_base.specs.declared.numbers.Money.{Money}
use Rattle.branch_tree.specs.Trees.{IsLeastOf}
use Rattle.fleet_size.specs.declared.slots.Slot.{Slot}
use Rattle.fleet_size.specs.Values.{lower_of, values_at}
use Rattle.fleet_size.proofs.NextBoxes.{least_more, take_whole}
use Rattle.fleet_size.proofs.concluding.least_value.Goals as goal

pub loop-place-init : goal.loop-place-init
loop-place-init c = refl

pub loop-place-preserved : goal.loop-place-preserved
loop-place-preserved c =
    subst (λ (least : Option Money). IsLeastOf (values_at c.args.prices.now (take (c.loop-place.place + 1) c.args.slots.now)) least)
    (sym (c.lower_of-least.ensures ∙ ap (lower_of c.loop-place.least) c.value_of.ensures))
    (least_more c.args.prices.now c.args.slots.now c.loop-place.place c.index-slots-place.result c.loop-place.least
    c.loop-place-test.true c.index-slots-place.is c.loop-place.invariant)

pub returns : goal.returns
returns c =
    subst (λ (slots : List Slot). IsLeastOf (values_at c.args.prices.now slots) c.loop-place.least)
    (take_whole c.args.slots.now c.loop-place.place (omega arith)) c.loop-place.invariant
