use Rattle.std.proofs.Common.{arith}
use Rattle.fleet_size.specs.Slots.{price_in}
use Rattle.fleet_size.proofs.NextBoxes.{next_at_end, next_on}
use Rattle.fleet_size.proofs.choosing.next_open.Goals as goal

pub loop-slot-init : goal.loop-slot-init
loop-slot-init c = λ k none below. absurd (omega (arith, below))

pub loop-slot-preserved : goal.loop-slot-preserved
loop-slot-preserved c =
    next_on c.args.prices.now (price_in c.args.best.now) c.args.slots.now c.loop-slot.slot c.splittable.result
    c.loop-slot.next c.earlier-next.result c.loop-slot-test.true c.splittable.ensures c.loop-slot.invariant
    c.earlier-next.ensures

pub returns : goal.returns
returns c =
    next_at_end c.args.prices.now (price_in c.args.best.now) c.args.slots.now c.loop-slot.slot c.loop-slot.next
    (omega arith) c.loop-slot.invariant
