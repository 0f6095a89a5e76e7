use Rattle.fleet_text.specs.FleetLines.{box_lines}
use Rattle.fleet_text.proofs.Written.{one_written}
use Rattle.fleet_text.proofs.printing.write_each_box.Goals as goal

pub loop-number-preserved : goal.loop-number-preserved
loop-number-preserved c =
    one_written (λ number node. box_lines node) _ _ _ c.args.nodes.now c.loop-number.number c.index-nodes-number.result
    c.loop-number-test.true c.index-nodes-number.is c.loop-number.invariant c.in_ok-write_box.ensures
