use Rattle.answer_text.proofs.Written.{node_written}
use Rattle.answer_text.proofs.printing.write_nodes.Goals as goal

pub loop-node-preserved : goal.loop-node-preserved
loop-node-preserved c = node_written _ _ _ c.args.tree.now c.loop-node.node c.node.result.now c.node.ensures.value c.loop-node.invariant c.in_ok-write_node.ensures
