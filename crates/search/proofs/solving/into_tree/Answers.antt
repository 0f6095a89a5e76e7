use Rattle.std.proofs.Common.{◌≡◌, ◌+◌, length, arith}
use Rattle.search.proofs.Finishing.{all_moved, length-moved}
use Rattle.search.proofs.solving.into_tree.Goals as goal

pub push-requires : goal.push-requires
push-requires c =
    let many : length c.loop-node.tree + length c.loop-node.nodes.items ≡ length c.args.nodes.items =
    length-moved c.loop-node.tree c.loop-node.nodes.items c.args.nodes.items c.loop-node.invariant in
    omega (arith, many, c.in-Some.ensures.cases, c.requires)

pub returns : goal.returns
returns c = all_moved c.loop-node.tree c.loop-node.nodes.items c.args.nodes.items (omega (arith, c.in_default.ensures.cases.0)) c.loop-node.invariant
