use Rattle.std.proofs.Common.{arith}
use Rattle.branch_tree.proofs.Rising.{rising-before, rising-after}
use Rattle.branch_tree.proofs.multipliers.place_of.Goals as goal

pub loop-low-preserved-then-entries-middle : goal.loop-low-preserved-then-entries-middle
loop-low-preserved-then-entries-middle c = record {
  order = omega arith;
  within = c.loop-low.invariant.within;
  before = rising-before c.args.entries.now c.args.index _ _ c.requires (omega arith) c.if-entries-middle.true;
  after = c.loop-low.invariant.after;
}

pub loop-low-preserved : goal.loop-low-preserved
loop-low-preserved c = record {
  order = omega arith;
  within = omega arith;
  before = c.loop-low.invariant.before;
  after = rising-after c.args.entries.now c.args.index _ _ c.requires (omega arith) c.if-entries-middle.false;
}
