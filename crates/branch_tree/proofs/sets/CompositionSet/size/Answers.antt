use Rattle.std.proofs.Common.{◌≡◌, ◌<◌, length, ◌∙◌, ap, arith}
use Rattle.std.specs.Int.{from_bool}
use Rattle.branch_tree.specs.Sets.{is_member}
use Rattle.branch_tree.proofs.Members.{size_of-take, from_bool-most}
use Rattle.branch_tree.proofs.sets.CompositionSet.size.Goals as goal

pub loop-comp-preserved : goal.loop-comp-preserved
loop-comp-preserved c =
    let below : c.loop-comp.comp < length c.args.self.now = omega arith in
    let one : c.from-size.result ≡ from_bool (is_member c.args.self.now c.loop-comp.comp) = c.from-size.ensures ∙ ap from_bool c.has.ensures in
    record {
      counted = omega (arith, size_of-take c.args.self.now c.loop-comp.comp below);
      few = omega (arith, from_bool-most (is_member c.args.self.now c.loop-comp.comp));
    }
