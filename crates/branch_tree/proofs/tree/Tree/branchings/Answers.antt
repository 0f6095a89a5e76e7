use Rattle.std.proofs.Common.{◌≡◌, ◌<◌, is_some, get_or, length, Some, sym, ◌∙◌, ap, subst, arith}
use Rattle.std.specs.Int.{from_bool}
use Rattle.std.proofs.lemmas.List.{take_all}
use Rattle.std.proofs.lemmas.List.Elements.{All-more}
use Rattle.std.proofs.lemmas.Option.{slice_get-get_or}
use Rattle.branch_tree.specs.declared.tree.Node.{Node}
use Rattle.branch_tree.specs.Entries.{AreMultipliers}
use Rattle.branch_tree.specs.Trees.{KeepLimits, cut_of, multipliers_of}
use Rattle.branch_tree.proofs.Branches.{branches_in-take}
use Rattle.branch_tree.proofs.Members.{from_bool-most}
use Rattle.branch_tree.proofs.tree.Tree.branchings.Goals as goal

pub loop-number-preserved : goal.loop-number-preserved
loop-number-preserved c =
    let nodes = c.args.self.now in
    let at = c.loop-number.number in
    let node : Node = c.node-node.result.now in
    let below : at < length nodes = omega (arith, c.loop-number-test.true, c.len-number-end.ensures.value) in
    let there : Some (get_or nodes at node) ≡ Some node =
    sym (slice_get-get_or nodes at node below) ∙ c.node-node.ensures.value in
    let same : get_or nodes at node ≡ node = cc in
    let one : c.from-branchings.result ≡ from_bool (is_some (cut_of (get_or nodes at node))) =
    c.from-branchings.ensures ∙ ap from_bool (c.is_some.ensures ∙ ap is_some (c.cut.ensures ∙ ap cut_of (sym same))) in
    record {
      counted = omega (arith, branches_in-take cut_of nodes at node below);
      few = omega (arith, from_bool-most (is_some (cut_of (get_or nodes at node))));
      within = All-more (λ (n : Node). AreMultipliers (multipliers_of n)) nodes at node below c.loop-number.invariant.within
          (subst (λ (n : Node). AreMultipliers (multipliers_of n)) (sym same) c.node-node.ensures.within);
    }

pub returns-clause-within : goal.returns-clause-within
returns-clause-within c =
    subst KeepLimits (take_all c.loop-number.number c.args.self.now
    (omega (arith, c.loop-number-test.false, c.len-number-end.ensures.value))) c.loop-number.invariant.within
