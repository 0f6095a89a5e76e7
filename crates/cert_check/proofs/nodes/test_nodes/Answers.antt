use Rattle.std.proofs.Common.{◌≡◌, ◌++◌, length, refl, sym, ◌∙◌, ap, subst, arith}
use Rattle.branch_tree.specs.Claims.{IsProvedAt}
use Rattle.branch_tree.specs.Trees.{regions_below}
use Rattle.cert_check.specs.Paths.{left_in, AreTaken, IsAtFirst}
use Rattle.cert_check.specs.Reasons.{node_tests}
use Rattle.cert_check.specs.Tests.{FirstFails}
use Rattle.cert_check.proofs.Here.{begins, stops, goes_on, inside_here, length_here}
use Rattle.cert_check.proofs.nodes.test_nodes.Goals as goal

pub loop-number-init : goal.loop-number-init
loop-number-init g c = record {
  same = refl;
  here = begins (g.R.Relaxation.meanings (g.R.Relaxation.problem c.args.problem.now)) c.args.root.now c.args.tree.now c.args.taken.now.items c.requires.whole c.requires.taken;
  best = refl;
  few = omega (arith, ap length c.requires.taken);
  room = omega arith;
}

pub test_node-requires-clause-region : goal.test_node-requires-clause-region
test_node-requires-clause-region g c =
    length_here (g.R.Relaxation.meanings (g.R.Relaxation.problem c.args.problem.now)) c.args.root.now c.args.tree.now c.loop-number.number c.loop-number.taken.items c.loop-number.root c.loop-number.invariant.here
    ∙ c.requires.root ∙ ap (λ p. (g.R.Relaxation.meanings p).trips) (sym c.loop-number.invariant.same)

pub go_back-requires : goal.go_back-requires
go_back-requires g c =
    inside_here (g.R.Relaxation.meanings (g.R.Relaxation.problem c.args.problem.now)) c.args.root.now c.args.tree.now c.loop-number.number c.loop-number.taken.items c.loop-number.root c.loop-number.invariant.here

pub returns-in-Err-clause-reason : goal.returns-in-Err-clause-reason
returns-in-Err-clause-reason g c =
    stops (g.R.Relaxation.meanings (g.R.Relaxation.problem c.args.problem.now)) c.args.root.now c.args.tree.now c.loop-number.number c.loop-number.taken.items c.loop-number.root c.node-node.result.now c.in-Err.reason
    (omega arith) c.node-node.ensures.value c.loop-number.invariant.here
    (subst (λ p. FirstFails (node_tests (g.R.Relaxation.meanings p) c.loop-number.number c.loop-number.root c.node-node.result.now) c.in-Err.reason) c.loop-number.invariant.same c.in-Err.ensures.reason)

pub loop-number-preserved : goal.loop-number-preserved
loop-number-preserved g c =
    let problem = g.R.Relaxation.meanings (g.R.Relaxation.problem c.args.problem.now) in
    let region = c.loop-number.root in
    let taken = c.loop-number.taken.items in
    let node = c.node-node.result.now in
    let catalogue : c.catalogue.result.now ≡ problem.catalogue =
    c.catalogue.ensures ∙ ap (λ p. (g.R.Relaxation.meanings p).catalogue) (c.test_node.ensures.problem ∙ c.loop-number.invariant.same) in
    record {
      same = c.test_node.ensures.problem ∙ c.loop-number.invariant.same;
      here = goes_on problem c.args.root.now c.args.tree.now c.loop-number.number taken region node c.go_on.new.taken.items c.go_on.new.region (omega arith) c.node-node.ensures.value c.loop-number.invariant.here
          (subst (λ p. IsProvedAt (g.R.Relaxation.meanings p) region node) c.loop-number.invariant.same c.in_default.ensures.passed)
          (record {
            first = subst (λ found. IsAtFirst problem.catalogue (regions_below problem.catalogue region found ++ left_in problem.catalogue taken region) c.go_on.new.taken.items c.go_on.new.region) c.cut.ensures
                (subst (λ k. IsAtFirst k (regions_below k region c.cut.result ++ left_in k taken region) c.go_on.new.taken.items c.go_on.new.region) catalogue c.go_on.ensures.first);
            back = c.go_on.ensures.root;
            marks = subst (λ k. AreTaken k c.go_on.new.taken.items c.go_on.new.region) catalogue c.go_on.ensures.taken;
          });
      best = c.test_node.ensures.best ∙ c.loop-number.invariant.best;
      few = omega (arith, c.go_on.ensures.length, c.loop-number.invariant.few);
      room = omega (arith, c.go_on.ensures.room, c.loop-number.invariant.room);
    }
