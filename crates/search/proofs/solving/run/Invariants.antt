use Rattle.std.proofs.Common.{◌≡◌, ◌+◌, ◌*◌}
use Rattle.branch_tree.specs.Trees.{branchings_of}
use Rattle.search.specs.Questions.{AreAsked, AreTheSame, in_rounds}
use Rattle.search.specs.Ends.{made_or_open}
use Rattle.search.specs.Nodes.{tree_nodes}
use Rattle.search.specs.Putting.{IsUnderWay}
use Rattle.search.specs.Conclusions.{plan_in}
use Rattle.search.proofs.solving.run.Given as goal

abbrev pub invariant-loop-branching : goal.invariant-loop-branching
invariant-loop-branching g l = record {
  same : g.R.Relaxation.problem l.problem ≡ g.R.Relaxation.problem l.fn.problem;
  accepted : g.R.Relaxation.IsWellPosed (g.R.Relaxation.problem l.fn.problem);
  under_way : IsUnderWay (g.R.Relaxation.meanings (g.R.Relaxation.problem l.fn.problem)) l.terms.root.now l.search;
  made : branchings_of (tree_nodes l.search.nodes.items) ≡ l._branching;
  advisors : AreTheSame l.fn.advisors.items l.advisors.items (λ b. (goal.Advisor-dyn g (b.vtable, b.value)).identity b.value);
  asked : AreAsked l.fn.advisors.items l.advisors.items (λ b. (goal.Advisor-dyn g (b.vtable, b.value)).asked b.value)
      (λ b. (goal.Advisor-dyn g (b.vtable, b.value)).has_quit b.value)
      (in_rounds l.terms.allowed.rounds (made_or_open (plan_in l.search.best) (tree_nodes l.search.nodes.items))) (l.terms.allowed.rounds * (2 * l._branching + 1));
}
