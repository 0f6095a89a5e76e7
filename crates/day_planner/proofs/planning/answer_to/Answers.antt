use Rattle.std.proofs.Common.{ℕ, Option, ◌+◌, ◌*◌, ◌≡◌, sym, ap, subst, ◌∙◌}
use Rattle.branch_tree.specs.Claims.{CostedPicks, open_leaves_of, concluded_plan}
use Rattle.branch_tree.specs.Trees.{branchings_of}
use Rattle.search.specs.Questions.{AreAsked, in_rounds}
use Rattle.search.specs.Conclusions.{nodes_found, plan_found}
use Rattle.answer_check.specs.ProvedTrees.{open_leaves, plan_said}
use Rattle.day_planner.specs.FoundAnswers.{SaysFound}
use Rattle.day_planner.proofs.NamedRuns.{nameable_found}
use Rattle.day_planner.proofs.OpenLeaves.{open_by_cost}
use Rattle.day_planner.proofs.Planned.{said_answers_are_proved}
use Rattle.day_planner.proofs.planning.answer_to.Goals as goal

pub said-requires : goal.said-requires
said-requires g c =
    nameable_found (g.N.Naming.CanName c.args.scope.naming.now) c.in_ok-found.found
    (g.R.Relaxation.meanings (g.R.Relaxation.problem c.args.problem.now)) c.args.scope.root.now c.requires.names
    c.in_ok-found.ensures.solved.proved.plan

pub returns-clause-tree : goal.returns-clause-tree
returns-clause-tree g c =
    said_answers_are_proved (g.R.Relaxation.meanings (g.R.Relaxation.problem c.args.problem.now))
    (g.N.Naming.day c.args.scope.naming.now) c.args.scope.root.now
    (g.N.Naming.named c.args.scope.naming.now) c.args.allowed.branchings c.in_ok-found.found c.in_ok-answer.answer
    c.requires.answerable c.requires.branchings c.in_ok-found.ensures.solved c.in_ok-answer.ensures

pub returns-clause-asked : goal.returns-clause-asked
returns-clause-asked g c = c.solve_with.ensures.asked

pub returns-clause-counted : goal.returns-clause-counted
returns-clause-counted g c =
    let found = c.in_ok-found.found in
    let answer = c.in_ok-answer.answer in
    let rounds = c.args.allowed.rounds in
    let says : SaysFound (g.N.Naming.day c.args.scope.naming.now) (g.N.Naming.named c.args.scope.naming.now) found answer =
    c.in_ok-answer.ensures in
    let made : branchings_of (nodes_found found) ≡ answer.branchings =
    ap branchings_of (sym says.tree) ∙ sym says.branchings in
    let leaves : open_leaves_of (plan_found found) (nodes_found found) ≡ open_leaves answer =
    ap (λ (p : Option CostedPicks). open_leaves_of p (nodes_found found)) (ap concluded_plan (sym says.concludes))
    ∙ ap (open_leaves_of (plan_said answer says.picks)) (sym says.tree) ∙ open_by_cost answer says.picks in
    subst (λ (n : ℕ). AreAsked c.args.advisors.now.items c.solve_with.new.advisors.items
    (λ b. (goal.Advisor-dyn g (b.vtable, b.value)).asked b.value)
    (λ b. (goal.Advisor-dyn g (b.vtable, b.value)).has_quit b.value)
    (in_rounds rounds (n + open_leaves answer)) (rounds * (2 * n + 1))) made
    (subst (λ (n : ℕ). AreAsked c.args.advisors.now.items c.solve_with.new.advisors.items
    (λ b. (goal.Advisor-dyn g (b.vtable, b.value)).asked b.value)
    (λ b. (goal.Advisor-dyn g (b.vtable, b.value)).has_quit b.value)
    (in_rounds rounds (branchings_of (nodes_found found) + n))
    (rounds * (2 * branchings_of (nodes_found found) + 1))) leaves c.in_ok-found.ensures.counted)
