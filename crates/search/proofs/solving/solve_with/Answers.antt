use Rattle.std.proofs.Common.{◌≡◌, ◌+◌, ◌*◌, length, sym, ap, subst, ◌∙◌, arith}
use Rattle.branch_tree.specs.Claims.{open_leaves_of}
use Rattle.branch_tree.specs.Trees.{branchings_of}
use Rattle.branch_tree.proofs.Concluding.{proved_is_concluded}
use Rattle.search.specs.Questions.{AreAsked, in_rounds}
use Rattle.search.specs.Nodes.{tree_nodes}
use Rattle.search.specs.Conclusions.{conclusion_found, nodes_found, plan_found, plan_in}
use Rattle.search.proofs.Finishing.{found_nodes, length-tree, solved}
use Rattle.search.proofs.solving.solve_with.Goals as goal

pub run-requires-clause-allowed : goal.run-requires-clause-allowed
run-requires-clause-allowed g c = record { branchings = c.requires.grant; rounds = c.requires.rounds }

pub returns-in_err-search-clause-advisors : goal.returns-in_err-search-clause-advisors
returns-in_err-search-clause-advisors g c = c.run.ensures.advisors.same

pub returns-in_err-search-clause-asked : goal.returns-in_err-search-clause-asked
returns-in_err-search-clause-asked g c = c.run.ensures.advisors.times

pub returns-in_err-found-clause-advisors : goal.returns-in_err-found-clause-advisors
returns-in_err-found-clause-advisors g c = c.run.ensures.advisors.same

pub returns-in_err-found-clause-asked : goal.returns-in_err-found-clause-asked
returns-in_err-found-clause-asked g c = c.run.ensures.advisors.times

pub returns-clause-advisors : goal.returns-clause-advisors
returns-clause-advisors g c = c.run.ensures.advisors.same

pub returns-clause-asked : goal.returns-clause-asked
returns-clause-asked g c = c.run.ensures.advisors.times

pub finish-requires : goal.finish-requires
finish-requires g c =
    let many : length c.in_ok-search.search.nodes.items ≡ 2 * branchings_of (tree_nodes c.in_ok-search.search.nodes.items) + 1 =
    length-tree (g.R.Relaxation.meanings (g.R.Relaxation.problem c.args.problem.now)) c.args.root.now (plan_in c.in_ok-search.search.best) c.in_ok-search.search.nodes.items c.in_ok-search.ensures.searched.searched in
    omega (arith, many, c.in_ok-search.ensures.searched.granted, c.requires.grant)

pub returns-clause-solved : goal.returns-clause-solved
returns-clause-solved g c =
    solved (g.R.Relaxation.meanings (g.R.Relaxation.problem c.args.problem.now)) c.args.root.now c.args.allowed.branchings c.in_ok-search.search.best c.in_ok-search.search.nodes.items c.in_ok-found.found
    c.in_ok-search.ensures.searched.searched c.in_ok-search.ensures.searched.granted c.in_ok-search.ensures.searched.ended c.in_ok-found.ensures

pub returns-clause-holds : goal.returns-clause-holds
returns-clause-holds g c =
    let problem = g.R.Relaxation.meanings (g.R.Relaxation.problem c.args.problem.now) in
    let found = c.in_ok-found.found in
    proved_is_concluded problem (g.met.R.Relaxation.relaxes (g.R.Relaxation.problem c.args.problem.now) c.in_ok-search.ensures.accepted)
    c.args.root.now (conclusion_found found) (branchings_of (nodes_found found)) (nodes_found found) (returns-clause-solved g c).proved

pub returns-clause-counted : goal.returns-clause-counted
returns-clause-counted g c =
    let tree = tree_nodes c.in_ok-search.search.nodes.items in
    let both = found_nodes c.in_ok-found.ensures.least c.in_ok-search.search.best tree in
    let nodes : nodes_found c.in_ok-found.found ≡ tree = ap nodes_found c.in_ok-found.ensures.is ∙ both.0 in
    let plan : plan_found c.in_ok-found.found ≡ plan_in c.in_ok-search.search.best = ap plan_found c.in_ok-found.ensures.is ∙ both.1 in
    subst (λ all. AreAsked c.args.advisors.now.items c.run.new.advisors.items (λ b. (goal.Advisor-dyn g (b.vtable, b.value)).asked b.value) (λ b. (goal.Advisor-dyn g (b.vtable, b.value)).has_quit b.value)
    (in_rounds c.args.allowed.rounds (branchings_of all + open_leaves_of (plan_found c.in_ok-found.found) all)) (c.args.allowed.rounds * (2 * branchings_of all + 1))) (sym nodes)
    (subst (λ best. AreAsked c.args.advisors.now.items c.run.new.advisors.items (λ b. (goal.Advisor-dyn g (b.vtable, b.value)).asked b.value) (λ b. (goal.Advisor-dyn g (b.vtable, b.value)).has_quit b.value)
    (in_rounds c.args.allowed.rounds (branchings_of tree + open_leaves_of best tree)) (c.args.allowed.rounds * (2 * branchings_of tree + 1))) (sym plan) c.in_ok-search.ensures.counted)
