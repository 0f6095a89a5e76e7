use Rattle.std.proofs.Common.{◌≡◌, ℕ, ◌<◌, List, true, length, get_or, subst, sym}
use Rattle.search.specs.declared.nodes.SearchNode.TheVariants.{Pending}
use Rattle.search.specs.Frontiers.{is_open_node}
use Rattle.search.specs.Nodes.{IsDivision}
use Rattle.search.specs.Conclusions.{plan_in}
use Rattle.search.proofs.Growing.{IsReady, division_at, ready_at}
use Rattle.search.proofs.solving.Search.divide_at.Goals as goal

pub divide-requires-clause-inside : goal.divide-requires-clause-inside
divide-requires-clause-inside g c =
    let problem = g.R.Relaxation.meanings (g.R.Relaxation.problem c.args.problem.now) in
    let here : Pending c.in-Pending.node ≡ get_or c.args.self.now.nodes.items c.args.place (Pending c.in-Pending.node) = subst (λ node. node ≡ get_or c.args.self.now.nodes.items c.args.place node) c.in-Pending.is c.index.ensures in
    let below : is_open_node (plan_in c.args.self.now.best) (Pending c.in-Pending.node) ≡ true = subst (λ node. is_open_node (plan_in c.args.self.now.best) node ≡ true) (sym here) (c.requires.open.here (Pending c.in-Pending.node)) in
    let ready : IsReady problem c.in-Pending.node = ready_at problem (g.met.R.Relaxation.relaxes (g.R.Relaxation.problem c.args.problem.now) c.requires.accepted) c.requires.searched.0
    (plan_in c.args.self.now.best) c.args.self.now.nodes.items c.args.place c.in-Pending.node c.requires.open.within here below c.requires.searched.1 in
    ready.inside

pub divide-requires-clause-divisible : goal.divide-requires-clause-divisible
divide-requires-clause-divisible g c =
    let problem = g.R.Relaxation.meanings (g.R.Relaxation.problem c.args.problem.now) in
    let here : Pending c.in-Pending.node ≡ get_or c.args.self.now.nodes.items c.args.place (Pending c.in-Pending.node) = subst (λ node. node ≡ get_or c.args.self.now.nodes.items c.args.place node) c.in-Pending.is c.index.ensures in
    let below : is_open_node (plan_in c.args.self.now.best) (Pending c.in-Pending.node) ≡ true = subst (λ node. is_open_node (plan_in c.args.self.now.best) node ≡ true) (sym here) (c.requires.open.here (Pending c.in-Pending.node)) in
    let ready : IsReady problem c.in-Pending.node = ready_at problem (g.met.R.Relaxation.relaxes (g.R.Relaxation.problem c.args.problem.now) c.requires.accepted) c.requires.searched.0
    (plan_in c.args.self.now.best) c.args.self.now.nodes.items c.args.place c.in-Pending.node c.requires.open.within here below c.requires.searched.1 in
    ready.divisible

pub divide-requires-clause-within : goal.divide-requires-clause-within
divide-requires-clause-within g c =
    let problem = g.R.Relaxation.meanings (g.R.Relaxation.problem c.args.problem.now) in
    let here : Pending c.in-Pending.node ≡ get_or c.args.self.now.nodes.items c.args.place (Pending c.in-Pending.node) = subst (λ node. node ≡ get_or c.args.self.now.nodes.items c.args.place node) c.in-Pending.is c.index.ensures in
    let below : is_open_node (plan_in c.args.self.now.best) (Pending c.in-Pending.node) ≡ true = subst (λ node. is_open_node (plan_in c.args.self.now.best) node ≡ true) (sym here) (c.requires.open.here (Pending c.in-Pending.node)) in
    let ready : IsReady problem c.in-Pending.node = ready_at problem (g.met.R.Relaxation.relaxes (g.R.Relaxation.problem c.args.problem.now) c.requires.accepted) c.requires.searched.0
    (plan_in c.args.self.now.best) c.args.self.now.nodes.items c.args.place c.in-Pending.node c.requires.open.within here below c.requires.searched.1 in
    λ trip comp listed. subst (λ (catalogue : List (List ℕ)). comp < length catalogue) (sym c.catalogue.ensures) (ready.within trip comp listed)

pub returns : goal.returns
returns g c =
    let problem = g.R.Relaxation.meanings (g.R.Relaxation.problem c.args.problem.now) in
    let here : Pending c.in-Pending.node ≡ get_or c.args.self.now.nodes.items c.args.place (Pending c.in-Pending.node) = subst (λ node. node ≡ get_or c.args.self.now.nodes.items c.args.place node) c.in-Pending.is c.index.ensures in
    let below : is_open_node (plan_in c.args.self.now.best) (Pending c.in-Pending.node) ≡ true = subst (λ node. is_open_node (plan_in c.args.self.now.best) node ≡ true) (sym here) (c.requires.open.here (Pending c.in-Pending.node)) in
    let ready : IsReady problem c.in-Pending.node = ready_at problem (g.met.R.Relaxation.relaxes (g.R.Relaxation.problem c.args.problem.now) c.requires.accepted) c.requires.searched.0
    (plan_in c.args.self.now.best) c.args.self.now.nodes.items c.args.place c.in-Pending.node c.requires.open.within here below c.requires.searched.1 in
    division_at problem (plan_in c.args.self.now.best) c.args.self.now.nodes.items c.args.place c.in-Pending.node c.in_ok-division.division c.requires.open.within here below ready
    (subst (λ (catalogue : List (List ℕ)). IsDivision catalogue c.in-Pending.node c.in_ok-division.division) c.catalogue.ensures c.in_ok-division.ensures)
