use Rattle.std.proofs.Common.{◌≡◌, ◌<◌, None, [], ◌∷◌, All, length, insert, pos, ◌≤ℤ◌, sym, ap, subst, ◌∙◌, arith}
use Rattle.std.proofs.lemmas.List.Elements.{All-cons, All-nil}
use Rattle.branch_tree.specs.declared.multipliers.Entry.{Entry}
use Rattle.branch_tree.specs.Meanings.{DoFitFor}
use Rattle.search.specs.Questions.{AreAsked, in_rounds}
use Rattle.search.specs.Ends.{made_or_open}
use Rattle.search.specs.Frontiers.{IsEntered}
use Rattle.search.specs.Nodes.{IsLeafOf, IsSearched, IsSubregion, tree_node, tree_nodes}
use Rattle.search.specs.Putting.{IsMade}
use Rattle.search.specs.Conclusions.{plan_in}
use Rattle.search.proofs.Asking.{only_unasked}
use Rattle.search.proofs.Counting.{asked_for_leaf}
use Rattle.search.proofs.Growing.{one_node}
use Rattle.search.proofs.solving.Search.begin.Goals as goal

pub returns-in_err-inherited-clause-advisors : goal.returns-in_err-inherited-clause-advisors
returns-in_err-inherited-clause-advisors g c = only_unasked _ _ _ c.args.terms.now.allowed.rounds c.args.advisors.now.items

pub returns-in_err-copy-clause-advisors : goal.returns-in_err-copy-clause-advisors
returns-in_err-copy-clause-advisors g c = only_unasked _ _ _ c.args.terms.now.allowed.rounds c.args.advisors.now.items

pub put_node-requires-clause-node : goal.put_node-requires-clause-node
put_node-requires-clause-node g c =
    let problem = g.R.Relaxation.meanings (g.R.Relaxation.problem c.args.problem.now) in
    record {
      sets = ap length c.in_ok-copy.ensures ∙ c.requires.over.each;
      within = subst (λ sets. IsSubregion c.args.terms.now.root.now sets) (sym c.in_ok-copy.ensures) (λ picks inside. inside);
      fits = subst (λ entries. DoFitFor problem entries) (sym c.in_ok-inherited.ensures) (All-nil (λ (entry : Entry). (entry.index < problem.indices) × (entry.index < problem.free_from → pos 0 ≤ℤ entry.value)));
    }

pub put_node-requires-clause-next : goal.put_node-requires-clause-next
put_node-requires-clause-next g c = record { place = omega arith; number = ap length (sym c.new-2.ensures.items) }

pub returns-clause-under_way : goal.returns-clause-under_way
returns-clause-under_way g c =
    let problem = g.R.Relaxation.meanings (g.R.Relaxation.problem c.args.problem.now) in
    let root = c.args.terms.now.root.now in
    let best = plan_in c.put_node.new.self.best in
    let put = c.in_ok-put_node.ensures.put in
    let after = c.put_node.new.self.frontier in
    let items : c.put_node.new.self.nodes.items ≡ put.leaf ∷ [] = put.nodes ∙ ap (λ before. insert before 0 put.leaf) c.new-2.ensures.items in
    record {
      searched = subst (λ nodes. IsSearched problem root best nodes) (sym items)
          (one_node problem root best put.leaf c.requires.over (subst (λ sets. IsLeafOf problem best sets put.leaf) c.in_ok-copy.ensures put.known.leaf) c.in_ok-put_node.ensures.offered);
      entered = subst (λ nodes. All (IsEntered best after) nodes) (sym items) (All-cons (IsEntered best after) put.leaf [] (put.entered best) (All-nil (IsEntered best after)));
    }

pub returns-clause-counted : goal.returns-clause-counted
returns-clause-counted g c =
    let best = plan_in c.put_node.new.self.best in
    let put = c.in_ok-put_node.ensures.put in
    let items : c.put_node.new.self.nodes.items ≡ put.leaf ∷ [] = put.nodes ∙ ap (λ before. insert before 0 put.leaf) c.new-2.ensures.items in
    subst (λ nodes. AreAsked c.args.advisors.now.items c.put_node.new.advisors.items (λ b. (goal.Advisor-dyn g (b.vtable, b.value)).asked b.value) (λ b. (goal.Advisor-dyn g (b.vtable, b.value)).has_quit b.value)
    (in_rounds c.args.terms.now.allowed.rounds (made_or_open best (tree_nodes nodes))) c.args.terms.now.allowed.rounds) (sym items)
    (asked_for_leaf _ _ c.args.terms.now.allowed.rounds best (tree_node put.leaf) c.args.advisors.now.items c.put_node.new.advisors.items
    put.known.leaf.leaf c.put_node.ensures.advisors.times put.known.done)

pub returns-clause-made : goal.returns-clause-made
returns-clause-made g c =
    let problem = g.R.Relaxation.meanings (g.R.Relaxation.problem c.args.problem.now) in
    let best = plan_in c.put_node.new.self.best in
    let put = c.in_ok-put_node.ensures.put in
    let items : c.put_node.new.self.nodes.items ≡ put.leaf ∷ [] = put.nodes ∙ ap (λ before. insert before 0 put.leaf) c.new-2.ensures.items in
    let Made = IsMade (λ b. (goal.Advisor-dyn g (b.vtable, b.value)).has_quit b.value) (λ b. (goal.Advisor-dyn g (b.vtable, b.value)).has_answered b.value) problem c.args.terms.now.root.now c.args.terms.now.allowed.rounds c.args.advisors.now.items c.put_node.new.advisors.items None best in (
      put.leaf,
      items,
      subst (λ entries. Made c.args.terms.now.root.now entries 0 put.leaf) c.in_ok-inherited.ensures
          (subst (λ sets. Made sets c.in_ok-inherited.inherited 0 put.leaf) c.in_ok-copy.ensures put.made),
    )
