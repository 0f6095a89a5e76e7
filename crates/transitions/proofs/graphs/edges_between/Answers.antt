-- Each pair adds its edge, if it has one.
use Rattle.std.proofs.Common.{◌≡◌, ℕ, ◌+◌, List, [], ◌∷◌, ◌++◌, length, sym, subst, arith}
use Rattle.std.proofs.lemmas.List.{get_or_read}
use Rattle.transitions.specs.declared.edge.Edge.{Edge}
use Rattle.transitions.specs.Edges.{IsKindEdge}
use Rattle.transitions.specs.Pairs.{IsKnown}
use Rattle.transitions.proofs.Looking.{Looked, has_none, has_edge, all_looked}
use Rattle.transitions.proofs.graphs.edges_between.Goals as goal
use Rattle.transitions.proofs.graphs.edges_between.Goals.{in-Some+in_ok-push, in_default}

pub edge_between-requires-clause-pair : goal.edge_between-requires-clause-pair
edge_between-requires-clause-pair c =
    subst (IsKnown c.args.instance.now) (sym c.pair-item.is) (c.requires.known c.loop-pair.pair-index c.pair-item.result c.loop-pair-test.true)

pub loop-pair-preserved : goal.loop-pair-preserved
loop-pair-preserved c =
    let is = get_or_read c.args.pairs.now c.loop-pair.pair-index c.pair-item.result c.loop-pair-test.true c.pair-item.is in
    elim c.match-edge_between.branch [
      | in-Some+in_ok-push w ↦
          let items : c.match-edge_between.edges.items ≡ c.loop-pair.edges.items ++ w.in-Some.edge ∷ [] = cc w.in_ok-push.ensures.items in
          subst (λ (edges : List Edge). Looked (IsKindEdge c.args.instance.now c.args.link.now.kind c.args.link.now.reverse) c.args.pairs.now (c.loop-pair.pair-index + 1) edges) (sym items)
          (has_edge (IsKindEdge c.args.instance.now c.args.link.now.kind c.args.link.now.reverse) c.args.pairs.now c.loop-pair.pair-index c.loop-pair.edges.items c.loop-pair.invariant c.pair-item.result c.loop-pair-test.true is c.requires.in_order w.in-Some.edge (w.in-Some.ensures))
      | in_default w ↦
          let items : c.match-edge_between.edges.items ≡ c.loop-pair.edges.items = cc in
          subst (λ (edges : List Edge). Looked (IsKindEdge c.args.instance.now c.args.link.now.kind c.args.link.now.reverse) c.args.pairs.now (c.loop-pair.pair-index + 1) edges) (sym items)
          (has_none (IsKindEdge c.args.instance.now c.args.link.now.kind c.args.link.now.reverse) c.args.pairs.now c.loop-pair.pair-index c.loop-pair.edges.items c.loop-pair.invariant c.pair-item.result c.loop-pair-test.true is
          (λ x allowed between. w.in_default.not-Some x ((c.edge_between.ensures x).1 (allowed, between))))
    ]

pub returns : goal.returns
returns c =
    let end : c.loop-pair.pair-index ≡ length c.args.pairs.now = omega arith in
    all_looked (IsKindEdge c.args.instance.now c.args.link.now.kind c.args.link.now.reverse) c.args.pairs.now c.loop-pair.edges.items (subst (λ (n : ℕ). Looked (IsKindEdge c.args.instance.now c.args.link.now.kind c.args.link.now.reverse) c.args.pairs.now n c.loop-pair.edges.items) end c.loop-pair.invariant) c.requires.edges
