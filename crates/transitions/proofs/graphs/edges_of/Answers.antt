-- The pairs that are read are those that were made.
use Rattle.std.proofs.Common.{List, All, AllPairs, sym, subst}
use Rattle.transitions.specs.declared.pairs.Pair.{Pair}
use Rattle.transitions.specs.Pairs.{HaveEdges, IsBeforePair, IsKnown}
use Rattle.transitions.proofs.graphs.edges_of.Goals as goal

pub edges_between-requires-clause-known : goal.edges_between-requires-clause-known
edges_between-requires-clause-known c =
    subst (λ (pairs : List Pair). All (IsKnown c.args.instance.now) pairs) (sym c.deref.ensures.value)
    c.in_ok-pairs.ensures.known

pub edges_between-requires-clause-edges : goal.edges_between-requires-clause-edges
edges_between-requires-clause-edges c =
    subst (λ (pairs : List Pair). HaveEdges c.args.instance.now c.link-link.result.now.kind c.link-link.result.now.reverse pairs)
    (sym c.deref.ensures.value) c.in_ok-pairs.ensures.edges

pub edges_between-requires-clause-in_order : goal.edges_between-requires-clause-in_order
edges_between-requires-clause-in_order c =
    subst (λ (pairs : List Pair). AllPairs IsBeforePair pairs) (sym c.deref.ensures.value) c.in_ok-pairs.ensures.in_order
