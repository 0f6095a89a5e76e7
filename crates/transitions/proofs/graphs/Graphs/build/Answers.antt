-- Each link adds its list.
use Rattle.std.proofs.Common.{List, ◌+◌, sym, subst}
use Rattle.transitions.specs.declared.edge.Edge.{Edge}
use Rattle.transitions.proofs.Links.{AreLists, one_more}
use Rattle.transitions.proofs.graphs.Graphs.build.Goals as goal

pub loop-link-preserved : goal.loop-link-preserved
loop-link-preserved c =
    subst (λ (lists : List (List Edge)). AreLists c.args.instance.now (c.loop-link.link + 1) lists) (sym c.in_ok-push.ensures.items)
    (one_more c.args.instance.now c.loop-link.link c.loop-link.lists.items c.in_ok-edges.edges c.loop-link.invariant c.in_ok-edges.ensures)
