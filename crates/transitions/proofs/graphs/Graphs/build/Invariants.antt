-- The lists so far are those of the first links.
use Rattle.transitions.proofs.Links.{AreLists}
use Rattle.transitions.proofs.graphs.Graphs.build.Given as goal

abbrev pub invariant-loop-link : goal.invariant-loop-link
invariant-loop-link l = AreLists l.instance l.link l.lists.items
