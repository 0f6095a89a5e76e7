-- The edge among the edges of the link.
use Rattle.transitions.proofs.Finding.{found_in}
use Rattle.transitions.proofs.graphs.Graphs.find.Goals as goal

pub returns : goal.returns
returns c = found_in c.args.self.now c.args.link c.args.from c.args.to c.edges.result.now c.find_edge.result c.edges.ensures.value c.find_edge.ensures
