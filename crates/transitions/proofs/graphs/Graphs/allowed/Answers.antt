-- The shunt of the edge that is found.
use Rattle.std.proofs.Common.{◌≡◌, Option, Some, sym, subst}
use Rattle.std.specs.Prelude.{◌↔◌}
use Rattle.transitions.specs.declared.edge.Shunt.{Shunt}
use Rattle.transitions.specs.Edges.{IsAllowed}
use Rattle.transitions.proofs.Finding.{allowed_in}
use Rattle.transitions.proofs.graphs.Graphs.allowed.Goals as goal

pub returns : goal.returns
returns c = λ shunt.
    subst (λ (o : Option Shunt). (o ≡ Some shunt) ↔ IsAllowed c.args.self.now c.args.link c.args.from c.args.to shunt) (sym c.shunt_of.ensures)
    (allowed_in c.args.self.now c.args.link c.args.from c.args.to c.find.result c.find.ensures shunt)
