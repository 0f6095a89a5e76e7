use Rattle.std.proofs.Common.{ℕ, List, ◌++◌, ap, ◌∙◌}
use Rattle.std.specs.Prelude.{codes}
use Rattle.std.specs.Fmt.{decimal}
use Rattle.run_documents.specs.CheckTexts.{ray_text}
use Rattle.run_documents.proofs.check_lines.ray_text.Goals as goal

pub returns : goal.returns
returns c =
    c.in_ok-format.ensures.ok
    ∙ ap (λ (found : List ℕ). codes "ray of node " ++ (decimal c.node.inside.0 ++ (codes " is " ++ found))) c.in_ok-found.ensures
    ∙ ap (λ (node : ℕ). ray_text node c.args.found) c.node.view_is
