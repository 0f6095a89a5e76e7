use Rattle.std.proofs.Common.{ℕ, ◌++◌, ◌∷◌, [], ap, ◌∙◌}
use Rattle.std.specs.Prelude.{string_bytes}
use Rattle.answer_text.specs.Lines.{text_of_lines}
use Rattle.answer_text.specs.Texts.{branchings_line, node_lines, tree_line}
use Rattle.replan_text.proofs.OldRuns.{adds_on}
use Rattle.replan_text.proofs.printing.write_nodes_of.Goals as goal

pub returns : goal.returns
returns c =
    let tree = c.args.tree.now in
    adds_on _ _ _ (branchings_line c.branchings.result ∷ tree_line ∷ []) (node_lines tree)
    (adds_on _ _ _ (branchings_line c.branchings.result ∷ []) (tree_line ∷ []) c.in_ok-write_branchings.ensures c.in_ok-push_str.ensures.bytes) c.in_ok-write_nodes.ensures
    ∙ ap (λ (n : ℕ). string_bytes c.args.text.now ++ text_of_lines (branchings_line n ∷ tree_line ∷ node_lines tree)) c.branchings.ensures.value
