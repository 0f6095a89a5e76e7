use Rattle.std.proofs.Common.{ℕ, List, ◌++◌, ◌∷◌, [], ◌∙◌, ap}
use Rattle.std.specs.Prelude.{string_bytes}
use Rattle.std.specs.Global.{Vec}
use Rattle.answer_text.specs.Lines.{text_of_lines}
use Rattle.answer_text.specs.Texts.{branchings_line, end_line, head_line, node_lines, opening_lines, run_lines}
use Rattle.answer_text.specs.Texts.{title_line, tree_line}
use Rattle.answer_text.proofs.Written.{in_order, lines_written}
use Rattle.answer_text.proofs.printing.print.Goals as goal

pub returns : goal.returns
returns c =
    let answer = c.args.answer.now in
    let runs = run_lines 0 answer.runs in
    let title = lines_written _ _ [] (title_line ∷ []) c.new-text.ensures.bytes c.in_ok-push_str.ensures.bytes in
    let head = lines_written _ _ (title_line ∷ []) (head_line answer.head ∷ []) title c.in_ok-write_head.ensures in
    let opening = lines_written _ _ (title_line ∷ head_line answer.head ∷ []) (branchings_line answer.branchings ∷ []) head c.in_ok-write_branchings.ensures in
    let trips = lines_written _ _ (opening_lines answer.head answer.branchings) runs opening
    (c.in_ok-write_runs.ensures ∙ ap (λ (list : List (List ℕ)). string_bytes c.write_branchings.new.text ++ text_of_lines (run_lines 0 list)) c.items.ensures) in
    let tree = lines_written _ _ (opening_lines answer.head answer.branchings ++ runs) (tree_line ∷ []) trips c.in_ok-push_str-2.ensures.bytes in
    let nodes = lines_written _ _ ((opening_lines answer.head answer.branchings ++ runs) ++ tree_line ∷ []) (node_lines answer.tree) tree c.in_ok-write_nodes.ensures in
    let last = lines_written _ _ (((opening_lines answer.head answer.branchings ++ runs) ++ tree_line ∷ []) ++ node_lines answer.tree) (end_line ∷ []) nodes c.in_ok-push_str-3.ensures.bytes in
    ap (λ (text : Vec ℕ). text.items) c.into_bytes.ensures.value ∙ last ∙ ap text_of_lines (in_order (opening_lines answer.head answer.branchings) runs (node_lines answer.tree) tree_line end_line)
