use Rattle.std.proofs.Common.{ℕ, List, ◌++◌, ◌∷◌, [], ◌∙◌, ap, append_assoc, unwrap_or}
use Rattle.std.specs.Prelude.{string_bytes}
use Rattle.std.specs.Global.{Vec}
use Rattle.answer_text.specs.Lines.{text_of_lines}
use Rattle.answer_text.specs.Texts.{end_line}
use Rattle.answer_text.proofs.Written.{lines_written}
use Rattle.replan_text.specs.ReplanLines.{old_run_lines, said_line, tree_lines}
use Rattle.replan_text.proofs.printing.print_replanned.Goals as goal

pub returns : goal.returns
returns c =
    let replanned = c.args.replanned in
    let numbers = c.args.later.now.numbers.items in
    let first : List ℕ = said_line replanned.head replanned.changes in
    let runs : List (List ℕ) = old_run_lines numbers (unwrap_or replanned.plan []) in
    let nodes : List (List ℕ) = tree_lines replanned.head replanned.tree in
    let said = lines_written _ _ [] (first ∷ []) c.new-text.ensures.bytes c.in_ok-write_said.ensures in
    let ran = lines_written _ _ (first ∷ []) runs said
    (c.in_ok-write_old_runs.ensures
    ∙ ap (λ (ns : List ℕ). string_bytes c.write_said.new.text ++ text_of_lines (old_run_lines ns c.deref-2.result.now)) c.deref.ensures.value
    ∙ ap (λ (rs : List (List ℕ)). string_bytes c.write_said.new.text ++ text_of_lines (old_run_lines numbers rs)) (c.deref-2.ensures.value ∙ c.lists_of-runs.ensures)) in
    let told = lines_written _ _ ((first ∷ []) ++ runs) nodes ran c.in_ok-write_tree.ensures in
    let ended = lines_written _ _ (((first ∷ []) ++ runs) ++ nodes) (end_line ∷ []) told c.in_ok-push_str.ensures.bytes in
    ap (λ (text : Vec ℕ). text.items) c.into_bytes.ensures.value ∙ ended
    ∙ ap (λ (lines : List (List ℕ)). text_of_lines (first ∷ lines)) (append_assoc runs nodes (end_line ∷ []))
