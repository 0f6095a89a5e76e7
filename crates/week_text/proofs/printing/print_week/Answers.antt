use Rattle.std.proofs.Common.{ℕ, List, ◌++◌, ◌∷◌, [], ◌∙◌, ap, append_assoc, unwrap_or}
use Rattle.answer_text.specs.declared.answer.Answer.{Answer}
use Rattle.answer_text.specs.Lines.{text_of_lines}
use Rattle.answer_text.specs.Texts.{end_line}
use Rattle.answer_text.proofs.Written.{lines_written}
use Rattle.week_text.specs.WeekLines.{answers_lines, names_lines, week_line}
use Rattle.week_text.proofs.printing.print_week.Goals as goal

pub returns : goal.returns
returns c =
    let week = c.args.week.now in
    let first : List ℕ = week_line week.head in
    let answers : List (List ℕ) = answers_lines 1 week.days in
    let named : List (List ℕ) = names_lines 1 (unwrap_or week.named []) in
    let said = lines_written _ _ (first ∷ []) answers c.in_ok-text.ensures
    (c.in_ok-write_answers.ensures ∙ ap (λ (them : List Answer). c.in_ok-text.text.items ++ text_of_lines (answers_lines 1 them)) c.items.ensures) in
    let told = lines_written _ _ ((first ∷ []) ++ answers) named said c.in_ok-write_named.ensures in
    let ended = lines_written _ _ (((first ∷ []) ++ answers) ++ named) (end_line ∷ []) told c.in_ok-extend_from_slice.ensures.items in
    ended ∙ ap (λ (lines : List (List ℕ)). text_of_lines (first ∷ lines)) (append_assoc answers named (end_line ∷ []))
