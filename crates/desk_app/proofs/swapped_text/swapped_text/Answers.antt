use Rattle.std.proofs.Common.{ℕ, ◌++◌, ◌∷◌, [], ◌∙◌, ap}
use Rattle.std.specs.Global.{Vec}
use Rattle.answer_text.specs.Lines.{text_of_lines}
use Rattle.answer_text.specs.Texts.{end_line, run_lines}
use Rattle.answer_text.proofs.Written.{lines_written}
use Rattle.desk_app.specs.SwapTexts.{count_line, near_lines}
use Rattle.desk_app.proofs.Written.{in_order}
use Rattle.desk_app.proofs.swapped_text.swapped_text.Goals as goal

pub returns : goal.returns
returns c =
    let swapped = c.args.swapped.now in
    let runs = run_lines 0 swapped.plan in
    let moments = near_lines 0 swapped.cut in
    let count = lines_written _ _ [] (count_line swapped.count ∷ []) c.new-text.ensures.bytes c.in_ok-write_count.ensures in
    let plan = lines_written _ _ (count_line swapped.count ∷ []) runs count c.in_ok-write_plan.ensures in
    let cut = lines_written _ _ ((count_line swapped.count ∷ []) ++ runs) moments plan c.in_ok-write_cut.ensures in
    let last = lines_written _ _ (((count_line swapped.count ∷ []) ++ runs) ++ moments) (end_line ∷ []) cut c.in_ok-push_str.ensures.bytes in
    ap (λ (text : Vec ℕ). text.items) c.into_bytes.ensures.value ∙ last ∙ ap text_of_lines (in_order (count_line swapped.count) end_line runs moments)
