use Rattle.std.proofs.Common.{ℕ, List, ◌++◌, ◌∷◌, [], ◌∙◌, ap, append_assoc}
use Rattle.std.specs.Global.{Vec}
use Rattle.answer_text.specs.Lines.{text_of_lines}
use Rattle.answer_text.specs.Texts.{end_line}
use Rattle.answer_text.proofs.Written.{lines_written}
use Rattle.fleet_text.specs.FleetLines.{boxes_told, chosen_lines, said_line, splits_line}
use Rattle.fleet_text.proofs.printing.print_fleet.Goals as goal

pub returns : goal.returns
returns c =
    let fleet = c.args.fleet in
    let first : List ℕ = said_line fleet.head in
    let second : List ℕ = splits_line fleet.splits in
    let chosen : List (List ℕ) = chosen_lines c.args.types fleet.chosen in
    let boxes : List (List ℕ) = boxes_told fleet.head fleet.boxes in
    let said = lines_written _ _ [] (first ∷ []) c.new-text.ensures.bytes c.in_ok-write_said.ensures in
    let counted = lines_written _ _ (first ∷ []) (second ∷ []) said c.in_ok-write_splits.ensures in
    let chose = lines_written _ _ (first ∷ second ∷ []) chosen counted c.in_ok-write_chosen.ensures in
    let told = lines_written _ _ ((first ∷ second ∷ []) ++ chosen) boxes chose c.in_ok-write_boxes.ensures in
    let ended = lines_written _ _ (((first ∷ second ∷ []) ++ chosen) ++ boxes) (end_line ∷ []) told c.in_ok-push_str.ensures.bytes in
    ap (λ (text : Vec ℕ). text.items) c.into_bytes.ensures.value ∙ ended
    ∙ ap (λ (lines : List (List ℕ)). text_of_lines (first ∷ second ∷ lines)) (append_assoc chosen boxes (end_line ∷ []))
