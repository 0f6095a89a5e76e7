use Rattle.std.proofs.Common.{ℕ, ◌+◌, List, ◌++◌, ◌∙◌, ap}
use Rattle.answer_text.specs.Lines.{text_of_lines}
use Rattle.week_text.specs.WeekLines.{names_of_day}
use Rattle.week_text.proofs.Counted.{one_written}
use Rattle.week_text.proofs.printing.write_names.Goals as goal

pub loop-place-preserved : goal.loop-place-preserved
loop-place-preserved c =
    let place = c.loop-place.place in
    one_written names_of_day _ _ _ c.args.days.now place c.index-days-place.result _ c.loop-place-test.true c.index-days-place.is
    c.loop-place.invariant
    (c.in_ok-extend_from_slice.ensures.items
    ∙ ap (λ (line : List ℕ). c.loop-place.text.items ++ line) (c.as_slice.ensures.value ∙ c.in_ok-line.ensures
    ∙ ap (λ (names : List ℕ). text_of_lines (names_of_day (place + 1) names)) c.items.ensures))
