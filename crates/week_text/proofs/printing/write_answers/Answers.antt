use Rattle.week_text.specs.WeekLines.{day_lines}
use Rattle.week_text.proofs.Counted.{one_written}
use Rattle.week_text.proofs.printing.write_answers.Goals as goal

pub loop-place-preserved : goal.loop-place-preserved
loop-place-preserved c =
    one_written day_lines _ _ _ c.args.answers.now c.loop-place.place c.index-answers-place.result _ c.loop-place-test.true
    c.index-answers-place.is c.loop-place.invariant c.in_ok-write_answer.ensures
