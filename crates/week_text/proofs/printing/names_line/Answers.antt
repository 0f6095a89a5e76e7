use Rattle.std.proofs.Common.{[], ◌++◌, ◌∙◌}
use Rattle.std.specs.Prelude.{codes}
use Rattle.std.specs.Fmt.{decimal}
use Rattle.answer_text.proofs.Written.{word_written}
use Rattle.week_text.proofs.printing.names_line.Goals as goal

pub loop-name-preserved : goal.loop-name-preserved
loop-name-preserved c =
    word_written [] _ _ (codes "names " ++ decimal c.args.day) decimal c.args.names.now c.loop-name.name-index c.name.inside.0 c.name-item.result
    c.loop-name-test.true (c.name.view_is ∙ c.name-item.is) c.loop-name.invariant c.in_ok-write.ensures.bytes
