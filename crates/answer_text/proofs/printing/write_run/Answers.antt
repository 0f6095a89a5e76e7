use Rattle.std.proofs.Common.{◌++◌, ◌∙◌}
use Rattle.std.specs.Prelude.{codes}
use Rattle.std.specs.Fmt.{decimal}
use Rattle.answer_text.proofs.Written.{word_written}
use Rattle.answer_text.proofs.printing.write_run.Goals as goal

pub loop-unit-preserved : goal.loop-unit-preserved
loop-unit-preserved c = word_written _ _ _ (codes "run " ++ decimal c.args.trip) decimal c.items-unit-items.result.now c.loop-unit.unit-index c.unit.inside.0 c.unit-item.result c.loop-unit-test.true (c.unit.view_is ∙ c.unit-item.is) c.loop-unit.invariant c.in_ok-write-2.ensures.bytes
