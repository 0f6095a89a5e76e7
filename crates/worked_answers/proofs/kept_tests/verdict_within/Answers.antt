use Rattle.worked_answers.proofs.KeptRegions.{over_changed}
use Rattle.worked_answers.proofs.kept_tests.verdict_within.Goals as goal

pub verdict_by-requires : goal.verdict_by-requires
verdict_by-requires c = record {
  over = over_changed c.args.day.now c.args.changes.now c.in_ok-bounds.bounds c.args.region.now c.in_ok-bounds.ensures
      c.requires.over;
}
