use Rattle.std.proofs.Common.{rules}
use Rattle.day_planner.proofs.answers.said_with.Goals as goal

pub returns : goal.returns
returns g c = record {
  picks = c.in-Some.picks;
  planned = search rules;
  named = search rules;
  concludes = search rules;
  branchings = c.answer_with-2.ensures.branchings;
  tree = c.answer_with-2.ensures.tree;
  no_runs = search rules;
  kept = c.answer_with-2.ensures.kept;
}
