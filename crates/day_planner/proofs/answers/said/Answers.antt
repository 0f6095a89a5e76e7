use Rattle.std.proofs.Common.{rules}
use Rattle.day_planner.proofs.answers.said.Goals as goal

pub returns-in_ok-runs-in-Optimal : goal.returns-in_ok-runs-in-Optimal
returns-in_ok-runs-in-Optimal g c = record {
  picks = c.in-Optimal.picks;
  planned = search rules;
  named = search rules;
  concludes = search rules;
  branchings = c.answer_with.ensures.branchings;
  tree = search rules;
  no_runs = search rules;
  kept = c.answer_with.ensures.kept;
}
