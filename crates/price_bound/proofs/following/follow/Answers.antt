-- Picks follow where each runs and each link leads.
use Rattle.std.proofs.Common.{◌≡◌, true, false, sym, ◌∙◌}
use Rattle.price_bound.proofs.following.follow.Goals as goal

pub returns-then-all_run : goal.returns-then-all_run
returns-then-all_run c = (
  λ yes. record {
    trips = c.requires.picks;
    run = c.all_run.ensures.0 c.if-all_run.true;
    steps = c.all_step.ensures.0 yes;
  },
  λ follow. c.all_step.ensures.1 follow.steps,
)

pub returns-else-all_run : goal.returns-else-all_run
returns-else-all_run c = (
  λ yes. absurd (let no : false ≡ true = sym c.if-all_run.false ∙ yes in cc),
  λ follow. c.all_run.ensures.1 follow.run,
)
