use Rattle.std.proofs.Common.{rules, refl}
use Rattle.planner_app.specs.DayOutcomes.{IsReported, IsWrong}
use Rattle.planner_app.proofs.reports.report_on.Goals as goal

pub returns-then-ne : goal.returns-then-ne
returns-then-ne c =
    IsWrong c.in_ok-verdict.verdict
    (record { is = c.in_ok-verdict.ensures.verdict; holds = c.in_ok-verdict.ensures.holds; can_come = c.in_ok-verdict.ensures.can_come })
    (search rules) refl

pub returns : goal.returns
returns c = IsReported c.of.result (record { valid = search rules; planned = search rules; is = search rules }) refl
