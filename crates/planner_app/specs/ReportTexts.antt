-- The text of each report on the plan of an answer.
use Rattle.std.specs.Prelude.{ℕ, List, map}
use Rattle.timetable.specs.Day.{Day, types_of}
use Rattle.day_reports.specs.CostRows.{costs_text}
use Rattle.day_reports.specs.DutyRows.{duties_text}
use Rattle.day_reports.specs.YardRows.{yards_text}
use Rattle.planner_app.specs.declared.reports.ReportKind.{ReportKind}
use Rattle.planner_app.specs.declared.reports.ReportKind.TheVariants.{Duties, Yards, Costs}

-- the text of a report on a plan; yards and costs go by the types of its units alone
abbrev pub report_text : ReportKind → Day → List (List ℕ) → List ℕ
report_text Duties day plan = duties_text day plan
report_text Yards day plan = yards_text day (map (types_of day) plan)
report_text Costs day plan = costs_text day (map (types_of day) plan)
