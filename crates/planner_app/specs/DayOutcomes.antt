-- What planning a day, running a plan of it, checking an answer and reporting on one come to, and what planning a trial
-- day does.
use Rattle.std.specs.Prelude.{ℕ, ◌≡◌, ◌≢◌, List, IsTrue, false, Ok, Err}
use Rattle.rail_base.specs.declared.numbers.Money.{Money}
use Rattle.timetable.specs.Build.{day_of}
use Rattle.timetable.specs.Cost.{plan_cost}
use Rattle.timetable.specs.Day.{Day}
use Rattle.timetable.specs.Running as running
use Rattle.day_files.specs.declared.inputs.Inputs.{Inputs}
use Rattle.day_simulator.specs.declared.events.StepFault.{StepFault}
use Rattle.day_simulator.specs.Calls.{IsCost}
use Rattle.day_simulator.specs.Finish.{simulation}
use Rattle.day_simulator.specs.Laws.{IsInTurn}
use Rattle.trial_day.specs.Trial.{trial_tables_of}
use Rattle.answer_text.specs.declared.answer.Answer.{Answer}
use Rattle.answer_text.specs.Limits.{has_plan}
use Rattle.answer_check.specs.declared.checking.AnswerVerdict.{AnswerVerdict}
use Rattle.answer_check.specs.declared.checking.AnswerVerdict.TheVariants.{Valid}
use Rattle.answer_check.specs.Headline.{IsHeadline, IsTrueOf}
use Rattle.answer_check.specs.Validity.{IsValid}
use Rattle.answer_check.specs.Verdicts.{CanCome, IsAnswerVerdict}
use Rattle.run_documents.specs.declared.outcome.Outcome.{Outcome}
use Rattle.run_documents.specs.declared.outcome.Outcome.TheVariants.{Planned, Tried, Runs, Stops, Checked, Reported}
use Rattle.run_documents.specs.declared.outcome.Outcome.TheVariants.{NoPlan, NoMemory}
use Rattle.planner_app.specs.declared.reports.ReportKind.{ReportKind}
use Rattle.planner_app.specs.ReportTexts.{report_text}

-- the day is planned, and its answer meets the headline; or memory ran out
pub data IsPlanOutcome (day : Day) (nodes : ℕ) (outcome : Outcome) : Type 0 where
  IsPlanned : (answer : Answer) → IsHeadline day nodes answer → outcome ≡ Planned answer
      → IsPlanOutcome day nodes outcome
  NoMemoryToPlan : outcome ≡ NoMemory → IsPlanOutcome day nodes outcome

-- the plan runs, or doesn't
abbrev pub PlanRuns : Inputs → Type 0
PlanRuns inputs = running.Runs inputs.instance inputs.plan

-- the plan runs at this cost; or it stops with this fault
pub record RunsAt (inputs : Inputs) (money : Money) : Type 0 where
  pub runs : PlanRuns inputs
  pub cost : IsCost (plan_cost inputs.instance inputs.plan) money

pub record StopsWith (inputs : Inputs) (fault : StepFault) : Type 0 where
  pub stops : ¬ PlanRuns inputs
  pub first : simulation inputs.instance inputs.plan ≡ Err fault
  pub in_turn : IsInTurn fault

-- either, or memory ran out
pub data IsRunOutcome (inputs : Inputs) (outcome : Outcome) : Type 0 where
  DoesRun : (money : Money) → RunsAt inputs money → outcome ≡ Runs money → IsRunOutcome inputs outcome
  DoesStop : (fault : StepFault) → StopsWith inputs fault → outcome ≡ Stops fault → IsRunOutcome inputs outcome
  NoMemoryToRun : outcome ≡ NoMemory → IsRunOutcome inputs outcome

-- the verdict is that on the answer
pub record IsVerdictOn (day : Day) (answer : Answer) (verdict : AnswerVerdict) : Type 0 where
  pub is : IsAnswerVerdict day answer verdict
  pub holds : verdict ≡ Valid → IsTrueOf day answer.head answer.runs
  pub can_come : CanCome verdict

-- what the answer says, and the verdict on it; or memory ran out
pub data IsCheckOutcome (day : Day) (answer : Answer) (outcome : Outcome) : Type 0 where
  IsJudged : (verdict : AnswerVerdict) → IsVerdictOn day answer verdict → outcome ≡ Checked answer.head verdict
      → IsCheckOutcome day answer outcome
  NoMemoryToCheck : outcome ≡ NoMemory → IsCheckOutcome day answer outcome

-- a report on the plan of a valid answer of a day
pub record IsReportOf (kind : ReportKind) (day : Day) (answer : Answer) (text : List ℕ) : Type 0 where
  pub valid : IsValid day answer
  pub planned : IsTrue (has_plan answer.head)
  pub is : text ≡ report_text kind day answer.runs

-- what is wrong with the answer; or the report on its plan; or that it has none; or memory ran out
pub data IsReportOutcome (kind : ReportKind) (day : Day) (answer : Answer) (outcome : Outcome) : Type 0 where
  IsWrong : (verdict : AnswerVerdict) → IsVerdictOn day answer verdict → verdict ≢ Valid
      → outcome ≡ Checked answer.head verdict → IsReportOutcome kind day answer outcome
  IsReported : (text : List ℕ) → IsReportOf kind day answer text → outcome ≡ Reported text
      → IsReportOutcome kind day answer outcome
  HasNoPlan : IsValid day answer → has_plan answer.head ≡ false → outcome ≡ NoPlan
      → IsReportOutcome kind day answer outcome
  NoMemoryToReport : outcome ≡ NoMemory → IsReportOutcome kind day answer outcome

-- the trial day is planned, and its answer meets the headline; or memory ran out
pub data IsTrialOutcome (seed trips nodes : ℕ) (outcome : Outcome) : Type 0 where
  IsTried : (day : Day) → day_of (trial_tables_of seed trips) ≡ Ok day → (answer : Answer) → IsHeadline day nodes answer
      → outcome ≡ Tried seed trips answer → IsTrialOutcome seed trips nodes outcome
  NoMemoryToTry : outcome ≡ NoMemory → IsTrialOutcome seed trips nodes outcome
