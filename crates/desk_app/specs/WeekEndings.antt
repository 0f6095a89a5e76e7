-- How the planning of a week ends: the status, and what was written.
use Rattle.std.specs.Prelude.{ℕ, ◌≡◌, ◌≢◌, ◌↔◌, List, Option}
use Rattle.rail_io.specs.Folders.{Files}
use Rattle.rail_io.specs.Sinks.{Appends}
use Rattle.timetable.specs.Day.{Day}
use Rattle.answer_check.specs.Headline.{status_said}
use Rattle.week_plan.specs.declared.answers.Week.{Week}
use Rattle.week_plan.specs.WeekAnswers.{IsWeekAnswer}
use Rattle.week_text.specs.WeekLines.{week_text}
use Rattle.desk_commands.specs.declared.week_planning.WeekPlanning.{WeekPlanning}
use Rattle.desk_app.specs.declared.files.DeskFile.{DeskFile}
use Rattle.desk_app.specs.Documents.{refused_line}
use Rattle.desk_app.specs.WeekDays.{AreWeekIn, IsRefusedForWeek}

-- The week of these days was planned: there is an answer that is all that is promised of one (the plans of the days, by
-- the names of the units, are a week plan that runs and has the cost that is said; `optimal`, `infeasible` and
-- `bounded` are true of all week plans; and each day has an answer of its own that proves what it says), exactly its
-- document was written, and the status is the one that it says.
pub record IsWeekWritten (days : List Day) (planning : WeekPlanning) (status : ℕ) (before after : Option (List ℕ))
    : Type 0 where
  pub week : Week
  pub answer : IsWeekAnswer days planning.nodes week
  pub says : status ≡ status_said week.head
  pub written : Appends (week_text week) before after

-- the status with which the week of a folder is planned, and what was written
pub record EndsWeek (files : Files) (planning : WeekPlanning) (status : ℕ) (before after : Option (List ℕ)) : Type 0
  where
    -- where the files of its days are accepted, and the days make a week, that was planned
    pub planned : (days : List Day) → AreWeekIn files planning days → IsWeekWritten days planning status before after
    -- 3 exactly where a file is refused
    pub refused : (status ≡ 3) ↔ ((file : DeskFile) × IsRefusedForWeek files planning file)
    -- then it was named
    pub named : status ≡ 3
        → (file : DeskFile) × IsRefusedForWeek files planning file × Appends (refused_line file) before after
    -- and else they are accepted so
    pub accepted : status ≢ 3 → (days : List Day) × AreWeekIn files planning days
