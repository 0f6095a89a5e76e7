-- How the planning of the rest of a disturbed day ends: the status, and what was written.
use Rattle.std.specs.Prelude.{ℕ, ◌≡◌, ◌≢◌, ◌⊎◌, ◌↔◌, List, Option}
use Rattle.rail_io.specs.Folders.{Files}
use Rattle.rail_io.specs.Sinks.{Appends}
use Rattle.timetable.specs.DerivedDays.{old_numbers}
use Rattle.day_files.specs.declared.inputs.Inputs.{Inputs}
use Rattle.answer_check.specs.Headline.{status_said}
use Rattle.replan.specs.declared.replanning.Replanned.{Replanned}
use Rattle.replan.specs.Promises.{IsReplanned}
use Rattle.replan_text.specs.ReplanLines.{document_of}
use Rattle.desk_commands.specs.declared.replanning.Replanning.{Replanning}
use Rattle.desk_app.specs.declared.files.DeskFile.{DeskFile}
use Rattle.desk_app.specs.Cancelled.{AreDisturbed, IsRefusedForReplan, disturbed_at}
use Rattle.desk_app.specs.Documents.{refused_line, stops_line}
use Rattle.desk_app.specs.Wished.{AreStopped}

-- The rest of the day was planned: there is an answer to the disturbed day that is all that is promised of one (a plan
-- that it has runs, agrees with the past and has the price and the changes that are said; `optimal`, `infeasible` and
-- `bounded` are true of every plan that goes on from the past; and its tree proves it), exactly its document was
-- written, and the status is the one that it says.
pub record IsRestWritten (inputs : Inputs) (replanning : Replanning) (cancelled : List ℕ) (status : ℕ)
    (before after : Option (List ℕ)) : Type 0 where
  pub answer : Replanned
  pub replanned : IsReplanned (disturbed_at inputs replanning cancelled) replanning.nodes answer
  pub says : status ≡ status_said answer.head
  pub written : Appends (document_of (old_numbers inputs.instance cancelled) answer) before after

-- the status with which the rest of a folder's day is planned, and what was written
pub record EndsReplanning (files : Files) (replanning : Replanning) (status : ℕ) (before after : Option (List ℕ))
    : Type 0 where
  -- where the files are accepted, and the plan runs, the rest of the day was planned
  pub replanned : (inputs : Inputs) (cancelled : List ℕ) → AreDisturbed files replanning inputs cancelled
      → IsRestWritten inputs replanning cancelled status before after
  -- where the day and its plan are accepted, and the plan doesn't run, the status is 1, and that was told
  pub stopped : (inputs : Inputs) → AreStopped files replanning.dir inputs
      → (status ≡ 1) × Appends stops_line before after
  -- 3 exactly where a file is refused
  pub refused : (status ≡ 3) ↔ ((file : DeskFile) × IsRefusedForReplan files replanning file)
  -- then it was named
  pub named : status ≡ 3
      → (file : DeskFile) × IsRefusedForReplan files replanning file × Appends (refused_line file) before after
  -- and else they are accepted, with a plan that runs or one that doesn't
  pub accepted : status ≢ 3
      → ((inputs : Inputs) × (cancelled : List ℕ) × AreDisturbed files replanning inputs cancelled)
      ⊎ ((inputs : Inputs) × AreStopped files replanning.dir inputs)
