-- How the planning of a day ends: the status, and what was written.
use Rattle.std.specs.Prelude.{ℕ, ◌≡◌, ◌≢◌, ◌↔◌, List, Option, Ok, Err}
use Rattle.rail_io.specs.Folders.{Files}
use Rattle.rail_io.specs.Sinks.{Appends}
use Rattle.timetable.specs.Day.{Day}
use Rattle.day_files.specs.declared.errors.Refusal.{Refusal}
use Rattle.day_files.specs.Inputs.{day_in}
use Rattle.answer_text.specs.Texts.{text_of}
use Rattle.answer_check.specs.Headline.{IsAnswered}

-- the status with which the day of a folder is planned by a program that tells a refusal by this line, and what was
-- written
pub record EndsPlanning (line_of : Refusal → List ℕ) (files : Files) (dir : List ℕ) (nodes status : ℕ)
    (before after : Option (List ℕ)) : Type 0 where
  -- 3 exactly where a table is refused
  pub refused : (status ≡ 3) ↔ ((why : Refusal) × (day_in files dir ≡ Err why))
  -- then the refusal was told
  pub told : status ≡ 3 → (why : Refusal) × (day_in files dir ≡ Err why) × Appends (line_of why) before after
  -- where it isn't 3, the tables are accepted as a day, and an answer to it was written
  pub answered : status ≢ 3 → (day : Day) × (day_in files dir ≡ Ok day)
      × IsAnswered text_of day nodes status before after
