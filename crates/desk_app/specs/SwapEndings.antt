-- How the swapping of units ends: the status, and what was written.
use Rattle.std.specs.Prelude.{ℕ, ◌≡◌, ◌⊎◌, ◌↔◌, List, Option}
use Rattle.rail_io.specs.Folders.{Files}
use Rattle.rail_io.specs.Sinks.{Appends}
use Rattle.day_files.specs.declared.inputs.Inputs.{Inputs}
use Rattle.urgent_units.specs.declared.best_naming.Swapped.{Swapped}
use Rattle.urgent_units.specs.declared.wish.Wish.{Wish}
use Rattle.urgent_units.specs.Answers.{BringsMost}
use Rattle.desk_app.specs.declared.files.DeskFile.{DeskFile}
use Rattle.desk_app.specs.Documents.{refused_line, stops_line}
use Rattle.desk_app.specs.SwapTexts.{swapped_text}
use Rattle.desk_app.specs.Wished.{AreStopped, AreWished, IsRefusedForUrgent}

-- There are swapped units that bring as many urgent ones to the depot as can be, and exactly their text was written: a
-- plan that runs and has the given types, how many it brings, and a cut which shows that no such plan brings more.
pub record IsMostWritten (inputs : Inputs) (wish : Wish) (before after : Option (List ℕ)) : Type 0 where
  pub swapped : Swapped
  pub most : BringsMost inputs.instance inputs.plan wish swapped
  pub written : Appends (swapped_text swapped) before after

-- the status with which units of a folder's plan are swapped, and what was written
pub record EndsSwapping (files : Files) (dir : List ℕ) (status : ℕ) (before after : Option (List ℕ)) : Type 0 where
  -- 0 exactly where the files are accepted, and the plan runs
  pub swapped : (status ≡ 0) ↔ ((inputs : Inputs) × (wish : Wish) × AreWished files dir inputs wish)
  -- then units were swapped, and as many urgent ones are brought to the depot as can be
  pub most : status ≡ 0 → (inputs : Inputs) × (wish : Wish) × AreWished files dir inputs wish
      × IsMostWritten inputs wish before after
  -- 1 exactly where the day and its plan are accepted, and the plan doesn't run
  pub stops : (status ≡ 1) ↔ ((inputs : Inputs) × AreStopped files dir inputs)
  -- then that was told
  pub stopped : status ≡ 1 → Appends stops_line before after
  -- 3 exactly where a file is refused
  pub refused : (status ≡ 3) ↔ ((file : DeskFile) × IsRefusedForUrgent files dir file)
  -- then it was named
  pub named : status ≡ 3 → (file : DeskFile) × IsRefusedForUrgent files dir file
      × Appends (refused_line file) before after
  -- and there is no other status
  pub no_other : (status ≡ 0) ⊎ (status ≡ 1) ⊎ (status ≡ 3)
