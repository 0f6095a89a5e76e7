-- How the search for the fleet of least cost ends: the status, and what was written.
use Rattle.std.specs.Prelude.{ℕ, ◌≡◌, ◌≢◌, ◌↔◌, List, length, Option}
use Rattle.rail_io.specs.Folders.{Files}
use Rattle.rail_io.specs.Sinks.{Appends}
use Rattle.timetable.specs.Day.{Day}
use Rattle.answer_check.specs.Headline.{status_said}
use Rattle.fleet_check.specs.declared.found.Fleet.{Fleet}
use Rattle.fleet_size.specs.Found.{IsFleetFound}
use Rattle.fleet_text.specs.FleetLines.{fleet_text}
use Rattle.desk_commands.specs.declared.fleet_planning.FleetPlanning.{FleetPlanning}
use Rattle.desk_app.specs.declared.files.DeskFile.{DeskFile}
use Rattle.desk_app.specs.Documents.{refused_line}
use Rattle.desk_app.specs.FleetOutcomes.{granted_by}
use Rattle.desk_app.specs.Priced.{ArePriced, IsRefusedForFleet}

-- The fleet for a day was found at these prices: there is a fleet that is all that is promised of one (the plan that it
-- has runs with its stock and has the price that is said; `optimal`, `infeasible` and `bounded` are true of every fleet
-- of the day and every plan that runs with it; and its boxes prove it), exactly its document was written, and the
-- status is the one that it says.
pub record IsFleetWritten (day : Day) (prices : List ℕ) (planning : FleetPlanning) (status : ℕ)
    (before after : Option (List ℕ)) : Type 0 where
  pub fleet : Fleet
  pub found : IsFleetFound day prices (granted_by planning) fleet
  pub says : status ≡ status_said fleet.head
  pub written : Appends (fleet_text (length day.types) fleet) before after

-- the status with which the fleet for a folder's day is found, and what was written
pub record EndsFleet (files : Files) (planning : FleetPlanning) (status : ℕ) (before after : Option (List ℕ)) : Type 0
  where
    -- where the files are accepted as a day and the prices of its types, the fleet was found
    pub found : (day : Day) (prices : List ℕ) → ArePriced files planning.dir day prices
        → IsFleetWritten day prices planning status before after
    -- 3 exactly where a file is refused
    pub refused : (status ≡ 3) ↔ ((file : DeskFile) × IsRefusedForFleet files planning.dir file)
    -- then it was named
    pub named : status ≡ 3
        → (file : DeskFile) × IsRefusedForFleet files planning.dir file × Appends (refused_line file) before after
    -- and else they are accepted so
    pub accepted : status ≢ 3 → (day : Day) × (prices : List ℕ) × ArePriced files planning.dir day prices
