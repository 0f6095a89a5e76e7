-- The room in which the bounds of a day are found.
use Rattle.std.specs.Prelude.{◌≡◌, List, length}
use Rattle.inventory.specs.Loaded.{Loaded}
use Rattle.transitions.specs.declared.edge.Edge.{Edge}
use Rattle.price_bound.specs.declared.changes.Change.{Change}
use Rattle.timetable.specs.Compositions.{compositions_of}
use Rattle.timetable.specs.Day.{Day}
use Rattle.price_bound.specs.declared.workspaces.Workspace.{Workspace}
use Rattle.price_bound.specs.CellRows.{HaveRoom}
use Rattle.price_bound.specs.ChangedDays.{AreChanges}
use Rattle.price_bound.specs.CompositionTrees.{AreTrains}
use Rattle.price_bound.specs.Costs.{AreCosts}
use Rattle.price_bound.specs.Credits.{HaveSumRoom}
use Rattle.price_bound.specs.DayMeanings.{IsWorkedOn}
use Rattle.price_bound.specs.PriceTables.{AreSized}

-- the room has the sizes of a day, and its costs under changes
pub record IsRoomFor (day : Day) (changes : List Change) (room : Workspace) : Type 0 where
  pub costs : AreCosts day changes room.costs
  pub tables : AreSized day room.tables
  pub sums : HaveSumRoom day room.sums
  pub trains : AreTrains day room.trains
  pub rows : HaveRoom (length day.trips) (length (compositions_of day)) room.rows
  pub choice : length room.choice ≡ length day.trips

-- what is kept while a day is worked on under changes
pub record IsReady (day : Day) (graphs : List (List Edge)) (changes : List Change) (ledger : Loaded)
    (room : Workspace) : Type 0 where
  pub work : IsWorkedOn day graphs ledger
  pub changes_are : AreChanges day changes
  pub room_is : IsRoomFor day changes room
