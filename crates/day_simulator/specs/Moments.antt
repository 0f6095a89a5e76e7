-- The moments of a day, by which its events are ordered, in minutes.
use Rattle.std.specs.Prelude.{◌≡◌, ◌<◌, ◌↔◌, ◌⊎◌}
use Rattle.timetable.specs.Day.{Day}
use Rattle.day_simulator.specs.declared.events.DayEvent.{DayEvent}
use Rattle.day_simulator.specs.declared.events.DayEvent.TheVariants.{Depart, Arrive}
use Rattle.day_simulator.specs.State.{moment_of}
use Rattle.day_simulator.specs.EndFaults.{minute_of}

-- this one is an arrival, and that one a departure
abbrev pub IsArrivalBeforeDeparture : DayEvent → DayEvent → Type 0
IsArrivalBeforeDeparture (Arrive s) (Depart t) = Unit {0}
IsArrivalBeforeDeparture (Arrive s) (Arrive t) = ⊥
IsArrivalBeforeDeparture (Depart s) (Depart t) = ⊥
IsArrivalBeforeDeparture (Depart s) (Arrive t) = ⊥

-- An event comes at an earlier moment exactly where it comes in an earlier minute, or in the same minute as an arrival
-- before a departure. So events of one kind in one minute come at the same moment.
abbrev pub MomentsAreOfMinutes : Type 0
MomentsAreOfMinutes = (day : Day) (e f : DayEvent) → (moment_of day e < moment_of day f)
    ↔ ((minute_of day e < minute_of day f) ⊎ ((minute_of day e ≡ minute_of day f) × IsArrivalBeforeDeparture e f))
