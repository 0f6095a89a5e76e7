-- What laws ask of a day; each day that was accepted has it.
use Rattle.std.specs.Prelude.{◌+◌, ◌*◌, ◌≤◌, length}
use Rattle.rail_base.specs.declared.limits.TheConstants.{MAX_COMPOSITIONS, MAX_HANDOVERS}
use Rattle.rail_base.specs.declared.limits.TheConstants.{MAX_STATIONS, MAX_TRIPS, MAX_TYPES}
use Rattle.timetable.specs.Compositions.{compositions_of}
use Rattle.timetable.specs.Day.{Day}
use Rattle.timetable.specs.Indices.{places_of}
pub use Rattle.day_tables.specs.Accepted.{IsUnitType, IsTimetable, AreUnitsOf, IsDay, HaveCompositions, times_named}
pub use Rattle.day_tables.specs.Accepted.{AreLinks, DoMeet, rows_of, IsStocked, HaveNames}

-- What laws ask of a day, and each day that was accepted has: no number is above its limit, names are apart, each trip
-- has one link on each side at most, the trips of a link meet in time and at one station, no station has two stock rows
-- of a type, and some composition may run on each trip, of compositions that are not too many; so its multipliers are
-- not too many. The least values of the tables aren't among it: the tables that were accepted tell them.
pub record IsSoundDay (day : Day) : Type 0 where
  pub limits : IsDay day
  pub names : HaveNames day
  pub links : AreLinks day
  pub meet : DoMeet day
  pub stock : IsStocked day
  pub served : HaveCompositions day
  pub compositions : length (compositions_of day) ≤ MAX_COMPOSITIONS
  pub indices : length (places_of day)
      ≤ MAX_TYPES * MAX_TRIPS + MAX_STATIONS * MAX_TYPES + MAX_HANDOVERS * MAX_COMPOSITIONS
