-- Where every link's rule holds: no link is broken where the machine tests it, and all units are accounted for.
use Rattle.std.proofs.Common.{◌≡◌, ℕ, ◌≤◌, List, None}
use Rattle.timetable.specs.Day.{Day, leaves, arrives}
use Rattle.timetable.specs.Lists.{count_of}
use Rattle.timetable.proofs.Accounts.{AreAccounted}
use Rattle.timetable.specs.Links.{trips_into}
use Rattle.day_simulator.specs.Steps.{broken_into, broken_out}

pub record IsUnbroken (day : Day) (plan : List (List ℕ)) : Type 0 where
  pub before : (a b : ℕ) → 1 ≤ count_of a (trips_into day b) → arrives day a ≤ leaves day b
  pub into : (t : ℕ) → broken_into day plan t ≡ None
  pub out : (t : ℕ) → broken_out day plan t ≡ None
  pub accounts : AreAccounted day plan
