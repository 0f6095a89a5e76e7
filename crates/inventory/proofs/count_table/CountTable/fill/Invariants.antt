-- The trips so far are noted.
use Rattle.std.proofs.Common.{◌≡◌, ℕ, ◌<◌}
use Rattle.timetable.specs.Picks.{picked}
use Rattle.inventory.specs.CountTable.{cleared, with_trips, MoveFew}
use Rattle.inventory.proofs.count_table.CountTable.fill.Given as goal

abbrev pub invariant-loop-trip : goal.invariant-loop-trip
invariant-loop-trip l = (l.self ≡ with_trips l.instance (picked l.instance l.picks) l.trip (cleared l.fn.self)) × ((t : ℕ) → t < l.trip → MoveFew l.instance (picked l.instance l.picks) t)
