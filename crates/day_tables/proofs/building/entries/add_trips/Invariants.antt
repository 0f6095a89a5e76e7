-- The trips so far and the rows still to come give what all rows give.
use Rattle.std.proofs.Common.{◌≡◌, ◌+◌, ◌≤◌, length}
use Rattle.std.specs.Vec.Iter.{into_iter_items}
use Rattle.rail_base.specs.declared.limits.TheConstants.{MAX_TRIPS}
use Rattle.day_tables.specs.Build.{accept_trip}
use Rattle.day_tables.specs.Rowwise.{accept_each}
use Rattle.day_tables.proofs.building.entries.add_trips.Given as goal

abbrev pub invariant-loop-row : goal.invariant-loop-row
invariant-loop-row l =
    (accept_each (accept_trip l.stations l.types) l.trips (into_iter_items l.row-iterator) ≡ accept_each (accept_trip l.stations l.types) l.fn.trips l.fn.rows.items) ×
    (length l.trips + length (into_iter_items l.row-iterator) ≤ MAX_TRIPS) ×
    (goal.iterator-loop-row).can_next l.row-iterator ×
    (goal.iterator-loop-row).is_finite l.row-iterator
