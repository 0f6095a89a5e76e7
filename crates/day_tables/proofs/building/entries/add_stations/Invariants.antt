-- The stations so far and the rows still to come give what all rows give.
use Rattle.std.proofs.Common.{◌≡◌, ◌+◌, ◌≤◌, length}
use Rattle.std.specs.Vec.Iter.{into_iter_items}
use Rattle.rail_base.specs.declared.limits.TheConstants.{MAX_STATIONS}
use Rattle.day_tables.specs.Build.{accept_station}
use Rattle.day_tables.specs.Rowwise.{accept_each}
use Rattle.day_tables.proofs.building.entries.add_stations.Given as goal

abbrev pub invariant-loop-row : goal.invariant-loop-row
invariant-loop-row l =
    (accept_each accept_station l.stations (into_iter_items l.row-iterator) ≡ accept_each accept_station l.fn.stations l.fn.rows.items) ×
    (length l.stations + length (into_iter_items l.row-iterator) ≤ MAX_STATIONS) ×
    (goal.iterator-loop-row).can_next l.row-iterator ×
    (goal.iterator-loop-row).is_finite l.row-iterator
