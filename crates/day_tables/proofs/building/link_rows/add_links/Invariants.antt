-- The links so far and the rows still to come give what all rows give.
use Rattle.std.proofs.Common.{◌≡◌, ◌+◌, length, drop}
use Rattle.day_tables.specs.LinkRows.{accept_link}
use Rattle.day_tables.specs.Rowwise.{accept_each}
use Rattle.day_tables.proofs.building.link_rows.add_links.Given as goal

abbrev pub invariant-loop-row : goal.invariant-loop-row
invariant-loop-row l =
    (accept_each (accept_link l.trips) l.links.links (drop l.row-index l.rows) ≡ accept_each (accept_link l.trips) l.fn.links.links l.rows) ×
    (length l.links.links ≡ length l.fn.links.links + l.row-index) ×
    (l.links.trips ≡ length l.trips)
