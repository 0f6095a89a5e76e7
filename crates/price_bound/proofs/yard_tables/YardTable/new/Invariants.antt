-- The stations so far have zeros.
use Rattle.std.proofs.Common.{◌≡◌, length}
use Rattle.timetable.specs.Lists.{listed}
use Rattle.timetable.specs.Minutes.{minutes_of}
use Rattle.inventory.specs.CountTable.{zeros_for}
use Rattle.price_bound.proofs.yard_tables.YardTable.new.Given as goal

abbrev pub invariant-loop-station : goal.invariant-loop-station
invariant-loop-station l = l.stations.items ≡ listed (λ s. zeros_for (length l.instance.types) (length (minutes_of l.instance s))) l.station
