-- The stations so far are added up.
use Rattle.std.proofs.Common.{◌≡◌, ◌++◌, take, drop, map}
use Rattle.price_bound.specs.YardTables.{later_sums}
use Rattle.price_bound.proofs.yard_tables.YardTable.add_later.Given as goal

abbrev pub invariant-loop-station : goal.invariant-loop-station
invariant-loop-station l = take l.station l.self-inside.stations.items ++ map (map later_sums) (drop l.station l.self-inside.stations.items) ≡ map (map later_sums) l.fn.self
