-- The stations so far are cleared.
use Rattle.std.proofs.Common.{◌≡◌, ◌++◌, take, drop, map, pos}
use Rattle.price_bound.proofs.yard_tables.YardTable.clear.Given as goal

abbrev pub invariant-loop-station : goal.invariant-loop-station
invariant-loop-station l = take l.station l.self-inside.stations.items ++ map (map (map (λ _. pos 0))) (drop l.station l.self-inside.stations.items) ≡ map (map (map (λ _. pos 0))) l.fn.self
