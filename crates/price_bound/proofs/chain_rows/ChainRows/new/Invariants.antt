-- So many rows have room.
use Rattle.std.proofs.Common.{◌≡◌, replicate, None}
use Rattle.price_bound.proofs.chain_rows.ChainRows.new.Given as goal

abbrev pub invariant-loop-trip : goal.invariant-loop-trip
invariant-loop-trip l = l.rows.items ≡ replicate l.trip (replicate l.comps None)
