-- The rows from a place on are made.
use Rattle.std.proofs.Common.{◌<◌, length}
use Rattle.price_bound.specs.CellRows.{HaveRoomFor, comps_of}
use Rattle.price_bound.specs.PassRooms.{IsPassRoom}
use Rattle.price_bound.specs.Pricing.{priced_by}
use Rattle.price_bound.proofs.ChainCells.{AreRowsFrom}
use Rattle.price_bound.proofs.chain_rows.fill_rows.Given as goal

abbrev pub invariant-loop-place : goal.invariant-loop-place
invariant-loop-place l = record {
  below : l.place < length l.chain;
  room : HaveRoomFor (priced_by l.pricing) l.rows;
  rows : AreRowsFrom (priced_by l.pricing) l.chain l.place l.rows;
  passes : IsPassRoom (comps_of (priced_by l.pricing)) l.pass_room;
}

abbrev pub decreases-loop-place : goal.decreases-loop-place
decreases-loop-place l = l.place
