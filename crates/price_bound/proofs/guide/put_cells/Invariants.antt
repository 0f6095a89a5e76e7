-- The rows have the sizes of the day.
use Rattle.price_bound.specs.CellRows.{HaveRoomFor}
use Rattle.price_bound.specs.Pricing.{priced_by}
use Rattle.price_bound.proofs.guide.put_cells.Given as goal

abbrev pub invariant-loop-chain : goal.invariant-loop-chain
invariant-loop-chain l = HaveRoomFor (priced_by l.pricing) l.rows
