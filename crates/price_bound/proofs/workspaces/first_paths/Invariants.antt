-- First paths are found along the chains so far.
use Rattle.std.proofs.Common.{◌≡◌, ◌*◌, length, take}
use Rattle.timetable.specs.Chains.{chains_of}
use Rattle.price_bound.specs.CellRows.{HaveRoomFor}
use Rattle.price_bound.specs.CellSizes.{IsSmall}
use Rattle.price_bound.specs.ChainStages.{AreFirstPaths}
use Rattle.price_bound.specs.Pricing.{priced_by}
use Rattle.price_bound.proofs.workspaces.first_paths.Given as goal

abbrev pub invariant-loop-chain : goal.invariant-loop-chain
invariant-loop-chain l = record {
  room : HaveRoomFor (priced_by l.pricing) l.rows;
  long : length l.choice ≡ length l.fn.choice;
  first : AreFirstPaths (priced_by l.pricing) (take l.chain (chains_of l.pricing.instance.now)) l.choice l.value.0;
  small : IsSmall (l.chain * 20000000000000000000) l.value.0;
}
