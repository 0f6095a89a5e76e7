-- The nodes so far, with those of the slots that are left.
use Rattle.std.proofs.Common.{◌≡◌, ◌++◌, length, reverse}
use Rattle.fleet_size.specs.Slots.{nodes_in}
use Rattle.fleet_size.proofs.concluding.nodes_of.Given as goal

abbrev pub invariant-loop-slot : goal.invariant-loop-slot
invariant-loop-slot l = l.nodes.items ++ nodes_in (reverse l.slots.items) ≡ nodes_in l.fn.slots.items

abbrev pub decreases-loop-slot : goal.decreases-loop-slot
decreases-loop-slot l = length l.slots.items
