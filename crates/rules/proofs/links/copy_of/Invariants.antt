-- The copy so far is the front of the list.
use Rattle.std.proofs.Common.{◌≡◌, take}
use Rattle.rules.proofs.links.copy_of.Given as goal

abbrev pub invariant-loop-entry : goal.invariant-loop-entry
invariant-loop-entry g l = l.copy.items ≡ take l.entry-index l.list
