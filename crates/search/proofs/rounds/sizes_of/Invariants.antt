use Rattle.std.proofs.Common.{◌≡◌, map, take}
use Rattle.branch_tree.specs.Sets.{size_of}
use Rattle.search.proofs.rounds.sizes_of.Given as goal

abbrev pub invariant-loop-trip : goal.invariant-loop-trip
invariant-loop-trip l = l.sizes.items ≡ map size_of (take l.trip l.region)
