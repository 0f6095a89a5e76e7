use Rattle.std.proofs.Common.{◌≡◌, ◌≤◌, take}
use Rattle.branch_tree.specs.Sets.{size_of}
use Rattle.branch_tree.proofs.sets.CompositionSet.size.Given as goal

abbrev pub invariant-loop-comp : goal.invariant-loop-comp
invariant-loop-comp l = record { counted : l.size ≡ size_of (take l.comp l.self); few : l.size ≤ l.comp }
