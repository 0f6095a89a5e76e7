use Rattle.std.proofs.Common.{◌≡◌, ◌<◌, ℕ, false, ◌&&◌}
use Rattle.branch_tree.specs.Cuts.{is_on}
use Rattle.branch_tree.specs.Sets.{is_member}
use Rattle.branch_tree.proofs.sets.CompositionSet.has_some_on.Given as goal

abbrev pub invariant-loop-comp : goal.invariant-loop-comp
invariant-loop-comp l = (comp : ℕ) → comp < l.comp → (is_member l.self comp && is_on l.catalogue l.cut l.side comp) ≡ false
