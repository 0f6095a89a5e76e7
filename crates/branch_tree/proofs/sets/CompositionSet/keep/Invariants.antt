use Rattle.std.proofs.Common.{◌≡◌, ◌<◌, ◌≤◌, ℕ, ◌&&◌, length}
use Rattle.branch_tree.specs.Cuts.{is_on}
use Rattle.branch_tree.specs.Sets.{is_member}
use Rattle.branch_tree.proofs.sets.CompositionSet.keep.Given as goal

abbrev pub invariant-loop-comp : goal.invariant-loop-comp
invariant-loop-comp l = record {
  same_length : length l.self ≡ length l.initial.self;
  kept : (comp : ℕ) → comp < l.comp → is_member l.self comp ≡ (is_member l.initial.self comp && is_on l.catalogue l.cut l.side comp);
  left : (comp : ℕ) → l.comp ≤ comp → is_member l.self comp ≡ is_member l.initial.self comp;
}
