use Rattle.std.proofs.Common.{◌≡◌, ◌<◌, ◌≤◌, ℕ, false, length}
use Rattle.rail_base.specs.declared.limits.TheConstants.{MAX_COMPOSITIONS}
use Rattle.timetable.specs.Admissible.{is_admissible}
use Rattle.timetable.specs.Compositions.{composition_at}
use Rattle.branch_tree.specs.Sets.{is_member}
use Rattle.branch_tree.proofs.regions.admissible_set.Given as goal

abbrev pub invariant-loop-comp : goal.invariant-loop-comp
invariant-loop-comp l = record {
  all : length l.set ≡ MAX_COMPOSITIONS;
  asked : (comp : ℕ) → comp < l.comp → is_member l.set comp ≡ is_admissible l.instance l.trip (composition_at l.instance comp);
  others : (comp : ℕ) → l.comp ≤ comp → is_member l.set comp ≡ false;
}
