use Rattle.std.proofs.Common.{◌≡◌, map}
use Rattle.std.specs.List.{range_with_len}
use Rattle.timetable.specs.Admissible.{is_admissible}
use Rattle.timetable.specs.Compositions.{composition_at}
use Rattle.branch_tree.specs.Sets.{set_of}
use Rattle.branch_tree.proofs.regions.Region.root.Given as goal

abbrev pub invariant-loop-trip : goal.invariant-loop-trip
invariant-loop-trip l = l.sets.items ≡ map (λ trip. set_of (λ comp. is_admissible l.instance trip (composition_at l.instance comp))) (range_with_len 0 l.trip)
