use Rattle.std.proofs.Common.{◌≤◌, ◌-◌, length}
use Rattle.compositions.specs.Composition.{fits_in}
use Rattle.compositions.proofs.Growth.{Grown}
use Rattle.compositions.proofs.catalogue.Catalogue.build.Given as goal

abbrev pub invariant-loop-next : goal.invariant-loop-next
invariant-loop-next l =
    Grown (fits_in l.types l.longest) (length l.types) l.compositions.items l.next ×
    (length l.compositions.items ≤ 1000)

abbrev pub decreases-loop-next : goal.decreases-loop-next
decreases-loop-next l = 1000 - l.next
