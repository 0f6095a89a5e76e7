use Rattle.std.proofs.Common.{◌≡◌, ◌≤◌, ◌++◌, length}
use Rattle.compositions.specs.Composition.{fits_in}
use Rattle.compositions.specs.Extensions.{extensions}
use Rattle.compositions.proofs.catalogue.add_extensions.Given as goal

abbrev pub invariant-loop-number : goal.invariant-loop-number
invariant-loop-number l =
    (l.compositions.items ≡ l.fn.compositions.items ++ extensions (fits_in l.types l.longest) l.number l.front) ×
    (length l.compositions.items ≤ 1000)
