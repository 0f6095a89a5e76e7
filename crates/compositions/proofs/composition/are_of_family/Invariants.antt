use Rattle.std.proofs.Common.{◌≡◌, true, take}
use Rattle.std.specs.List.{list_all}
use Rattle.std.specs.Str.{bytes_eq}
use Rattle.compositions.specs.Composition.{family_of}
use Rattle.compositions.proofs.composition.are_of_family.Given as goal

abbrev pub invariant-loop-unit : goal.invariant-loop-unit
invariant-loop-unit l = list_all (λ n. bytes_eq (family_of l.types n) l.family) (take l.unit-index l.units) ≡ true
