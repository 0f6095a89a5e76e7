use Rattle.std.proofs.Common.{◌≡◌, ◌≤◌, ◌*◌, take}
use Rattle.rail_base.specs.declared.limits.TheConstants.{MAX_SEATS}
use Rattle.compositions.specs.Composition.{sum_over}
use Rattle.compositions.specs.Measure.{measure_of}
use Rattle.compositions.proofs.composition.Measure.total.Given as goal

abbrev pub invariant-loop-unit : goal.invariant-loop-unit
invariant-loop-unit l = (l.total ≡ sum_over (measure_of l.self) l.types (take l.unit-index l.units)) × (l.total ≤ MAX_SEATS * l.unit-index)
