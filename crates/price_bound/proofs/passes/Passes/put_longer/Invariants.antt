-- The compositions from a number on have offered their values.
use Rattle.std.proofs.Common.{◌≤◌}
use Rattle.price_bound.specs.PassValues.{AreLonger, comps_for}
use Rattle.price_bound.proofs.passes.Passes.put_longer.Given as goal

abbrev pub invariant-loop-comp : goal.invariant-loop-comp
invariant-loop-comp l = record {
  longer : AreLonger l.self l.ahead l.comp l.longer;
  within : l.comp ≤ comps_for l.self;
}

abbrev pub decreases-loop-comp : goal.decreases-loop-comp
decreases-loop-comp l = l.comp
