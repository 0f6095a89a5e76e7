-- The compositions below a number have their values.
use Rattle.price_bound.specs.PassValues.{AreShorter}
use Rattle.price_bound.proofs.PassLoops.{ArePassed}
use Rattle.price_bound.proofs.passes.Passes.put_values.Given as goal

abbrev pub invariant-loop-comp : goal.invariant-loop-comp
invariant-loop-comp l = record {
  shorter : AreShorter l.self l.ahead l.comp l.shorter;
  values : ArePassed l.self l.ahead l.comp l.values;
}
