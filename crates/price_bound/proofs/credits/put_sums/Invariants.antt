-- The sums of the compositions so far are put.
use Rattle.price_bound.specs.Credits.{AreSumsBefore}
use Rattle.price_bound.proofs.credits.put_sums.Given as goal

abbrev pub invariant-loop-comp : goal.invariant-loop-comp
invariant-loop-comp l = record {
  credits : AreSumsBefore l.instance l.prices.gives.now l.comp l.credits;
  debits : AreSumsBefore l.instance l.prices.takes.now l.comp l.debits;
}
