-- The costs with the compositions so far are put.
use Rattle.std.proofs.Common.{length}
use Rattle.timetable.specs.Compositions.{compositions_of}
use Rattle.price_bound.specs.Costs.{AreCostsIn}
use Rattle.price_bound.specs.Credits.{AreRowsBut}
use Rattle.price_bound.specs.PriceTables.{HasSize}
use Rattle.price_bound.proofs.costs.fill_row.Given as goal

abbrev pub invariant-loop-comp : goal.invariant-loop-comp
invariant-loop-comp l = record {
  room : HasSize (length l.instance.trips) (length (compositions_of l.instance)) l.costs;
  costs : AreCostsIn l.instance l.changes l.trip l.comp l.costs;
  others : AreRowsBut l.trip l.fn.costs l.costs;
}
