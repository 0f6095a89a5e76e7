use Rattle.std.proofs.Common.{◌∙◌, List, ℕ, length, sym, ap}
use Rattle.timetable.specs.Day.{Day}
use Rattle.cancellations.proofs.Numbers.{as_many_left}
use Rattle.cancellations.proofs.without_cancelled.later.Goals as goal

pub invariant_of-result : goal.invariant_of-result
invariant_of-result c = record {
  as_many = ap (λ (numbers : List ℕ). length numbers) c.in_ok-trips_left.ensures ∙ as_many_left c.args.instance.now c.items-gone.result.now
      ∙ sym (ap (λ (day : Day). length day.trips) c.in_ok-without_trips.ensures);
}
