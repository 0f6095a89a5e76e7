-- There are no more numbers than trips.
use Rattle.std.proofs.Common.{ℕ, List, length, ap, arith}
use Rattle.timetable.proofs.Listing.{length-listed}
use Rattle.timetable.proofs.day.instance.Instance.trips_left.Goals as goal

pub take_out-requires : goal.take_out-requires
take_out-requires c = omega (arith, ap (λ (l : List ℕ). length l) c.in_ok-trips.ensures, length-listed (λ (k : ℕ). k) c.trips.result, c.trips.ensures.few)
