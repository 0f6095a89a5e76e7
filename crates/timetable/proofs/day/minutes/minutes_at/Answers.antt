-- The minutes so far rise.
use Rattle.std.proofs.Common.{◌<◌, ℕ, sym, subst, drop}
use Rattle.std.specs.List.{AllPairs}
use Rattle.timetable.proofs.Minutes.{minutes_rise}
use Rattle.timetable.proofs.day.minutes.minutes_at.Goals as goal

pub insert_departure-requires : goal.insert_departure-requires
insert_departure-requires c = subst (AllPairs (λ (a b : ℕ). a < b)) (sym c.loop-left.invariant.0) (minutes_rise (drop c.loop-left.left c.args.trips.now) c.args.station)
