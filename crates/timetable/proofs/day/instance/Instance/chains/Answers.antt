-- The chains are those of an accepted day, and no more than its trips.
use Rattle.std.proofs.Common.{◌≡◌, ◌≤◌, ℕ, List, length, arith, ap}
use Rattle.timetable.specs.Chains.{chains_of}
use Rattle.timetable.specs.Day.{Day}
use Rattle.timetable.specs.InstanceParts.{day_in}
use Rattle.timetable.proofs.WholeChains.{are_chains, few_chains}
use Rattle.timetable.proofs.day.instance.Instance.chains.Goals as goal

few : (day : Day) (count : ℕ) (chains : List (List ℕ)) → count ≡ length chains → chains ≡ chains_of day → length day.trips ≤ 400 → count ≤ 400
unfolding chains_of
few day count chains is of_day small = omega (arith, ap length of_day, few_chains day.links (length day.trips) (length day.trips))

pub overflow_cast-result : goal.overflow_cast-result
overflow_cast-result c = let small : c.len.result ≤ 400 = few (day_in c.self.inside) c.len.result c.self.inside.chains.items (omega (arith, c.self.inside.chains.ok, c.len.ensures)) c.self.invariant.chains c.self.invariant.day.timetable.trip_count in omega arith

pub returns-clause-few : goal.returns-clause-few
returns-clause-few c = few (day_in c.self.inside) c.len.result c.self.inside.chains.items (omega (arith, c.self.inside.chains.ok, c.len.ensures)) c.self.invariant.chains c.self.invariant.day.timetable.trip_count

pub returns-clause-whole : goal.returns-clause-whole
returns-clause-whole c = rw (← c.self.view_is) (are_chains (day_in c.self.inside) c.self.invariant.links c.self.invariant.day)
