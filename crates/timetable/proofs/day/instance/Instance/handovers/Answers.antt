-- The hand-overs are those of the day, and use three of the two ends that each of its trips has.
use Rattle.std.proofs.Common.{◌≡◌, ◌≤◌, ◌*◌, ℕ, List, length, arith, ap}
use Rattle.timetable.specs.declared.day.records.Handover.{Handover}
use Rattle.timetable.specs.Accepted.{AreLinks}
use Rattle.timetable.specs.Day.{Day}
use Rattle.timetable.specs.Handovers.{handovers_of}
use Rattle.timetable.specs.InstanceParts.{day_in}
use Rattle.timetable.proofs.Ends.{few_ends}
use Rattle.timetable.proofs.Handovers.{are_handovers}
use Rattle.timetable.proofs.day.instance.Instance.handovers.Goals as goal

thirds : (day : Day) (count : ℕ) (handovers : List Handover) → count ≡ length handovers → handovers ≡ handovers_of day → AreLinks day → 3 * count ≤ 2 * length day.trips
thirds day count handovers is of_day links = omega (arith, ap length of_day, few_ends day links)

pub overflow_cast-result : goal.overflow_cast-result
overflow_cast-result c =
    let ends : 3 * c.len.result ≤ 2 * length (day_in c.self.inside).trips = thirds (day_in c.self.inside) c.len.result c.self.inside.handovers.items (omega (arith, c.self.inside.handovers.ok, c.len.ensures)) c.self.invariant.handovers c.self.invariant.links in
    omega (arith, c.self.invariant.day.timetable.trip_count)

pub returns-clause-few : goal.returns-clause-few
returns-clause-few c =
    let ends : 3 * c.len.result ≤ 2 * length (day_in c.self.inside).trips = thirds (day_in c.self.inside) c.len.result c.self.inside.handovers.items (omega (arith, c.self.inside.handovers.ok, c.len.ensures)) c.self.invariant.handovers c.self.invariant.links in
    omega (arith, c.self.invariant.day.timetable.trip_count)

pub returns-clause-ends : goal.returns-clause-ends
returns-clause-ends c =
    rw (← c.self.view_is) (thirds (day_in c.self.inside) c.len.result c.self.inside.handovers.items (omega (arith, c.self.inside.handovers.ok, c.len.ensures)) c.self.invariant.handovers c.self.invariant.links)

pub returns-clause-whole : goal.returns-clause-whole
returns-clause-whole c = rw (← c.self.view_is) (are_handovers (day_in c.self.inside))
