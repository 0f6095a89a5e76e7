-- The fields of a machine: what a contract sees of them, and what holds of them.
use Rattle.std.specs.Prelude.{◌≡◌, length}
use Rattle.timetable.specs.Day.{unit_count}
use Rattle.timetable.specs.Accepted.{IsDay}
use Rattle.timetable.specs.Running.{IsPlan}
use Rattle.day_simulator.specs.declared.day.Day.TheInside.{Inside}
use Rattle.day_simulator.specs.Machine.{Machine}
use Rattle.day_simulator.specs.Steps.{fixed_order}

abbrev pub machine_in : Inside → Machine
machine_in a = record {
  day = a.instance.now;
  plan = a.plan.now;
  state = record { locations = a.locations.items; stages = a.stages.items; moment = a.moment };
}

-- the plan is one of the day, and each unit and each trip has its entry
pub record AreFields (a : Inside) : Type 0 where
  pub sound : IsDay a.instance.now
  pub plan : IsPlan a.instance.now a.plan.now
  pub order : a.order.items ≡ fixed_order a.instance.now
  pub locations : length a.locations.items ≡ unit_count a.instance.now
  pub stages : length a.stages.items ≡ length a.instance.now.trips
