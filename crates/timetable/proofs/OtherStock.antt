-- A day with other stock rows has the same timetable.
use Rattle.std.proofs.Common.{List, refl}
use Rattle.rules.specs.declared.records.Stock.{Stock}
use Rattle.timetable.specs.Admissible.{is_admissible}
use Rattle.timetable.specs.Compositions.{greatest_platform}
use Rattle.timetable.specs.Day.{Day, leaves, arrives, from_of, to_of, km_of, demand_of, first_demand_of, platform_of}
use Rattle.timetable.specs.Day.{reallocation_of}
use Rattle.timetable.specs.DerivedDays.{KeepsTimetable, OtherStockKeepsTimetables}

keeps : (day : Day) (rows : List Stock) → KeepsTimetable day rows
unfolding leaves arrives from_of to_of km_of demand_of first_demand_of platform_of reallocation_of is_admissible greatest_platform
keeps day rows = record {
  timetable = λ is. record {
    time = is.time;
    late = is.late;
    origin = is.origin;
    goal = is.goal;
    km = is.km;
    demand = is.demand;
    first_demand = is.first_demand;
    platform = is.platform;
    reallocation = is.reallocation;
    unit_types = is.unit_types;
    type_count = is.type_count;
    station_count = is.station_count;
    trip_count = is.trip_count;
    link_count = is.link_count;
    carriage = is.carriage;
    shortage = is.shortage;
    shunting = is.shunting;
  };
  links = λ are. record {
    arriving_once = are.arriving_once;
    departing_once = are.departing_once;
    arriving = are.arriving;
    departing = are.departing;
    in_time = are.in_time;
  };
  meet = λ all. record { station = all.station };
  served = λ have. have;
  compositions = refl;
}

pub other_stock_keeps_timetables : OtherStockKeepsTimetables
other_stock_keeps_timetables = keeps
