-- A day of tables whose rows keep within the ranges of their columns is as the laws on days ask for it.
use Rattle.timetable.specs.Accepted.{IsDay}
use Rattle.timetable.specs.Laws.{TablesMakeSoundDays}
use Rattle.timetable.specs.Meaning.{IsDayOf}
use Rattle.timetable.proofs.Days.{day_within_limits}
use Rattle.timetable.proofs.FewPlaces.{few_places}
use Rattle.timetable.proofs.Said.{is_day_of}
use Rattle.timetable.proofs.StockRows.{stocked}

pub tables_make_sound_days : TablesMakeSoundDays
tables_make_sound_days tables day rows made =
    let meant : IsDayOf tables day = is_day_of tables day made in
    let limits : IsDay day = day_within_limits tables day rows.types rows.stations rows.trips rows.links rows.weights made in
    record {
      limits = limits;
      names = record { types = meant.type_names; stations = meant.station_names; trips = meant.trip_names };
      links = meant.linked;
      meet = meant.meet;
      stock = stocked day tables.stock meant.stock_rows meant.stock rows.stock.each;
      served = meant.served;
      compositions = meant.compositions;
      indices = few_places day limits.timetable meant.linked meant.compositions;
    }
