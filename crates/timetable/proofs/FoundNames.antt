-- A name that one entry has alone is found as its number.
use Rattle.timetable.specs.Laws.{NamesAreFound}
use Rattle.timetable.proofs.RowNames.{number_is_found}

pub names_are_found : NamesAreFound
names_are_found day names = record {
  station = λ s name at. number_is_found (λ s. s.name) day.stations name s names.stations at;
  trip = λ t name at. number_is_found (λ t. t.name) day.trips name t names.trips at;
}
