use Rattle.timetable.proofs.Without.{tables_make_days_without}
use Rattle.timetable.proofs.laws.tables_make_days_without.Goals as goal

pub returns : goal.returns
returns c = record { law = tables_make_days_without }
