use Rattle.timetable.proofs.OtherStock.{other_stock_keeps_timetables}
use Rattle.timetable.proofs.laws.other_stock_keeps_timetables.Goals as goal

pub returns : goal.returns
returns c = record { law = other_stock_keeps_timetables }
