use Rattle.timetable.proofs.RowsOfStock.{rows_say_stock}
use Rattle.timetable.proofs.laws.rows_say_stock.Goals as goal

pub returns : goal.returns
returns c = record { law = rows_say_stock }
