use Rattle.rail_csv.proofs.RowFaults.{is_wrong_row, wrong_row_is, each_refuses}
use Rattle.rail_csv.proofs.laws.what_is_wrong_in_a_row.Goals as goal

pub returns : goal.returns
returns g c = record {
  rows = λ width columns row fields e.
      (is_wrong_row width columns row fields e, wrong_row_is width columns row fields e);
  columns = each_refuses;
}
