use Rattle.rail_csv.proofs.Spelling.{is_right_row, right_row_is, each_reads}
use Rattle.rail_csv.proofs.laws.what_is_read_as_a_row.Goals as goal

pub returns : goal.returns
returns g c = record {
  rows = λ width columns number fields row.
      (is_right_row width columns number fields row, right_row_is width columns number fields row);
  columns = each_reads;
}
