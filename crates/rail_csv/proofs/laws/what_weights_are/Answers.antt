use Rattle.rail_csv.proofs.OneRow.{row_if, if_row, none_if, if_none, wrong_if, if_wrong, no_other}
use Rattle.rail_csv.proofs.laws.what_weights_are.Goals as goal

pub returns : goal.returns
returns c = record {
  weights = record {
    row = λ bytes row. (row_if bytes row, if_row bytes row);
    none = λ bytes. (none_if bytes, if_none bytes);
    wrong = λ bytes e other. (λ read. wrong_if bytes e read other, if_wrong bytes e);
    others = no_other;
  };
}
