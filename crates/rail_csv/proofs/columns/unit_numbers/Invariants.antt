use Rattle.std.proofs.Common.{◌≡◌, true, take, length, map}
use Rattle.std.specs.List.{list_all}
use Rattle.rail_csv.specs.Fields.{is_number, number_of, pieces_of}
use Rattle.rail_csv.proofs.columns.unit_numbers.Given as goal

abbrev pub invariant-loop-piece : goal.invariant-loop-piece
invariant-loop-piece l = record {
  numbers : list_all is_number (take (length l.yielded) (pieces_of l.fn.text)) ≡ true;
  units : l.units.items ≡ map number_of (take (length l.yielded) (pieces_of l.fn.text));
}
