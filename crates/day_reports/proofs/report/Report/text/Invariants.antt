use Rattle.std.proofs.Common.{◌≡◌, map, false, take, Some}
use Rattle.std.specs.List.{flat_map}
use Rattle.csv.specs.Records.{fields_of}
use Rattle.csv.specs.Writing.{default_writer, writer_setup, fields_written, has_written, text_written}
use Rattle.day_reports.specs.Text.{line_of}
use Rattle.day_reports.proofs.report.Report.text.Given as goal

-- the writer stands between two rows, and has written those so far
abbrev pub invariant-loop-row : goal.invariant-loop-row
invariant-loop-row l = record {
  setup : writer_setup l.writer ≡ default_writer;
  fields : fields_written l.writer ≡ 0;
  wrote : has_written l.writer ≡ false;
  text : text_written (λ v. Some v.items) l.writer ≡ Some (flat_map line_of (map fields_of (take l.row-index l.row-items)));
}
