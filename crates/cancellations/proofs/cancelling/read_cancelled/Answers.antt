use Rattle.std.proofs.Common.{◌≡◌, List, ℕ, ◌∷◌, sym, ap, ◌∙◌}
use Rattle.std.proofs.lemmas.Result.{err_from_is_err_and}
use Rattle.csv.specs.Records.{fields_of}
use Rattle.rail_csv.specs.Records.{records_left}
use Rattle.rail_csv.specs.Tables.{records_of}
use Rattle.cancellations.specs.Cancellations.{header}
use Rattle.cancellations.proofs.Reading.{header_read}
use Rattle.cancellations.proofs.Rows.{are_cancellable}
use Rattle.cancellations.proofs.RowsRead.{all_cancel, all_refused, few_under}
use Rattle.cancellations.proofs.cancelling.read_cancelled.Goals as goal

pub read_rows-requires-clause-few : goal.read_rows-requires-clause-few
read_rows-requires-clause-few c =
    let took = rw c.in-Some.is at c.in_ok-header.ensures in
    let under : records_of c.args.bytes.now ≡ header ∷ records_left c.next_record.new.records =
    sym c.records_in-records.ensures.all ∙ took.first
    ∙ ap (λ (fields : List (List ℕ)). fields ∷ records_left c.next_record.new.records) (header_read (fields_of c.in-Some.header) (sym c.is_header.ensures ∙ c.if-not-is_header.false)) in
    few_under c.args.instance.now c.args.now c.args.bytes.now (records_left c.next_record.new.records) under c.requires

pub returns-in_err-trips-clause-refused : goal.returns-in_err-trips-clause-refused
returns-in_err-trips-clause-refused c =
    let took = rw c.in-Some.is at c.in_ok-header.ensures in
    let under : records_of c.args.bytes.now ≡ header ∷ records_left c.next_record.new.records =
    sym c.records_in-records.ensures.all ∙ took.first
    ∙ ap (λ (fields : List (List ℕ)). fields ∷ records_left c.next_record.new.records) (header_read (fields_of c.in-Some.header) (sym c.is_header.ensures ∙ c.if-not-is_header.false)) in
    let p = err_from_is_err_and c.from_residual-in_err-trips.result c.from_residual-in_err-trips.ensures.1 in
    rw (p.1, p.2)
    (all_refused c.args.instance.now c.args.now c.args.bytes.now (records_left c.next_record.new.records) under c.in_err-trips.field-0.0 c.in_err-trips.ensures.err)

pub returns-clause-cancelled : goal.returns-clause-cancelled
returns-clause-cancelled c =
    let took = rw c.in-Some.is at c.in_ok-header.ensures in
    let under : records_of c.args.bytes.now ≡ header ∷ records_left c.next_record.new.records =
    sym c.records_in-records.ensures.all ∙ took.first
    ∙ ap (λ (fields : List (List ℕ)). fields ∷ records_left c.next_record.new.records) (header_read (fields_of c.in-Some.header) (sym c.is_header.ensures ∙ c.if-not-is_header.false)) in
    all_cancel c.args.instance.now c.args.now c.args.bytes.now (records_left c.next_record.new.records) under c.in_ok-trips.trips.items c.in_ok-trips.ensures.ok

pub returns-clause-cancellable : goal.returns-clause-cancellable
returns-clause-cancellable c =
    are_cancellable c.args.instance.now c.args.now (records_left c.next_record.new.records) c.in_ok-trips.trips.items c.in_ok-trips.ensures.ok
