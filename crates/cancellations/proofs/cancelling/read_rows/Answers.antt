use Rattle.std.proofs.Common.{ℕ, List, length, ap, arith}
use Rattle.std.proofs.lemmas.Result.{err_from_is_err_and}
use Rattle.rail_csv.specs.Records.{records_left}
use Rattle.cancellations.proofs.RowsRead.{all_read, few_left, next_refused, none_read, one_more_read}
use Rattle.cancellations.proofs.cancelling.read_rows.Goals as goal

pub loop-trips-init : goal.loop-trips-init
loop-trips-init c = none_read c.args.instance.now c.args.now c.args.records.now c.new-trips.result.items c.requires.reads c.new-trips.ensures.items

pub read_next-requires-clause-reads : goal.read_next-requires-clause-reads
read_next-requires-clause-reads c = c.loop-trips.invariant.reads

pub read_next-requires-clause-few : goal.read_next-requires-clause-few
read_next-requires-clause-few c =
    few_left c.args.instance.now c.args.now (records_left c.args.records.now) _ _ c.loop-trips.invariant c.requires.few

pub returns-in_err-read_next-clause-err : goal.returns-in_err-read_next-clause-err
returns-in_err-read_next-clause-err c =
    let p = err_from_is_err_and c.from_residual.result c.from_residual.ensures.1 in
    rw (p.1, p.2) (next_refused c.args.instance.now c.args.now (records_left c.args.records.now) _ _ c.in_err-read_next.field-0.0 c.loop-trips.invariant c.in_err-read_next.ensures.err)

pub loop-trips-smaller : goal.loop-trips-smaller
loop-trips-smaller c =
    let more = rw c.if-branch.true at c.in_ok-read_next.ensures.ok in
    omega (arith, ap (length {A = List (List ℕ)}) more.first)

pub loop-trips-preserved : goal.loop-trips-preserved
loop-trips-preserved c =
    let more = rw c.if-branch.true at c.in_ok-read_next.ensures.ok in
    one_more_read c.args.instance.now c.args.now (records_left c.args.records.now) _ _ _ _ c.loop-trips.invariant more

pub returns-clause-ok : goal.returns-clause-ok
returns-clause-ok c =
    let done = rw c.if-branch.false at c.in_ok-read_next.ensures.ok in
    all_read c.args.instance.now c.args.now (records_left c.args.records.now) _ _ _ c.loop-trips.invariant done
