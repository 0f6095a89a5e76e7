use Rattle.std.proofs.Common.{ℕ, List, length, ap, arith, sym, subst}
use Rattle.std.proofs.lemmas.Result.{err_from_is_err_and}
use Rattle.rail_csv.specs.Records.{records_left}
use Rattle.urgent_units.specs.WishReading.{IsRowRefusal}
use Rattle.urgent_units.proofs.WishRows.{none_read, read_one_more, all_read}
use Rattle.urgent_units.proofs.wish_table.read_rows.Goals as goal

pub loop-rows-init : goal.loop-rows-init
loop-rows-init c = none_read c.args.instance.now c.args.records.now c.new-rows.result.items c.requires c.new-rows.ensures.items

pub read_next-requires-clause-reads : goal.read_next-requires-clause-reads
read_next-requires-clause-reads c = c.loop-rows.invariant.next

pub read_next-requires-clause-rows : goal.read_next-requires-clause-rows
read_next-requires-clause-rows c = c.loop-rows.invariant.are

pub returns-in_err-read_next-clause-err : goal.returns-in_err-read_next-clause-err
returns-in_err-read_next-clause-err c =
    let inv = c.loop-rows.invariant in
    let p = err_from_is_err_and c.from_residual.result c.from_residual.ensures.1 in
    rw (p.1, p.2) (subst (λ (rs : List (List (List ℕ))). IsRowRefusal c.args.instance.now rs c.in_err-read_next.field-0.0) (sym inv.parts) (c.in_err-read_next.ensures.err inv.seen inv.right))

pub loop-rows-smaller : goal.loop-rows-smaller
loop-rows-smaller c =
    let inv = c.loop-rows.invariant in
    let more = rw c.if-branch.true at (c.in_ok-read_next.ensures.ok inv.seen inv.right) in
    omega (arith, ap (length {A = List (List ℕ)}) more.first)

pub loop-rows-preserved : goal.loop-rows-preserved
loop-rows-preserved c =
    let inv = c.loop-rows.invariant in
    let more = rw c.if-branch.true at (c.in_ok-read_next.ensures.ok inv.seen inv.right) in
    read_one_more c.args.instance.now (records_left c.args.records.now) _ _ _ _ inv c.in_ok-read_next.ensures.rows more

pub returns-clause-ok : goal.returns-clause-ok
returns-clause-ok c =
    let inv = c.loop-rows.invariant in
    let done = rw c.if-branch.false at (c.in_ok-read_next.ensures.ok inv.seen inv.right) in
    all_read c.args.instance.now (records_left c.args.records.now) _ _ _ inv done.0 done.1
