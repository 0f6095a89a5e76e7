use Rattle.std.proofs.Common.{◌≡◌, Ok, subst, ◌∙◌, arith}
use Rattle.std.proofs.lemmas.Result.{err_from_is_err_and}
use Rattle.rail_base.specs.Answers.{Fails}
use Rattle.rail_csv.specs.Tables.{is_memory}
use Rattle.rail_csv.proofs.Turns.{no_front}
use Rattle.rail_csv.proofs.reading.read_rows.Goals as goal

pub loop-rows-init : goal.loop-rows-init
loop-rows-init g c = record {
  reads = c.requires.reads;
  few = rw c.new-rows.ensures.items (omega arith);
  total = rw c.new-rows.ensures.items (no_front _);
}

pub returns-in_err-read_next : goal.returns-in_err-read_next
returns-in_err-read_next g c =
    let p = err_from_is_err_and c.from_residual.result c.from_residual.ensures.1 in
    rw (p.1, p.2) (subst (λ read. Fails is_memory c.in_err-read_next.field-0.0 read) c.loop-rows.invariant.total c.in_err-read_next.ensures.err)

pub loop-rows-smaller : goal.loop-rows-smaller
loop-rows-smaller g c =
    let more = rw c.if-branch.true at c.in_ok-read_next.ensures.ok in
    more.less

pub loop-rows-preserved : goal.loop-rows-preserved
loop-rows-preserved g c =
    let more = rw c.if-branch.true at c.in_ok-read_next.ensures.ok in
    record { reads = more.reads; few = more.few; total = more.total ∙ c.loop-rows.invariant.total }

pub returns : goal.returns
returns g c =
    let done = rw c.if-branch.false at c.in_ok-read_next.ensures.ok in
    subst (λ read. read ≡ Ok c.read_next.new.rows.items) c.loop-rows.invariant.total done
