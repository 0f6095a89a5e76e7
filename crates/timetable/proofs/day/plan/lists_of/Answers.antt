-- The list of a row is added, and what refuses the row refuses the plan.
use Rattle.std.proofs.Common.{◌≡◌, Ok, ap, sym, subst, ◌∙◌, arith, length, List, ℕ}
use Rattle.std.proofs.lemmas.List.{length_push}
use Rattle.std.proofs.lemmas.Result.{err_from_is_err_and}
use Rattle.rail_base.specs.Answers.{Fails}
use Rattle.timetable.specs.Plans.{accept_list, is_memory, lists_in}
use Rattle.timetable.proofs.EachRow.{one_more, one_failed}
use Rattle.timetable.proofs.day.plan.lists_of.Goals as goal

pub loop-row-preserved : goal.loop-row-preserved
loop-row-preserved c =
    let gives : accept_list c.args.instance.now c.loop-row.lists.items c.row-item.result ≡ Ok c.in_ok-accepted.accepted =
    ap (λ (lists : List (List ℕ)). accept_list c.args.instance.now lists c.row-item.result) (sym c.deref.ensures.value) ∙ c.in_ok-accepted.ensures.value in (
      one_more (accept_list c.args.instance.now) c.loop-row.lists.items c.push.new.self.items c.args.rows.now c.loop-row.row-index c.row-item.result c.in_ok-accepted.accepted _
          c.loop-row-test.true c.row-item.is gives c.in_ok-push.ensures.items c.loop-row.invariant.0,
      omega (arith, c.in_ok-accepted.ensures.few, ap length c.deref.ensures.value, ap length c.in_ok-push.ensures.items, length_push c.loop-row.lists.items c.in_ok-accepted.accepted),
    )

pub returns-in_err-accepted-clause-value : goal.returns-in_err-accepted-clause-value
unfolding lists_in
returns-in_err-accepted-clause-value c =
    let p = err_from_is_err_and c.from_residual.result c.from_residual.ensures.1 in
    rw (p.1, p.2) (one_failed (accept_list c.args.instance.now) is_memory c.loop-row.lists.items c.args.rows.now c.loop-row.row-index c.row-item.result c.in_err-accepted.field-0.0 _
    c.loop-row-test.true c.row-item.is
    (subst (λ (lists : List (List ℕ)). Fails is_memory c.in_err-accepted.field-0.0 (accept_list c.args.instance.now lists c.row-item.result)) c.deref.ensures.value c.in_err-accepted.ensures.value)
    c.loop-row.invariant.0)
