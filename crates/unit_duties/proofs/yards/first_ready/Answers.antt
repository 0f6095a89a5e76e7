use Rattle.std.proofs.Common.{◌≡◌, ◌∙◌, ◌<◌, inl, inr, false, is_gt, sym, subst, arith}
use Rattle.std.specs.Prelude.{IfNone}
use Rattle.std.proofs.lemmas.Bool.{false≢true}
use Rattle.unit_duties.specs.Yards.{NoneReady}
use Rattle.unit_duties.proofs.WaitingOrder.{order, no_later, is_between, from_first, has_key, of_first, not_differing}
use Rattle.unit_duties.proofs.WaitingOrder.{differing, found_ready}
use Rattle.unit_duties.proofs.yards.first_ready.Goals as goal
use Rattle.unit_duties.proofs.yards.first_ready.Goals.{then-ne-via-then-ne, then-ne-via-else-ne+then-ne-2}
use Rattle.unit_duties.proofs.yards.first_ready.Goals.{then-ne-via-else-ne+else-ne-2+then-first-minute}

pub returns-in_err-first-clause-none : goal.returns-in_err-first-clause-none
returns-in_err-first-clause-none c =
    let yards = c.args.yards.now in
    let s = c.args.station in
    let m = c.args.unit_type in
    let none : NoneReady yards s m c.args.minute = λ r u waits.
    absurd (false≢true (sym ((c.range.ensures.in_range tt).5 c.in_err-first.ensures.steps.0 (record { station = s; unit_type = m; ready = r; unit = u }) (from_first s m r u, tt))
    ∙ (has_key yards (record { station = s; unit_type = m; ready = r; unit = u })).1 waits)) in
    subst (λ o. IfNone o (NoneReady yards s m c.args.minute)) (sym c.from_residual.ensures) none

pub returns-clause-some : goal.returns-clause-some
returns-clause-some c =
    let yards = c.args.yards.now in
    let s = c.args.station in
    let m = c.args.unit_type in
    let first = c.in_ok-first.field-0.now in
    found_ready yards s m c.args.minute first
    ((has_key yards first).0 (of_first _ c.range.result c.next.new.self first c.in_ok-first.ensures.steps (c.range.ensures.in_range tt).1).1)
    (not_differing first.station s c.ne.result c.ne.ensures c.if-ne.false)
    (not_differing first.unit_type m c.ne-else-ne.result c.ne-else-ne.ensures c.if-ne-2.false)
    c.if-first-minute.false
    (λ r u waits. of_first (λ w. is_gt (order w (record { station = s; unit_type = m; ready = r; unit = u })) ≡ false) c.range.result c.next.new.self first c.in_ok-first.ensures.steps
    ((c.range.ensures.in_range tt).2 (record { station = s; unit_type = m; ready = r; unit = u }) (from_first s m r u, tt) ((has_key yards (record { station = s; unit_type = m; ready = r; unit = u })).1 waits)))

pub returns-then-ne-clause-none : goal.returns-then-ne-clause-none
returns-then-ne-clause-none c r u waits =
    let yards = c.args.yards.now in
    let s = c.args.station in
    let m = c.args.unit_type in
    let first = c.in_ok-first.field-0.now in
    let low : is_gt (order (record { station = s; unit_type = m; ready = 0; unit = 0 }) first) ≡ false = (of_first _ c.range.result c.next.new.self first c.in_ok-first.ensures.steps (c.range.ensures.in_range tt).1).0.0 in
    let high : is_gt (order first (record { station = s; unit_type = m; ready = r; unit = u })) ≡ false =
    of_first (λ w. is_gt (order w (record { station = s; unit_type = m; ready = r; unit = u })) ≡ false) c.range.result c.next.new.self first c.in_ok-first.ensures.steps
    ((c.range.ensures.in_range tt).2 (record { station = s; unit_type = m; ready = r; unit = u }) (from_first s m r u, tt) ((has_key yards (record { station = s; unit_type = m; ready = r; unit = u })).1 waits)) in
    let of_them = is_between s m r u first low high in
    elim c.then-ne.branch [
      | then-ne-via-then-ne w ↦ absurd (differing first.station s c.ne.result c.ne.ensures w.if-ne.true of_them.0)
      | then-ne-via-else-ne+then-ne-2 w ↦ absurd (differing first.unit_type m w.ne-else-ne.result w.ne-else-ne.ensures w.if-ne-2.true of_them.1)
      | then-ne-via-else-ne+else-ne-2+then-first-minute w ↦
          let late : c.args.minute < first.ready = w.if-first-minute.true in
          elim (no_later first (record { station = s; unit_type = m; ready = r; unit = u }) high of_them.0 of_them.1) [ inl lt ↦ omega arith | inr same ↦ let e = same.0 in omega arith ]
    ]
