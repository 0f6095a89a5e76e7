-- What a row gives is added, and what refuses a row refuses all.
use Rattle.std.proofs.Common.{◌≡◌, ◌∷◌, ap, sym, length, arith, rules}
use Rattle.std.specs.Vec.Iter.{into_iter_items}
use Rattle.std.proofs.lemmas.List.{length_push}
use Rattle.std.proofs.lemmas.Result.{err_from_is_err_and}
use Rattle.day_tables.specs.Build.{accept_type, is_memory}
use Rattle.day_tables.proofs.EachRow.{first_more, first_fails}
use Rattle.day_tables.proofs.building.entries.add_types.Goals as goal

pub loop-row-preserved : goal.loop-row-preserved
loop-row-preserved c =
    let first : into_iter_items c.loop-row.row-iterator ≡ c.in-Some.row ∷ into_iter_items c.next.new.self = search rules in (
      first_more accept_type c.loop-row.types c.push.new.self c.in-Some.row (into_iter_items c.next.new.self) (into_iter_items c.loop-row.row-iterator) c.in_ok-accepted.accepted _
          first (sym c.in_ok-accepted.ensures.value) c.in_ok-push.ensures.added c.loop-row.invariant.0,
      omega (arith, c.loop-row.invariant.1, ap length first, ap length c.in_ok-push.ensures.added, length_push c.loop-row.types c.in_ok-accepted.accepted),
      tt,
      tt,
    )

pub returns-in_err-accepted : goal.returns-in_err-accepted
returns-in_err-accepted c =
    let p = err_from_is_err_and c.from_residual.result c.from_residual.ensures.1 in
    let first : into_iter_items c.loop-row.row-iterator ≡ c.in-Some.row ∷ into_iter_items c.next.new.self = search rules in
    rw (p.1, p.2) (first_fails accept_type is_memory c.loop-row.types c.in-Some.row (into_iter_items c.next.new.self) (into_iter_items c.loop-row.row-iterator) c.in_err-accepted.field-0.0 _
    first (sym c.in_err-accepted.ensures.value) c.loop-row.invariant.0)
