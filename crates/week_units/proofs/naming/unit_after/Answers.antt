use Rattle.std.proofs.Common.{◌≡◌, ◌∙◌, true, sym}
use Rattle.timetable.specs.Renumbering.{is_at}
use Rattle.week_units.specs.Listed.{units_listed}
use Rattle.week_units.proofs.Reading.{one_is_true, stays_found}
use Rattle.week_units.proofs.naming.unit_after.Goals as goal

pub returns-then-count-before : goal.returns-then-count-before
returns-then-count-before c =
    let units = units_listed c.args.units.now in
    let here : is_at units c.args.station c.args.unit_type c.loop-k.k ≡ true =
    one_is_true (is_at units c.args.station c.args.unit_type c.loop-k.k) c.one_at-one.result c.one_at-one.ensures
    c.if-one-eq1.true in
    sym (stays_found units c.args.station c.args.unit_type c.args.before c.loop-k.k units.count here
    (sym c.loop-k.invariant.0 ∙ c.if-count-before.true) c.loop-k-test.true).0
