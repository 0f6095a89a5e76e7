-- One value more is out.
use Rattle.std.proofs.Common.{◌≡◌, ℕ, ◌+◌, suc, length, set, subst, arith, refl}
use Rattle.price_bound.specs.HeldValues.{no_value}
use Rattle.price_bound.proofs.CellValues.{AreOut, out_all, out_more}
use Rattle.price_bound.proofs.row_values.clear_range.Goals as goal

pub loop-comp-init : goal.loop-comp-init
loop-comp-init c = record { long = refl; before = c.requires.before; after = c.requires.after }

pub loop-comp-preserved : goal.loop-comp-preserved
loop-comp-preserved c =
    let next : suc c.loop-comp.comp ≡ c.loop-comp.comp + 1 = omega arith in
    subst (λ (k : ℕ). AreOut (length c.args.row.now) c.args.range.end k (set c.loop-comp.row c.loop-comp.comp no_value)) next
    (out_more (length c.args.row.now) c.args.range.end c.loop-comp.comp c.loop-comp.row c.loop-comp.invariant
    (omega (arith, c.loop-comp-test.true, c.requires.most)))

pub returns-clause-none : goal.returns-clause-none
returns-clause-none c =
    out_all (length c.args.row.now) c.args.range.end c.loop-comp.comp c.loop-comp.row c.loop-comp.invariant (omega (arith, c.loop-comp-test.false))
