use Rattle.std.proofs.Common.{◌∙◌, ◌≤◌, ℕ, List, length, sym, ap, subst, arith}
use Rattle.rail_base.specs.declared.limits.TheConstants.{MAX_COMPOSITION_UNITS}
use Rattle.timetable.specs.Turns.{staying}
use Rattle.unit_duties.proofs.Kept.{few_stay, staying_least}
use Rattle.unit_duties.proofs.trains.staying_of.Goals as goal

pub copy_of-requires : goal.copy_of-requires
copy_of-requires c = (
  omega arith,
  subst (λ (units : List ℕ). length units ≤ MAX_COMPOSITION_UNITS) (sym c.staying.ensures)
      (few_stay c.args.whole.now c.min.result MAX_COMPOSITION_UNITS c.args.end c.requires),
)

pub returns : goal.returns
returns c =
    c.copy_of.ensures ∙ c.staying.ensures
    ∙ ap (staying c.args.end c.args.whole.now) c.min.ensures
    ∙ staying_least c.args.whole.now c.args.kept c.args.end
