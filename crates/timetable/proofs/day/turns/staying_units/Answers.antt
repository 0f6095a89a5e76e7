-- Types are their own types.
use Rattle.std.proofs.Common.{◌≡◌, ℕ, Option, Some, subst}
use Rattle.std.specs.Prelude.{IfSome}
use Rattle.timetable.proofs.Beside.{types_beside, types_stay}
use Rattle.timetable.proofs.day.turns.staying_units.Goals as goal

pub returns-clause-number : goal.returns-clause-number
returns-clause-number c =
    types_stay c.args.uncouple c.args.couple c.args.exchange c.args.arriving.now c.args.departing.now c.kept_length-kept.result c.staying_at.result c.kept_length-kept.ensures.number c.staying_at.ensures.parts
    (λ n e. subst (λ (o : Option ℕ). IfSome o (λ n. c.kept_length-kept.result ≡ Some n)) e c.staying_at.ensures.kept)

pub returns-clause-parts : goal.returns-clause-parts
returns-clause-parts c =
    types_beside c.args.uncouple c.args.couple c.args.exchange c.args.arriving.now c.args.departing.now c.kept_length-kept.result c.staying_at.result c.kept_length-kept.ensures.number c.staying_at.ensures.parts
