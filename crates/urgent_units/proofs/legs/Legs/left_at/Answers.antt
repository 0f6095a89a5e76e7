use Rattle.std.proofs.Common.{arith}
use Rattle.urgent_units.proofs.Parts.{minutes_few}
use Rattle.urgent_units.proofs.legs.Legs.left_at.Goals as goal

pub overflow_add-moment : goal.overflow_add-moment
overflow_add-moment c =
    let few = minutes_few c.args.self.now c.limits.ensures c.args.station in
    let within = c.requires.moment in
    omega (arith, few, within)
