use Rattle.std.proofs.Common.{ℕ, ap, arith}
use Rattle.timetable.specs.Lists.{sum_below}
use Rattle.urgent_units.specs.Moments.{moment_count}
use Rattle.urgent_units.proofs.CutNodes.{node_below}
use Rattle.urgent_units.proofs.yard_network.node_of.Goals as goal

pub returns-clause-within : goal.returns-clause-within
returns-clause-within c =
    let below = node_below c.args.legs.now c.args.station c.args.moment c.requires.station c.requires.moment in
    let same = ap (λ (s : ℕ). sum_below (moment_count c.args.legs.now) s) c.station.view_is in
    omega (arith, c.moments_before.ensures.value, below, same)
