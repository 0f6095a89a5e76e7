use Rattle.std.proofs.Common.{arith}
use Rattle.search.proofs.Choosing.{is_single}
use Rattle.search.proofs.nodes.PendingNode.divisible_trip.Goals as goal

pub unreachable-requires : goal.unreachable-requires
unreachable-requires c =
    c.requires.divisible (is_single c.args.self.now.picks c.args.self.now.region c.requires.inside
    (λ trip below. c.loop-trip.invariant trip (omega (arith, below, c.loop-trip-test.false, c.trips-trip-end.ensures))))
