use Rattle.flow_network.proofs.Reaching.{can_from}
use Rattle.flow_network.proofs.reach.reach_all.Goals as goal

pub pass-goes_on-requires : goal.pass-goes_on-requires
pass-goes_on-requires c = record { can = can_from _ _ _ _ _ c.requires.few c.requires.source c.requires.arcs c.loop-goes_on.invariant.reaching }
