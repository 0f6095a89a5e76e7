use Rattle.std.proofs.Common.{◌≡◌}
use Rattle.worked_flows.proofs.flow_tests.network_of.Given as goal

-- the nodes stay
abbrev pub invariant-loop-from : goal.invariant-loop-from
invariant-loop-from l = (l.network.nodes ≡ l.nodes) × (l.network.source ≡ 0)
