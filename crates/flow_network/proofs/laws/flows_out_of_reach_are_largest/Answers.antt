use Rattle.flow_network.proofs.Largest.{flows_out_of_reach_are_largest}
use Rattle.flow_network.proofs.laws.flows_out_of_reach_are_largest.Goals as goal

pub returns : goal.returns
returns c = record { law = flows_out_of_reach_are_largest }
