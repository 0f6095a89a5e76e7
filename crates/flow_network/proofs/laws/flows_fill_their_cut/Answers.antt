use Rattle.flow_network.proofs.Largest.{flows_fill_their_cut}
use Rattle.flow_network.proofs.laws.flows_fill_their_cut.Goals as goal

pub returns : goal.returns
returns c = record { law = flows_fill_their_cut }
