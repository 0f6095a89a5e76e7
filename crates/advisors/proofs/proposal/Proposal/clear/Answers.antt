use Rattle.std.proofs.Common.{rules}
use Rattle.advisors.proofs.proposal.Proposal.clear.Goals as goal

pub returns : goal.returns
returns c = search rules
