use Rattle.std.proofs.Common.{rules}
use Rattle.branch_tree.proofs.multipliers.Multipliers.fits.Goals as goal

pub returns : goal.returns
returns c = search rules
