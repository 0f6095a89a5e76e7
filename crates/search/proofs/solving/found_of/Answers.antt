use Rattle.std.proofs.Common.{rules}
use Rattle.search.proofs.solving.found_of.Goals as goal

pub returns-then-is_below : goal.returns-then-is_below
returns-then-is_below c = search rules
