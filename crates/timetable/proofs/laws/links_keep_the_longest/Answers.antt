use Rattle.rules.proofs.Turning.{kept_of-is}
use Rattle.timetable.proofs.laws.links_keep_the_longest.Goals as goal

pub returns : goal.returns
returns c = record { law = kept_of-is }
