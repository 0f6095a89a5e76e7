use Rattle.timetable.proofs.LinkCounts.{links_count}
use Rattle.timetable.proofs.laws.links_count.Goals as goal

pub returns : goal.returns
returns c = record { law = links_count }
