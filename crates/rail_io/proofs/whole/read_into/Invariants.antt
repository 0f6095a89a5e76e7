use Rattle.std.proofs.Common.{length, ◌-◌}
use Rattle.rail_io.proofs.Reading.{IsReading}
use Rattle.rail_io.proofs.whole.read_into.Given as goal

abbrev pub invariant-loop-count : goal.invariant-loop-count
invariant-loop-count g l =
    IsReading (g.F.Folder.state l.initial.folder) (g.F.Folder.state l.folder) l.path l.bytes.items l.limit

abbrev pub decreases-loop-count : goal.decreases-loop-count
decreases-loop-count g l = l.limit - length l.bytes.items
