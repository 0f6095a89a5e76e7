use Rattle.week_files.proofs.ReadDays.{HaveRead}
use Rattle.week_files.proofs.days.days_in.Given as goal

-- the days so far were read
abbrev pub invariant-loop-place : goal.invariant-loop-place
invariant-loop-place g l = HaveRead l.dir (g.F.Folder.state l.initial.folder) (g.F.Folder.state l.folder) l.place l.days.items
