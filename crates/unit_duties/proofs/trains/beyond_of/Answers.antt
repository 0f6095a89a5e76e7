use Rattle.std.proofs.Common.{◌∙◌, ap}
use Rattle.timetable.specs.Turns.{beyond}
use Rattle.unit_duties.proofs.Kept.{beyond_least}
use Rattle.unit_duties.proofs.trains.beyond_of.Goals as goal

pub returns : goal.returns
returns c =
    c.copy_of.ensures ∙ c.beyond.ensures.units
    ∙ ap (beyond c.args.end c.args.whole.now) c.min.ensures
    ∙ beyond_least c.args.whole.now c.args.kept c.args.end
