use Rattle.timetable.proofs.SoundDays.{tables_make_sound_days}
use Rattle.timetable.proofs.laws.tables_make_sound_days.Goals as goal

pub returns : goal.returns
returns c = record { law = tables_make_sound_days }
