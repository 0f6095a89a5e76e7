use Rattle.day_files.proofs.Accepted.{made_of_files, sound_of}
use Rattle.day_files.proofs.laws.accepted_days_are_sound.Goals as goal

pub returns : goal.returns
returns c = record { made = made_of_files; sound = sound_of }
