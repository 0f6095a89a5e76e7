use Rattle.fleets.proofs.SoundFleets.{days_of_fleets_are_sound}
use Rattle.fleets.proofs.laws.days_of_fleets_are_sound.Goals as goal

pub returns : goal.returns
returns c = record { law = days_of_fleets_are_sound }
