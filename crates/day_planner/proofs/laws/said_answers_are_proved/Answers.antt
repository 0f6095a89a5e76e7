use Rattle.day_planner.proofs.Planned.{said_answers_are_proved}
use Rattle.day_planner.proofs.laws.said_answers_are_proved.Goals as goal

pub returns : goal.returns
returns g c = record { law = λ problem. said_answers_are_proved (g.R.Relaxation.meanings problem) }
