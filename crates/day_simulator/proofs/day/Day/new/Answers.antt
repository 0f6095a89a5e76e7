use Rattle.std.proofs.Common.{◌≡◌, ℕ, ◌∙◌, ap, refl, replicate, map}
use Rattle.rules.specs.declared.records.Trip.{Trip}
use Rattle.day_simulator.specs.State.{first_state}
use Rattle.day_simulator.specs.declared.events.Stage.TheVariants as stage
use Rattle.day_simulator.proofs.Starts.{map-same}
use Rattle.day_simulator.proofs.day.Day.new.Goals as goal

pub returns : goal.returns
unfolding first_state
returns c =
    let trips = c.args.instance.now.trips in
    let stages : c.in_ok-stages.stages.items ≡ map (λ (trip : Trip). stage.Waiting) trips =
    c.in_ok-stages.ensures ∙ ap (λ (n : ℕ). replicate n stage.Waiting) c.trips.ensures.value ∙ map-same stage.Waiting trips in
    rw (c.in_ok-locations.ensures, stages) refl
