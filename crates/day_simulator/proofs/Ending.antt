-- What the end of a day tells.
use Rattle.std.proofs.Common.{◌≡◌, ℕ, Option, Some, None, Result, Ok, Err, refl, subst, length}
use Rattle.std.specs.Prelude.{MatchResult, IsOkAnd}
use Rattle.rail_base.specs.declared.numbers.Money.{Money}
use Rattle.timetable.specs.Cost.{plan_cost}
use Rattle.timetable.specs.Lists.{below}
use Rattle.day_simulator.specs.declared.events.DayEvent.{DayEvent}
use Rattle.day_simulator.specs.declared.events.StepFault.{StepFault}
use Rattle.day_simulator.specs.declared.events.StepFault.TheVariants.{NotNow}
use Rattle.day_simulator.specs.Calls.{Finishes, IsCost}
use Rattle.day_simulator.specs.Machine.{Machine}
use Rattle.day_simulator.specs.Steps.{fixed_order}
use Rattle.day_simulator.specs.Finish.{finish_of, first_not_made, first_differing, ended}

-- what the end tells, where these are the first missing event and the first count that differs
abbrev EndsWith : ℕ → Result Money StepFault → Option DayEvent → Option StepFault → Type 0
EndsWith cost result event fault = MatchResult (ended event fault cost) (λ c. IsOkAnd result (λ money. IsCost c money)) (λ f. result ≡ Err f)

pub ends_missing : (now : Machine) (e : DayEvent) → Some e ≡ first_not_made now.state (fixed_order now.day) → Finishes now (Err (NotNow e))
unfolding finish_of
ends_missing now e missing =
    subst (λ (o : Option DayEvent). EndsWith (plan_cost now.day now.plan) (Err (NotNow e)) o (first_differing now.day now.state (below (length now.day.stations)))) missing refl

pub ends_differing : (now : Machine) (f : StepFault) → None ≡ first_not_made now.state (fixed_order now.day) → Some f ≡ first_differing now.day now.state (below (length now.day.stations)) → Finishes now (Err f)
unfolding finish_of
ends_differing now f made differs =
    subst (λ (o : Option DayEvent). EndsWith (plan_cost now.day now.plan) (Err f) o (first_differing now.day now.state (below (length now.day.stations)))) made
    (subst (λ (o : Option StepFault). EndsWith (plan_cost now.day now.plan) (Err f) None o) differs refl)

pub ends_well : (now : Machine) (money : Money) → None ≡ first_not_made now.state (fixed_order now.day) → None ≡ first_differing now.day now.state (below (length now.day.stations)) → IsCost (plan_cost now.day now.plan) money → Finishes now (Ok money)
unfolding finish_of
ends_well now money made balanced cost =
    subst (λ (o : Option DayEvent). EndsWith (plan_cost now.day now.plan) (Ok money) o (first_differing now.day now.state (below (length now.day.stations)))) made
    (subst (λ (o : Option StepFault). EndsWith (plan_cost now.day now.plan) (Ok money) None o) balanced cost)
