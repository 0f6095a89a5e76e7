use Rattle.std.proofs.Common.{sym, ◌∙◌, pos, ap}
use Rattle.day_simulator.proofs.Ending.{ends_missing, ends_differing, ends_well}
use Rattle.day_simulator.specs.Machine.{Machine}
use Rattle.timetable.specs.Cost.{plan_cost}
use Rattle.day_simulator.proofs.day.Day.finish.Goals as goal

pub returns-in-Some : goal.returns-in-Some
returns-in-Some c = ends_missing c.args.self.now c.in-Some.event (sym c.in-Some.is ∙ c.first_missing_event.ensures)

pub returns-in-Some-first_imbalance : goal.returns-in-Some-first_imbalance
returns-in-Some-first_imbalance c =
    ends_differing c.args.self.now c.in-Some-first_imbalance.fault (sym c.in_default.is ∙ c.first_missing_event.ensures) (sym c.in-Some-first_imbalance.is ∙ c.first_imbalance.ensures)

pub returns : goal.returns
returns c = ends_well c.args.self.now _ (sym c.in_default.is ∙ c.first_missing_event.ensures) (sym c.in_default-first_imbalance.is ∙ c.first_imbalance.ensures)
    (c.plan_cost.ensures ∙ ap (λ (q : Machine). pos (plan_cost q.day q.plan)) c.self.view_is)
