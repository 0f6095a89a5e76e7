use Rattle.std.proofs.Common.{List, sym, subst, ◌∙◌}
use Rattle.price_bound.specs.declared.changes.Change.{Change}
use Rattle.price_bound.specs.ChangedDays.{AreChanges}
use Rattle.replan.specs.Disturbances.{Disturbed, later_day}
use Rattle.replan.proofs.ChangeLists.{are_changes}
use Rattle.replan.proofs.rest_of_day.RestOfDay.changes.Goals as goal

pub returns-clause-fit : goal.returns-clause-fit
returns-clause-fit c =
    subst (λ (d : Disturbed). AreChanges (later_day d) c.as_slice.result.now) c.self.view_is
    (subst (λ (changes : List Change). AreChanges (later_day c.self.inside.disturbance.now) changes) (sym (c.as_slice.ensures.value ∙ c.self.invariant.changes_are))
    (are_changes c.self.inside.disturbance.now c.self.invariant.under_way))
