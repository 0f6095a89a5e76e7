use Rattle.std.proofs.Common.{◌∙◌, sym, ap, subst, refl}
use Rattle.std.specs.Prelude.{option_map}
use Rattle.timetable.specs.Running.{AreUnits}
use Rattle.day_simulator.specs.declared.events.StepFault.TheVariants.{NotInYard}
use Rattle.day_simulator.specs.Steps.{first_missing}
use Rattle.day_simulator.proofs.LinkTrips.{taken_known}
use Rattle.day_simulator.proofs.day.train_fault.Goals as goal

pub returns-then-is_empty : goal.returns-then-is_empty
returns-then-is_empty c = rw (← c.units-units.ensures.value, ← c.is_empty.ensures, c.if-is_empty.true) refl

pub returns-then-not-is_admissible : goal.returns-then-not-is_admissible
returns-then-not-is_admissible c = rw (← c.units-units.ensures.value, ← c.is_empty.ensures, c.if-is_empty.false, ← c.is_admissible.ensures, c.if-not-is_admissible.true) refl

pub returns-in-Some : goal.returns-in-Some
returns-in-Some c =
    rw (← c.units-units.ensures.value, ← c.is_empty.ensures, c.if-is_empty.false, ← c.is_admissible.ensures, c.if-not-is_admissible.false, ← c.broken_into.ensures, c.in-Some.is) refl

pub first_missing-requires-clause-known : goal.first_missing-requires-clause-known
first_missing-requires-clause-known c =
    subst (AreUnits c.args.instance.now) (sym (c.as_slice.ensures.value ∙ c.taken-taken.ensures)) (taken_known c.args.instance.now c.args.plan.now c.requires.plan c.args.trip)

pub returns-in-Some-first_missing : goal.returns-in-Some-first_missing
returns-in-Some-first_missing c =
    let missing = ap (first_missing c.args.instance.now c.args.trip c.args.locations.now) (c.as_slice.ensures.value ∙ c.taken-taken.ensures) in
    rw (← c.units-units.ensures.value, ← c.is_empty.ensures, c.if-is_empty.false, ← c.is_admissible.ensures, c.if-not-is_admissible.false, ← c.broken_into.ensures, c.in_default.is)
    (ap (option_map (λ u. NotInYard u c.args.trip)) (sym c.in-Some-first_missing.is ∙ c.first_missing.ensures ∙ missing))

pub returns-in-None : goal.returns-in-None
returns-in-None c =
    let missing = ap (first_missing c.args.instance.now c.args.trip c.args.locations.now) (c.as_slice.ensures.value ∙ c.taken-taken.ensures) in
    rw (← c.units-units.ensures.value, ← c.is_empty.ensures, c.if-is_empty.false, ← c.is_admissible.ensures, c.if-not-is_admissible.false, ← c.broken_into.ensures, c.in_default.is)
    (ap (option_map (λ u. NotInYard u c.args.trip)) (sym c.in-None.is ∙ c.first_missing.ensures ∙ missing))
