use Rattle.std.proofs.Common.{◌+◌, Option, sym, ap, ◌∙◌, arith, length}
use Rattle.timetable.specs.Lists.{below}
use Rattle.day_simulator.specs.declared.events.StepFault.{StepFault}
use Rattle.day_simulator.specs.Finish.{first_differing_type, or_else}
use Rattle.day_simulator.proofs.Differing.{stations_more, stations_later}
use Rattle.day_simulator.proofs.balance.first_differing.Goals as goal

pub returns-in-Some : goal.returns-in-Some
returns-in-Some c = λ state same.
    let day = c.args.instance.now in
    let n = c.loop-number.number in
    let found = stations_more day state n ∙ ap (λ (o : Option StepFault). or_else o (first_differing_type day state n (below (length day.types)))) (c.loop-number.invariant state same)
    ∙ sym (c.first_differing_type.ensures state same) ∙ c.in-Some.is in
    sym (stations_later day state (n + 1) (length day.stations) _ (omega (arith, c.stations-number-end.ensures.value)) found)

pub loop-number-preserved : goal.loop-number-preserved
loop-number-preserved c = λ state same.
    let day = c.args.instance.now in
    let n = c.loop-number.number in
    stations_more day state n ∙ ap (λ (o : Option StepFault). or_else o (first_differing_type day state n (below (length day.types)))) (c.loop-number.invariant state same)
    ∙ sym (c.first_differing_type.ensures state same) ∙ c.in_default.is
