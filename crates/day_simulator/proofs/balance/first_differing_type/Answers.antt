use Rattle.std.proofs.Common.{◌+◌, Option, sym, ap, ◌∙◌, arith, length}
use Rattle.day_simulator.specs.declared.events.StepFault.{StepFault}
use Rattle.day_simulator.specs.Finish.{or_else}
use Rattle.day_simulator.proofs.Differing.{types_more, types_later, fault_at, differs_at, agrees_at}
use Rattle.day_simulator.proofs.balance.first_differing_type.Goals as goal

pub returns-then-count-wanted : goal.returns-then-count-wanted
returns-then-count-wanted c = λ state same.
    let day = c.args.instance.now in
    let s = c.args.station in
    let n = c.loop-number.number in
    let here = differs_at day state s n c.yard_count-count.result c.end-wanted.result (c.yard_count-count.ensures state same) c.end-wanted.ensures c.if-count-wanted.true in
    let found = types_more day state s n ∙ ap (λ (o : Option StepFault). or_else o (fault_at day state s n)) (c.loop-number.invariant state same) ∙ here in
    sym (types_later day state s (n + 1) (length day.types) _ (omega (arith, c.len-number-end.ensures.value, ap length c.types.ensures.value)) found)

pub loop-number-preserved : goal.loop-number-preserved
loop-number-preserved c = λ state same.
    let day = c.args.instance.now in
    let s = c.args.station in
    let n = c.loop-number.number in
    let here = agrees_at day state s n c.yard_count-count.result c.end-wanted.result (c.yard_count-count.ensures state same) c.end-wanted.ensures c.if-count-wanted.false in
    types_more day state s n ∙ ap (λ (o : Option StepFault). or_else o (fault_at day state s n)) (c.loop-number.invariant state same) ∙ here
