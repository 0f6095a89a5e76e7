use Rattle.std.proofs.Common.{◌<◌, length, get_or, sym, ◌∙◌, ap, subst, List, Option}
use Rattle.flow_network.specs.declared.reach.Step.{Step}
use Rattle.flow_network.specs.Steps.{has}
use Rattle.flow_network.proofs.Reaching.{extended, head_below, no_arc}
use Rattle.flow_network.proofs.reach.extend.Goals as goal

pub returns-clause-reaching : goal.returns-clause-reaching
returns-clause-reaching c =
    extended c.args.arcs.now (length c.args.reach.now.steps.items) c.args.source c.args.reach.now.found c.args.reach.now.steps.items c.args.number c.args.is_along c.head-head.result c.requires.can.reaching
    (subst (λ n. n < length c.args.reach.now.steps.items) (sym c.head-head.ensures) (head_below c.args.is_along (get_or c.args.arcs.now c.args.number no_arc) (length c.args.reach.now.steps.items) (c.requires.can.between c.args.number no_arc c.requires.number)))
    (ap (λ (steps : List (Option Step)). has c.args.source steps c.head-head.result) (sym c.deref.ensures.value) ∙ sym c.has.ensures ∙ c.if-has.false)
    no_arc c.requires.number c.head-head.ensures
    (ap (has c.args.source c.args.reach.now.steps.items) (sym c.tail-tail.ensures) ∙ ap (λ (steps : List (Option Step)). has c.args.source steps c.tail-tail.result) (sym c.deref-else-has.ensures.value) ∙ sym c.has-else-has.ensures ∙ c.if-not-has.false)
    (sym c.has_residual.ensures ∙ c.if-not-has_residual.false)
