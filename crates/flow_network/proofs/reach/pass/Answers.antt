use Rattle.std.proofs.Common.{length, sym, ap, ◌∙◌, subst, is_none, arith}
use Rattle.std.specs.List.{All, count_by}
use Rattle.std.proofs.lemmas.Bool.{false≢true}
use Rattle.std.proofs.lemmas.List.{take_all}
use Rattle.flow_network.specs.declared.reach.Reach.{Reach}
use Rattle.flow_network.specs.Steps.{ClosesBoth}
use Rattle.flow_network.proofs.Reaching.{can_still, passed_on}
use Rattle.flow_network.proofs.reach.pass.Goals.{then-extend_either, else-extend_either}
use Rattle.flow_network.proofs.reach.pass.Goals as goal

pub loop-number-preserved : goal.loop-number-preserved
loop-number-preserved c =
    passed_on c.args.arcs.now (length c.args.reach.now.steps.items) c.args.source (count_by is_none c.args.reach.now.steps.items) c.loop-number.more c.if-extend_either.more c.extend_either.result c.loop-number.number
    c.loop-number.reach.steps.items c.extend_either.new.reach.steps.items c.loop-number.reach.found c.extend_either.new.reach.found (let h = c.loop-number-test.true in omega (arith, h)) c.loop-number.invariant c.extend_either.ensures.reaching
    c.extend_either.ensures.fewer.0 c.extend_either.ensures.fewer.1 (λ none. ap (λ (r : Reach). r.steps.items) (c.extend_either.ensures.same none)) c.extend_either.ensures.none
    (λ is. elim c.if-extend_either.branch [
      | then-extend_either w ↦ w.more-is
      | else-extend_either w ↦ absurd (false≢true (sym w.if-extend_either.false ∙ is))
    ])
    (λ isnt. elim c.if-extend_either.branch [
      | then-extend_either w ↦ absurd (false≢true (sym isnt ∙ w.if-extend_either.true))
      | else-extend_either w ↦ w.more-is
    ])

pub returns-clause-none : goal.returns-clause-none
returns-clause-none c none =
    subst (λ arcs. All (ClosesBoth c.args.source c.loop-number.reach.steps.items) arcs) (take_all c.loop-number.number c.args.arcs.now (let h = c.loop-number-test.false in omega (arith, h))) (c.loop-number.invariant.closes none)

pub extend_either-requires-clause-can : goal.extend_either-requires-clause-can
extend_either-requires-clause-can c = can_still _ _ _ _ _ _ c.requires.can c.loop-number.invariant.reaching
