-- The front or the rear of a composition is one unit less.
use Rattle.std.proofs.Common.{arith, sym, subst, ℕ, List}
use Rattle.rules.specs.declared.records.End.{End}
use Rattle.rules.specs.declared.records.End.TheVariants as at
use Rattle.price_bound.specs.CompositionTrees.{IsOneLess}
use Rattle.price_bound.proofs.Resting.{one_less_all, one_less_front, one_less_rear}
use Rattle.price_bound.proofs.trains.without_one.Goals as goal

pub returns-then-units-lt2-clause-none : goal.returns-then-units-lt2-clause-none
returns-then-units-lt2-clause-none c none =
    one_less_all c.args.end c.args.composition.now (omega (arith, c.if-units-lt2.true, c.len-units.ensures.value))
    (omega (arith, c.len-units.ensures.value, c.len-units.ensures.some))

pub returns-in-Rear-clause-some : goal.returns-in-Rear-clause-some
returns-in-Rear-clause-some c =
    subst (λ (end : End). IsOneLess end c.args.composition.now c.front.result) (sym c.in-Rear.is)
    (subst (λ (less : List ℕ). IsOneLess at.Rear c.args.composition.now less) (sym c.front.ensures)
    (one_less_rear c.args.composition.now c.len-units.result c.len-units.ensures.value c.len-units.ensures.some))

pub returns-in-Front-clause-some : goal.returns-in-Front-clause-some
returns-in-Front-clause-some c =
    subst (λ (end : End). IsOneLess end c.args.composition.now c.rear.result) (sym c.in-Front.is)
    (subst (λ (less : List ℕ). IsOneLess at.Front c.args.composition.now less) (sym c.rear.ensures)
    (one_less_front c.args.composition.now c.len-units.result c.len-units.ensures.value c.len-units.ensures.some))
