-- The number that is found, where the composition may run.
use Rattle.std.proofs.Common.{◌≡◌, ℕ, arith, sym, subst, Option, Some}
use Rattle.std.specs.Prelude.{◌↔◌}
use Rattle.std.proofs.lemmas.Bool.{iff_false}
use Rattle.timetable.specs.Compositions.{composition_at}
use Rattle.transitions.specs.Edges.{IsAdmittedComp}
use Rattle.transitions.proofs.Numbers.{number_runs, number_missing, number_stays}
use Rattle.transitions.proofs.allowed.number_on.Goals as goal

pub may_run-requires : goal.may_run-requires
may_run-requires c = let there = (c.number_of.ensures c.in_ok-comp.comp).0 (c.in_ok-comp.was) in omega (arith, there.0, c.requires)

pub returns-in_err-comp : goal.returns-in_err-comp
returns-in_err-comp c = λ t is n.
    subst (λ (o : Option ℕ). (o ≡ Some n) ↔ (IsAdmittedComp c.args.instance.now t n × (composition_at c.args.instance.now n ≡ c.args.composition.now))) (sym c.from_residual.ensures)
    (number_missing c.args.instance.now t c.args.composition.now c.number_of.result c.number_of.ensures (c.in_err-comp.was) n)

pub returns-then-not-may_run : goal.returns-then-not-may_run
returns-then-not-may_run c = λ t is.
    number_stays c.args.instance.now t c.in_ok-comp.comp c.args.composition.now c.number_of.result c.number_of.ensures (c.in_ok-comp.was)
    (iff_false (c.may_run.ensures c.args.instance.now t is) c.if-not-may_run.true)

pub returns : goal.returns
returns c = λ t is.
    number_runs c.args.instance.now t c.in_ok-comp.comp c.args.composition.now c.number_of.result c.may_run.result c.number_of.ensures (c.in_ok-comp.was)
    (c.may_run.ensures c.args.instance.now t is) (c.if-not-may_run.false)
