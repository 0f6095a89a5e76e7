-- One composition more.
use Rattle.std.proofs.Common.{◌≡◌, ◌<◌, ℕ, suc, ◌+◌, ◌+ℤ◌, ◌-ℤ◌, set, sym, ap, ◌∙◌, subst, arith}
use Rattle.price_bound.specs.CellSizes.{IsSmall}
use Rattle.price_bound.specs.LeastOverTrees.{lower}
use Rattle.price_bound.specs.CompositionTrees.{place_at}
use Rattle.price_bound.specs.PassValues.{AreShorter, comps_for, most_summed, value_at}
use Rattle.price_bound.proofs.PassLoops.{ArePassed, fewer_small, passed_all, passed_one, shorter_one}
use Rattle.price_bound.proofs.passes.Passes.put_values.Goals as goal

pub turning-value-requires-clause-fewer : goal.turning-value-requires-clause-fewer
turning-value-requires-clause-fewer c =
    subst (IsSmall most_summed) (sym (c.value_at-fewer.ensures ∙ ap (value_at c.loop-comp.shorter) c.place_at-rest.ensures))
    (fewer_small c.args.self.now c.requires.is c.args.ahead.now c.requires.ahead c.loop-comp.comp
    (omega (arith, c.requires.is.turned_long, c.loop-comp-test.true)) c.loop-comp.shorter c.loop-comp.invariant.shorter)

pub loop-comp-preserved : goal.loop-comp-preserved
loop-comp-preserved c =
    let below : c.loop-comp.comp < comps_for c.args.self.now = omega (arith, c.requires.is.turned_long, c.loop-comp-test.true) in
    let next : suc c.loop-comp.comp ≡ c.loop-comp.comp + 1 = omega arith in
    let put : c.put_value-in-loop-comp.new.values
    ≡ set c.loop-comp.shorter c.loop-comp.comp
    (lower (value_at c.loop-comp.shorter (place_at c.args.self.now.shorter.now c.loop-comp.comp))
    (value_at c.args.ahead.now c.loop-comp.comp +ℤ value_at c.args.self.now.credits.now c.loop-comp.comp)) = cc in
    let turned : c.put_value.new.values
    ≡ set c.loop-comp.values (place_at c.args.self.now.turned.now c.loop-comp.comp)
    (lower (value_at c.args.ahead.now c.loop-comp.comp)
    (c.args.self.now.shunting.0
    +ℤ lower (value_at c.loop-comp.shorter (place_at c.args.self.now.shorter.now c.loop-comp.comp) -ℤ value_at c.args.self.now.credits.now c.loop-comp.comp)
    (value_at c.args.longer.now c.loop-comp.comp -ℤ value_at c.args.self.now.debits.now c.loop-comp.comp))) = cc in
    record {
      shorter = subst (λ (k : ℕ). AreShorter c.args.self.now c.args.ahead.now k c.put_value-in-loop-comp.new.values) next
          (shorter_one c.args.self.now c.requires.is c.args.ahead.now c.requires.ahead c.loop-comp.comp below c.loop-comp.shorter
          c.put_value-in-loop-comp.new.values c.loop-comp.invariant.shorter put);
      values = subst (λ (k : ℕ). ArePassed c.args.self.now c.args.ahead.now k c.put_value.new.values) next
          (passed_one c.args.self.now c.requires.is c.args.ahead.now c.requires.ahead c.loop-comp.comp below c.loop-comp.shorter
          c.args.longer.now c.loop-comp.values c.put_value.new.values c.loop-comp.invariant.shorter c.requires.longer
          c.loop-comp.invariant.values turned);
    }

pub returns-clause-values : goal.returns-clause-values
returns-clause-values c =
    let all : c.loop-comp.comp ≡ comps_for c.args.self.now = omega (arith, c.requires.is.turned_long, c.loop-comp-test.false, c.loop-comp.auto.comp-end) in
    passed_all c.args.self.now c.requires.is c.args.ahead.now c.requires.ahead c.loop-comp.values
    (subst (λ (k : ℕ). ArePassed c.args.self.now c.args.ahead.now k c.loop-comp.values) all c.loop-comp.invariant.values)
