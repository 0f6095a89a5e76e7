-- One multiplier more.
use Rattle.std.proofs.Common.{◌≡◌, ℕ, ◌+◌, ◌*◌, ◌^◌, ◌<◌, ◌≤◌, List, length, get_or, take, ℤ, pos, ◌+ℤ◌, ap, sym, subst}
use Rattle.std.proofs.Common.{arith, ◌∙◌}
use Rattle.std.proofs.lemmas.List.{get_or_default, take_all}
use Rattle.std.proofs.lemmas.List.Sums.{fold_more}
use Rattle.rail_base.specs.declared.limits.TheConstants.{MAX_MULTIPLIER}
use Rattle.branch_tree.specs.declared.multipliers.Entry.{Entry}
use Rattle.branch_tree.specs.IntSums.{int_sum}
use Rattle.price_bound.specs.declared.price_tables.PriceTables.{PriceTables}
use Rattle.price_bound.specs.CellSizes.{IsSmall}
use Rattle.price_bound.specs.PriceTables.{with_entry}
use Rattle.price_bound.specs.Regrouped.{constant_by, constant_of}
use Rattle.price_bound.specs.YardPrices.{by_place}
use Rattle.price_bound.proofs.Adding.{small_more, small_sum}
use Rattle.price_bound.proofs.Pricing.{int_sum_more}
use Rattle.price_bound.proofs.price_tables.PriceTables.add_all.Goals as goal

pub loop-place-preserved : goal.loop-place-preserved
loop-place-preserved c =
    let entries : List Entry = c.entries-entries.result.now in
    let i : ℕ = c.loop-place.place in
    let none : Entry = record { index = 0; value = pos 0 } in
    let of : Entry → ℤ = by_place c.args.instance.now (constant_by c.args.instance.now) in
    let below : i < length entries = c.loop-place-test.true in
    let amount : c.add-amount.result.0 ≡ of (get_or entries i none) =
    c.add-amount.ensures.value ∙ ap of (get_or_default entries i _ none below) in
    let more : i * (MAX_MULTIPLIER * 2 ^ 32) + (MAX_MULTIPLIER * 2 ^ 32) ≤ (i + 1) * (MAX_MULTIPLIER * 2 ^ 32) = omega arith in
    record {
      tables = c.add-amount.ensures.added
          ∙ ap (with_entry c.args.instance.now c.loop-place.self) (get_or_default entries i _ none below)
          ∙ ap (λ (tables : PriceTables). with_entry c.args.instance.now tables (get_or entries i none)) c.loop-place.invariant.tables
          ∙ sym (fold_more (with_entry c.args.instance.now) c.args.self.now entries i none below);
      sum = c.added-sum.ensures ∙ (ap (λ (z : ℤ). z +ℤ c.add-amount.result.0) c.loop-place.invariant.sum
          ∙ (ap (λ (z : ℤ). int_sum of (take i entries) +ℤ z) amount ∙ sym (int_sum_more of entries i none below)));
      small = subst (IsSmall ((i + 1) * (MAX_MULTIPLIER * 2 ^ 32))) (sym c.added-sum.ensures)
          (small_more (i * (MAX_MULTIPLIER * 2 ^ 32) + (MAX_MULTIPLIER * 2 ^ 32)) ((i + 1) * (MAX_MULTIPLIER * 2 ^ 32))
          (c.loop-place.sum.0 +ℤ c.add-amount.result.0) more
          (small_sum (i * (MAX_MULTIPLIER * 2 ^ 32)) (MAX_MULTIPLIER * 2 ^ 32) c.loop-place.sum.0 c.add-amount.result.0
          c.loop-place.invariant.small c.add-amount.ensures.small));
    }

pub returns-clause-value : goal.returns-clause-value
unfolding constant_of
returns-clause-value c =
    let all : take c.loop-place.place c.entries-entries.result.now ≡ c.args.multipliers.now =
    take_all c.loop-place.place c.entries-entries.result.now (omega (arith, c.loop-place-test.false)) ∙ c.entries-entries.ensures.value in
    c.loop-place.invariant.sum
    ∙ ap (int_sum (by_place c.args.instance.now (constant_by c.args.instance.now))) all
