-- One change more.
use Rattle.std.proofs.Common.{◌≡◌, ℕ, ◌+◌, ◌*◌, ◌<◌, ◌≤◌, List, length, get_or, take, ℤ, pos, ◌+ℤ◌, ap, sym, subst}
use Rattle.std.proofs.Common.{arith, ◌∙◌}
use Rattle.std.proofs.lemmas.List.{get_or_read}
use Rattle.price_bound.specs.declared.changes.Change.{Change}
use Rattle.price_bound.specs.CellSizes.{IsSmall}
use Rattle.price_bound.specs.ChangedDays.{added_cost, own_cost}
use Rattle.price_bound.proofs.Adding.{small_more, small_sum}
use Rattle.price_bound.proofs.ChangedCosts.{added_more}
use Rattle.price_bound.proofs.changes.added_cost.Goals as goal

pub loop-place-preserved : goal.loop-place-preserved
loop-place-preserved c =
    let changes : List Change = c.args.changes.now in
    let picks : List ℕ = c.args.picks.now in
    let i : ℕ = c.loop-place.place in
    let none : Change = record { trip = 0; base = 0; cost = 0 } in
    let below : i < length changes = c.loop-place-test.true in
    let amount : c.own_cost-more.result.0 ≡ pos (own_cost picks (get_or changes i none)) =
    c.own_cost-more.ensures.value
    ∙ ap (λ (change : Change). pos (own_cost picks change)) (get_or_read changes i c.index-changes-place.result below c.index-changes-place.is none) in
    let more : i * 4294967296 + 4294967296 ≤ (i + 1) * 4294967296 = omega arith in
    record {
      sum = c.added-sum.ensures ∙ (ap (λ (z : ℤ). z +ℤ c.own_cost-more.result.0) c.loop-place.invariant.sum
          ∙ (ap (λ (z : ℤ). pos (added_cost (take i changes) picks) +ℤ z) amount
          ∙ ap pos (sym (added_more changes picks i none below))));
      small = subst (IsSmall ((i + 1) * 4294967296)) (sym c.added-sum.ensures)
          (small_more (i * 4294967296 + 4294967296) ((i + 1) * 4294967296) (c.loop-place.sum.0 +ℤ c.own_cost-more.result.0) more
          (small_sum (i * 4294967296) 4294967296 c.loop-place.sum.0 c.own_cost-more.result.0 c.loop-place.invariant.small
          c.own_cost-more.ensures.small));
    }
