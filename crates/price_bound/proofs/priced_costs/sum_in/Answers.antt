-- One type more.
use Rattle.std.proofs.Common.{◌≡◌, ℕ, ◌+◌, ◌*◌, ◌<◌, ◌≤◌, List, length, get_or, take, ℤ, pos, ◌+ℤ◌, ap}
use Rattle.std.proofs.Common.{sym, subst, arith, ◌∙◌}
use Rattle.std.proofs.lemmas.List.{get_or_read}
use Rattle.std.proofs.lemmas.List.Elements.{All-get_or}
use Rattle.branch_tree.specs.IntSums.{int_sum}
use Rattle.price_bound.specs.CellSizes.{IsSmall, most_price}
use Rattle.price_bound.proofs.Adding.{small_more, small_sum}
use Rattle.price_bound.proofs.Pricing.{int_sum_more}
use Rattle.price_bound.proofs.priced_costs.sum_in.Goals as goal

pub loop-place-preserved : goal.loop-place-preserved
loop-place-preserved c =
    let types : List ℕ = c.args.types.now in
    let i : ℕ = c.loop-place.place in
    let of : ℕ → ℤ = λ m. get_or c.args.amounts.now m (pos 0) in
    let below : i < length types = omega arith in
    let here : c.index-types-place.result ≡ get_or types i 0 =
    get_or_read types i c.index-types-place.result below c.index-types-place.is 0 in
    let amount : c.amount_of-amount.result.0 ≡ of (get_or types i 0) = c.amount_of-amount.ensures ∙ ap of here in
    let known : get_or types i 0 < length c.args.amounts.now =
    All-get_or (λ (m : ℕ). m < length c.args.amounts.now) types i 0 below c.requires.known in
    let small : IsSmall most_price c.amount_of-amount.result.0 =
    subst (IsSmall most_price) (sym amount) (c.requires.small (get_or types i 0) known) in
    let sum : c.plus-sum.result.0 ≡ int_sum of (take i types) +ℤ c.amount_of-amount.result.0 =
    c.plus-sum.ensures ∙ ap (λ (z : ℤ). z +ℤ c.amount_of-amount.result.0) c.loop-place.invariant.0 in
    let done : IsSmall (i * most_price) (int_sum of (take i types)) =
    subst (IsSmall (i * most_price)) c.loop-place.invariant.0 c.loop-place.invariant.1 in
    let more : i * most_price + most_price ≤ (i + 1) * most_price = omega arith in (
      sum ∙ (ap (λ (z : ℤ). int_sum of (take i types) +ℤ z) amount ∙ sym (int_sum_more of types i 0 below)),
      subst (IsSmall ((i + 1) * most_price)) (sym sum)
          (small_more (i * most_price + most_price) ((i + 1) * most_price)
          (int_sum of (take i types) +ℤ c.amount_of-amount.result.0) more
          (small_sum (i * most_price) most_price (int_sum of (take i types)) c.amount_of-amount.result.0 done small)),
    )
