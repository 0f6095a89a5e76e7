-- The types so far are summed up.
use Rattle.std.proofs.Common.{◌≡◌, ◌*◌, get_or, take, pos}
use Rattle.branch_tree.specs.IntSums.{int_sum}
use Rattle.price_bound.specs.CellSizes.{IsSmall, most_price}
use Rattle.price_bound.proofs.priced_costs.sum_in.Given as goal

abbrev pub invariant-loop-place : goal.invariant-loop-place
invariant-loop-place l =
    (l.sum.0 ≡ int_sum (λ m. get_or l.amounts m (pos 0)) (take l.place l.types)) × IsSmall (l.place * most_price) l.sum.0
