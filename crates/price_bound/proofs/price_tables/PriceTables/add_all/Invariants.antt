-- The multipliers so far are added, and their sum, with its size.
use Rattle.std.proofs.Common.{◌≡◌, ◌*◌, ◌^◌, take}
use Rattle.std.specs.Prelude.{fold}
use Rattle.rail_base.specs.declared.limits.TheConstants.{MAX_MULTIPLIER}
use Rattle.branch_tree.specs.IntSums.{int_sum}
use Rattle.price_bound.specs.CellSizes.{IsSmall}
use Rattle.price_bound.specs.PriceTables.{with_entry}
use Rattle.price_bound.specs.Regrouped.{constant_by}
use Rattle.price_bound.specs.YardPrices.{by_place}
use Rattle.price_bound.proofs.price_tables.PriceTables.add_all.Given as goal

abbrev pub invariant-loop-place : goal.invariant-loop-place
invariant-loop-place l = record {
  tables : l.self ≡ fold (with_entry l.instance) l.fn.self (take l.place l.entries);
  sum : l.sum.0 ≡ int_sum (by_place l.instance (constant_by l.instance)) (take l.place l.entries);
  small : IsSmall (l.place * (MAX_MULTIPLIER * 2 ^ 32)) l.sum.0;
}
