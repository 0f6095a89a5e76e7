-- One amount more is added up.
use Rattle.std.proofs.Common.{◌≡◌, ◌<◌, ◌-◌, ◌++◌, ℕ, suc, ℤ, List, get_or, set, length, take, drop, pos, to_z, of_z}
use Rattle.std.proofs.Common.{w64, ap, sym, subst, arith, ◌∙◌, rules}
use Rattle.std.proofs.lemmas.List.{get_or_default}
use Rattle.inventory.specs.CountTable.{plus}
use Rattle.price_bound.specs.YardTables.{later_sums, whole_sum}
use Rattle.price_bound.proofs.YardSums.{one_more, still_long, still_there, sum_more}
use Rattle.price_bound.proofs.amounts.AmountRow.add_later.Goals as goal

pub loop-column-preserved : goal.loop-column-preserved
loop-column-preserved c =
    let old : List ℤ = c.args.self.now in
    let items : List ℤ = c.loop-column.self-inside.amounts.items in
    let k : ℕ = c.loop-column.column - 1 in
    let up : c.loop-column.column ≡ suc k = omega (arith, c.loop-column-test.true) in
    let below : k < length old = omega (arith, c.loop-column-test.true, c.loop-column.invariant.within) in
    let so_far : items ≡ take (suc k) old ++ later_sums (drop (suc k) old) =
    c.loop-column.invariant.amounts ∙ ap (λ (n : ℕ). take n old ++ later_sums (drop n old)) up in
    let within : k < length items =
    subst (λ (xs : List ℤ). k < length xs) (sym so_far) (still_long old (later_sums (drop (suc k) old)) k below) in
    let here : c.index.result.now ≡ get_or old k (pos 0) =
    c.index.ensures ∙ get_or_default items k c.index.result.now (pos 0) within
    ∙ ap (λ (xs : List ℤ). get_or xs k (pos 0)) so_far ∙ still_there old (later_sums (drop (suc k) old)) k below in
    let sum : to_z w64 c.loop-column.sum-bits ≡ whole_sum (drop (suc k) old) =
    c.loop-column.invariant.sum ∙ ap (λ (n : ℕ). whole_sum (drop n old)) up in
    let read : to_z w64 (of_z w64 c.index.result.now) ≡ c.index.result.now = search rules in
    let put : to_z w64 (of_z w64 c.saturating_add-sum.result) ≡ c.saturating_add-sum.result = search rules in
    let added : c.saturating_add-sum.result ≡ plus (whole_sum (drop (suc k) old)) (get_or old k (pos 0)) =
    c.saturating_add-sum.ensures ∙ ap (plus (to_z w64 c.loop-column.sum-bits)) (read ∙ here)
    ∙ ap (λ (x : ℤ). plus x (get_or old k (pos 0))) sum in
    record {
      amounts = ap (set items k) (put ∙ added)
          ∙ ap (λ (xs : List ℤ). set xs k (plus (whole_sum (drop (suc k) old)) (get_or old k (pos 0)))) so_far
          ∙ one_more old k below;
      sum = put ∙ added ∙ sum_more old k below;
      within = omega (arith, below);
    }
