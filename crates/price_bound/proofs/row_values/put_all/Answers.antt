-- One value more stands in the row.
use Rattle.std.proofs.Common.{◌≡◌, ◌<◌, ◌+◌, ℕ, ℤ, suc, set, Option, of_z, to_z, w64, rules, sym, subst, arith}
use Rattle.price_bound.specs.declared.cells.Cell.{Cell}
use Rattle.price_bound.proofs.RowValues.{ArePut, put_more}
use Rattle.price_bound.proofs.row_values.put_all.Goals as goal

pub loop-comp-preserved : goal.loop-comp-preserved
loop-comp-preserved g c =
    let n : ℕ = g.V.RowValues.comps c.args.values.now in
    let cell : ℕ → Option Cell = g.V.RowValues.cell c.args.values.now in
    let IsFew : Option Cell → Type 0 = g.V.RowValues.IsFew c.args.values.now in
    let comp : ℕ = c.loop-comp.comp in
    let next : suc comp ≡ comp + 1 = omega arith in
    let inside : comp < n = omega (arith, c.loop-comp-test.true, c.requires.row, c.requires.most) in
    let read : to_z w64 (of_z w64 c.value.result) ≡ c.value.result = search rules in
    subst (λ (k : ℕ). ArePut n cell IsFew k (set c.loop-comp.row comp (to_z w64 (of_z w64 c.value.result)))) next
    (subst (λ (value : ℤ). ArePut n cell IsFew (suc comp) (set c.loop-comp.row comp value)) (sym read)
    (put_more n cell IsFew comp c.loop-comp.row c.value.result c.loop-comp.invariant inside
    c.value.ensures.cell c.value.ensures.held c.value.ensures.few))
