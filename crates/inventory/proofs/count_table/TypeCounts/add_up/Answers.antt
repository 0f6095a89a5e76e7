use Rattle.std.proofs.Common.{◌≡◌, ℕ, zero, suc, List, [], ◌∷◌, ◌++◌, ℤ, ◌+ℤ◌, get_or, set, take, drop, refl, ap, sym, subst, ◌∙◌, add-one, arith, w64, to_z, of_z}
use Rattle.std.proofs.lemmas.Int.{ints}
use Rattle.std.specs.Int.{saturate_signed}
use Rattle.inventory.specs.CountTable.{plus, sums_from}
use Rattle.inventory.proofs.count_table.TypeCounts.add_up.Goals as goal

-- the number at a place is replaced by the sum up to it
sum_put : (items : List ℤ) (place : ℕ) (sum added read : ℤ) → read ≡ get_or items place read → added ≡ plus sum read →
    take (suc place) (set items place added) ++ sums_from added (drop (suc place) (set items place added)) ≡ take place items ++ sums_from sum (drop place items)
sum_put [] zero sum added read here is = refl
sum_put [] (suc place) sum added read here is = refl
sum_put (x ∷ xs) zero sum added read here is = ap (λ first. first ∷ sums_from first xs) (is ∙ ap (plus sum) here)
sum_put (x ∷ xs) (suc place) sum added read here is = ap (λ rest. x ∷ rest) (sum_put xs place sum added read here is)

pub loop-place-preserved : goal.loop-place-preserved
loop-place-preserved c =
    let items = c.loop-place.self-inside.counts.items in
    let place = c.loop-place.place in
    let added = to_z w64 (of_z w64 c.saturating_add-sum.result) in
    let passed : added ≡ c.saturating_add-sum.result = omega (arith, ints) in
    let read : to_z w64 (of_z w64 c.index.result.now) ≡ c.index.result.now = omega (arith, ints) in
    let before = to_z w64 c.loop-place.sum-bits in
    let sum : added ≡ plus before c.index.result.now = passed ∙ (c.saturating_add-sum.ensures ∙ ap (λ more. saturate_signed w64 (before +ℤ more)) read) in
    subst (λ (n : ℕ). take n (set items place added) ++ sums_from added (drop n (set items place added)) ≡ sums_from (to_z w64 (of_z w64 c.args.first)) c.args.self.now) (sym (add-one place))
    (sum_put items place before added c.index.result.now c.index.ensures sum ∙ c.loop-place.invariant)
