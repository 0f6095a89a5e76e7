-- One sum more for each.
use Rattle.std.proofs.Common.{to_z, of_z, w64, ◌≡◌, ◌<◌, ◌+◌, ℕ, suc, ℤ, List, set, length, pos, sym, subst, arith}
use Rattle.timetable.specs.Compositions.{compositions_of, composition_at}
use Rattle.timetable.specs.Day.{Day}
use Rattle.price_bound.specs.CellSizes.{IsSmall, most_units_price}
use Rattle.price_bound.specs.Credits.{AreSumsBefore, sum_in}
use Rattle.price_bound.proofs.Adding.{read_is}
use Rattle.price_bound.proofs.FrontSums.{sums_begin, sums_more}
use Rattle.price_bound.proofs.credits.put_sums.Goals as goal

begun : (day : Day) (amounts sums : List ℤ) (place : ℕ) → length sums ≡ suc (length (compositions_of day)) → place ≡ length (compositions_of day)
    → AreSumsBefore day amounts 0 (set sums place (pos 0))
begun day amounts sums place long is =
    subst (λ (k : ℕ). AreSumsBefore day amounts 0 (set sums k (pos 0))) (sym is) (sums_begin day amounts sums long)

one_more : (day : Day) (amounts sums : List ℤ) (comp : ℕ) (sum : ℤ) → comp < length (compositions_of day) → AreSumsBefore day amounts comp sums
    → sum ≡ sum_in amounts (composition_at day comp) → IsSmall most_units_price sum
    → AreSumsBefore day amounts (comp + 1) (set sums comp (to_z w64 (of_z w64 sum)))
one_more day amounts sums comp sum listed done is small =
    subst (λ (x : ℤ). AreSumsBefore day amounts (comp + 1) (set sums comp x)) (sym (read_is most_units_price sum (omega arith) small))
    (sums_more day amounts sums comp sum listed done is small)

pub loop-comp-init : goal.loop-comp-init
loop-comp-init c = record {
  credits = begun c.args.instance.now c.args.prices.now.gives.now c.args.credits.now (length c.args.fronts.now) c.requires.credits c.requires.fronts.long;
  debits = begun c.args.instance.now c.args.prices.now.takes.now c.args.debits.now (length c.args.fronts.now) c.requires.debits c.requires.fronts.long;
}

pub loop-comp-preserved : goal.loop-comp-preserved
loop-comp-preserved c =
    let listed : c.loop-comp.comp < length (compositions_of c.args.instance.now) = omega (arith, c.loop-comp-test.true, c.requires.fronts.long) in
    record {
      credits = one_more c.args.instance.now c.args.prices.now.gives.now c.loop-comp.credits c.loop-comp.comp c.sum_by-credit.result.0 listed
          c.loop-comp.invariant.credits c.sum_by-credit.ensures.value c.sum_by-credit.ensures.small;
      debits = one_more c.args.instance.now c.args.prices.now.takes.now c.loop-comp.debits c.loop-comp.comp c.sum_by-debit.result.0 listed
          c.loop-comp.invariant.debits c.sum_by-debit.ensures.value c.sum_by-debit.ensures.small;
    }
