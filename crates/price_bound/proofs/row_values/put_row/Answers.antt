-- One word more is gone through.
use Rattle.std.proofs.Common.{◌≡◌, ◌+◌, ◌*◌, ℕ, Bool, subst, arith}
use Rattle.std.specs.Prelude.{slice_index}
use Rattle.price_bound.specs.RowValues.{AreFilled, AreMembersIn, TellsMembers}
use Rattle.price_bound.proofs.RowValues.{word_tells}
use Rattle.price_bound.proofs.row_values.put_row.Goals as goal

pub loop-place-preserved : goal.loop-place-preserved
loop-place-preserved g c =
    let n : ℕ = g.V.RowValues.comps c.args.values.now in
    let member : ℕ → Bool = g.V.RowValues.member c.args.values.now in
    let place : ℕ = c.loop-place.place in
    let next : place * 64 + 64 ≡ (place + 1) * 64 = omega arith in
    let tells : TellsMembers member (place * 64) (slice_index c.args.words.now place) = word_tells member c.args.words.now place c.requires.bits in
    record {
      row = subst (λ (k : ℕ). AreFilled n (g.V.RowValues.cell c.args.values.now) (g.V.RowValues.IsFew c.args.values.now) k c.put_word.new.row) next
          c.put_word.ensures;
      members = subst (AreMembersIn c.with_word-range.result member) next
          (c.with_word-range.ensures.members member c.loop-place.invariant.members tells);
      begin = omega (arith, c.with_word-range.ensures.begin, c.loop-place.invariant.begin);
    }
