-- A bit tells whether a composition is a member.
use Rattle.std.proofs.Common.{◌≡◌, ◌<◌, ◌≤◌, ◌+◌, ◌-◌, ◌/◌, ◌%◌, ◌^◌, ℕ, suc, Bool, Option, false, eqb, set, to_z, of_z, w64, rules, sym, ap, ◌∙◌, subst, arith, inl, inr}
use Rattle.std.specs.Int.{trailing_zeros}
use Rattle.std.proofs.lemmas.Bool.{ne_eqb}
use Rattle.std.proofs.lemmas.Nat.Bits.{bit_at-trailing_zeros}
use Rattle.price_bound.specs.declared.cells.Cell.{Cell}
use Rattle.price_bound.specs.RowValues.{AreFilled, TellsMembers}
use Rattle.price_bound.proofs.RowValues.{bit_tells, filled_on, filled_put, halved, no_members, word_outside}
use Rattle.price_bound.proofs.row_values.put_word.Goals as goal
use Rattle.price_bound.proofs.row_values.put_word.Goals.{then-left-eq1, else-left-eq1}

pub returns-then-word-eq0 : goal.returns-then-word-eq0
returns-then-word-eq0 g c =
    let n : ℕ = g.V.RowValues.comps c.args.values.now in
    let member : ℕ → Bool = g.V.RowValues.member c.args.values.now in
    let begin : ℕ = c.args.begin in
    filled_on n (g.V.RowValues.cell c.args.values.now) (g.V.RowValues.IsFew c.args.values.now) begin (begin + 64) c.args.row.now c.requires.row
    (omega arith) c.requires.few
    (λ k from to below. c.requires.none k (no_members member begin (subst (TellsMembers member begin) c.if-word-eq0.true c.requires.bits) k from to))

pub loop-comp-init : goal.loop-comp-init
loop-comp-init g c =
    let n : ℕ = g.V.RowValues.comps c.args.values.now in
    let member : ℕ → Bool = g.V.RowValues.member c.args.values.now in
    let begin : ℕ = c.args.begin in
    let lowest : ℕ = trailing_zeros w64 c.args.word in
    let some : 0 < c.args.word = omega (arith, c.if-word-eq0.false) in
    let fits : c.args.word < 2 ^ 64 = c.ranges.word.fits in
    let inside : lowest < 64 = (bit_at-trailing_zeros w64 c.args.word some fits).0 in
    let same : lowest ≡ begin + lowest - begin = omega arith in
    record {
      row = filled_on n (g.V.RowValues.cell c.args.values.now) (g.V.RowValues.IsFew c.args.values.now) begin (begin + lowest) c.args.row.now
          c.requires.row (omega arith) c.requires.few
          (λ k from to below. c.requires.none k (word_outside member c.args.word begin some fits c.requires.bits k from (omega (arith, to, inside)) (inl to)));
      most = omega (arith, inside);
      left = ap (λ (k : ℕ). c.args.word / 2 ^ k) same;
    }

pub returns : goal.returns
returns g c =
    let n : ℕ = g.V.RowValues.comps c.args.values.now in
    let member : ℕ → Bool = g.V.RowValues.member c.args.values.now in
    let begin : ℕ = c.args.begin in
    let some : 0 < c.args.word = omega (arith, c.if-word-eq0.false) in
    let fits : c.args.word < 2 ^ 64 = c.ranges.word.fits in
    filled_on n (g.V.RowValues.cell c.args.values.now) (g.V.RowValues.IsFew c.args.values.now) c.loop-comp.comp (begin + 64) c.loop-comp.row
    c.loop-comp.invariant.row c.loop-comp.invariant.most c.requires.few
    (λ k from to below. c.requires.none k (word_outside member c.args.word begin some fits c.requires.bits k
    (omega (arith, from, c.loop-comp.auto.comp)) to
    (inr (omega (arith, from, below, c.loop-comp-test.false, c.min-end.ensures, c.requires.row.long)))))

pub loop-comp-preserved : goal.loop-comp-preserved
loop-comp-preserved g c =
    let n : ℕ = g.V.RowValues.comps c.args.values.now in
    let member : ℕ → Bool = g.V.RowValues.member c.args.values.now in
    let cell : ℕ → Option Cell = g.V.RowValues.cell c.args.values.now in
    let IsFew : Option Cell → Type 0 = g.V.RowValues.IsFew c.args.values.now in
    let comp : ℕ = c.loop-comp.comp in
    let begin : ℕ = c.args.begin in
    let next : suc comp ≡ comp + 1 = omega arith in
    let inside : comp < n =
    omega (arith, c.loop-comp-test.true, c.min-end.ensures, c.requires.row.long) in
    let since : begin ≤ comp = omega (arith, c.loop-comp.auto.comp) in
    let within : comp < begin + 64 = omega (arith, c.loop-comp-test.true, c.min-end.ensures) in
    let tells : member comp ≡ eqb (c.loop-comp.left % 2) 1 =
    bit_tells member begin c.args.word comp c.loop-comp.left c.requires.bits since within c.loop-comp.invariant.left in
    let shift : suc (comp - begin) ≡ comp + 1 - begin = omega (arith, since) in
    record {
      row = subst (λ (k : ℕ). AreFilled n cell IsFew k c.if-left-eq1.row) next (elim c.if-left-eq1.branch [
        | then-left-eq1 w ↦
            let read : to_z w64 (of_z w64 w.value.result) ≡ w.value.result = search rules in
            subst (AreFilled n cell IsFew (suc comp)) (sym (w.row-is ∙ ap (set c.loop-comp.row comp) read))
            (filled_put n cell IsFew comp c.loop-comp.row w.value.result c.loop-comp.invariant.row inside
            w.value.ensures.cell w.value.ensures.held w.value.ensures.few)
        | else-left-eq1 w ↦
            subst (AreFilled n cell IsFew (suc comp)) (sym w.row-is)
            (filled_on n cell IsFew comp (suc comp) c.loop-comp.row c.loop-comp.invariant.row (omega arith) c.requires.few
            (λ k from to below. c.requires.none k (subst (λ (i : ℕ). member i ≡ false) (omega (arith, from, to)) (tells ∙ ne_eqb (c.loop-comp.left % 2) 1 w.if-left-eq1.false))))
      ]);
      most = omega (arith, within);
      left = ap (λ (w : ℕ). w / 2) c.loop-comp.invariant.left ∙ halved c.args.word (comp - begin) ∙ ap (λ (k : ℕ). c.args.word / 2 ^ k) shift;
    }
