-- A bit tells whether a composition is a member.
use Rattle.std.proofs.Common.{◌≡◌, ◌<◌, ◌+◌, ◌*◌, ◌-◌, ◌/◌, ◌%◌, ◌^◌, ℕ, ℤ, suc, Bool, List, length, get_or, false, eqb, sym, ap, ◌∙◌, subst, arith}
use Rattle.std.proofs.lemmas.Bool.{ne_eqb}
use Rattle.timetable.specs.Compositions.{compositions_of}
use Rattle.timetable.specs.Day.{Day}
use Rattle.branch_tree.specs.Sets.{is_member}
use Rattle.price_bound.specs.Credits.{AreMembersPut}
use Rattle.price_bound.proofs.MemberSums.{members_more, members_on, none_left, word_tells}
use Rattle.price_bound.proofs.RowValues.{bit_tells, halved}
use Rattle.price_bound.proofs.credits.UnitSums.put_word.Goals as goal
use Rattle.price_bound.proofs.credits.UnitSums.put_word.Goals.{then-left-eq1, else-left-eq1}

pub returns-then-left-eq0 : goal.returns-then-left-eq0
returns-then-left-eq0 c sums put =
    let begin : ℕ = c.args.place * 64 in
    let member : ℕ → Bool = is_member c.args.set.now in
    members_on c.args.instance.now c.args.prices.now.gives.now c.args.prices.now.takes.now c.args.trip member sums c.loop-comp.comp (begin + 64)
    c.loop-comp.self (c.loop-comp.invariant.put sums put)
    (λ k from to listed. none_left member begin (get_or c.words.result.now c.args.place 0) c.loop-comp.comp
    (word_tells member c.words.result.now c.args.place c.words.ensures.bits) c.loop-comp.auto.comp
    (sym c.loop-comp.invariant.left ∙ c.if-left-eq0.true) k from to)

pub loop-comp-preserved : goal.loop-comp-preserved
loop-comp-preserved c =
    let day : Day = c.args.instance.now in
    let gives : List ℤ = c.args.prices.now.gives.now in
    let takes : List ℤ = c.args.prices.now.takes.now in
    let begin : ℕ = c.args.place * 64 in
    let comp : ℕ = c.loop-comp.comp in
    let word : ℕ = get_or c.words.result.now c.args.place 0 in
    let member : ℕ → Bool = is_member c.args.set.now in
    let next : suc comp ≡ comp + 1 = omega arith in
    let inside : comp < length (compositions_of day) =
    omega (arith, c.loop-comp-test.true, c.min-end.ensures, c.len-2.ensures.value, ap length c.catalogue-2.ensures) in
    let within : comp < begin + 64 = omega (arith, c.loop-comp-test.true, c.min-end.ensures) in
    let tells : member comp ≡ eqb (c.loop-comp.left % 2) 1 =
    bit_tells member begin word comp c.loop-comp.left (word_tells member c.words.result.now c.args.place c.words.ensures.bits) c.loop-comp.auto.comp
    within c.loop-comp.invariant.left in
    let shift : suc (comp - begin) ≡ comp + 1 - begin = omega (arith, c.loop-comp.auto.comp) in
    record {
      put = λ sums start. subst (λ (k : ℕ). AreMembersPut day gives takes c.args.trip member k sums c.if-left-eq1.self) next (elim c.if-left-eq1.branch [
        | then-left-eq1 w ↦
            subst (AreMembersPut day gives takes c.args.trip member (suc comp) sums) (sym w.self-is)
            (members_more day gives takes c.args.trip member sums comp c.loop-comp.self w.put_comp.new.self c.requires.trip inside c.requires.gives
            c.requires.takes (c.loop-comp.invariant.put sums start) w.put_comp.ensures)
        | else-left-eq1 w ↦
            subst (AreMembersPut day gives takes c.args.trip member (suc comp) sums) (sym w.self-is)
            (members_on day gives takes c.args.trip member sums comp (suc comp) c.loop-comp.self (c.loop-comp.invariant.put sums start)
            (λ k from to listed. subst (λ (i : ℕ). member i ≡ false) (omega (arith, from, to)) (tells ∙ ne_eqb (c.loop-comp.left % 2) 1 w.if-left-eq1.false)))
      ]);
      left = ap (λ (w : ℕ). w / 2) c.loop-comp.invariant.left ∙ halved word (comp - begin) ∙ ap (λ (k : ℕ). word / 2 ^ k) shift;
    }

pub returns : goal.returns
returns c sums put =
    let begin : ℕ = c.args.place * 64 in
    members_on c.args.instance.now c.args.prices.now.gives.now c.args.prices.now.takes.now c.args.trip (is_member c.args.set.now) sums c.loop-comp.comp
    (begin + 64) c.loop-comp.self (c.loop-comp.invariant.put sums put)
    (λ k from to listed. absurd (omega (arith, from, to, listed, c.loop-comp-test.false, c.min-end.ensures, c.len-2.ensures.value, ap length c.catalogue-2.ensures)))
