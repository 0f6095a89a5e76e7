use Rattle.std.proofs.Common.{◌≡◌, ◌∙◌, ◌+◌, ◌-◌, ◌<◌, ℕ, List, length, arith, sym, ap, Some}
use Rattle.answer_text.specs.Pieces.{words_after}
use Rattle.std.proofs.lemmas.List.{length_push}
use Rattle.answer_text.specs.ReadLines.{units_in}
use Rattle.answer_text.proofs.Units.{units_all, units_full, units_more, units_wrong}
use Rattle.answer_text.proofs.lines.units_in.Goals as goal

pub returns-then-len-eq-MAX_COMPOSITION_UNITS : goal.returns-then-len-eq-MAX_COMPOSITION_UNITS
returns-then-len-eq-MAX_COMPOSITION_UNITS c =
    units_full c.loop-word.units.items c.in-Some.word.now (words_after c.loop-word.rest.now) (words_after c.in-Some.after.now) _ (omega (arith, c.len.ensures, c.if-len-eq-MAX_COMPOSITION_UNITS.true)) c.in-Some.ensures c.loop-word.invariant.same

pub returns-in_default-unit_in : goal.returns-in_default-unit_in
returns-in_default-unit_in c =
    units_wrong c.loop-word.units.items c.in-Some.word.now (words_after c.loop-word.rest.now) (words_after c.in-Some.after.now) _ (omega (arith, c.loop-word.invariant.few, c.len.ensures, c.if-len-eq-MAX_COMPOSITION_UNITS.false)) c.in-Some.ensures (sym c.in_default-unit_in.ensures) c.loop-word.invariant.same

pub loop-word-preserved : goal.loop-word-preserved
loop-word-preserved c =
    let units = c.loop-word.units.items in
    let count : length c.push.new.self.items ≡ length units + 1 = ap length c.in_ok-push.ensures.items ∙ length_push units c.in-Some-unit_in.unit in
    let room : length units < 6 = omega (arith, c.loop-word.invariant.few, c.len.ensures, c.if-len-eq-MAX_COMPOSITION_UNITS.false) in
    record {
      few = omega (arith, count, room);
      same = ap (λ (us : List ℕ). units_in (6 - length c.push.new.self.items) us (words_after c.in-Some.after.now)) c.in_ok-push.ensures.items
          ∙ units_more units c.in-Some.word.now (words_after c.loop-word.rest.now) (words_after c.in-Some.after.now) c.in-Some-unit_in.unit _ room c.in-Some.ensures
          (sym c.in-Some-unit_in.ensures) c.loop-word.invariant.same (length c.push.new.self.items) count;
    }

pub returns : goal.returns
returns c = ap Some c.of.ensures ∙ units_all c.loop-word.units.items (words_after c.loop-word.rest.now) _ _ c.in_default.ensures c.loop-word.invariant.same
