use Rattle.std.proofs.Common.{◌≡◌, ◌∙◌, ◌+◌, ◌-◌, List, [], ap, length, arith, refl, subst, sym}
use Rattle.std.proofs.lemmas.List.{length_push}
use Rattle.branch_tree.specs.declared.multipliers.Entry.{Entry}
use Rattle.answer_text.specs.Pieces.{words_after}
use Rattle.answer_text.specs.ReadLines.{AreBelow, entries_in}
use Rattle.answer_text.proofs.Adding.{below_more, entries_end, entries_falling, entries_missing, entries_step}
use Rattle.answer_text.proofs.Adding.{next_entry_sound}
use Rattle.answer_text.proofs.nodes.entries_in.Goals as goal

pub returns-in_default : goal.returns-in_default
returns-in_default c = entries_missing c.args.count c.loop.counter c.loop.least c.loop.entries (words_after c.loop.rest.now) _ c.loop-test.true (sym c.in_default.ensures) c.loop.invariant.same

pub returns-then-entry-least : goal.returns-then-entry-least
returns-then-entry-least c = entries_falling c.args.count c.loop.counter c.loop.least c.loop.entries (words_after c.loop.rest.now) (words_after c.in-Some.after.now) c.in-Some.entry _ c.loop-test.true (sym c.in-Some.ensures) c.if-entry-least.true c.loop.invariant.same

pub overflow_add-least : goal.overflow_add-least
overflow_add-least c =
    let sound = next_entry_sound (words_after c.loop.rest.now) c.in-Some.entry (words_after c.in-Some.after.now) (sym c.in-Some.ensures) in
    omega (arith, sound.3.index)

pub add-requires-clause-size : goal.add-requires-clause-size
add-requires-clause-size c = (next_entry_sound (words_after c.loop.rest.now) c.in-Some.entry (words_after c.in-Some.after.now) (sym c.in-Some.ensures)).3.size

pub add-requires-clause-other : goal.add-requires-clause-other
add-requires-clause-other c = (next_entry_sound (words_after c.loop.rest.now) c.in-Some.entry (words_after c.in-Some.after.now) (sym c.in-Some.ensures)).3.other

pub loop-preserved : goal.loop-preserved
loop-preserved c =
    let entry = c.in-Some.entry in
    let sound = next_entry_sound (words_after c.loop.rest.now) entry (words_after c.in-Some.after.now) (sym c.in-Some.ensures) in
    record {
      many = omega (arith, ap length c.add.ensures, length_push c.loop.entries entry, c.loop.invariant.many);
      below = subst (AreBelow (entry.index + 1)) (sym c.add.ensures) (below_more c.loop.entries entry c.loop.least (entry.index + 1) c.loop.invariant.below c.if-entry-least.false refl);
      least = omega (arith, sound.3.index);
      same = subst (λ (es : List Entry). entries_in (c.args.count - (c.loop.counter + 1)) (entry.index + 1) es (words_after c.in-Some.after.now) ≡ entries_in c.args.count 0 [] (words_after c.args.rest.now)) (sym c.add.ensures)
          (entries_step c.args.count c.loop.counter c.loop.least (entry.index + 1) c.loop.entries (words_after c.loop.rest.now) (words_after c.in-Some.after.now) entry _ c.loop-test.true (sym c.in-Some.ensures) c.if-entry-least.false refl c.loop.invariant.same);
    }

pub returns-then-not-is_end : goal.returns-then-not-is_end
returns-then-not-is_end c = entries_end c.args.count c.loop.counter c.loop.least c.loop.entries (words_after c.loop.rest.now) _ _ c.loop-test.false (sym c.if-not-is_end.true ∙ c.is_end.ensures) c.loop.invariant.same

pub returns : goal.returns
returns c = entries_end c.args.count c.loop.counter c.loop.least c.loop.entries (words_after c.loop.rest.now) _ _ c.loop-test.false (sym c.if-not-is_end.false ∙ c.is_end.ensures) c.loop.invariant.same
