use Rattle.std.proofs.Common.{◌≡◌, ◌-◌, ◌≤◌, [], length}
use Rattle.answer_text.specs.Pieces.{words_after}
use Rattle.answer_text.specs.ReadLines.{units_in}
use Rattle.answer_text.proofs.lines.units_in.Given as goal

-- what the words left give after these units is what all words give
abbrev pub invariant-loop-word : goal.invariant-loop-word
invariant-loop-word l = record {
  few : length l.units.items ≤ 6;
  same : units_in (6 - length l.units.items) l.units.items (words_after l.rest) ≡ units_in 6 [] (words_after l.fn.rest);
}

abbrev pub decreases-loop-word : goal.decreases-loop-word
decreases-loop-word l = 6 - length l.units.items
