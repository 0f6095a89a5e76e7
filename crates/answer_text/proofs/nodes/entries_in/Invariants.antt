use Rattle.std.proofs.Common.{◌≡◌, ◌-◌, ◌<◌, ◌≤◌, [], length}
use Rattle.std.specs.List.{AllByRecursion}
use Rattle.answer_text.specs.Pieces.{words_after}
use Rattle.answer_text.specs.ReadLines.{entries_in}
use Rattle.answer_text.proofs.nodes.entries_in.Given as goal

-- what the words left give after these entries is what all words give
abbrev pub invariant-loop : goal.invariant-loop
invariant-loop l = record {
  many : length l.entries ≡ l.counter;
  below : AllByRecursion (λ entry. entry.index < l.least) l.entries;
  least : l.least ≤ 1000000;
  same : entries_in (l.count - l.counter) l.least l.entries (words_after l.rest) ≡ entries_in l.count 0 [] (words_after l.fn.rest);
}
