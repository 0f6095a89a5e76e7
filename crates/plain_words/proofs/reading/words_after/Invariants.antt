use Rattle.std.proofs.Common.{◌≡◌, ◌++◌, drop, map}
use Rattle.plain_words.proofs.reading.words_after.Given as goal

abbrev pub invariant-loop-next : goal.invariant-loop-next
invariant-loop-next l = map (λ word. word.now) l.rest.items ++ drop l.next l.words ≡ drop l.place l.words
