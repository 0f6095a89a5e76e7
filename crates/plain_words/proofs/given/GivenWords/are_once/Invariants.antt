use Rattle.std.proofs.Common.{◌≡◌, drop, map}
use Rattle.plain_words.specs.Reading.{are_once}
use Rattle.plain_words.proofs.given.GivenWords.are_once.Given as goal

abbrev pub invariant-loop-at : goal.invariant-loop-at
invariant-loop-at l = are_once (map (λ name. name.now) l.names) l.self
    ≡ are_once (map (λ name. name.now) (drop l.at l.names)) l.self
