use Rattle.std.proofs.Common.{◌≡◌, drop, map}
use Rattle.plain_words.specs.Items.{has}
use Rattle.plain_words.proofs.reading.is_among.Given as goal

abbrev pub invariant-loop-at : goal.invariant-loop-at
invariant-loop-at l = has l.name (map (λ other. other.now) l.names)
    ≡ has l.name (map (λ other. other.now) (drop l.at l.names))
