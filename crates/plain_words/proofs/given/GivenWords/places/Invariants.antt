use Rattle.std.proofs.Common.{◌≡◌, ◌≤◌, ◌+◌, drop, length, map}
use Rattle.plain_words.specs.Items.{positional_in}
use Rattle.plain_words.specs.Reading.{item_in}
use Rattle.plain_words.proofs.given.GivenWords.places.Given as goal

abbrev pub invariant-loop-at : goal.invariant-loop-at
invariant-loop-at l = record {
  counted : l.count + length (positional_in (map item_in (drop l.at l.self-inside.items.items)))
      ≡ length (positional_in (map item_in l.self-inside.items.items));
  few : l.count ≤ l.at;
}
