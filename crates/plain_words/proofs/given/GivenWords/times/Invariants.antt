use Rattle.std.proofs.Common.{◌≡◌, ◌≤◌, ◌+◌, drop, map}
use Rattle.plain_words.specs.Items.{times}
use Rattle.plain_words.specs.Reading.{item_in}
use Rattle.plain_words.proofs.given.GivenWords.times.Given as goal

abbrev pub invariant-loop-at : goal.invariant-loop-at
invariant-loop-at l = record {
  counted : l.count + times l.name (map item_in (drop l.at l.self-inside.items.items))
      ≡ times l.name (map item_in l.self-inside.items.items);
  few : l.count ≤ l.at;
}
