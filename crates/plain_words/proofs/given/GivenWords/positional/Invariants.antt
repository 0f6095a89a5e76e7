use Rattle.std.proofs.Common.{◌≡◌, drop, map, slice_get}
use Rattle.plain_words.specs.Items.{positional_in}
use Rattle.plain_words.specs.Reading.{item_in}
use Rattle.plain_words.proofs.given.GivenWords.positional.Given as goal

abbrev pub invariant-loop-at : goal.invariant-loop-at
invariant-loop-at l = slice_get (positional_in (map item_in l.self-inside.items.items)) l.place
    ≡ slice_get (positional_in (map item_in (drop l.at l.self-inside.items.items))) l.left
