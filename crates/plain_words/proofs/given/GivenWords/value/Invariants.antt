use Rattle.std.proofs.Common.{◌≡◌, drop, map, slice_get}
use Rattle.plain_words.specs.Items.{values_in}
use Rattle.plain_words.specs.Reading.{item_in}
use Rattle.plain_words.proofs.given.GivenWords.value.Given as goal

abbrev pub invariant-loop-at : goal.invariant-loop-at
invariant-loop-at l = slice_get (values_in l.name (map item_in l.self-inside.items.items)) 0
    ≡ slice_get (values_in l.name (map item_in (drop l.at l.self-inside.items.items))) 0
