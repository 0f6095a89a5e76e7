use Rattle.std.proofs.Common.{◌≡◌, ◌++◌, None, drop, map, option_map}
use Rattle.plain_words.specs.Items.{form_in}
use Rattle.plain_words.specs.Reading.{item_in, items_from}
use Rattle.plain_words.proofs.reading.read_items.Given as goal

abbrev pub invariant-loop-place : goal.invariant-loop-place
invariant-loop-place l = items_from (form_in l.form) None (map (λ word. word.now) l.words)
    ≡ option_map (λ rest. map item_in l.items.items ++ rest)
    (items_from (form_in l.form) (option_map (λ name. name.now) l.waiting)
    (map (λ word. word.now) (drop l.place l.words)))
