use Rattle.std.proofs.Common.{◌∙◌, sym, map}
use Rattle.command_line.proofs.AsItems.{all_named, as_items, items_plain, plain_fits}
use Rattle.command_line.proofs.plain.is_plain.Goals as goal

pub returns-clause-meaning : goal.returns-clause-meaning
returns-clause-meaning c =
    let words = map (λ word. word.now) c.args.words.now in (
      λ is. let found = as_items c.args.form words (sym c.are_counted.ensures ∙ is) in
          (all_named found.items, items_plain c.args.form words found),
      λ some. c.are_counted.ensures ∙ plain_fits c.args.form words some.0 some.1,
    )
