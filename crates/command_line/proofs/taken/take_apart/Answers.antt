use Rattle.std.proofs.Common.{◌∙◌, ap, List, map}
use Rattle.clap.specs.Matches.{first_value, found_of}
use Rattle.clap.specs.Walk.{Text}
use Rattle.command_line.specs.Texts.{texts_in}
use Rattle.command_line.proofs.AsItems.{plain_fits, says_items}
use Rattle.command_line.proofs.Taking.{has_texts, is_taken}
use Rattle.command_line.proofs.taken.take_apart.Goals as goal

pub returns-clause-value : goal.returns-clause-value
returns-clause-value c =
    let texts : List Text = map (λ word. word.now) c.args.words.now in
    has_texts c.args.form texts (found_of c.in_ok-matches.matches)
    (record {
      first = c.get_str.result;
      second = c.get_str-2.result;
      nodes = c.get_str-3.result;
      rounds = c.get_str-4.result;
    })
    (is_taken c.args.form texts (plain_fits c.args.form texts c.requires.0 c.requires.1))
    c.in_ok-matches.ensures
    (c.get_str.ensures ∙ ap (λ (id : Text). first_value (found_of c.in_ok-matches.matches) id) c.first_id.ensures)
    c.get_str-2.ensures c.get_str-3.ensures c.get_str-4.ensures

pub returns-clause-meaning : goal.returns-clause-meaning
returns-clause-meaning c =
    says_items c.args.form (map (λ word. word.now) c.args.words.now)
    (texts_in
    (record {
      first = c.get_str.result;
      second = c.get_str-2.result;
      nodes = c.get_str-3.result;
      rounds = c.get_str-4.result;
    })) (returns-clause-value c)

pub matches-requires : goal.matches-requires
matches-requires c =
    plain_fits c.args.form (map (λ word. word.now) c.args.words.now) c.requires.0 c.requires.1
