use Rattle.std.proofs.Common.{refl, rules}
use Rattle.plain_words.specs.Items.{positional_in}
use Rattle.desk_commands.proofs.Readings.{spelled, two_words}
use Rattle.desk_commands.proofs.reading.replanning_of.Goals as goal

pub returns : goal.returns
returns c = record {
  time = c.in-Some-positional.word.now;
  places = two_words (positional_in c.args.given.now) c.in_ok-copy.field-0 c.in-Some-positional.word.now c.requires.places
      (search rules) (search rules);
  minute = spelled c.in-Some-positional.word.now c.in-Some-time_of.minute (search rules);
  change = (c.in-Some-number.ensures.meaning c.in-Some-number.change).0 refl;
  nodes = (c.in-Some-number-2.ensures.meaning c.in-Some-number-2.nodes).0 refl;
  rounds = (c.in-Some-number-3.ensures.meaning c.in-Some-number-3.rounds).0 refl;
  evaluations = (c.in-Some-number-4.ensures.meaning c.in-Some-number-4.evaluations).0 refl;
}
