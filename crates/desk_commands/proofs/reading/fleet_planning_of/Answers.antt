use Rattle.std.proofs.Common.{refl, rules}
use Rattle.plain_words.specs.Items.{positional_in}
use Rattle.desk_commands.proofs.Readings.{one_word}
use Rattle.desk_commands.proofs.reading.fleet_planning_of.Goals as goal

pub returns : goal.returns
returns c = record {
  dir = one_word (positional_in c.args.given.now) c.in_ok-copy.field-0 c.requires.places (search rules);
  nodes = (c.in-Some-number.ensures.meaning c.in-Some-number.nodes).0 refl;
  rounds = (c.in-Some-number-2.ensures.meaning c.in-Some-number-2.rounds).0 refl;
  splits = (c.in-Some-number-3.ensures.meaning c.in-Some-number-3.splits).0 refl;
  evaluations = (c.in-Some-number-4.ensures.meaning c.in-Some-number-4.evaluations).0 refl;
}
