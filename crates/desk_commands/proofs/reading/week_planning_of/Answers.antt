use Rattle.std.proofs.Common.{ℕ, List, arith, refl, rules, subst}
use Rattle.plain_words.specs.Items.{positional_in}
use Rattle.plain_words.specs.Numbers.{IsNumber}
use Rattle.desk_commands.specs.declared.week_planning.TheConstants.{MAX_DAYS_OF_WEEK}
use Rattle.desk_commands.proofs.Readings.{two_words}
use Rattle.desk_commands.proofs.reading.week_planning_of.Goals as goal

pub returns : goal.returns
returns c = record {
  number = c.in-Some-positional.word.now;
  places = two_words (positional_in c.args.given.now) c.in_ok-copy.field-0 c.in-Some-positional.word.now c.requires.places
      (search rules) (search rules);
  days = subst (λ (t : List ℕ). IsNumber MAX_DAYS_OF_WEEK t c.in-Some-number.days) c.as_bytes.ensures.value
      ((c.in-Some-number.ensures.meaning c.in-Some-number.days).0 refl);
  some = (let not = c.if-days-eq0.false in omega (arith, not));
  nodes = (c.in-Some-number-2.ensures.meaning c.in-Some-number-2.nodes).0 refl;
  rounds = (c.in-Some-number-3.ensures.meaning c.in-Some-number-3.rounds).0 refl;
  evaluations = (c.in-Some-number-4.ensures.meaning c.in-Some-number-4.evaluations).0 refl;
}
