-- The numbers that words are held to, each as it is. Clauses call them by their names.
use Rattle.std.specs.Prelude.{◌≡◌}
use Rattle.rail_base.specs.declared.limits.TheConstants.{MAX_BRANCHINGS, MAX_ROUNDS, MAX_TRIPS, MAX_WORDS}
use Rattle.plain_words.specs.declared.numbers.TheConstants.{MAX_WORD_DIGITS}
use Rattle.commands.specs.declared.command.TheConstants.{MAX_SEED, USUAL_NODES, USUAL_ROUNDS}

-- words, the numbers in them, options that are not given, and the most trips of a trial
pub record AreWordLimits : Type 0 where
  pub words : MAX_WORDS ≡ 1000000
  pub usual_nodes : USUAL_NODES ≡ 200
  pub usual_rounds : USUAL_ROUNDS ≡ 20
  pub branchings : MAX_BRANCHINGS ≡ 4000
  pub rounds : MAX_ROUNDS ≡ 100
  pub digits : MAX_WORD_DIGITS ≡ 10
  pub seed : MAX_SEED ≡ 4294967295
  pub trips : MAX_TRIPS ≡ 400
