use Rattle.std.proofs.Common.{option_map}
use Rattle.plain_words.proofs.Spelled.{option_means}
use Rattle.plain_words.proofs.given.GivenWords.number.Goals as goal

pub returns-clause-meaning : goal.returns-clause-meaning
returns-clause-meaning c =
    option_means c.args.name.now c.args.self.now c.args.usual c.args.most
    (option_map (λ text. text.now) c.value.result) c.option_number.result c.requires.once c.value.ensures
    c.option_number.ensures.meaning
