use Rattle.replan.proofs.KeptAlone.{nothing_cut}
use Rattle.replan.proofs.rest_of_day.keep_only.Goals as goal

pub returns-else-is_proper : goal.returns-else-is_proper
returns-else-is_proper c =
    nothing_cut c.args.catalogue.now c.args.root.now c.args.trip c.args.comp c.requires.trip c.requires.comp c.requires.there
    (λ proper. let is = c.is_proper.ensures.1 proper in absurd cc)
