use Rattle.cert_check.proofs.Retracing.{TakesSide, takes_side}
use Rattle.cert_check.proofs.path.take.Goals as goal

takes : (c : goal.After-add) → TakesSide c.args.catalogue.now c.args.cut c.args.side c.args.region.now c.args.taken.now.items c.add.new.taken.items c.cut-mark.new.self
takes c = takes_side c.args.catalogue.now c.args.cut c.args.side c.args.region.now c.args.taken.now.items c.add.new.taken.items c.cut-mark.new.self c.cut-mark.result
    c.requires.taken c.requires.proper c.cut-mark.ensures.region c.cut-mark.ensures.trip c.cut-mark.ensures.before c.add.ensures.items

pub returns-clause-left : goal.returns-clause-left
returns-clause-left c = (takes c).left

pub returns-clause-root : goal.returns-clause-root
returns-clause-root c = (takes c).root

pub returns-clause-taken : goal.returns-clause-taken
returns-clause-taken c = (takes c).are
