use Rattle.std.proofs.Common.{sym, ◌∙◌, arith}
use Rattle.cert_check.specs.Paths.{left_in}
use Rattle.cert_check.proofs.Retracing.{GivesBack, gives_back, goes_right, stays_right}
use Rattle.cert_check.proofs.path.take_right.Goals as goal

pub put_back-requires : goal.put_back-requires
put_back-requires c =
    (gives_back c.args.catalogue.now c.loop-last.taken.items c.loop-last.region c.in-Some.last c.pop.new.self.items c.loop-last.region c.loop-last.invariant.taken c.in-Some.ensures.items).inside

pub take-requires-clause-taken : goal.take-requires-clause-taken
take-requires-clause-taken c =
    (gives_back c.args.catalogue.now c.loop-last.taken.items c.loop-last.region c.in-Some.last c.pop.new.self.items c.put_back.new.self c.loop-last.invariant.taken c.in-Some.ensures.items).marks c.put_back.ensures

pub take-requires-clause-proper : goal.take-requires-clause-proper
take-requires-clause-proper c =
    (gives_back c.args.catalogue.now c.loop-last.taken.items c.loop-last.region c.in-Some.last c.pop.new.self.items c.put_back.new.self c.loop-last.invariant.taken c.in-Some.ensures.items).proper c.put_back.ensures

back : (c : goal.After-take) → GivesBack c.args.catalogue.now c.loop-last.taken.items c.loop-last.region c.in-Some.last c.pop.new.self.items c.put_back.new.self
back c = gives_back c.args.catalogue.now c.loop-last.taken.items c.loop-last.region c.in-Some.last c.pop.new.self.items c.put_back.new.self c.loop-last.invariant.taken c.in-Some.ensures.items

pub returns-in-Left-clause-first : goal.returns-in-Left-clause-first
returns-in-Left-clause-first c =
    goes_right c.args.catalogue.now c.in-Some.last.cut c.in-Some.last.side c.put_back.new.self (left_in c.args.catalogue.now c.args.taken.now.items c.args.region.now) c.pop.new.self.items c.take.new.taken.items c.take.new.region
    c.in-Left.is (sym c.loop-last.invariant.left ∙ (back c).left c.put_back.ensures) c.take.ensures.region c.take.ensures.left

pub returns-in-Left-clause-root : goal.returns-in-Left-clause-root
returns-in-Left-clause-root c = c.take.ensures.root ∙ (back c).root c.put_back.ensures ∙ c.loop-last.invariant.root

pub loop-last-preserved : goal.loop-last-preserved
loop-last-preserved c =
    let back : GivesBack c.args.catalogue.now c.loop-last.taken.items c.loop-last.region c.in-Some.last c.pop.new.self.items c.put_back.new.self =
    gives_back c.args.catalogue.now c.loop-last.taken.items c.loop-last.region c.in-Some.last c.pop.new.self.items c.put_back.new.self c.loop-last.invariant.taken c.in-Some.ensures.items in
    record {
      taken = back.marks c.put_back.ensures;
      left = stays_right c.args.catalogue.now c.in-Some.last.cut c.in-Some.last.side c.put_back.new.self c.pop.new.self.items (left_in c.args.catalogue.now c.loop-last.taken.items c.loop-last.region)
          c.in_default-side.is (back.left c.put_back.ensures) ∙ c.loop-last.invariant.left;
      root = back.root c.put_back.ensures ∙ c.loop-last.invariant.root;
      few = omega (arith, c.loop-last.invariant.few, c.pop.ensures.len);
      room = omega (arith, c.pop.ensures.capacity, c.loop-last.invariant.room);
    }
