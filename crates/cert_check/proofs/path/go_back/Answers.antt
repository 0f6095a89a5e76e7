use Rattle.std.proofs.Common.{◌≡◌, ◌<◌, All, length, sym, ◌∙◌, ap, subst, arith}
use Rattle.std.proofs.lemmas.List.{length-set}
use Rattle.cert_check.specs.declared.path.TakenSide.{TakenSide}
use Rattle.cert_check.specs.Paths.{root_from}
use Rattle.cert_check.proofs.Retracing.{LastInside, last_inside, root_from-last}
use Rattle.cert_check.proofs.path.go_back.Goals as goal

pub put_back-requires : goal.put_back-requires
put_back-requires c = (last_inside c.loop-one.taken.items c.pop.new.self.items c.in-Some.one c.loop-one.region c.in-Some.ensures.items c.loop-one.invariant.inside).last

pub loop-one-preserved : goal.loop-one-preserved
loop-one-preserved c =
    let before : LastInside c.pop.new.self.items c.in-Some.one c.loop-one.region =
    last_inside c.loop-one.taken.items c.pop.new.self.items c.in-Some.one c.loop-one.region c.in-Some.ensures.items c.loop-one.invariant.inside in
    let same : length c.put_back.new.self ≡ length c.loop-one.region =
    ap length c.put_back.ensures ∙ length-set c.loop-one.region c.in-Some.one.mark.trip c.in-Some.one.mark.before in
    record {
      inside = subst (λ n. All (λ (one : TakenSide). one.mark.trip < n) c.pop.new.self.items) (sym same) before.rest;
      root = ap (root_from c.pop.new.self.items) c.put_back.ensures ∙ sym (root_from-last c.pop.new.self.items c.in-Some.one c.loop-one.region)
          ∙ ap (λ taken. root_from taken c.loop-one.region) (sym c.in-Some.ensures.items) ∙ c.loop-one.invariant.root;
      room = omega (arith, c.pop.ensures.capacity, c.loop-one.invariant.room);
    }
