use Rattle.std.proofs.Common.{List, length, ◌+◌, drop, slice_set, refl, ap, sym, ◌∙◌, []}
use Rattle.urgent_units.specs.declared.swaps.MarkedLeg.{MarkedLeg}
use Rattle.urgent_units.specs.declared.swaps.Rider.{Rider}
use Rattle.urgent_units.specs.UnderWay.{added, agrees}
use Rattle.urgent_units.proofs.Added.{entry}
use Rattle.urgent_units.proofs.UnderWays.{here, fewer_left, ridden_advances, ridden_way}
use Rattle.urgent_units.proofs.swaps.ride.Goals as goal

pub returns-clause-under_way : goal.returns-clause-under_way
returns-clause-under_way c =
    ridden_way c.args.instance.now c.is_sound.ensures.limits c.is_sound.ensures.links c.is_sound.ensures.meet c.args.yards.now c.requires.under_way c.args.number c.args.marked.now
    c.requires.first c.requires.next c.index-rider.result.now (λ d. here c.args.yards.now c.args.number c.index-rider.result.now d c.requires.under_way.long c.requires.first.within c.index-rider.ensures)
    (ap (λ (r : Rider). agrees c.args.marked.now.is_brought r.is_brought) (c.index-rider.ensures) ∙ c.requires.agrees c.index-rider.result.now)
    _ refl refl
    (ap (λ (legs : List MarkedLeg). slice_set c.args.yards.now.aheads.items c.args.number legs) (c.pass.ensures ∙ ap (λ (legs : List MarkedLeg). drop 1 legs) (sym (entry c.args.yards.now.aheads.items c.args.number c.index_mut-2.result.now [] c.requires.first.within c.index_mut-2.ensures.value))))

pub returns-clause-advances : goal.returns-clause-advances
returns-clause-advances c =
    ridden_advances c.args.instance.now c.is_sound.ensures.limits c.is_sound.ensures.links c.is_sound.ensures.meet c.args.yards.now c.requires.under_way c.args.number c.args.marked.now
    c.requires.first c.requires.next c.index-rider.result.now (λ d. here c.args.yards.now c.args.number c.index-rider.result.now d c.requires.under_way.long c.requires.first.within c.index-rider.ensures)
    (ap (λ (r : Rider). agrees c.args.marked.now.is_brought r.is_brought) (c.index-rider.ensures) ∙ c.requires.agrees c.index-rider.result.now)
    _ refl refl
    (ap (λ (legs : List MarkedLeg). slice_set c.args.yards.now.aheads.items c.args.number legs) (c.pass.ensures ∙ ap (λ (legs : List MarkedLeg). drop 1 legs) (sym (entry c.args.yards.now.aheads.items c.args.number c.index_mut-2.result.now [] c.requires.first.within c.index_mut-2.ensures.value))))

pub returns-clause-fewer : goal.returns-clause-fewer
returns-clause-fewer c =
    ap (λ (legs : List MarkedLeg). added (λ (legs : List MarkedLeg). length legs) (slice_set c.args.yards.now.aheads.items c.args.number legs) + 1)
    (c.pass.ensures ∙ ap (λ (legs : List MarkedLeg). drop 1 legs) (sym (entry c.args.yards.now.aheads.items c.args.number c.index_mut-2.result.now [] c.requires.first.within c.index_mut-2.ensures.value)))
    ∙ fewer_left c.args.instance.now c.is_sound.ensures.limits c.is_sound.ensures.links c.is_sound.ensures.meet c.args.yards.now c.requires.under_way c.args.number c.args.marked.now
    c.requires.first c.requires.next
