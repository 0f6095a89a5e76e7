use Rattle.std.proofs.Common.{◌+◌, ◌≤◌, List, length, refl, sym, subst, ◌∙◌}
use Rattle.flow_network.specs.declared.network.Arc.{Arc}
use Rattle.urgent_units.specs.Legs.{all_legs}
use Rattle.urgent_units.specs.YardFlow.{AreAtHome}
use Rattle.urgent_units.proofs.BestNaming.{arcs_enough, begins, brings_most, cut_has, nodes_are, not_none}
use Rattle.urgent_units.proofs.best_naming.best_swaps.Goals as goal

pub of_reached-requires : goal.of_reached-requires
of_reached-requires c = c.in_ok-reached.ensures.reach.nodes ∙ nodes_are c.args.instance.now c.args.plan.now c.args.wish.now c.is_sound.ensures.limits c.is_sound.ensures.links c.is_sound.ensures.meet c.requires.wish c.requires.runs
    c.in_ok-legs.legs c.in_ok-legs.ensures c.limits.ensures c.in_ok-network.network c.fill.new.self c.in_ok-network.ensures c.fill.ensures.same c.fill.ensures.flow

pub value-requires-clause-cut : goal.value-requires-clause-cut
value-requires-clause-cut c = cut_has c.args.instance.now c.args.plan.now c.args.wish.now c.is_sound.ensures.limits c.is_sound.ensures.links c.is_sound.ensures.meet c.requires.wish c.requires.runs
    c.in_ok-legs.legs c.in_ok-legs.ensures c.limits.ensures c.in_ok-network.network c.fill.new.self c.in_ok-network.ensures c.fill.ensures.same c.fill.ensures.flow
    c.in_ok-reached.reached c.in_ok-reached.ensures.reach c.in_ok-cut.cut c.in_ok-cut.ensures

pub unreachable-requires : goal.unreachable-requires
unreachable-requires c = not_none c.args.instance.now c.args.plan.now c.args.wish.now c.is_sound.ensures.limits c.is_sound.ensures.links c.is_sound.ensures.meet c.requires.wish c.requires.runs
    c.in_ok-legs.legs c.in_ok-legs.ensures c.limits.ensures c.in_ok-network.network c.fill.new.self c.in_ok-network.ensures c.fill.ensures.same c.fill.ensures.flow
    c.in_ok-reached.reached c.in_ok-reached.ensures.reach c.in_ok-cut.cut c.in_ok-cut.ensures
    (sym c.value.ensures ∙ c.in_default.is)

pub yards_at_home-requires : goal.yards_at_home-requires
yards_at_home-requires c =
    subst (λ (arcs : List Arc). length (all_legs c.in_ok-legs.legs) + length c.args.wish.now.units ≤ length arcs) (sym c.arcs.ensures.value)
    (arcs_enough c.args.instance.now c.args.plan.now c.args.wish.now c.is_sound.ensures.limits c.is_sound.ensures.links c.is_sound.ensures.meet c.requires.wish c.requires.runs
    c.in_ok-legs.legs c.in_ok-legs.ensures c.limits.ensures c.in_ok-network.network c.fill.new.self c.in_ok-network.ensures c.fill.ensures.same c.fill.ensures.flow)

pub exchange_all-requires : goal.exchange_all-requires
exchange_all-requires c = begins c.args.instance.now c.args.plan.now c.args.wish.now c.is_sound.ensures.limits c.is_sound.ensures.links c.is_sound.ensures.meet c.requires.wish c.requires.runs
    c.in_ok-legs.legs c.in_ok-legs.ensures c.limits.ensures c.in_ok-network.network c.fill.new.self c.in_ok-network.ensures c.fill.ensures.same c.fill.ensures.flow
    c.in_ok-reached.reached c.in_ok-reached.ensures.reach c.in_ok-cut.cut c.in_ok-cut.ensures
    c.in_ok-yards.yards c.in_ok-yards.yards (subst (λ (arcs : List Arc). AreAtHome c.args.plan.now c.in_ok-legs.legs c.args.wish.now arcs c.in_ok-yards.yards) c.arcs.ensures.value c.in_ok-yards.ensures)

pub returns : goal.returns
returns c = brings_most c.args.instance.now c.args.plan.now c.args.wish.now c.is_sound.ensures.limits c.is_sound.ensures.links c.is_sound.ensures.meet c.requires.wish c.requires.runs
    c.in_ok-legs.legs c.in_ok-legs.ensures c.limits.ensures c.in_ok-network.network c.fill.new.self c.in_ok-network.ensures c.fill.ensures.same c.fill.ensures.flow
    c.in_ok-reached.reached c.in_ok-reached.ensures.reach c.in_ok-cut.cut c.in_ok-cut.ensures
    c.in_ok-yards.yards c.exchange_all.new.yards (subst (λ (arcs : List Arc). AreAtHome c.args.plan.now c.in_ok-legs.legs c.args.wish.now arcs c.in_ok-yards.yards) c.arcs.ensures.value c.in_ok-yards.ensures)
    c.in_ok-exchange_all.ensures.under_way c.in_ok-exchange_all.ensures.advances c.in_ok-exchange_all.ensures.none_left
    c.in-Some.count (sym c.value.ensures ∙ c.in-Some.is) _ refl refl refl
