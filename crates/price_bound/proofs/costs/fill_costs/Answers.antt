-- The costs of one trip more are put.
use Rattle.std.proofs.Common.{◌≡◌, ℕ, suc, ◌+◌, ◌-◌, List, length, take, drop, sym, ◌∙◌, ap, subst, arith, drop-drop, length-drop, take_all}
use Rattle.timetable.specs.Compositions.{compositions_of}
use Rattle.price_bound.specs.declared.changes.Change.{Change}
use Rattle.price_bound.specs.Changes.{AreFrom, IsOwnCount, change_cost}
use Rattle.price_bound.specs.Costs.{AreCostsIn}
use Rattle.price_bound.proofs.Costing.{costs_are, trips_more}
use Rattle.price_bound.proofs.costs.fill_costs.Goals as goal

pub loop-trip-preserved : goal.loop-trip-preserved
loop-trip-preserved c =
    let left : List Change = drop c.loop-trip.place c.args.changes.now in
    let count : ℕ = c.own_count-count.result in
    let long : length left ≡ length c.args.changes.now - c.loop-trip.place = length-drop c.loop-trip.place c.args.changes.now in
    let whole : take (length c.args.changes.now - c.loop-trip.place) left ≡ left = take_all (length c.args.changes.now - c.loop-trip.place) left (omega (arith, long)) in
    let is : IsOwnCount left c.loop-trip.trip count = subst (λ (rest : List Change). IsOwnCount rest c.loop-trip.trip count) whole c.own_count-count.ensures in
    let own : List Change = take count left in
    let costs : AreCostsIn c.args.instance.now own c.loop-trip.trip (length (compositions_of c.args.instance.now)) c.fill_row.new.costs =
    subst (λ (rest : List Change). AreCostsIn c.args.instance.now (take count rest) c.loop-trip.trip (length (compositions_of c.args.instance.now)) c.fill_row.new.costs)
    whole c.fill_row.ensures.costs in
    let next : drop (c.loop-trip.place + count) c.args.changes.now ≡ drop count left = sym (drop-drop count c.loop-trip.place c.args.changes.now) in
    record {
      room = c.fill_row.ensures.room;
      costs = trips_more c.args.instance.now c.args.changes.now c.loop-trip.costs c.fill_row.new.costs c.loop-trip.trip
          c.loop-trip.invariant.costs
          (costs_are c.args.instance.now c.args.changes.now own c.loop-trip.trip (length (compositions_of c.args.instance.now)) c.fill_row.new.costs
          (λ comp. is.own comp ∙ c.loop-trip.invariant.same c.loop-trip.trip comp (omega arith)) costs) c.fill_row.ensures.others;
      within = omega (arith, is.within, long, c.loop-trip.invariant.within);
      left = subst (λ (k : ℕ). AreFrom (drop (c.loop-trip.place + count) c.args.changes.now) k) (omega arith)
          (subst (λ (rest : List Change). AreFrom rest (suc c.loop-trip.trip)) (sym next) is.left);
      same = λ t comp later.
          ap (λ (rest : List Change). change_cost rest t comp) next ∙ is.others t comp (omega (arith, later))
          ∙ c.loop-trip.invariant.same t comp (omega (arith, later));
    }
