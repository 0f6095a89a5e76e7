-- One cost more is put.
use Rattle.std.proofs.Common.{to_z, of_z, w64, ◌≡◌, ◌<◌, ◌+◌, ℕ, ℤ, length, ap, sym, subst, arith, ◌∙◌}
use Rattle.timetable.specs.Compositions.{compositions_of}
use Rattle.timetable.specs.Day.{Day}
use Rattle.price_bound.specs.Costs.{AreCostsIn}
use Rattle.price_bound.specs.Credits.{AreRowsBut, put_in}
use Rattle.price_bound.specs.PriceTables.{HasSize}
use Rattle.price_bound.proofs.Adding.{read_is}
use Rattle.price_bound.proofs.Costing.{costs_more}
use Rattle.price_bound.proofs.Crediting.{others_more, put_size}
use Rattle.price_bound.proofs.costs.fill_row.Goals as goal

pub loop-comp-preserved : goal.loop-comp-preserved
loop-comp-preserved c =
    let day : Day = c.args.instance.now in
    let trip : ℕ = c.args.trip in
    let comp : ℕ = c.loop-comp.comp in
    let comps : ℕ = length (compositions_of day) in
    let read : to_z w64 (of_z w64 c.cost_of-cost.result) ≡ c.cost_of-cost.result =
    read_is 1000000000000 c.cost_of-cost.result (omega arith) c.cost_of-cost.ensures.small in
    let put : c.put.new.self ≡ put_in trip comp c.cost_of-cost.result c.loop-comp.costs =
    c.put.ensures
    ∙ ap (λ (x : ℤ). put_in c.place.result comp x c.loop-comp.costs) read
    ∙ ap (λ (row : ℕ). put_in row comp c.cost_of-cost.result c.loop-comp.costs) c.place.ensures.number in
    let below : comp < comps = omega (arith, ap length c.catalogue.ensures, c.loop-comp-test.true, c.len-comp-end.ensures.value) in
    record {
      room = subst (HasSize (length day.trips) comps) (sym put)
          (put_size (length day.trips) comps c.loop-comp.costs c.loop-comp.invariant.room trip comp c.cost_of-cost.result);
      costs = subst (AreCostsIn day c.args.changes.now trip (comp + 1)) (sym put)
          (costs_more day c.args.changes.now (length day.trips) comps c.loop-comp.costs trip comp c.cost_of-cost.result
          c.loop-comp.invariant.room c.requires.trip below c.loop-comp.invariant.costs
          c.cost_of-cost.ensures);
      others = subst (AreRowsBut trip c.args.costs.now) (sym put)
          (others_more (length day.trips) comps c.loop-comp.costs c.args.costs.now trip comp c.cost_of-cost.result
          c.loop-comp.invariant.room c.loop-comp.invariant.others);
    }
