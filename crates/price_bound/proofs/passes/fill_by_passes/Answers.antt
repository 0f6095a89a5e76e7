-- The values that the passes found stand for the cells.
use Rattle.std.proofs.Common.{◌≡◌, ℕ, ℤ, List, ◌+◌, length, get_or, Option, None, sym, ap, ◌∙◌, subst, arith}
use Rattle.std.specs.Prelude.{is_none}
use Rattle.timetable.specs.Compositions.{compositions_of}
use Rattle.timetable.specs.Links.{outgoing}
use Rattle.price_bound.specs.declared.cells.Cell.{Cell}
use Rattle.price_bound.specs.CellRows.{bare, cell_in, comps_of, row_on}
use Rattle.price_bound.specs.ChainStages.{Priced, priced_cost_of}
use Rattle.price_bound.specs.PassValues.{AreAhead, IsPassedSmall, comps_for, priced_for, value_at}
use Rattle.price_bound.specs.Paths.{with_priced_cost}
use Rattle.price_bound.proofs.EdgeGroups.{IsFilled, IsStepFrom, cell_on, few_at, row_cell, row_long}
use Rattle.price_bound.proofs.PassedRows.{cell_is, filled_bare, held_ahead, value_few, value_small}
use Rattle.price_bound.proofs.passes.fill_by_passes.Goals as goal

pub put_all-requires-clause-ahead : goal.put_all-requires-clause-ahead
put_all-requires-clause-ahead c =
    held_ahead c.args.passes.now c.values.result.now c.args.ahead.now c.values.ensures.cells c.values.ensures.held c.requires.ahead c.requires.runs
    c.requires.small

pub put_all-requires-clause-end : goal.put_all-requires-clause-end
put_all-requires-clause-end c = record {
  within = omega (arith, c.end.ensures.within, c.requires.ahead);
  none = λ comp under. ap (λ (cells : List (Option Cell)). get_or cells comp None) c.values.ensures.cells ∙ c.end.ensures.none comp under;
}

pub fill-requires-clause-are : goal.fill-requires-clause-are
fill-requires-clause-are c =
    let trip : ℕ = c.args.priced_costs.now.trip in
    let are : AreAhead c.args.passes.now c.values.result.now =
    held_ahead c.args.passes.now c.values.result.now c.args.ahead.now c.values.ensures.cells c.values.ensures.held c.requires.ahead c.requires.runs
    c.requires.small in
    let comps : length (compositions_of c.args.priced_costs.now.pricing.now.instance.now) ≡ comps_for c.args.passes.now =
    ap (λ (p : Priced). comps_of p) c.requires.priced in
    record {
      of_trip = c.requires.priced_costs;
      leads = ap is_none (ap (λ (p : Priced). outgoing p.day trip) c.requires.priced ∙ c.requires.link);
      long = ap length c.deref.ensures.value ∙ c.put_all.ensures.room.values ∙ sym comps;
      ahead = c.requires.small;
      small = λ comp below.
          subst (λ (p : Priced). IsPassedSmall p trip comp 9000000000000000000 (value_at c.deref.result.now comp)) (sym c.requires.priced)
          (subst (λ (vs : List ℤ). IsPassedSmall (priced_for c.args.passes.now) trip comp 9000000000000000000 (value_at vs comp))
          (sym c.deref.ensures.value)
          (value_small c.args.passes.now c.requires.is c.values.result.now are c.args.ahead.now c.values.ensures.cells trip c.requires.arriving
          c.requires.link c.put_all.new.room.values.items c.put_all.ensures.values c.requires.small comp (omega (arith, below, comps))));
      few = λ comp bound below each.
          subst (λ (p : Priced). IsPassedSmall p trip comp (bound + 13000000000000000) (value_at c.deref.result.now comp)) (sym c.requires.priced)
          (subst (λ (vs : List ℤ). IsPassedSmall (priced_for c.args.passes.now) trip comp (bound + 13000000000000000) (value_at vs comp))
          (sym c.deref.ensures.value)
          (value_few c.args.passes.now c.requires.is c.values.result.now are c.args.ahead.now c.values.ensures.cells trip c.requires.arriving
          c.requires.link c.put_all.new.room.values.items c.put_all.ensures.values comp (omega (arith, below, comps)) bound each));
    }

-- all cells are made
filled : (c : goal.After-fill) → IsFilled (comps_for c.args.passes.now)
    (λ comp. bare (cell_on (priced_for c.args.passes.now) c.args.priced_costs.now.trip c.args.ahead.now comp)) (IsStepFrom c.args.ahead.now)
    (comps_for c.args.passes.now) c.fill.new.self
filled c =
    let priced : Priced = priced_for c.args.passes.now in
    let trip : ℕ = c.args.priced_costs.now.trip in
    let are : AreAhead c.args.passes.now c.values.result.now =
    held_ahead c.args.passes.now c.values.result.now c.args.ahead.now c.values.ensures.cells c.values.ensures.held c.requires.ahead c.requires.runs
    c.requires.small in
    let comps : length (compositions_of c.args.priced_costs.now.pricing.now.instance.now) ≡ comps_for c.args.passes.now =
    ap (λ (p : Priced). comps_of p) c.requires.priced in
    record {
      long = c.fill.ensures.long ∙ comps;
      cells = λ comp below. c.fill.ensures.cells comp (omega (arith, below, comps)) ∙ ap bare
          (ap (λ (p : Priced). with_priced_cost (priced_cost_of p trip comp) (cell_in (value_at c.deref.result.now comp))) c.requires.priced
          ∙ ap (λ (vs : List ℤ). with_priced_cost (priced_cost_of priced trip comp) (cell_in (value_at vs comp))) c.deref.ensures.value
          ∙ cell_is c.args.passes.now c.requires.is c.values.result.now are c.args.ahead.now c.values.ensures.cells trip c.requires.arriving
          c.requires.link c.put_all.new.room.values.items c.put_all.ensures.values comp below);
      few = λ comp below. c.fill.ensures.few comp (omega (arith, below, comps));
    }

pub returns-clause-row : goal.returns-clause-row
returns-clause-row c =
    let priced : Priced = priced_for c.args.passes.now in
    let trip : ℕ = c.args.priced_costs.now.trip in
    filled_bare (comps_for c.args.passes.now) (cell_on priced trip c.args.ahead.now) (IsStepFrom c.args.ahead.now) (comps_for c.args.passes.now)
    c.fill.new.self (row_on priced trip c.args.ahead.now) (filled c) (omega arith) (row_long priced trip c.args.ahead.now)
    (row_cell priced trip c.args.ahead.now)

pub returns-clause-small : goal.returns-clause-small
returns-clause-small c bound each k it at =
    few_at (comps_for c.args.passes.now)
    (λ comp. bare (cell_on (priced_for c.args.passes.now) c.args.priced_costs.now.trip c.args.ahead.now comp)) (IsStepFrom c.args.ahead.now)
    (comps_for c.args.passes.now) c.fill.new.self (bound + 21000000000000000) k it (filled c) (omega arith) (λ o few. few bound each) at
