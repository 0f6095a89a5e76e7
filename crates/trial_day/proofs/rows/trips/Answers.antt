use Rattle.std.proofs.Common.{◌∙◌, List, [], ◌∷◌, ◌++◌, ap, rules}
use Rattle.rail_csv.specs.declared.rows.TripRow.{TripRow}
use Rattle.trial_day.proofs.Drawing.{state_more, trips_more}
use Rattle.trial_day.proofs.rows.trips.Goals as goal

pub loop-pair-preserved : goal.loop-pair-preserved
loop-pair-preserved c =
    let one = c.demand-demand_out in
    let two = c.demand-demand_back in
    let at = c.loop-pair.invariant.1 in (
      trips_more c.args.seed c.loop-pair.pair c.loop-pair.draws one.new.draws two.new.draws at one.ensures.state two.ensures.state
          c.loop-pair.rows.items c.push-in-loop-pair.new.self.items c.in_ok-out_row.field-0 c.in_ok-back_row.field-0 one.result two.result
          c.loop-pair.invariant.0 one.ensures.seats two.ensures.seats c.in_ok-out_row.ensures c.in_ok-back_row.ensures
          (◌∙◌ {A = List TripRow} c.in_ok-push-2.ensures.items (ap (λ (rows : List TripRow). rows ++ c.in_ok-back_row.field-0 ∷ []) c.in_ok-push.ensures.items)),
      state_more c.args.seed c.loop-pair.pair c.loop-pair.draws one.new.draws two.new.draws at one.ensures.state two.ensures.state,
    )

pub loop-pair-init : goal.loop-pair-init
loop-pair-init c = search rules
