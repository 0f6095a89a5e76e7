use Rattle.std.proofs.Common.{rules, ◌∷◌, [], sym}
use Rattle.std.proofs.lemmas.Option.{get_or_from_slice_get}
use Rattle.fleet_text.specs.FleetLines.{stock_line}
use Rattle.fleet_text.proofs.Written.{one_written}
use Rattle.fleet_text.proofs.printing.write_stock.Goals as goal

pub loop-place-preserved : goal.loop-place-preserved
loop-place-preserved c =
    one_written (λ place units. stock_line c.args.types place units ∷ []) _ _ _ c.args.stock.now c.loop-place.place c.at.result
    (search rules) (sym (get_or_from_slice_get c.args.stock.now c.loop-place.place c.at.result c.at.result c.at.ensures)) c.loop-place.invariant c.in_ok-write_place.ensures
