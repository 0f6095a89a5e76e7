use Rattle.fleet_text.proofs.Written.{no_places, some_places}
use Rattle.fleet_text.proofs.printing.write_places.Goals as goal

pub returns-then-types-eq0 : goal.returns-then-types-eq0
returns-then-types-eq0 c = no_places _ c.args.types c.args.stock.now c.if-types-eq0.true

pub returns : goal.returns
returns c = some_places _ _ c.args.types c.args.stock.now (λ none. c.if-types-eq0.false none) c.in_ok-write_stock.ensures
