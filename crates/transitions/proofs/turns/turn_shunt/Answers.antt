-- By the parts of the turn, where so many stay.
use Rattle.std.proofs.Common.{ℕ, List, length, Some, None, sym, ap, ◌∙◌}
use Rattle.timetable.specs.Turns.{beyond, parts_beside}
use Rattle.transitions.specs.declared.edge.Shunt.{Shunt}
use Rattle.transitions.specs.Turns.{shunt_by_units}
use Rattle.transitions.proofs.Shunting.{kind_by_parts}
use Rattle.transitions.proofs.turns.turn_shunt.Goals as goal

pub returns-in_err-stay : goal.returns-in_err-stay
returns-in_err-stay c =
    c.from_residual.ensures
    ∙ sym (kind_by_parts c.args.kind c.in-Turn.arriving c.in-Turn.departing c.in-Turn.uncouple c.in-Turn.couple c.in-Turn.exchange c.in-Turn.is c.args.arriving.now c.args.departing.now None (sym c.in_err-stay.ensures.parts))

pub returns : goal.returns
returns c =
    ap (λ (shunt : Shunt). Some shunt) c.shunt_by_units.ensures
    ∙ ap (λ (given : List ℕ). Some (shunt_by_units (length given) (length c.beyond-2.result.now))) c.beyond.ensures.units
    ∙ ap (λ (taken : List ℕ). Some (shunt_by_units (length (beyond c.in-Turn.uncouple c.args.arriving.now c.in_ok-stay.stay)) (length taken))) c.beyond-2.ensures.units
    ∙ sym (kind_by_parts c.args.kind c.in-Turn.arriving c.in-Turn.departing c.in-Turn.uncouple c.in-Turn.couple c.in-Turn.exchange c.in-Turn.is c.args.arriving.now c.args.departing.now (Some (parts_beside c.in-Turn.uncouple c.in-Turn.couple c.args.arriving.now c.args.departing.now c.in_ok-stay.stay)) (sym c.in_ok-stay.ensures.parts))
