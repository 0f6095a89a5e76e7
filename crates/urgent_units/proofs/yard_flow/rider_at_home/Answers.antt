use Rattle.std.proofs.Common.{Bool, ap, ◌∙◌}
use Rattle.timetable.proofs.ListedUnits.{list_any-has}
use Rattle.urgent_units.specs.declared.swaps.Rider.{Rider}
use Rattle.urgent_units.proofs.yard_flow.rider_at_home.Goals as goal

pub returns : goal.returns
returns c =
    let rider : Bool → Rider = λ b. record { unit = c.args.unit.now.unit; is_brought = b; station = c.args.unit.now.home; ready = 0 } in
    ap rider (c.contains.ensures.value ∙ list_any-has c.args.brought.now c.args.unit.now.unit)
