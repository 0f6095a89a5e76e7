use Rattle.std.proofs.Common.{List, ℕ, length, ap, arith, ◌∙◌}
use Rattle.timetable.specs.Links.{list_of}
use Rattle.timetable.proofs.Listing.{length-listed}
use Rattle.urgent_units.proofs.Marks.{listed_plan}
use Rattle.urgent_units.proofs.yard_flow.copy_of.Goals as goal

pub of-requires-2 : goal.of-requires-2
of-requires-2 c =
    let same = ap (λ (lists : List (List ℕ)). length lists) c.loop-number.invariant in
    let long = length-listed (λ t. list_of c.args.plan.now t) c.loop-number.number in
    let within = c.loop-number.auto.number-end in
    omega (arith, same, long, within, c.trips-number-end.ensures.few)

pub returns : goal.returns
returns c =
    let within = c.loop-number.auto.number-end in
    let all = c.loop-number-test.false in
    c.of-2.ensures ∙ c.loop-number.invariant ∙ listed_plan c.args.plan.now c.loop-number.number (omega (arith, within, all, c.trips-number-end.ensures.value))
