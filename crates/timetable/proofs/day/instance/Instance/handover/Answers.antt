-- The hand-over is that of its link.
use Rattle.std.proofs.Common.{◌≡◌, ℕ, ◌<◌, List, length, get_or, refl, sym, ap, subst, arith}
use Rattle.std.specs.List.{All}
use Rattle.timetable.specs.declared.day.records.Handover.{Handover}
use Rattle.timetable.specs.Day.{Day}
use Rattle.timetable.specs.Handovers.{IsHandover, handovers_of}
use Rattle.timetable.specs.InstanceParts.{day_in}
use Rattle.timetable.proofs.Handovers.{are_handovers}
use Rattle.timetable.proofs.Within.{entry_has, second_within}
use Rattle.timetable.proofs.day.instance.Instance.handover.Goals as goal

-- it is that of a link of the day
of_link : (day now : Day) (handovers : List Handover) (number : ℕ) (handover : Handover) → handovers ≡ handovers_of day → day ≡ now → number < length (handovers_of now) → handover ≡ get_or handovers number handover → IsHandover day.links handover
of_link day now handovers number handover are same below at =
    let within : number < length handovers = omega (arith, ap (λ (day : Day). length (handovers_of day)) same, ap (λ (xs : List Handover). length xs) are) in
    entry_has (IsHandover day.links) handovers number number handover (subst (All (IsHandover day.links)) (sym are) (are_handovers day).each) refl within at

pub returns-clause-of_link : goal.returns-clause-of_link
returns-clause-of_link c =
    rw (← c.self.view_is) (of_link (day_in c.self.inside) c.args.self.now c.self.inside.handovers.items c.args.handover c.index.result.now c.self.invariant.handovers c.self.view_is c.requires c.index.ensures)

pub returns-clause-within : goal.returns-clause-within
returns-clause-within c =
    let day : Day = day_in c.self.inside in
    rw (← c.self.view_is)
    (second_within day c.self.invariant.links c.index.result.now
    (of_link day c.args.self.now c.self.inside.handovers.items c.args.handover c.index.result.now c.self.invariant.handovers c.self.view_is c.requires c.index.ensures))
