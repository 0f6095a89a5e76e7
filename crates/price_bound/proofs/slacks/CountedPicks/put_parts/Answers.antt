-- The slacks of each hand-over, in order.
use Rattle.std.proofs.Common.{◌≡◌, ◌+◌, ◌*◌, ℕ, length, sym, ap, ◌∙◌, arith}
use Rattle.timetable.specs.Compositions.{compositions_of}
use Rattle.timetable.specs.Handovers.{handovers_of}
use Rattle.price_bound.specs.Entered.{Counted, entered, handover_index}
use Rattle.price_bound.proofs.SlackIndices.{few_entered, handover_number, handovers_first, handovers_last}
use Rattle.price_bound.proofs.slacks.CountedPicks.put_parts.Goals as goal

pub loop-handover-init : goal.loop-handover-init
loop-handover-init c =
    let first = c.requires.first in
    let few = few_entered c.args.self.now.day c.args.self.now.picks c.args.into.now c.args.first c.requires.slacks in (
      c.requires.slacks ∙ ap (entered c.args.self.now.day c.args.self.now.picks) (c.requires.first ∙ sym (handovers_first c.args.self.now.day)),
      omega arith,
    )

pub put_handover-requires-clause-first : goal.put_handover-requires-clause-first
put_handover-requires-clause-first c =
    let comps : c.len-comps.result ≡ length (compositions_of c.args.self.now.day) = c.len-comps.ensures.value ∙ ap length c.catalogue.ensures ∙ ap (λ (x : Counted). length (compositions_of x.day)) c.self.view_is in
    let product : c.loop-handover.handover * c.len-comps.result ≡ c.loop-handover.handover * length (compositions_of c.args.self.now.day) = ap (λ (n : ℕ). c.loop-handover.handover * n) comps in
    let number = handover_number c.args.self.now.day c.loop-handover.handover in
    let first = c.requires.first in
    omega arith

pub put_handover-requires-clause-slacks : goal.put_handover-requires-clause-slacks
put_handover-requires-clause-slacks c =
    let comps : c.len-comps.result ≡ length (compositions_of c.args.self.now.day) = c.len-comps.ensures.value ∙ ap length c.catalogue.ensures ∙ ap (λ (x : Counted). length (compositions_of x.day)) c.self.view_is in
    let product : c.loop-handover.handover * c.len-comps.result ≡ c.loop-handover.handover * length (compositions_of c.args.self.now.day) = ap (λ (n : ℕ). c.loop-handover.handover * n) comps in
    let number = handover_number c.args.self.now.day c.loop-handover.handover in
    let first = c.requires.first in
    let here : handover_index c.args.self.now.day c.loop-handover.handover ≡ c.args.first + c.loop-handover.handover * c.len-comps.result = omega arith in
    c.loop-handover.invariant.0 ∙ ap (entered c.args.self.now.day c.args.self.now.picks) here

pub returns : goal.returns
returns c =
    let handovers = c.handovers-handover-end.ensures.value in
    let days = ap (λ (x : Counted). length (handovers_of x.day)) c.self.view_is in
    let last : c.loop-handover.handover ≡ length (handovers_of c.args.self.now.day) = omega arith in
    c.loop-handover.invariant.0 ∙ ap (λ (h : ℕ). entered c.args.self.now.day c.args.self.now.picks (handover_index c.args.self.now.day h)) last ∙ ap (entered c.args.self.now.day c.args.self.now.picks) (handovers_last c.args.self.now.day)
