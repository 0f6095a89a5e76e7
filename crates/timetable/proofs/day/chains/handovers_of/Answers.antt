-- The hand-over of a link is added where it has a second trip.
use Rattle.std.proofs.Common.{◌≡◌, ◌∙◌, ◌++◌, ap, sym, Option, ℕ, append-nil}
use Rattle.timetable.specs.Handovers.{handover_at, second_of}
use Rattle.rules.specs.declared.records.Link.{Link}
use Rattle.timetable.proofs.Handovers.{handovers_more}
use Rattle.timetable.proofs.day.chains.handovers_of.Goals as goal
use Rattle.timetable.proofs.day.chains.handovers_of.Goals.{in-Some+in_ok-push, in_default}

pub loop-number-preserved : goal.loop-number-preserved
loop-number-preserved c =
    let second : c.second.result ≡ second_of c.index-links-number.result.kind = c.second.ensures ∙ ap (λ (link : Link). second_of link.kind) (sym c.index-links-number.is) in
    elim c.match-second.branch [
      | in-Some+in_ok-push w ↦
          handovers_more c.loop-number.handovers.items c.match-second.handovers.items c.args.links.now c.loop-number.number c.index-links-number.result _
          c.loop-number-test.true c.index-links-number.is
          (ap (λ handovers. handovers.items) w.handovers-is ∙ w.in_ok-push.ensures.items
          ∙ ap (λ (o : Option ℕ). c.loop-number.handovers.items ++ handover_at c.loop-number.number o) (sym w.in-Some.is ∙ second))
          c.loop-number.invariant
      | in_default w ↦
          handovers_more c.loop-number.handovers.items c.match-second.handovers.items c.args.links.now c.loop-number.number c.index-links-number.result _
          c.loop-number-test.true c.index-links-number.is
          (ap (λ handovers. handovers.items) w.handovers-is ∙ sym (append-nil c.loop-number.handovers.items)
          ∙ ap (λ (o : Option ℕ). c.loop-number.handovers.items ++ handover_at c.loop-number.number o) (sym w.in_default.is ∙ second))
          c.loop-number.invariant
    ]
