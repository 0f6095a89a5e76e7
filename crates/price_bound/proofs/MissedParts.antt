-- Of picks that follow, each hand-over has a part, and a first one misses it or none does.
use Rattle.std.proofs.Common.{◌≡◌, ◌<◌, ◌≤◌, ℕ, zero, suc, List, length, refl, sym, subst, arith, inl, inr, ◌⊎◌, ⊎_elim}
use Rattle.std.proofs.lemmas.Bool.{cases_eq, cases_lt}
use Rattle.std.proofs.lemmas.Option.{get_or_from_slice_get}
use Rattle.timetable.specs.Accepted.{IsSoundDay}
use Rattle.timetable.specs.declared.day.indices.Place.{Place}
use Rattle.timetable.specs.declared.day.indices.Place.TheVariants.{Sigma}
use Rattle.timetable.specs.Day.{Day}
use Rattle.timetable.specs.Handovers.{IsHandover, handovers_of}
use Rattle.timetable.specs.Picks.{picked}
use Rattle.timetable.proofs.Handovers.{are_handovers}
use Rattle.price_bound.specs.BrokenLaws.{PartsAreMissedOrNot}
use Rattle.price_bound.specs.FollowingPicks.{Follow, part_of}
use Rattle.price_bound.specs.Parts.{HasPart, IsFirstMissed, IsPartAt, Misses, second_pick}
use Rattle.price_bound.proofs.PartsFound.{part_there}
use Rattle.price_bound.proofs.Ruling.{edge_part, step}
use Rattle.price_bound.proofs.Solving.{IsPart}
use Rattle.price_bound.proofs.Steps.{entry_below}

module _ (day : Day) (picks : List ℕ) (accepted : IsSoundDay day) (follow : Follow day picks) where
  has_some : (h : ℕ) → h < length (handovers_of day) → (comp : ℕ) × IsPartAt day picks h comp
  has_some h known =
      let (handover, here) = entry_below (handovers_of day) h known in
      let of_link : IsHandover day.links handover = subst (IsHandover day.links) (get_or_from_slice_get (handovers_of day) h handover handover here) ((are_handovers day).each h handover known) in
      let part : IsPart day (step day picks accepted.links follow handover.link of_link.link of_link.at).edge (part_of of_link.link (picked day picks)) =
      edge_part day picks accepted.links follow handover.link of_link.link of_link.at handover.second of_link.second in (
        part.part,
        part_there day picks accepted.links follow h handover of_link.link here of_link of_link.at (step day picks accepted.links follow handover.link of_link.link of_link.at).edge part.part refl part.of_edge,
      )

  had_or_missed : (h : ℕ) → h < length (handovers_of day) → HasPart day picks h ⊎ ((comp : ℕ) × Misses day picks h comp)
  had_or_missed h known =
      let (comp, is) = has_some h known in
      elim (cases_eq (second_pick day picks h) comp) [
        | inl e ↦ inl (subst (IsPartAt day picks h) (sym e) is)
        | inr ne ↦ inr (comp, record { part = is; other = ne })
      ]

  missed_below : (n : ℕ) → n ≤ length (handovers_of day) → ((h : ℕ) → h < n → HasPart day picks h) ⊎ ((place : Place) × IsFirstMissed day picks place)
  missed_below zero few = inl (λ h below. absurd (omega (arith, below)))
  missed_below (suc n) few = ⊎_elim
      (λ before. ⊎_elim
      (λ has. inl (λ h below. ⊎_elim (λ less. before h less) (λ past. let e : n ≡ h = omega (arith, past, below) in subst (HasPart day picks) e has) (cases_lt h n)))
      (λ misses. inr (Sigma n misses.0, record { handover = n; comp = misses.0; known = omega (arith, few); is = refl; misses = misses.1; before = before }))
      (had_or_missed n (omega (arith, few))))
      (λ found. inr found)
      (missed_below n (omega (arith, few)))

pub parts_are_missed_or_not : PartsAreMissedOrNot
parts_are_missed_or_not day picks accepted follow = missed_below day picks accepted follow (length (handovers_of day)) (omega arith)
