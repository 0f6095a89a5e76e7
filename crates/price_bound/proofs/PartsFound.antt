-- The part of a hand-over, found by the edge of its link.
use Rattle.std.proofs.Common.{◌≡◌, ◌↔◌, ◌<◌, ℕ, List, length, Option, Some, None, false, ◌==◌, slice_get, unwrap_or}
use Rattle.std.proofs.Common.{sym, ap, subst, ◌∙◌, inl, inr}
use Rattle.std.specs.Prelude.{option_map}
use Rattle.std.proofs.lemmas.Bool.{cases_Bool, cases_eq, eq-eqb, ne_eqb}
use Rattle.std.proofs.lemmas.Option.{get_or_from_slice_get}
use Rattle.std.proofs.lemmas.Slice.Eq.{bytes_eq-Decides}
use Rattle.timetable.specs.declared.day.records.Handover.{Handover}
use Rattle.rules.specs.declared.records.Link.{Link}
use Rattle.timetable.specs.Accepted.{AreLinks}
use Rattle.timetable.specs.Chains.{leads_from, leads_to}
use Rattle.timetable.specs.Compositions.{compositions_of, composition_at}
use Rattle.timetable.specs.Day.{Day}
use Rattle.timetable.specs.Handovers.{IsHandover, handovers_of, second_of}
use Rattle.timetable.specs.Picks.{picked}
use Rattle.timetable.specs.Turns.{same}
use Rattle.timetable.proofs.Shares.{same_lists}
use Rattle.transitions.specs.declared.edge.Edge.{Edge}
use Rattle.transitions.specs.Edges.{AreGraphs, IsFound}
use Rattle.price_bound.specs.FollowingPicks.{Follow, part_of, pick_of}
use Rattle.price_bound.specs.Parts.{IsPartAt}
use Rattle.price_bound.specs.Slacks.{is_part}
use Rattle.price_bound.proofs.Ruling.{edge_part, step}
use Rattle.price_bound.proofs.Solving.{IsPart, same_number}
use Rattle.price_bound.proofs.Steps.{found_by}

module _ (day : Day) (picks : List ℕ) (links : AreLinks day) (follow : Follow day picks) where
  -- what is found for a link is the edge of its step
  pub edge_is : (graphs : List (List Edge)) (l a b from to : ℕ) (link : Link) (o : Option Edge) → AreGraphs day graphs → (at : slice_get day.links l ≡ Some link)
      → a ≡ leads_from link.kind → b ≡ leads_to link.kind → slice_get picks a ≡ Some from → slice_get picks b ≡ Some to → ((edge : Edge) → (o ≡ Some edge) ↔ IsFound graphs l from to edge)
      → o ≡ Some (step day picks links follow l link at).edge
  edge_is graphs l a b from to link o are at from_is to_is picked_from picked_to is =
      let first : from ≡ pick_of picks (leads_from link.kind) = sym (get_or_from_slice_get picks a from 0 picked_from) ∙ ap (pick_of picks) from_is in
      let last : to ≡ pick_of picks (leads_to link.kind) = sym (get_or_from_slice_get picks b to 0 picked_to) ∙ ap (pick_of picks) to_is in
      (is (step day picks links follow l link at).edge).1 (found_by day graphs picks l from to link are first last (step day picks links follow l link at))

  -- no other composition has the types of the part
  one_part : (types : List ℕ) (part other : ℕ) → composition_at day part ≡ types → part < length (compositions_of day) → other < length (compositions_of day)
      → same types (composition_at day other) ≡ (other == part)
  one_part types part other are listed known = elim (cases_eq other part) [
    | inl e ↦
        (bytes_eq-Decides types (composition_at day other)).1 (sym are ∙ ap (composition_at day) (sym e)) ∙ sym (eq-eqb other part e)
    | inr ne ↦ elim (cases_Bool (same types (composition_at day other))) [
      | inl is ↦ absurd (ne (same_number day other part known listed (sym (same_lists types (composition_at day other) is) ∙ sym are)))
      | inr isnt ↦ isnt ∙ sym (ne_eqb other part ne)
    ]
  ]

  module _ (h : ℕ) (handover : Handover) (link : Link) (here : slice_get (handovers_of day) h ≡ Some handover) (of_link : IsHandover day.links handover) (at : slice_get day.links handover.link ≡ Some link) where
    abbrev edge : Edge
    edge = (step day picks links follow handover.link link at).edge

    part : IsPart day edge (part_of link (picked day picks))
    part =
        let one : Some of_link.link ≡ Some link = sym of_link.at ∙ at in
        let same_link : of_link.link ≡ link = cc in
        edge_part day picks links follow handover.link link at handover.second (ap (λ (x : Link). second_of x.kind) (sym same_link) ∙ of_link.second)

    -- the edge has a part
    pub some_part : (found : Edge) → Some found ≡ Some edge → found.part ≡ None → ⊥
    some_part found is none =
        let e : found ≡ edge = cc in
        let some : None ≡ Some part.part = sym none ∙ ap (λ (x : Edge). x.part) e ∙ part.of_edge in
        absurd cc

    -- and it is that of the hand-over
    pub part_there : (found : Edge) (comp : ℕ) → Some found ≡ Some edge → found.part ≡ Some comp → IsPartAt day picks h comp
    part_there found comp is of_found =
        let e : found ≡ edge = cc in
        let some : Some comp ≡ Some part.part = sym of_found ∙ ap (λ (x : Edge). x.part) e ∙ part.of_edge in
        let parts : part.part ≡ comp = cc in
        let known : comp < length (compositions_of day) = subst (λ (c : ℕ). c < length (compositions_of day)) parts part.listed in
        record {
          listed = known;
          alone = λ other_handover other there listed.
              let both : Some other_handover ≡ Some handover = sym there ∙ here in
              let one : other_handover ≡ handover = cc in
              ap (λ (x : Handover). is_part day picks x other) one
              ∙ ap (λ (o : Option Link). unwrap_or (option_map (λ (x : Link). same (part_of x (picked day picks)) (composition_at day other)) o) false) at
              ∙ one_part (part_of link (picked day picks)) comp other (ap (composition_at day) (sym parts) ∙ part.are) known listed;
        }
