-- What is named for picks that are broken closes the region of these picks alone.
use Rattle.std.proofs.Common.{◌≡◌, ◌<◌, ◌≤◌, ◌+◌, ℕ, List, [], ◌∷◌, ◌++◌, ◌-◌, length, Option, Some, None, true, not}
use Rattle.std.proofs.Common.{slice_get, unwrap_or, position, refl, sym, ap, subst, ◌∙◌, arith, ℤ, pos, negsuc, ◌*ℤ◌}
use Rattle.std.proofs.Common.{◌≤ℤ◌, ◌<ℤ◌, ◌⊎◌, ⊎_elim}
use Rattle.std.specs.Prelude.{option_map}
use Rattle.std.proofs.lemmas.Int.{ints}
use Rattle.std.proofs.lemmas.Option.{get_or_from_slice_get}
use Rattle.timetable.specs.Accepted.{IsSoundDay}
use Rattle.timetable.specs.declared.day.indices.Place.{Place}
use Rattle.timetable.specs.Compositions.{composition_at}
use Rattle.timetable.specs.Day.{Day}
use Rattle.timetable.specs.Handovers.{IsHandover, handovers_of}
use Rattle.timetable.specs.Indices.{lambdas_of, mus_of, sigmas_of, places_of}
use Rattle.timetable.specs.Picks.{IsSolution, picked}
use Rattle.timetable.proofs.Handovers.{are_handovers}
use Rattle.timetable.proofs.LinkNames.{names_below}
use Rattle.timetable.proofs.Listing.{get_second}
use Rattle.timetable.proofs.Within.{second_below}
use Rattle.branch_tree.specs.declared.multipliers.Entry.{Entry}
use Rattle.branch_tree.specs.declared.relaxation.Weight.TheVariants.{NoCost}
use Rattle.branch_tree.specs.Bounds.{IsChainValue, IsEmpty}
use Rattle.branch_tree.specs.Claims.{IsRay}
use Rattle.branch_tree.specs.Meanings.{IsBroken, priced}
use Rattle.branch_tree.specs.Regions.{alone, are_in}
use Rattle.branch_tree.proofs.Lying.{picks_lie_by_trip}
use Rattle.branch_tree.proofs.Settling.{alone_same, broken_picks_have_rays}
use Rattle.price_bound.specs.BrokenLaws.{BrokenPicksAreClosed, handovers_begin}
use Rattle.price_bound.specs.DayMeanings.{meanings_of}
use Rattle.price_bound.specs.FollowingPicks.{Follow, part_of, pick_of}
use Rattle.price_bound.specs.Near.{AreNear, LieIn}
use Rattle.price_bound.specs.Parts.{IsPartAt, NoneMissed, second_pick}
use Rattle.price_bound.specs.Slacks.{broken_at, broken_index, first_from, is_none, is_positive, or_else, sign_of}
use Rattle.price_bound.specs.Slacks.{slack_at, slack_of}
use Rattle.price_bound.proofs.Alone.{alone_at, alone_has}
use Rattle.price_bound.proofs.FirstBroken.{each_sigma, had}
use Rattle.price_bound.proofs.PartsFound.{part_there}
use Rattle.price_bound.proofs.Ruling.{edge_part, has_part, step}
use Rattle.price_bound.proofs.Solving.{IsPart, same_number}
use Rattle.price_bound.proofs.Steps.{entry_below}
use Rattle.price_bound.proofs.Whole.{HaveParts, relaxes}

-- a sign times no slack is not positive
no_product : (sign slack : ℤ) → (sign ≡ pos 1) ⊎ (sign ≡ negsuc 0) → slack ≡ pos 0 → pos 0 <ℤ (sign *ℤ slack) → ⊥
no_product sign slack unit none positive =
    let here : pos 0 <ℤ (sign *ℤ pos 0) = subst (λ (v : ℤ). pos 0 <ℤ (sign *ℤ v)) none positive in
    ⊎_elim
    (λ (one : sign ≡ pos 1). let is : pos 0 <ℤ (pos 1 *ℤ pos 0) = subst (λ (v : ℤ). pos 0 <ℤ (v *ℤ pos 0)) one here in absurd (omega (arith, ints, is)))
    (λ (less : sign ≡ negsuc 0). let is : pos 0 <ℤ (negsuc 0 *ℤ pos 0) = subst (λ (v : ℤ). pos 0 <ℤ (v *ℤ pos 0)) less here in absurd (omega (arith, ints, is)))
    unit

at_most : (v : ℤ) → v ≤ℤ v
at_most v = omega (arith, ints)

module _ (day : Day) (picks : List ℕ) (accepted : IsSoundDay day) (follow : Follow day picks) where
  -- ---- at a hand-over: where something is near, no second trip misses its part

  near_parts : (others : List ℕ) → AreNear day others (alone picks) → HaveParts day picks
  near_parts others near l t link at second =
      let same : others ≡ picks = alone_same others picks near.inside in
      let lies : LieIn day (alone picks) t (part_of link (picked day picks)) =
      subst (λ (x : List ℕ). LieIn day (alone picks) t (part_of link (picked day x))) same (near.parts l t link at second) in
      ap (composition_at day) (sym (alone_at picks t lies.comp lies.inside)) ∙ lies.are

  none_missed : HaveParts day picks → NoneMissed day picks
  none_missed have h known =
      let (handover, here) = entry_below (handovers_of day) h known in
      let of_link : IsHandover day.links handover = subst (IsHandover day.links) (get_or_from_slice_get (handovers_of day) h handover handover here) ((are_handovers day).each h handover known) in
      let part : IsPart day (step day picks accepted.links follow handover.link of_link.link of_link.at).edge (part_of of_link.link (picked day picks)) =
      edge_part day picks accepted.links follow handover.link of_link.link of_link.at handover.second of_link.second in
      let below : handover.second < length day.trips = second_below (length day.trips) of_link.link.kind handover.second (names_below day accepted.links handover.link of_link.link of_link.at) of_link.second in
      let second : second_pick day picks h ≡ pick_of picks handover.second = ap (λ o. unwrap_or (option_map (λ x. pick_of picks x.second) o) 0) here in
      let same : part.part ≡ second_pick day picks h =
      same_number day part.part (pick_of picks handover.second) part.listed (follow.run handover.second below).listed
      (part.are ∙ sym (have handover.link handover.second of_link.link of_link.at of_link.second)) ∙ sym second in
      subst (IsPartAt day picks h) same
      (part_there day picks accepted.links follow h handover of_link.link here of_link of_link.at (step day picks accepted.links follow handover.link of_link.link of_link.at).edge part.part refl part.of_edge)

  -- so that there is no slack at a hand-over
  no_slack : NoneMissed day picks → (index : ℕ) → handovers_begin day ≤ index → index < length (places_of day) → slack_of day picks index ≡ pos 0
  unfolding slack_of
  no_slack none index past below =
      let (place, at) = entry_below (places_of day) index below in
      let k : ℕ = index - handovers_begin day in
      let sum : index ≡ length (lambdas_of day) + (length (mus_of day) + k) = omega (arith, past) in
      let here : slice_get (sigmas_of day) k ≡ Some place =
      sym (get_second (mus_of day) (sigmas_of day) k) ∙ sym (get_second (lambdas_of day) (mus_of day ++ sigmas_of day) (length (mus_of day) + k)) ∙ ap (slice_get (places_of day)) (sym sum) ∙ at in
      ap (λ (o : Option Place). unwrap_or (option_map (slack_at day picks) o) (pos 0)) at
      ∙ each_sigma day (λ (p : Place). slack_at day picks p ≡ pos 0) (λ h c is. had day picks h c (none h is.0) is) k place here

  -- ---- at a yard: the picks are near their region

  abbrev after_sigmas : Option ℕ
  after_sigmas = or_else (first_from 0 (is_positive day picks) (lambdas_of day)) (first_from (length (lambdas_of day)) (λ place. not (is_none day picks place)) (mus_of day))

  no_sigma : (o : Option ℕ) → position (is_positive day picks) (sigmas_of day) ≡ o → (broken_at day picks).index < handovers_begin day → position (is_positive day picks) (sigmas_of day) ≡ None
  unfolding broken_at
  no_sigma None is early = is
  no_sigma (Some n) is early =
      let found : broken_index day picks ≡ Some (length (lambdas_of day) + length (mus_of day) + n) =
      ap (λ (o : Option ℕ). or_else (option_map (λ i. length (lambdas_of day) + length (mus_of day) + i) o) after_sigmas) is in
      let index : (broken_at day picks).index ≡ length (lambdas_of day) + length (mus_of day) + n =
      ap (λ (o : Option ℕ). (unwrap_or {T = Entry} (option_map (λ i. record { index = i; value = sign_of (slack_of day picks i) }) o) (record { index = 0; value = pos 1 })).index) found in
      absurd (omega (arith, index, early))

  near_alone : position (is_positive day picks) (sigmas_of day) ≡ None → AreNear day picks (alone picks)
  near_alone none = record {
    inside = inside;
    follow = follow;
    parts = λ l t link at second.
        let below : t < length day.trips = second_below (length day.trips) link.kind t (names_below day accepted.links l link at) second in
        let each = (picks_lie_by_trip picks (alone picks)).0 inside in record {
          comp = pick_of picks t;
          listed = (follow.run t below).listed;
          are = has_part day picks accepted.links follow l link at none t second;
          inside = each.1 t (omega (arith, below, follow.trips, each.0));
        };
  }
    where
      inside : are_in picks (alone picks) ≡ true
      inside = alone_has picks (λ t below. let listed = (follow.run t (omega (arith, below, follow.trips))).listed in omega (arith, accepted.compositions, listed))

  -- the chain value is that of the picks
  chain_value : AreNear day picks (alone picks) → IsChainValue (meanings_of day) (alone picks) (broken_at day picks ∷ []) NoCost (priced (meanings_of day) (broken_at day picks ∷ []) NoCost picks)
  chain_value near = record {
    picks = picks;
    near = near;
    reached = refl;
    least = λ others others_near.
        let same : others ≡ picks = alone_same others picks others_near.inside in
        subst (λ (x : List ℕ). priced (meanings_of day) (broken_at day picks ∷ []) NoCost picks ≤ℤ priced (meanings_of day) (broken_at day picks ∷ []) NoCost x) (sym same)
        (at_most (priced (meanings_of day) (broken_at day picks ∷ []) NoCost picks));
  }

  module _ (unsolved : IsSolution day picks → ⊥) where
    is_broken : IsBroken (meanings_of day) picks (broken_at day picks)
    is_broken = (relaxes day accepted).broken picks follow unsolved

    empty : handovers_begin day ≤ (broken_at day picks).index → IsEmpty (meanings_of day) (alone picks)
    empty past others near =
        no_product (broken_at day picks).value (slack_of day picks (broken_at day picks).index) is_broken.unit
        (no_slack (none_missed (near_parts others near)) (broken_at day picks).index past is_broken.index) is_broken.positive

    ray : (broken_at day picks).index < handovers_begin day → IsRay (meanings_of day) (alone picks) (broken_at day picks ∷ [])
    ray early =
        let chain = chain_value (near_alone (no_sigma (position (is_positive day picks) (sigmas_of day)) refl early)) in (
          priced (meanings_of day) (broken_at day picks ∷ []) NoCost picks,
          chain,
          (broken_picks_have_rays (meanings_of day) (relaxes day accepted) picks follow unsolved).positive (priced (meanings_of day) (broken_at day picks ∷ []) NoCost picks) chain,
        )

pub broken_picks_are_closed : BrokenPicksAreClosed
broken_picks_are_closed day picks accepted follow unsolved = record {
  at_handover = empty day picks accepted follow unsolved;
  at_yard = ray day picks accepted follow unsolved;
}
