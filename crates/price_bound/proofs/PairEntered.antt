-- The two slacks of a hand-over, entered by rising index.
use Rattle.std.proofs.Common.{◌≡◌, ◌≢◌, ◌<◌, ◌+◌, ℕ, suc, List, ◌++◌, length, Option, unwrap_or, sym, ap, subst, ◌∙◌}
use Rattle.std.proofs.Common.{arith, ℤ, pos, negsuc}
use Rattle.std.specs.Prelude.{option_map}
use Rattle.std.proofs.lemmas.Option.{get_or_from_slice_get}
use Rattle.timetable.specs.declared.day.records.Handover.{Handover}
use Rattle.timetable.specs.Accepted.{AreLinks}
use Rattle.timetable.specs.Compositions.{compositions_of}
use Rattle.timetable.specs.Day.{Day}
use Rattle.timetable.specs.Handovers.{IsHandover, handovers_of}
use Rattle.timetable.proofs.Handovers.{are_handovers}
use Rattle.timetable.proofs.LinkNames.{names_below}
use Rattle.timetable.proofs.Within.{second_below}
use Rattle.branch_tree.specs.declared.multipliers.Entry.{Entry}
use Rattle.branch_tree.specs.Entries.{IsPastLast, entry_of}
use Rattle.price_bound.specs.Entered.{entered, handover_index}
use Rattle.price_bound.specs.FollowingPicks.{Follow, pick_of}
use Rattle.price_bound.specs.Parts.{IsPartAt, second_pick}
use Rattle.price_bound.specs.Slacks.{slack_of}
use Rattle.price_bound.proofs.SlackIndices.{after_high, after_low, at_part, at_second, past_entered}
use Rattle.price_bound.proofs.Steps.{entry_below}

-- the second trip's pick is a composition of the day
pub second_known : (day : Day) (picks : List ℕ) → AreLinks day → Follow day picks → (h : ℕ) → h < length (handovers_of day) → second_pick day picks h < length (compositions_of day)
second_known day picks links follow h known =
    let (handover, at) = entry_below (handovers_of day) h known in
    let of_link : IsHandover day.links handover = subst (IsHandover day.links) (get_or_from_slice_get (handovers_of day) h handover handover at) ((are_handovers day).each h handover known) in
    let below : handover.second < length day.trips = second_below (length day.trips) of_link.link.kind handover.second (names_below day links handover.link of_link.link of_link.at) of_link.second in
    let pick : second_pick day picks h ≡ pick_of picks handover.second = ap (λ (o : Option Handover). unwrap_or (option_map (λ (x : Handover). pick_of picks x.second) o) 0) at in
    subst (λ (comp : ℕ). comp < length (compositions_of day)) (sym pick) (follow.run handover.second below).listed

-- two compositions at which a hand-over has these slacks, the lower one first, and at no other
pub record IsPair (day : Day) (picks : List ℕ) (h part low high : ℕ) (v w : ℤ) : Type 0 where
  pub is_part : IsPartAt day picks h part
  pub known : h < length (handovers_of day)
  pub rises : low < high
  pub within : high < length (compositions_of day)
  pub apart : (c : ℕ) → c ≢ low → c ≢ high → (c ≢ part) × (c ≢ second_pick day picks h)
  pub low_is : slack_of day picks (handover_index day h + low) ≡ v
  pub high_is : slack_of day picks (handover_index day h + high) ≡ w

pub part_first : (day : Day) (picks : List ℕ) (h part : ℕ) → IsPartAt day picks h part → h < length (handovers_of day) → second_pick day picks h < length (compositions_of day)
    → part < second_pick day picks h → IsPair day picks h part part (second_pick day picks h) (pos 1) (negsuc 0)
part_first day picks h part is known listed rises =
    let ne : second_pick day picks h ≢ part = λ e. absurd (omega arith) in record {
      is_part = is;
      known = known;
      rises = rises;
      within = listed;
      apart = λ c other other'. (other, other');
      low_is = at_part day picks h part is known ne;
      high_is = at_second day picks h part is known ne listed;
    }

pub second_first : (day : Day) (picks : List ℕ) (h part : ℕ) → IsPartAt day picks h part → h < length (handovers_of day) → second_pick day picks h < length (compositions_of day)
    → second_pick day picks h < part → IsPair day picks h part (second_pick day picks h) part (negsuc 0) (pos 1)
second_first day picks h part is known listed rises =
    let ne : second_pick day picks h ≢ part = λ e. absurd (omega arith) in record {
      is_part = is;
      known = known;
      rises = rises;
      within = is.listed;
      apart = λ c other other'. (other', other);
      low_is = at_second day picks h part is known ne listed;
      high_is = at_part day picks h part is known ne;
    }

module _ (day : Day) (picks : List ℕ) (h part low high : ℕ) (v w : ℤ) (pair : IsPair day picks h part low high v w)
    (first : ℕ) (first_is : first ≡ handover_index day h) (old : List Entry) (old_is : old ≡ entered day picks first) where
  -- the indices are as they are reckoned
  module _ (a : ℕ) (a_is : a ≡ first + low) (mid : List Entry) (mid_is : mid ≡ old ++ entry_of a v) where
    mid_entered : mid ≡ entered day picks (handover_index day h + suc low)
    mid_entered =
        let here : a ≡ handover_index day h + low = omega arith in
        mid_is ∙ ap (λ (entries : List Entry). entries ++ entry_of a v) (old_is ∙ ap (entered day picks) first_is)
        ∙ ap (λ (i : ℕ). entered day picks (handover_index day h) ++ entry_of i v) here
        ∙ after_low day picks h part pair.is_part pair.known low high v w pair.rises pair.within pair.apart pair.low_is pair.high_is

    pub mid_past : (b : ℕ) → b ≡ first + high → IsPastLast mid b
    mid_past b b_is = past_entered day picks mid (handover_index day h + suc low) b mid_entered (let rises = pair.rises in omega arith)

    pub pair_entered : (b : ℕ) (new : List Entry) → b ≡ first + high → new ≡ mid ++ entry_of b w → new ≡ entered day picks (handover_index day (h + 1))
    pair_entered b new b_is new_is =
        let here : a ≡ handover_index day h + low = omega arith in
        let there : b ≡ handover_index day h + high = omega arith in
        new_is ∙ ap (λ (entries : List Entry). entries ++ entry_of b w) (mid_is ∙ ap (λ (entries : List Entry). entries ++ entry_of a v) (old_is ∙ ap (entered day picks) first_is))
        ∙ ap (λ (i : ℕ). (entered day picks (handover_index day h) ++ entry_of i v) ++ entry_of b w) here
        ∙ ap (λ (i : ℕ). (entered day picks (handover_index day h) ++ entry_of (handover_index day h + low) v) ++ entry_of i w) there
        ∙ after_high day picks h part pair.is_part pair.known low high v w pair.rises pair.within pair.apart pair.low_is pair.high_is
