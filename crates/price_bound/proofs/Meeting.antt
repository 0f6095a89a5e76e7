-- In a solution no slack of a departure minute is positive, and every other slack is 0.
use Rattle.std.proofs.Common.{◌≡◌, ◌<◌, ◌≤◌, ◌+◌, ℕ, List, length, get_or, Option, Some, Bool, true, false, ◌==◌}
use Rattle.std.proofs.Common.{slice_get, unwrap_or, refl, sym, ap, subst, ◌∙◌, arith, ℤ, pos, neg_ℤ, ◌-ℤ◌, ◌≤ℤ◌}
use Rattle.std.specs.Prelude.{option_map}
use Rattle.std.proofs.lemmas.Bool.{eqb-true, eq-eqb}
use Rattle.std.proofs.lemmas.Int.{ints}
use Rattle.std.proofs.lemmas.Option.{get_or_from_slice_get}
use Rattle.std.proofs.lemmas.Slice.Eq.{bytes_eq-Decides}
use Rattle.timetable.specs.declared.day.indices.Place.{Place}
use Rattle.timetable.specs.declared.day.indices.Place.TheVariants.{Lambda, Mu, Sigma}
use Rattle.timetable.specs.declared.day.records.Handover.{Handover}
use Rattle.rules.specs.declared.records.Link.{Link}
use Rattle.timetable.specs.Accepted.{AreLinks}
use Rattle.timetable.specs.Compositions.{compositions_of, composition_at}
use Rattle.timetable.specs.Day.{Day, wanted_of}
use Rattle.timetable.specs.Handovers.{IsHandover, handovers_of}
use Rattle.timetable.specs.Indices.{IsLambda, IsPlace, lambdas_of, places_of}
use Rattle.timetable.specs.Minutes.{minutes_of}
use Rattle.timetable.specs.Picks.{IsSolution, picked}
use Rattle.timetable.specs.Starts.{start_of}
use Rattle.timetable.specs.Turns.{same}
use Rattle.timetable.proofs.Handovers.{are_handovers}
use Rattle.timetable.proofs.Indices.{have_multipliers}
use Rattle.timetable.proofs.Shares.{same_lists}
use Rattle.inventory.specs.Counts.{AreServed, taken_until, ready_until, all_taken, all_given}
use Rattle.branch_tree.specs.Meanings.{IsMet}
use Rattle.price_bound.specs.DayMeanings.{meanings_of}
use Rattle.price_bound.specs.FollowingPicks.{part_of, pick_of}
use Rattle.price_bound.specs.Slacks.{one_if, is_part, handover_slack, slack_at, slack_of}
use Rattle.price_bound.proofs.Solving.{same_number, second_is_part, second_listed}
use Rattle.price_bound.proofs.Steps.{entry_below}

-- ---- what the multiplier of an index belongs to

-- it is not of a departure minute
abbrev IsFree : Place → Type 0
IsFree place = IsLambda place → ⊥

pub record IsAtIndex (day : Day) (index : ℕ) (place : Place) : Type 0 where
  pub at : slice_get (places_of day) index ≡ Some place
  pub there : IsPlace day place
  pub free : length (lambdas_of day) ≤ index → IsFree place

pub place_at : (day : Day) (index : ℕ) → index < length (places_of day) → (place : Place) × IsAtIndex day index place
place_at day index below =
    let (place, at) = entry_below (places_of day) index below in (
      place,
      record {
        at = at;
        there = (have_multipliers day).each place (index, below, get_or_from_slice_get (places_of day) index place place at);
        free = λ past lambda. absurd (omega (arith, past, ((have_multipliers day).lambdas index place at).0 lambda));
      },
    )

-- ---- the slacks

no_positive : (a b : ℕ) → b ≤ a → neg_ℤ (pos a -ℤ pos b) ≤ℤ pos 0
no_positive a b enough = omega (arith, ints, enough)

balanced : (w a b : ℕ) → a ≡ w + b → pos w -ℤ (pos a -ℤ pos b) ≡ pos 0
balanced w a b e = omega (arith, ints, e)

alike : (a b : Bool) → (a ≡ true → b ≡ true) → (b ≡ true → a ≡ true) → one_if a -ℤ one_if b ≡ pos 0
alike true true to from = refl
alike false false to from = refl
alike true false to from = absurd (let e : false ≡ true = to refl in cc)
alike false true to from = absurd (let e : false ≡ true = from refl in cc)

module _ (day : Day) (picks : List ℕ) (links : AreLinks day) (solves : IsSolution day picks) where
  -- at each hand-over of a solution the part is the second trip's composition
  module _ (handover : Handover) (of_link : IsHandover day.links handover) (comp : ℕ) (listed : comp < length (compositions_of day)) where
    part : is_part day picks handover comp ≡ same (composition_at day (pick_of picks handover.second)) (composition_at day comp)
    part =
        ap (λ (o : Option Link). unwrap_or (option_map (λ (link : Link). same (part_of link (picked day picks)) (composition_at day comp)) o) false) of_link.at
        ∙ ap (λ (ms : List ℕ). same ms (composition_at day comp)) (sym (second_is_part day picks links solves handover.link handover.second of_link.link of_link.at of_link.second))

    to : same (composition_at day (pick_of picks handover.second)) (composition_at day comp) ≡ true → (pick_of picks handover.second == comp) ≡ true
    to e = eq-eqb (pick_of picks handover.second) comp
        (same_number day (pick_of picks handover.second) comp
        (second_listed day picks links solves handover.link handover.second of_link.link of_link.at of_link.second) listed
        (same_lists (composition_at day (pick_of picks handover.second)) (composition_at day comp) e))

    from : (pick_of picks handover.second == comp) ≡ true → same (composition_at day (pick_of picks handover.second)) (composition_at day comp) ≡ true
    from e = (bytes_eq-Decides (composition_at day (pick_of picks handover.second)) (composition_at day comp)).1 (ap (composition_at day) (eqb-true (pick_of picks handover.second) comp e))

    no_slack : handover_slack day picks comp handover ≡ pos 0
    no_slack = ap (λ (b : Bool). one_if b -ℤ one_if (pick_of picks handover.second == comp)) part
        ∙ alike (same (composition_at day (pick_of picks handover.second)) (composition_at day comp)) (pick_of picks handover.second == comp) to from

  sigma_met : (h comp : ℕ) → IsPlace day (Sigma h comp) → slack_at day picks (Sigma h comp) ≡ pos 0
  sigma_met h comp (there, listed) =
      let (handover, at) = entry_below (handovers_of day) h there in
      let of_link : IsHandover day.links handover = subst (IsHandover day.links) (get_or_from_slice_get (handovers_of day) h handover handover at) ((are_handovers day).each h handover there) in
      ap (λ (o : Option Handover). unwrap_or (option_map (handover_slack day picks comp) o) (pos 0)) at ∙ no_slack handover of_link comp listed

  module _ (served : AreServed day (picked day picks)) where
    place_met : (place : Place) → IsPlace day place → (slack_at day picks place ≤ℤ pos 0) × (IsFree place → slack_at day picks place ≡ pos 0)
    place_met (Lambda s m k) there = (
      no_positive (start_of day s m + ready_until day (picked day picks) s m (get_or (minutes_of day s) k 0)) (taken_until day (picked day picks) s m (get_or (minutes_of day s) k 0))
          (served.never_short s m (get_or (minutes_of day s) k 0)),
      λ free. absurd (free tt),
    )
    place_met (Mu s m) (station, unit_type) =
        let zero_is : slack_at day picks (Mu s m) ≡ pos 0 =
        balanced (wanted_of day s m) (start_of day s m + all_given day (picked day picks) s m) (all_taken day (picked day picks) s m) (served.ends s m station unit_type) in
        (omega (arith, ints, zero_is), λ free. zero_is)
    place_met (Sigma h comp) there =
        let zero_is : slack_at day picks (Sigma h comp) ≡ pos 0 = sigma_met h comp there in
        (omega (arith, ints, zero_is), λ free. zero_is)

    pub solution_met : (index : ℕ) → index < length (places_of day) → IsMet (meanings_of day) picks index
    unfolding slack_of
    solution_met index below =
        let (place, is) = place_at day index below in
        let slack : slack_of day picks index ≡ slack_at day picks place = ap (λ (o : Option Place). unwrap_or (option_map (slack_at day picks) o) (pos 0)) is.at in
        let met = place_met place is.there in record {
          not_positive = subst (λ (v : ℤ). v ≤ℤ pos 0) (sym slack) met.0;
          none = λ past. slack ∙ met.1 (is.free past);
        }
