-- What settling says of picks: where they are broken first, or that they are a solution.
use Rattle.std.proofs.Common.{◌≡◌, ◌<◌, ◌≤◌, ◌+◌, ℕ, zero, suc, List, length, Option, Some, None, Bool, true, false}
use Rattle.std.proofs.Common.{not, ◌&&◌, slice_get, unwrap_or, position, refl, sym, ap, subst, ◌∙◌, arith, ℤ, pos}
use Rattle.std.proofs.Common.{negsuc, neg_ℤ, ◌-ℤ◌, ◌*ℤ◌, ◌≤ℤ◌, ◌<ℤ◌, int_lt, inl, inr, ⊎_elim, if◌then◌else◌}
use Rattle.std.specs.Prelude.{option_map}
use Rattle.std.proofs.lemmas.Bool.{cases_lt, eq-eqb, lt-ltb}
use Rattle.std.proofs.lemmas.Int.{ints}
use Rattle.std.proofs.lemmas.Option.{slice_get-get_or}
use Rattle.timetable.specs.Accepted.{IsSoundDay}
use Rattle.timetable.specs.declared.day.indices.Place.{Place}
use Rattle.timetable.specs.declared.day.indices.Place.TheVariants.{Lambda, Mu, Sigma}
use Rattle.timetable.specs.declared.day.records.Handover.{Handover}
use Rattle.rules.specs.declared.records.Link.{Link}
use Rattle.timetable.specs.Compositions.{composition_at}
use Rattle.timetable.specs.Day.{Day, wanted_of}
use Rattle.timetable.specs.Handovers.{handovers_of}
use Rattle.timetable.specs.Indices.{IsIndexOf, IsPlace, Precedes, lambdas_of, mus_of, sigmas_of, places_of}
use Rattle.timetable.specs.Picks.{IsSolution, picked}
use Rattle.timetable.specs.Turns.{same}
use Rattle.timetable.proofs.Handovers.{are_handovers}
use Rattle.timetable.proofs.Shares.{same_lists}
use Rattle.inventory.specs.declared.faults.StockFault.{StockFault}
use Rattle.inventory.specs.declared.faults.StockFault.TheVariants.{Short, Balance}
use Rattle.inventory.specs.Counts.{count_of_place, end_count_of}
use Rattle.inventory.specs.StockFaults.{IsFault, IsFirstShort, IsFirstUnbalanced, NoneShort, AllBalanced}
use Rattle.inventory.proofs.Solutions.{solutions_are_served}
use Rattle.branch_tree.specs.declared.multipliers.Entry.{Entry}
use Rattle.branch_tree.specs.declared.relaxation.Settled.{Settled}
use Rattle.branch_tree.specs.declared.relaxation.Settled.TheVariants.{Costs, Broken}
use Rattle.branch_tree.specs.Bounds.{IsSettled}
use Rattle.branch_tree.specs.Meanings.{IsBroken, IsMet, Meanings}
use Rattle.price_bound.specs.DayMeanings.{meanings_of}
use Rattle.price_bound.specs.FollowingPicks.{Follow, part_of, pick_of}
use Rattle.price_bound.specs.Parts.{HasPart, IsFirstMissed, Misses, NoneMissed, second_pick}
use Rattle.price_bound.specs.BrokenPlaces.{Names, fault_sign, place_of_fault}
use Rattle.price_bound.specs.Slacks.{broken_at, broken_index, first_from, is_none, is_part, is_positive, or_else}
use Rattle.price_bound.specs.Slacks.{sign_of, slack_at, slack_of}
use Rattle.price_bound.proofs.Breaking.{broken_there}
use Rattle.price_bound.proofs.FirstBroken.{each_sigma, first_at, had_none, lambdas_before, missed, missed_none}
use Rattle.price_bound.proofs.FirstBroken.{mus_before, none_at, each_lambda, sigma_index, mu_index, lambda_index}
use Rattle.price_bound.proofs.FirstBroken.{sigmas_before}
use Rattle.price_bound.proofs.Meeting.{solution_met}
use Rattle.price_bound.proofs.Ruling.{sigma_there}
use Rattle.price_bound.proofs.Whole.{HaveParts, lambda_there, mu_there, solved}

-- a slack that is against the rules is none of a solution
not_met : (problem : Meanings) (picks : List ℕ) (at : Entry) → IsBroken problem picks at → IsMet problem picks at.index → ⊥
not_met problem picks at broken met = ⊎_elim
    (λ (one : at.value ≡ pos 1).
    let positive : pos 0 <ℤ (pos 1 *ℤ problem.slack picks at.index) = subst (λ (v : ℤ). pos 0 <ℤ (v *ℤ problem.slack picks at.index)) one broken.positive in
    above (problem.slack picks at.index) positive met.not_positive)
    (λ (less : at.value ≡ negsuc 0).
    ⊎_elim
    (λ (early : at.index < problem.free_from). let e : negsuc 0 ≡ pos 1 = sym less ∙ broken.sign early in absurd cc)
    (λ (late : problem.free_from ≤ at.index).
    let positive : pos 0 <ℤ (negsuc 0 *ℤ problem.slack picks at.index) = subst (λ (v : ℤ). pos 0 <ℤ (v *ℤ problem.slack picks at.index)) less broken.positive in
    let none : pos 0 <ℤ (negsuc 0 *ℤ pos 0) = subst (λ (v : ℤ). pos 0 <ℤ (negsuc 0 *ℤ v)) (met.none late) positive in
    absurd (omega (arith, ints, none)))
    (cases_lt at.index problem.free_from))
    broken.unit
  where
    above : (slack : ℤ) → pos 0 <ℤ (pos 1 *ℤ slack) → slack ≤ℤ pos 0 → ⊥
    above (pos zero) positive least = absurd (omega (arith, ints, positive))
    above (pos (suc n)) positive least = absurd (omega (arith, ints, least))
    above (negsuc n) positive least = absurd (omega (arith, ints, positive))

module _ (day : Day) (picks : List ℕ) (accepted : IsSoundDay day) where
  -- picks that are broken first at a place are settled so
  broken_at_place : (place : Place) (index : ℕ) (sign : ℤ) → broken_index day picks ≡ Some index → slice_get (places_of day) index ≡ Some place → sign_of (slack_at day picks place) ≡ sign
      → IsSettled (meanings_of day) picks (Broken index sign)
  unfolding broken_at slack_of
  broken_at_place place index sign first at is =
      let slack : slack_of day picks index ≡ slack_at day picks place = ap (λ (o : Option Place). unwrap_or (option_map (slack_at day picks) o) (pos 0)) at in
      let entry : broken_at day picks ≡ record { index = index; value = sign_of (slack_of day picks index) } =
      ap (λ (o : Option ℕ). unwrap_or (option_map (λ i. record { index = i; value = sign_of (slack_of day picks i) }) o) (record { index = 0; value = pos 1 })) first in
      let broken : IsBroken (meanings_of day) picks (broken_at day picks) = broken_there day picks index first in (
        λ solves.
            let served = (solutions_are_served day picks accepted.limits accepted.links accepted.stock solves.are_picks).0 solves in
            not_met (meanings_of day) picks (broken_at day picks) broken (solution_met day picks accepted.links solves served (broken_at day picks).index broken.index),
        broken,
        ap (λ (e : Entry). e.index) entry,
        ap (λ (e : Entry). e.value) entry ∙ ap sign_of slack ∙ is,
      )

  pub named : (place : Place) (value : ℤ) (result : Settled) → Names day place value result → sign_of (slack_at day picks place) ≡ value
      → ((index : ℕ) → IsIndexOf day place index → broken_index day picks ≡ Some index) → IsSettled (meanings_of day) picks result
  named place value (Costs cost) names is first = absurd names
  named place value (Broken index sign) names is first =
      broken_at_place place index sign (first index names.index_of) names.index_of.at (is ∙ names.is)

  -- ---- at a hand-over

  abbrev after_lambdas : Option ℕ
  after_lambdas = first_from (length (lambdas_of day)) (λ place. not (is_none day picks place)) (mus_of day)

  abbrev after_sigmas : Option ℕ
  after_sigmas = or_else (first_from 0 (is_positive day picks) (lambdas_of day)) after_lambdas

  pub sigma_first : (place : Place) → IsFirstMissed day picks place → (index : ℕ) → IsIndexOf day place index → broken_index day picks ≡ Some index
  sigma_first place first index index_of =
      let here : IsIndexOf day (Sigma first.handover first.comp) index = subst (λ (p : Place). IsIndexOf day p index) first.is index_of in
      let (n, at) = sigma_there day first.handover first.comp first.known first.misses.part.listed in
      let found : position (is_positive day picks) (sigmas_of day) ≡ Some n =
      first_at (is_positive day picks) (sigmas_of day) n (Sigma first.handover first.comp) at
      (ap (int_lt (pos 0)) (missed day picks first.handover first.comp first.misses first.known))
      (sigmas_before day (λ (p : Place). is_positive day picks p ≡ false) n first.handover first.comp at
      (λ h c known before. ⊎_elim
      (λ (lower : h < first.handover). had_none day picks h c (first.before h lower) known)
      (λ (both : (h ≡ first.handover) × (c < first.comp)). earlier h c known both.0 both.1) before)) in
      let one = here.alone (length (lambdas_of day) + (length (mus_of day) + n)) (sigma_index day n (Sigma first.handover first.comp) at) in
      let sum : length (lambdas_of day) + length (mus_of day) + n ≡ index = omega arith in
      ap (λ (o : Option ℕ). or_else (option_map (λ i. length (lambdas_of day) + length (mus_of day) + i) o) after_sigmas) found ∙ ap (λ (i : ℕ). Some i) sum
    where
      earlier : (h c : ℕ) → IsPlace day (Sigma h c) → h ≡ first.handover → c < first.comp → is_positive day picks (Sigma h c) ≡ false
      earlier h c known e lower =
          missed_none day picks h first.comp c (subst (λ (x : ℕ). Misses day picks x first.comp) (sym e) first.misses) known (λ same. absurd (omega arith))

  pub sigma_signed : (place : Place) → IsFirstMissed day picks place → sign_of (slack_at day picks place) ≡ pos 1
  sigma_signed place first = ap (λ (p : Place). sign_of (slack_at day picks p)) first.is ∙ ap sign_of (missed day picks first.handover first.comp first.misses first.known)

  -- ---- at a fault of the yards

  no_sigma_first : NoneMissed day picks → position (is_positive day picks) (sigmas_of day) ≡ None
  no_sigma_first none = none_at (is_positive day picks) (sigmas_of day)
      (each_sigma day (λ (p : Place). is_positive day picks p ≡ false) (λ h c known. had_none day picks h c (none h known.0) known))

  is_short : (count : ℤ) → count <ℤ pos 0 → int_lt (pos 0) (neg_ℤ count) ≡ true
  is_short (pos n) negative = absurd (omega (arith, ints, negative))
  is_short (negsuc n) negative = lt-ltb 0 (suc n) (omega arith)

  is_not_short : (count : ℤ) → pos 0 ≤ℤ count → int_lt (pos 0) (neg_ℤ count) ≡ false
  is_not_short (pos zero) least = refl
  is_not_short (pos (suc n)) least = refl
  is_not_short (negsuc n) least = absurd (omega (arith, ints, least))

  short_first : (s m k index : ℕ) (count : ℤ) → NoneMissed day picks → IsFirstShort day (picked day picks) s m k count → IsIndexOf day (Lambda s m k) index → broken_index day picks ≡ Some index
  short_first s m k index count none short index_of =
      let (n, at) = lambda_there day s m k (short.yard.station, short.yard.unit_type, short.known) in
      let found : position (is_positive day picks) (lambdas_of day) ≡ Some n =
      first_at (is_positive day picks) (lambdas_of day) n (Lambda s m k) at
      (ap (λ (v : ℤ). int_lt (pos 0) (neg_ℤ v)) (sym short.is) ∙ is_short count short.negative)
      (lambdas_before day (λ (p : Place). is_positive day picks p ≡ false) n s m k at
      (λ s' m' k' known before. is_not_short (count_of_place day (picked day picks) s' m' k') (earlier s' m' k' known before))) in
      let one = index_of.alone n (lambda_index day n (Lambda s m k) at) in
      let sum : 0 + n ≡ index = omega arith in
      ap (λ (o : Option ℕ). or_else (option_map (λ i. length (lambdas_of day) + length (mus_of day) + i) o) after_sigmas) (no_sigma_first none)
      ∙ ap (λ (o : Option ℕ). or_else (option_map (λ i. 0 + i) o) after_lambdas) found ∙ ap (λ (i : ℕ). Some i) sum
    where
      earlier : (s' m' k' : ℕ) → IsPlace day (Lambda s' m' k') → Precedes (Lambda s' m' k') (Lambda s m k) → pos 0 ≤ℤ count_of_place day (picked day picks) s' m' k'
      earlier s' m' k' known (inl lower) = short.before s' m' k' (record { station = known.0; unit_type = known.1 }) known.2 (inl lower)
      earlier s' m' k' known (inr (e, inl lower)) = short.before s' m' k' (record { station = known.0; unit_type = known.1 }) known.2 (inr (e, lower))
      earlier s' m' k' known (inr (e, inr (e', lower))) =
          subst (λ (x : ℕ). pos 0 ≤ℤ count_of_place day (picked day picks) x m' k') (sym e)
          (subst (λ (x : ℕ). pos 0 ≤ℤ count_of_place day (picked day picks) s x k') (sym e') (short.earlier k' lower))

  no_lambda_first : NoneShort day (picked day picks) → position (is_positive day picks) (lambdas_of day) ≡ None
  no_lambda_first short = none_at (is_positive day picks) (lambdas_of day)
      (each_lambda day (λ (p : Place). is_positive day picks p ≡ false)
      (λ s m k known. is_not_short (count_of_place day (picked day picks) s m k) (short s m k (record { station = known.0; unit_type = known.1 }) known.2)))

  some_slack : (v : ℤ) → (v ≡ pos 0 → ⊥) → not (not (int_lt (pos 0) v) && not (int_lt v (pos 0))) ≡ true
  some_slack (pos zero) some = absurd (some refl)
  some_slack (pos (suc n)) some = ap (λ (b : Bool). not (not b && not (int_lt (pos (suc n)) (pos 0)))) (lt-ltb 0 (suc n) (omega arith))
  some_slack (negsuc n) some = refl

  no_slack : (v : ℤ) → v ≡ pos 0 → not (not (int_lt (pos 0) v) && not (int_lt v (pos 0))) ≡ false
  no_slack v e = ap (λ (x : ℤ). not (not (int_lt (pos 0) x) && not (int_lt x (pos 0)))) e

  apart : (wanted last : ℤ) → wanted -ℤ last ≡ pos 0 → last ≡ wanted
  apart wanted last e = omega (arith, ints, e)

  level : (wanted last : ℤ) → last ≡ wanted → wanted -ℤ last ≡ pos 0
  level wanted last e = omega (arith, ints, e)

  unbalanced_first : (s m index : ℕ) (count : ℤ) → NoneMissed day picks → NoneShort day (picked day picks) → IsFirstUnbalanced day (picked day picks) s m count → IsIndexOf day (Mu s m) index
      → broken_index day picks ≡ Some index
  unbalanced_first s m index count none short unbalanced index_of =
      let (n, at) = mu_there day s m unbalanced.yard.station unbalanced.yard.unit_type in
      let found : position (λ place. not (is_none day picks place)) (mus_of day) ≡ Some n =
      first_at (λ place. not (is_none day picks place)) (mus_of day) n (Mu s m) at
      (some_slack (slack_at day picks (Mu s m)) (λ e. unbalanced.differs (unbalanced.is ∙ apart (pos (wanted_of day s m)) (end_count_of day (picked day picks) s m) e)))
      (mus_before day (λ (p : Place). not (is_none day picks p) ≡ false) n s m at
      (λ s' m' known before. no_slack (slack_at day picks (Mu s' m'))
      (level (pos (wanted_of day s' m')) (end_count_of day (picked day picks) s' m') (unbalanced.before s' m' (record { station = known.0; unit_type = known.1 }) before)))) in
      let one = index_of.alone (length (lambdas_of day) + n) (mu_index day n (Mu s m) at) in
      ap (λ (o : Option ℕ). or_else (option_map (λ i. length (lambdas_of day) + length (mus_of day) + i) o) after_sigmas) (no_sigma_first none)
      ∙ ap (λ (o : Option ℕ). or_else (option_map (λ i. 0 + i) o) after_lambdas) (no_lambda_first short)
      ∙ ap (λ (o : Option ℕ). option_map (λ i. length (lambdas_of day) + i) o) found ∙ ap (λ (i : ℕ). Some i) one

  pub fault_first : (fault : StockFault) → NoneMissed day picks → IsFault day (picked day picks) fault → (index : ℕ) → IsIndexOf day (place_of_fault fault) index → broken_index day picks ≡ Some index
  fault_first (Short s m k count) none is index index_of = short_first s m k index count none is index_of
  fault_first (Balance s m count) none is index index_of = unbalanced_first s m index count none is.0 is.1 index_of

  above_sign : (v : ℤ) → int_lt (pos 0) v ≡ true → sign_of v ≡ pos 1
  above_sign v e = ap (λ (b : Bool). if b then pos 1 else negsuc 0) e

  pub fault_signed : (fault : StockFault) → IsFault day (picked day picks) fault → sign_of (slack_at day picks (place_of_fault fault)) ≡ fault_sign day fault
  fault_signed (Short s m k count) is =
      above_sign (neg_ℤ (count_of_place day (picked day picks) s m k)) (ap (λ (v : ℤ). int_lt (pos 0) (neg_ℤ v)) (sym is.is) ∙ is_short count is.negative)
  fault_signed (Balance s m count) is = ap (λ (v : ℤ). sign_of (pos (wanted_of day s m) -ℤ v)) (sym is.1.is)

  pub fault_place : (fault : StockFault) → IsFault day (picked day picks) fault → IsPlace day (place_of_fault fault)
  fault_place (Short s m k count) is = (is.yard.station, is.yard.unit_type, is.known)
  fault_place (Balance s m count) is = (is.1.yard.station, is.1.yard.unit_type)

  pub first_place : (place : Place) → IsFirstMissed day picks place → IsPlace day place
  first_place place first = subst (IsPlace day) (sym first.is) (first.known, first.misses.part.listed)

  -- ---- a solution

  have_parts : NoneMissed day picks → HaveParts day picks
  have_parts none l t link at second =
      let handover : Handover = record { link = l; second = t } in
      let (h, known, read) = (are_handovers day).all l t link at second in
      let here : slice_get (handovers_of day) h ≡ Some handover = slice_get-get_or (handovers_of day) h handover known ∙ ap (λ (x : Handover). Some x) read in
      let pick : second_pick day picks h ≡ pick_of picks t = ap (λ (o : Option Handover). unwrap_or (option_map (λ (x : Handover). pick_of picks x.second) o) 0) here in
      let has : HasPart day picks h = none h known in
      let is : is_part day picks handover (second_pick day picks h) ≡ true =
      has.alone handover (second_pick day picks h) here has.listed ∙ eq-eqb (second_pick day picks h) (second_pick day picks h) refl in
      let of_link : is_part day picks handover (second_pick day picks h) ≡ same (part_of link (picked day picks)) (composition_at day (second_pick day picks h)) =
      ap (λ (o : Option Link). unwrap_or (option_map (λ (x : Link). same (part_of x (picked day picks)) (composition_at day (second_pick day picks h))) o) false) at in
      ap (composition_at day) (sym pick) ∙ sym (same_lists (part_of link (picked day picks)) (composition_at day (second_pick day picks h)) (sym of_link ∙ is))

  pub solution : Follow day picks → NoneMissed day picks → NoneShort day (picked day picks) × AllBalanced day (picked day picks) → IsSolution day picks
  solution follow none (short, balanced) = solved day picks accepted follow (have_parts none) short balanced
