-- A day is a relaxation of its solutions.
use Rattle.std.proofs.Common.{◌≡◌, ◌<◌, ◌+◌, ℕ, zero, suc, List, ◌++◌, length, Option, Some, None, Bool, true, false}
use Rattle.std.proofs.Common.{not, ◌&&◌, slice_get, position, refl, sym, ap, subst, ◌∙◌, arith, ℤ, pos, negsuc, neg_ℤ}
use Rattle.std.proofs.Common.{◌-ℤ◌, ◌≤ℤ◌, int_lt}
use Rattle.std.specs.Prelude.{option_map}
use Rattle.std.proofs.lemmas.Bool.{lt-ltb}
use Rattle.std.proofs.lemmas.Int.{ints}
use Rattle.std.proofs.lemmas.List.{get_or_default}
use Rattle.timetable.specs.declared.day.indices.Place.{Place}
use Rattle.timetable.specs.declared.day.indices.Place.TheVariants.{Lambda, Mu}
use Rattle.rules.specs.declared.records.Link.{Link}
use Rattle.timetable.specs.Accepted.{AreLinks, IsSoundDay}
use Rattle.timetable.specs.Admissible.{is_admissible}
use Rattle.timetable.specs.Compositions.{compositions_of, composition_at}
use Rattle.timetable.specs.Day.{Day, wanted_of}
use Rattle.timetable.specs.Handovers.{second_of}
use Rattle.timetable.specs.Indices.{IsPlace, lambdas_of, mus_of, sigmas_of, places_of}
use Rattle.timetable.specs.Lists.{listed, joined}
use Rattle.timetable.specs.Picks.{ArePicks, IsSolution, picked}
use Rattle.timetable.proofs.Indices.{get_place, have_multipliers, index_in}
use Rattle.timetable.proofs.Listing.{get_first, get_joined, get_listed, length-listed}
use Rattle.timetable.proofs.NamedTrips.{position_none}
use Rattle.inventory.specs.Counts.{AreServed, count_of_place, end_count_of}
use Rattle.inventory.specs.SolutionLaws.{KeepTheRules}
use Rattle.inventory.specs.StockFaults.{NoneShort, AllBalanced}
use Rattle.inventory.proofs.Solutions.{faults_decide, solutions_are_served}
use Rattle.branch_tree.specs.Meanings.{IsBroken, IsRelaxation}
use Rattle.price_bound.specs.DayMeanings.{meanings_of}
use Rattle.price_bound.specs.FollowingPicks.{Follow, part_of, pick_of}
use Rattle.price_bound.specs.Slacks.{broken_at, broken_index, first_from, is_none, is_positive, or_else, slack_at}
use Rattle.price_bound.proofs.Breaking.{broken_there}
use Rattle.price_bound.proofs.Meeting.{solution_met}
use Rattle.price_bound.proofs.Ordering.{each_once}
use Rattle.price_bound.proofs.Ruling.{has_part, rule_holds}
use Rattle.price_bound.proofs.Solving.{list_picked, solution_near}

-- ---- what has no slack

not_above : (v : ℤ) → int_lt (pos 0) v ≡ false → v ≤ℤ pos 0
not_above (pos zero) e = omega (arith, ints)
not_above (pos (suc n)) e = absurd (let above : true ≡ false = sym (lt-ltb 0 (suc n) (omega arith)) ∙ e in cc)
not_above (negsuc n) e = omega (arith, ints)

not_short : (count : ℤ) → int_lt (pos 0) (neg_ℤ count) ≡ false → pos 0 ≤ℤ count
not_short count e = omega (arith, ints, not_above (neg_ℤ count) e)

zero_is : (v : ℤ) → not (not (int_lt (pos 0) v) && not (int_lt v (pos 0))) ≡ false → v ≡ pos 0
zero_is (pos zero) e = refl
zero_is (pos (suc n)) e = absurd (let above : true ≡ false = sym (ap (λ (b : Bool). not (not b && not (int_lt (pos (suc n)) (pos 0)))) (lt-ltb 0 (suc n) (omega arith))) ∙ e in cc)
zero_is (negsuc n) e = absurd cc

level : (wanted last : ℤ) → wanted -ℤ last ≡ pos 0 → last ≡ wanted
level wanted last e = omega (arith, ints, e)

-- ---- no index is found

both_none : (a b : Option ℕ) → or_else a b ≡ None → (a ≡ None) × (b ≡ None)
both_none None b e = (refl, e)
both_none (Some n) b e = absurd cc

none_first : (start : ℕ) (o : Option ℕ) → option_map (λ n. start + n) o ≡ None → o ≡ None
none_first start None e = refl
none_first start (Some n) e = absurd cc

pub lambda_there : (day : Day) (s m k : ℕ) → IsPlace day (Lambda s m k) → (n : ℕ) × (slice_get (lambdas_of day) n ≡ Some (Lambda s m k))
lambda_there day s m k is =
    let here : slice_get (places_of day) (index_in day (Lambda s m k)) ≡ Some (Lambda s m k) = get_place day (Lambda s m k) is in
    let below : index_in day (Lambda s m k) < length (lambdas_of day) = ((have_multipliers day).lambdas (index_in day (Lambda s m k)) (Lambda s m k) here).0 tt in
    (index_in day (Lambda s m k), sym (get_first (lambdas_of day) (mus_of day ++ sigmas_of day) (index_in day (Lambda s m k)) below) ∙ here)

pub mu_there : (day : Day) (s m : ℕ) → s < length day.stations → m < length day.types → (n : ℕ) × (slice_get (mus_of day) n ≡ Some (Mu s m))
unfolding mus_of
mu_there day s m station unit_type =
    let f : ℕ → List Place = λ s. listed (λ m. Mu s m) (length day.types) in (
      length (joined f s) + m,
      get_joined f (length day.stations) s m station (omega (arith, unit_type, length-listed (λ m. Mu s m) (length day.types)))
          ∙ get_listed (λ m. Mu s m) (length day.types) m unit_type,
    )

-- ---- picks that follow, and yards that have no fault

pub are_picks : (day : Day) (picks : List ℕ) → Follow day picks → ArePicks day picks
are_picks day picks follow = record {
  trips = follow.trips;
  known = λ t d below. subst (λ (comp : ℕ). comp < length (compositions_of day)) (get_or_default picks t 0 d below) (follow.run t (omega (arith, below, follow.trips))).listed;
}

-- the second trip of each hand-over has its part
abbrev pub HaveParts : Day → List ℕ → Type 0
HaveParts day picks = (l t : ℕ) (link : Link) → slice_get day.links l ≡ Some link → second_of link.kind ≡ Some t → composition_at day (pick_of picks t) ≡ part_of link (picked day picks)

pub keep_rules : (day : Day) (picks : List ℕ) → AreLinks day → Follow day picks → HaveParts day picks → KeepTheRules day (picked day picks)
keep_rules day picks links follow have = record {
  admissible = λ t below.
      subst (λ (ms : List ℕ). is_admissible day t ms ≡ true) (sym (list_picked day picks t (omega (arith, below, follow.trips)))) (follow.run t below).admissible;
  links = λ l link at. rule_holds day picks links follow l link at (λ t second. have l t link at second);
}

-- picks that follow, whose second trips have the parts, are a solution where the yards have no fault
pub solved : (day : Day) (picks : List ℕ) → IsSoundDay day → Follow day picks → HaveParts day picks → NoneShort day (picked day picks) → AllBalanced day (picked day picks) → IsSolution day picks
solved day picks accepted follow have none balanced =
    (faults_decide day picks accepted.limits accepted.links accepted.stock (are_picks day picks follow)).1 (keep_rules day picks accepted.links follow have, (none, balanced))

-- ---- the relaxation

module _ (day : Day) (accepted : IsSoundDay day) where
  module _ (picks : List ℕ) (follow : Follow day picks) (none : broken_index day picks ≡ None) where
    apart : (first_from (length (lambdas_of day) + length (mus_of day)) (is_positive day picks) (sigmas_of day) ≡ None)
        × (or_else (first_from 0 (is_positive day picks) (lambdas_of day)) (first_from (length (lambdas_of day)) (λ place. not (is_none day picks place)) (mus_of day)) ≡ None)
    apart = both_none (first_from (length (lambdas_of day) + length (mus_of day)) (is_positive day picks) (sigmas_of day))
        (or_else (first_from 0 (is_positive day picks) (lambdas_of day)) (first_from (length (lambdas_of day)) (λ place. not (is_none day picks place)) (mus_of day))) none

    yards : (first_from 0 (is_positive day picks) (lambdas_of day) ≡ None) × (first_from (length (lambdas_of day)) (λ place. not (is_none day picks place)) (mus_of day) ≡ None)
    yards = both_none (first_from 0 (is_positive day picks) (lambdas_of day)) (first_from (length (lambdas_of day)) (λ place. not (is_none day picks place)) (mus_of day)) apart.1

    no_sigma : position (is_positive day picks) (sigmas_of day) ≡ None
    no_sigma = none_first (length (lambdas_of day) + length (mus_of day)) (position (is_positive day picks) (sigmas_of day)) apart.0

    no_lambda : position (is_positive day picks) (lambdas_of day) ≡ None
    no_lambda = none_first 0 (position (is_positive day picks) (lambdas_of day)) yards.0

    no_mu : position (λ place. not (is_none day picks place)) (mus_of day) ≡ None
    no_mu = none_first (length (lambdas_of day)) (position (λ place. not (is_none day picks place)) (mus_of day)) yards.1

    none_short : NoneShort day (picked day picks)
    none_short s m k yard below =
        let (n, at) = lambda_there day s m k (yard.station, yard.unit_type, below) in
        not_short (count_of_place day (picked day picks) s m k) (position_none (is_positive day picks) (lambdas_of day) n (Lambda s m k) no_lambda at)

    all_balanced : AllBalanced day (picked day picks)
    all_balanced s m yard =
        let (n, at) = mu_there day s m yard.station yard.unit_type in
        level (pos (wanted_of day s m)) (end_count_of day (picked day picks) s m)
        (zero_is (slack_at day picks (Mu s m)) (position_none (λ place. not (is_none day picks place)) (mus_of day) n (Mu s m) no_mu at))

    solution : IsSolution day picks
    solution = solved day picks accepted follow (λ l t link at second. has_part day picks accepted.links follow l link at no_sigma t second) none_short all_balanced

  served : (picks : List ℕ) → IsSolution day picks → AreServed day (picked day picks)
  served picks solves = (solutions_are_served day picks accepted.limits accepted.links accepted.stock solves.are_picks).0 solves

  found : (picks : List ℕ) → Follow day picks → (IsSolution day picks → ⊥) → (o : Option ℕ) → broken_index day picks ≡ o → IsBroken (meanings_of day) picks (broken_at day picks)
  found picks follow unsolved None is = absurd (unsolved (solution picks follow is))
  found picks follow unsolved (Some index) is = broken_there day picks index is

  pub relaxes : IsRelaxation (meanings_of day)
  relaxes = record {
    follow_length = λ picks follow. follow.trips;
    near_in = λ picks region near. near.inside;
    near_follow = λ picks region near. near.follow;
    solution_near = λ picks region solves inside. solution_near day picks accepted.links solves region inside;
    solution_met = λ picks index solves below. solution_met day picks accepted.links solves (served picks solves) index below;
    broken = λ picks follow unsolved. found picks follow unsolved (broken_index day picks) refl;
    order = each_once day accepted;
  }
