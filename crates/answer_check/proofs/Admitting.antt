-- The types of a list that may run are those of a composition of the day.
use Rattle.std.proofs.Common.{◌≡◌, ℕ, ◌+◌, ◌<◌, ◌≤◌, List, [], length, map, get_or, true, Option, Some, Contains, inl}
use Rattle.std.proofs.Common.{inr, refl, sym, ◌∙◌, ap, subst, arith}
use Rattle.std.specs.Prelude.{set, slice_get, unwrap_or}
use Rattle.std.proofs.lemmas.Bool.{and_parts, cases_lt, leb-true}
use Rattle.std.proofs.lemmas.Grind.{get_or-set_at}
use Rattle.std.proofs.lemmas.List.{ext_get_or, get_or-map, get_or-set_other, get_or_default, length-map}
use Rattle.std.proofs.lemmas.Option.{slice_get-get_or, slice_get_within}
use Rattle.rail_base.specs.declared.limits.TheConstants.{MAX_COMPOSITION_UNITS}
use Rattle.timetable.specs.Admissible.{is_admissible}
use Rattle.timetable.specs.Compositions.{compositions_of, composition_at}
use Rattle.timetable.specs.Day.{Day, types_of}
use Rattle.timetable.specs.Links.{list_of}
use Rattle.timetable.specs.Picks.{RunsByPicks, picked}
use Rattle.timetable.specs.Running.{Runs}
use Rattle.timetable.proofs.AdmittedTypes.{CompositionOf, composition_of}
use Rattle.price_bound.proofs.Solving.{list_read}
use Rattle.answer_check.specs.Verdicts.{IsCompOf}

pub record AreFew (ms : List ℕ) : Type 0 where
  pub some : 1 ≤ length ms
  pub few : length ms ≤ MAX_COMPOSITION_UNITS

-- there are some of them, and not too many
pub some_units : (day : Day) (t : ℕ) (ms : List ℕ) → is_admissible day t ms ≡ true → AreFew ms
unfolding is_admissible
some_units day t ms fits =
    let counts = and_parts _ _ (and_parts _ _ (and_parts _ _ (and_parts _ _ fits).0).0).0 in
    record { some = leb-true 1 (length ms) counts.0; few = leb-true (length ms) MAX_COMPOSITION_UNITS counts.1 }

-- the catalogue has them
pub contained : (day : Day) (t : ℕ) (ms : List ℕ) → is_admissible day t ms ≡ true → Contains (compositions_of day) ms
contained day t ms fits =
    let is : CompositionOf day ms = composition_of day t ms fits in
    (is.comp, is.listed, sym (ap (λ (o : Option (List ℕ)). unwrap_or o []) (slice_get-get_or (compositions_of day) is.comp ms is.listed)) ∙ is.is)

-- what is found there is their number
pub comp_found : (day : Day) (ms : List ℕ) (comp : ℕ) → slice_get (compositions_of day) comp ≡ Some ms → IsCompOf day ms comp
comp_found day ms comp there = record {
  listed = slice_get_within (compositions_of day) comp ms there;
  is = ap (λ (o : Option (List ℕ)). unwrap_or o []) there;
}

-- picks that are the compositions of the lists of a plan that runs
pub planned : (day : Day) (plan : List (List ℕ)) (picks : List ℕ) → Runs day plan → length picks ≡ length day.trips
    → ((t : ℕ) → t < length day.trips → IsCompOf day (types_of day (list_of plan t)) (get_or picks t 0)) → RunsByPicks day plan picks
planned day plan picks runs long each = record {
  runs = runs;
  are_picks = record {
    trips = long;
    known = λ k d below. subst (λ (comp : ℕ). comp < length (compositions_of day)) (get_or_default picks k 0 d below)
        (each k (omega (arith, long, below))).listed;
  };
  types = ext_get_or [] (picked day picks) (map (types_of day) plan)
      (omega (arith, length-map picks (composition_at day), length-map plan (types_of day), long, runs.is_plan.trips))
      (λ k below.
      let at : k < length picks = omega (arith, below, length-map picks (composition_at day)) in
      let there : k < length plan = omega (arith, at, long, runs.is_plan.trips) in
      get_or-map (composition_at day) picks k 0 [] at ∙ (each k (omega (arith, at, long))).is
      ∙ ap (types_of day) (list_read plan k there) ∙ sym (get_or-map (types_of day) plan k [] [] there));
}

-- one more pick
pub one_more : (day : Day) (plan : List (List ℕ)) (picks : List ℕ) (trip comp : ℕ) → trip < length picks
    → ((t : ℕ) → t < trip → IsCompOf day (types_of day (list_of plan t)) (get_or picks t 0))
    → IsCompOf day (types_of day (list_of plan trip)) comp
    → (t : ℕ) → t < trip + 1 → IsCompOf day (types_of day (list_of plan t)) (get_or (set picks trip comp) t 0)
one_more day plan picks trip comp below before is t upto = elim (cases_lt t trip) [
  | inl earlier ↦ subst (λ (n : ℕ). IsCompOf day (types_of day (list_of plan t)) n)
      (sym (get_or-set_other picks trip t comp 0 (λ same. omega (arith, same, earlier)))) (before t earlier)
  | inr past ↦
      let here : trip ≡ t = omega (arith, upto, past) in
      subst (λ (n : ℕ). IsCompOf day (types_of day (list_of plan n)) (get_or (set picks trip comp) n 0)) here
      (subst (λ (n : ℕ). IsCompOf day (types_of day (list_of plan trip)) n) (sym (get_or-set_at picks trip trip comp 0 refl below)) is)
]
