-- Picks are a solution exactly where the yards serve them, and exactly where they keep the rules and the yards have no
-- fault.
use Rattle.std.proofs.Common.{◌≡◌, ℕ, ◌+◌, ◌<◌, ◌≤◌, List, [], ◌∷◌, length, get_or, Bool, true, false, cond, refl, sym}
use Rattle.std.proofs.Common.{ap, subst, ◌∙◌, arith, inl, inr, pos, ◌-ℤ◌}
use Rattle.std.specs.Prelude.{if◌then◌else◌, ◌==◌, ◌&&◌, nat_le, nat_lt, ◌≤ℤ◌}
use Rattle.std.proofs.lemmas.Bool.{cases_lt, and_parts, ltb-true, ne_eqb}
use Rattle.std.proofs.lemmas.Int.{ints}
use Rattle.std.proofs.lemmas.List.{length-map, map-id, get_or_default}
use Rattle.compositions.specs.Composition.{are_types}
use Rattle.rules.specs.declared.records.UnitType.{UnitType}
use Rattle.compositions.proofs.Fitting.{Fits-from_test}
use Rattle.timetable.specs.Accepted.{IsDay, AreLinks}
use Rattle.timetable.specs.Admissible.{is_admissible, longest_of}
use Rattle.timetable.specs.Compositions.{composition_at}
use Rattle.timetable.specs.Day.{Day, leaves, from_of}
use Rattle.timetable.specs.Links.{list_of, itself}
use Rattle.timetable.specs.Lists.{count_of}
use Rattle.timetable.specs.Minutes.{minutes_of}
use Rattle.timetable.specs.Picks.{picked}
use Rattle.timetable.specs.Starts.{start_of}
use Rattle.inventory.specs.Counts.{AreServed, takes_of, taken_until, ready_until}
use Rattle.inventory.specs.NamedUnits.{named_plan}
use Rattle.inventory.specs.NamingLaws.{RunsWith}
use Rattle.inventory.specs.SolutionLaws.{SolutionsAreServed, FaultsDecide, KeepTheRules}
use Rattle.inventory.specs.StockFaults.{NoneShort, AllBalanced}
use Rattle.inventory.proofs.Departures.{always}
use Rattle.inventory.proofs.Laws.{served_plans_run}
use Rattle.inventory.proofs.Linked.{taken_is, places_share}
use Rattle.inventory.proofs.Serving.{served}
use Rattle.inventory.proofs.Sums.{one_other, sum_zero}

pub solutions_are_served : SolutionsAreServed
solutions_are_served day picks is_day links stocked are_picks = (
  λ solution. subst (AreServed day) solution.types (served day solution.plan is_day links stocked solution.runs),
  λ serves.
      let named : RunsWith day (picked day picks) (named_plan day (picked day picks)) = served_plans_run day (picked day picks) is_day links stocked serves in
      record { are_picks = are_picks; plan = named_plan day (picked day picks); runs = named.runs; types = named.types_are },
)

-- ---- by faults

-- a type that the day lacks is in no composition
none_of : (types : List UnitType) (ms : List ℕ) (m : ℕ) → are_types types ms ≡ true → length types ≤ m → count_of m ms ≡ 0
none_of types [] m known past = refl
none_of types (x ∷ ms) m known past =
    let both = and_parts (nat_lt x (length types)) (are_types types ms) known in
    let below = ltb-true x (length types) both.0 in
    let rest = none_of types ms m both.1 past in
    let other = one_other x m (λ e. absurd (omega arith)) in
    omega arith

module _ (day : Day) (lists : List (List ℕ)) (is_day : IsDay day) (links : AreLinks day) (rules : KeepTheRules day lists) (none : NoneShort day lists) where
  known : (t : ℕ) → t < length day.trips → are_types day.types (list_of lists t) ≡ true
  unfolding is_admissible
  known t lt = (Fits-from_test day.types (longest_of day t) (list_of lists t) (rules.admissible t lt)).known

  taken_known : (t m : ℕ) → t < length day.trips → length day.types ≤ m → takes_of day lists m t ≡ 0
  taken_known t m lt past =
      let is = ap (count_of m) (taken_is day lists links itself lists (λ t. map-id (list_of lists t)) (record { holds = rules.links }) t) in
      let share = places_share day lists t m (list_of lists t) in
      let lacking = none_of day.types (list_of lists t) m (known t lt) past in
      omega arith

  nothing : (b : Bool) → cond {A = ℕ} b 0 0 ≡ 0
  nothing true = refl
  nothing false = refl

  never_short : (s m minute : ℕ) → taken_until day lists s m minute ≤ start_of day s m + ready_until day lists s m minute
  unfolding taken_until
  never_short s m minute = elim (cases_lt s (length day.stations)) [
    | inr past ↦
        let no : taken_until day lists s m minute ≡ 0 = sum_zero (λ t. if (from_of day t == s) && nat_le (leaves day t) minute then takes_of day lists m t else 0) (length day.trips)
        (λ t lt. let there = is_day.timetable.origin t lt in
        ap (λ (b : Bool). cond {A = ℕ} (b && nat_le (leaves day t) minute) (takes_of day lists m t) 0) (ne_eqb (from_of day t) s (λ e. absurd (omega arith)))) in
        omega arith
    | inl there ↦ elim (cases_lt m (length day.types)) [
      | inr past ↦
          let no : taken_until day lists s m minute ≡ 0 = sum_zero (λ t. if (from_of day t == s) && nat_le (leaves day t) minute then takes_of day lists m t else 0) (length day.trips)
          (λ t lt. ap (λ (n : ℕ). cond {A = ℕ} ((from_of day t == s) && nat_le (leaves day t) minute) n 0) (taken_known t m lt past) ∙ nothing ((from_of day t == s) && nat_le (leaves day t) minute)) in
          omega arith
      | inl of_day ↦ always day lists s m (λ at at_is. enough at at_is.0 at_is.1 at_is.2 there of_day) minute
    ]
  ]
    where
      enough : (at k : ℕ) → k < length (minutes_of day s) → get_or (minutes_of day s) k at ≡ at → s < length day.stations → m < length day.types
          → taken_until day lists s m at ≤ start_of day s m + ready_until day lists s m at
      enough at k below is there of_day =
          let e : get_or (minutes_of day s) k 0 ≡ at = sym (get_or_default (minutes_of day s) k at 0 below) ∙ is in
          let least = subst (λ (x : ℕ). pos 0 ≤ℤ (pos (start_of day s m + ready_until day lists s m x) -ℤ pos (taken_until day lists s m x))) e
          (none s m k (record { station = there; unit_type = of_day }) below) in
          omega (arith, ints, least)

-- of whole numbers
not_negative : (a b : ℕ) → b ≤ a → pos 0 ≤ℤ (pos a -ℤ pos b)
not_negative a b le = omega (arith, ints, le)

left_over : (a b c : ℕ) → a ≡ c + b → (pos a -ℤ pos b) ≡ pos c
left_over a b c e = omega (arith, ints, e)

as_sum : (a b c : ℕ) → (pos a -ℤ pos b) ≡ pos c → a ≡ c + b
as_sum a b c e = omega (arith, ints, e)

pub faults_decide : FaultsDecide
faults_decide day picks is_day links stocked are_picks = (
  λ solution.
      let serves : AreServed day (picked day picks) = (solutions_are_served day picks is_day links stocked are_picks).0 solution in (
        record { admissible = serves.admissible; links = serves.links },
        (
          λ s m k yard below. not_negative _ _ (serves.never_short s m (get_or (minutes_of day s) k 0)),
          λ s m yard. left_over _ _ _ (serves.ends s m yard.station yard.unit_type),
        ),
      ),
  λ decided.
      let rules : KeepTheRules day (picked day picks) = decided.0 in
      let none : NoneShort day (picked day picks) = (decided.1).0 in
      let balanced : AllBalanced day (picked day picks) = (decided.1).1 in
      (solutions_are_served day picks is_day links stocked are_picks).1 (record {
        trips = length-map picks (composition_at day) ∙ are_picks.trips;
        admissible = rules.admissible;
        links = rules.links;
        never_short = never_short day (picked day picks) is_day links rules none;
        ends = λ s m there of_day. as_sum _ _ _ (balanced s m (record { station = there; unit_type = of_day }));
      }),
)
