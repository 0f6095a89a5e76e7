-- A plan whose units get other numbers runs where it ran, and through the same day where other units are left over.
use Rattle.std.proofs.Common.{◌≡◌, ℕ, suc, ◌<◌, ◌≤◌, List, [], ◌∷◌, length, map, Bool, true, false, refl, sym, ap}
use Rattle.std.proofs.Common.{◌∙◌, ◌≢◌, subst, arith, leb, inl, inr, cond}
use Rattle.std.specs.Prelude.{if◌then◌else◌, ◌==◌, ◌&&◌, ◌⊎◌, IsTrue, filter, ◌+◌}
use Rattle.std.proofs.lemmas.Bool.{cases_eq, cases_lt, le-leb, leb-true}
use Rattle.std.proofs.lemmas.List.{length-map}
use Rattle.std.proofs.lemmas.List.Elements.{filter_agree}
use Rattle.timetable.specs.Admissible.{is_admissible}
use Rattle.timetable.specs.Cost.{cost_of}
use Rattle.timetable.specs.Day.{Day, Units}
use Rattle.timetable.specs.Duties.{in_order, duty, ends_at, last_place_of}
use Rattle.timetable.specs.Links.{list_of, kept_with, given_with, taken_with}
use Rattle.timetable.specs.Lists.{count_of, has, below, sum_below, IsDistinct}
use Rattle.timetable.specs.Renumbering.{AreAmong, IsRenumbering, IsRenumberedBack, UnitsAreRenumberedBack, renumbered}
use Rattle.timetable.specs.Renumbering.{is_at, standing_at, RenumberedPlansRun, PlansRunAmong}
use Rattle.timetable.specs.Running.{IsPlanOfUnits, MayFollowOf, EachFollows, BeginsAt, ending_of, RunsOf, RunsThrough}
use Rattle.timetable.specs.Running.{EndsAsWanted, RunsInParts}
use Rattle.timetable.proofs.AnyStock.{each_follows_so, through_rows, cost_rows, duty_rows, ending_rows}
use Rattle.timetable.proofs.Ones.{one_same, one_other}
use Rattle.timetable.proofs.Reindexing.{sum_apart, sought, tally_given, is_given}
use Rattle.timetable.proofs.Sums.{sum_same}
use Rattle.timetable.proofs.TypeRule.{list_of-map, link-renumbered, kept-renumbered, given-renumbered, taken-renumbered}

-- ---- lists of numbers

module _ (number : ℕ → ℕ) where
  -- what is in a list is, by its new number, in the new list
  pub has_map : (us : List ℕ) (u : ℕ) → 1 ≤ count_of u us → 1 ≤ count_of (number u) (map number us)
  has_map [] u c = absurd (omega arith)
  has_map (x ∷ us) u c = elim (cases_eq x u) [
    | inl e ↦ let here = one_same (number x) (number u) (ap number e) in omega arith
    | inr ne ↦ let other = one_other x u ne in let rest = has_map us u (omega arith) in omega arith
  ]

  pub came_from : (us : List ℕ) (v : ℕ) → 1 ≤ count_of v (map number us) → (u : ℕ) × (1 ≤ count_of u us) × (number u ≡ v)
  came_from [] v c = absurd (omega arith)
  came_from (x ∷ us) v c = elim (cases_eq (number x) v) [
    | inl e ↦ let here = one_same x x refl in (x, (omega arith), e)
    | inr ne ↦
        let other = one_other (number x) v ne in
        let rest = came_from us v (omega arith) in
        let some = rest.1 in
        (rest.0, (omega arith), rest.2)
  ]

  has_map-true : (us : List ℕ) (u : ℕ) → IsTrue (has u us) → IsTrue (has (number u) (map number us))
  has_map-true us u is = le-leb 1 (count_of (number u) (map number us)) (has_map us u (leb-true 1 (count_of u us) is))

filter_none : (xs : List ℕ) → filter (λ x. false) xs ≡ []
filter_none [] = refl
filter_none (x ∷ xs) = filter_none xs

-- ---- lists of units

module _ (units others : Units) (number : ℕ → ℕ) (is : AreAmong units others number) where
  abbrev AreKnown : List ℕ → Type 0
  AreKnown us = (u : ℕ) → 1 ≤ count_of u us → u < units.count

  later_known : (x : ℕ) (us : List ℕ) → AreKnown (x ∷ us) → AreKnown us
  later_known x us known u c = known u (omega arith)

  first_known : (x : ℕ) (us : List ℕ) → AreKnown (x ∷ us) → x < units.count
  first_known x us known = let here = one_same x x refl in known x (omega arith)

  keeps_types : (us : List ℕ) → AreKnown us → map others.unit_type (map number us) ≡ map units.unit_type us
  keeps_types [] known = refl
  keeps_types (x ∷ us) known =
      ap (λ (m : ℕ). m ∷ map others.unit_type (map number us)) (is.unit_type x (first_known x us known))
      ∙ ap (λ (ms : List ℕ). units.unit_type x ∷ ms) (keeps_types us (later_known x us known))

  same_count : (us : List ℕ) (u : ℕ) → AreKnown us → u < units.count → count_of (number u) (map number us) ≡ count_of u us
  same_count [] u known lt = refl
  same_count (x ∷ us) u known lt =
      let rest = same_count us u (later_known x us known) lt in
      elim (cases_eq x u) [
        | inl e ↦ let new = one_same (number x) (number u) (ap number e) in let old = one_same x u e in omega arith
        | inr ne ↦
            let new = one_other (number x) (number u) (λ e. ne (is.once x u (first_known x us known) lt e)) in
            let old = one_other x u ne in
            omega arith
      ]

  still_distinct : (us : List ℕ) → AreKnown us → IsDistinct us → IsDistinct (map number us)
  still_distinct us known distinct v = elim (cases_lt 0 (count_of v (map number us))) [
    | inl some ↦
        let from = came_from number us v (omega arith) in
        let same = same_count us from.0 known (known from.0 from.1) in
        let few = distinct from.0 in
        let there = ap (λ (w : ℕ). count_of w (map number us)) from.2 in
        omega arith
    | inr none ↦ omega arith
  ]

  -- ---- plans

  module _ (day : Day) (plan : List (List ℕ)) (of : IsPlanOfUnits units day plan) where
    known_at : (t : ℕ) → AreKnown (list_of plan t)
    known_at t u c = of.units t u (le-leb 1 (count_of u (list_of plan t)) c)

    new_list : (t : ℕ) → list_of (renumbered number plan) t ≡ map number (list_of plan t)
    new_list t = list_of-map number plan t

    new_plan : IsPlanOfUnits others day (renumbered number plan)
    new_plan = record {
      trips = length-map plan (map number) ∙ of.trips;
      units = λ t v there.
          let from = came_from number (list_of plan t) v (subst (λ (us : List ℕ). 1 ≤ count_of v us) (new_list t) (leb-true 1 (count_of v (list_of (renumbered number plan) t)) there)) in
          subst (λ (w : ℕ). w < others.count) from.2 (is.known from.0 (known_at t from.0 from.1));
    }

    same_duty : (u : ℕ) → u < units.count → duty day (renumbered number plan) (number u) ≡ duty day plan u
    unfolding duty
    same_duty u lt =
        ap (in_order day)
        (filter_agree (λ t. has (number u) (list_of (renumbered number plan) t)) (λ t. has u (list_of plan t))
        (λ t. ap (λ (n : ℕ). leb 1 n) (ap (count_of (number u)) (new_list t) ∙ same_count (list_of plan t) u (known_at t) lt)) (below (length day.trips)))

    same_last : (u : ℕ) → u < units.count → last_place_of others day (renumbered number plan) (number u) ≡ last_place_of units day plan u
    unfolding last_place_of
    same_last u lt =
        ap (λ (s : ℕ). ends_at day s (duty day (renumbered number plan) (number u))) (is.home u lt)
        ∙ ap (λ (ts : List ℕ). ends_at day (units.home u) ts) (same_duty u lt)

    -- a unit that is left over runs on no trip, and stays at home
    left_over : (v : ℕ) → ((u : ℕ) → u < units.count → number u ≢ v) → duty day (renumbered number plan) v ≡ []
    unfolding duty
    left_over v none =
        ap (in_order day)
        (filter_agree (λ t. has v (list_of (renumbered number plan) t)) (λ t. false)
        (λ t. ap (λ (n : ℕ). leb 1 n) (ap (count_of v) (new_list t) ∙ never (list_of plan t) (known_at t))) (below (length day.trips))
        ∙ filter_none (below (length day.trips)))
      where
        never : (us : List ℕ) → AreKnown us → count_of v (map number us) ≡ 0
        never us known = elim (cases_lt 0 (count_of v (map number us))) [
          | inl some ↦ let from = came_from number us v (omega arith) in absurd (none from.0 (known from.0 from.1) from.2)
          | inr never_there ↦ omega arith
        ]

    stays_home : (v : ℕ) → ((u : ℕ) → u < units.count → number u ≢ v) → last_place_of others day (renumbered number plan) v ≡ others.home v
    unfolding last_place_of
    stays_home v none = ap (λ (ts : List ℕ). ends_at day (others.home v) ts) (left_over v none)

    same_start : (s m : ℕ) → sum_below (λ u. if is_at others s m (number u) then 1 else 0) units.count ≡ standing_at units s m
    same_start s m =
        sum_same (λ u. if is_at others s m (number u) then 1 else 0) (λ u. if is_at units s m u then 1 else 0) units.count
        (λ u lt.
        ap (λ (p : ℕ). if (p == s) && (others.unit_type (number u) == m) then 1 else 0) (is.home u lt)
        ∙ ap (λ (p : ℕ). if (units.home u == s) && (p == m) then 1 else 0) (is.unit_type u lt))

    -- as many more end the day somewhere as began it there
    more_end : (s m : ℕ) → ending_of others day (renumbered number plan) s m + standing_at units s m ≡ ending_of units day plan s m + standing_at others s m
    unfolding ending_of
    more_end s m =
        let ends : ℕ → ℕ = λ v. if (last_place_of others day (renumbered number plan) v == s) && (others.unit_type v == m) then 1 else 0 in
        let starts : ℕ → ℕ = λ v. if is_at others s m v then 1 else 0 in
        let apart : sum_below ends others.count + sum_below (λ u. starts (number u)) units.count ≡ sum_below starts others.count + sum_below (λ u. ends (number u)) units.count =
        sum_apart number units.count others.count is.known is.once ends starts
        (λ v lt none. ap (λ (p : ℕ). cond {A = ℕ} ((p == s) && (others.unit_type v == m)) 1 0) (stays_home v none)) in
        let start = same_start s m in
        let last : sum_below (λ u. ends (number u)) units.count ≡ sum_below (λ u. if (last_place_of units day plan u == s) && (units.unit_type u == m) then 1 else 0) units.count =
        sum_same (λ u. ends (number u)) (λ u. if (last_place_of units day plan u == s) && (units.unit_type u == m) then 1 else 0) units.count
        (λ u lt.
        ap (λ (p : ℕ). if (p == s) && (others.unit_type (number u) == m) then 1 else 0) (same_last u lt)
        ∙ ap (λ (p : ℕ). if (last_place_of units day plan u == s) && (p == m) then 1 else 0) (is.unit_type u lt)) in
        omega arith

    may_follow : (runs : RunsThrough units day plan) (u a b : ℕ) → MayFollowOf units.unit_type day plan u a b → MayFollowOf others.unit_type day (renumbered number plan) (number u) a b
    may_follow runs u a b follows = elim follows [
      | inl stays ↦ inl (subst (λ (us : List ℕ). IsTrue (has (number u) us))
          (sym (kept-renumbered number units.unit_type others.unit_type plan (λ t. keeps_types (list_of plan t) (known_at t)) day runs.links a b))
          (has_map-true number (kept_with units.unit_type day plan a b) u stays))
      | inr yard ↦ inr (record {
        given = subst (λ (us : List ℕ). IsTrue (has (number u) us))
            (sym (given-renumbered number units.unit_type others.unit_type plan (λ t. keeps_types (list_of plan t) (known_at t)) day runs.links a))
            (has_map-true number (given_with units.unit_type day plan a) u yard.given);
        taken = subst (λ (us : List ℕ). IsTrue (has (number u) us))
            (sym (taken-renumbered number units.unit_type others.unit_type plan (λ t. keeps_types (list_of plan t) (known_at t)) day runs.links b))
            (has_map-true number (taken_with units.unit_type day plan b) u yard.taken);
        station = yard.station;
        ready = yard.ready;
      })
    ]

  -- it runs through the day with its new numbers
  runs_through : (day : Day) (plan : List (List ℕ)) → RunsThrough units day plan → RunsThrough others day (renumbered number plan)
  runs_through day plan runs = record {
    is_plan = new_plan day plan runs.is_plan;
    lists = λ t lt. record {
      distinct = subst IsDistinct (sym (new_list day plan runs.is_plan t)) (still_distinct (list_of plan t) (known_at day plan runs.is_plan t) (runs.lists t lt).distinct);
      admissible =
          ap (λ (us : List ℕ). is_admissible day t (map others.unit_type us)) (new_list day plan runs.is_plan t)
          ∙ ap (λ (ms : List ℕ). is_admissible day t ms) (keeps_types (list_of plan t) (known_at day plan runs.is_plan t))
          ∙ (runs.lists t lt).admissible;
    };
    links = λ l link at. link-renumbered number units.unit_type others.unit_type plan (λ t. keeps_types (list_of plan t) (known_at day plan runs.is_plan t)) link (runs.links l link at);
    homes = λ v lt. elim (sought number v units.count) [
      | inl from ↦
          subst (λ (w : ℕ). BeginsAt day (others.home w) (duty day (renumbered number plan) w)) from.2
          (subst (λ (s : ℕ). BeginsAt day s (duty day (renumbered number plan) (number from.0))) (sym (is.home from.0 from.1))
          (subst (BeginsAt day (units.home from.0)) (sym (same_duty day plan runs.is_plan from.0 from.1)) (runs.homes from.0 from.1)))
      | inr none ↦ subst (BeginsAt day (others.home v)) (sym (left_over day plan runs.is_plan v none)) tt
    ];
    follows = λ v lt. elim (sought number v units.count) [
      | inl from ↦
          subst (λ (w : ℕ). EachFollows (MayFollowOf others.unit_type day (renumbered number plan) w) (duty day (renumbered number plan) w)) from.2
          (subst (EachFollows (MayFollowOf others.unit_type day (renumbered number plan) (number from.0))) (sym (same_duty day plan runs.is_plan from.0 from.1))
          (each_follows_so (MayFollowOf units.unit_type day plan from.0) (MayFollowOf others.unit_type day (renumbered number plan) (number from.0)) (duty day plan from.0)
          (may_follow day plan runs.is_plan runs from.0) (runs.follows from.0 from.1)))
      | inr none ↦ subst (EachFollows (MayFollowOf others.unit_type day (renumbered number plan) v)) (sym (left_over day plan runs.is_plan v none)) tt
    ];
  }

  types_stay : (lists : List (List ℕ)) → ((t : ℕ) → AreKnown (list_of lists t)) → map (map others.unit_type) (map (map number) lists) ≡ map (map units.unit_type) lists
  unfolding list_of
  types_stay [] known = refl
  types_stay (us ∷ lists) known =
      ap (λ (ms : List ℕ). ms ∷ map (map others.unit_type) (map (map number) lists)) (keeps_types us (known 0))
      ∙ ap (λ (mss : List (List ℕ)). map units.unit_type us ∷ mss) (types_stay lists (λ t. known (suc t)))

-- ---- that a plan runs, in two parts

module _ (units : Units) (day : Day) (plan : List (List ℕ)) where
  through : RunsOf units day plan → RunsThrough units day plan
  through runs = record { is_plan = runs.is_plan; lists = runs.lists; links = runs.links; homes = runs.homes; follows = runs.follows }

  whole : RunsThrough units day plan → EndsAsWanted units day plan → RunsOf units day plan
  whole runs ends =
      record { is_plan = runs.is_plan; lists = runs.lists; links = runs.links; homes = runs.homes; follows = runs.follows; balance = ends }

pub runs_in_parts : RunsInParts
runs_in_parts units day plan = (λ runs. (through units day plan runs, runs.balance), λ both. whole units day plan both.0 both.1)

-- ---- the numbers back

module _ (number back : ℕ → ℕ) (n : ℕ) (back_is : (u : ℕ) → u < n → back (number u) ≡ u) where
  back_in : (us : List ℕ) → ((u : ℕ) → 1 ≤ count_of u us → u < n) → map back (map number us) ≡ us
  back_in [] known = refl
  back_in (x ∷ us) known =
      ap (λ (y : ℕ). y ∷ map back (map number us)) (back_is x (let here = one_same x x refl in known x (omega arith)))
      ∙ ap (λ (ys : List ℕ). x ∷ ys) (back_in us (λ u c. known u (omega arith)))

  back_in_plan : (lists : List (List ℕ)) → ((t u : ℕ) → 1 ≤ count_of u (list_of lists t) → u < n) → renumbered back (renumbered number lists) ≡ lists
  unfolding list_of
  back_in_plan [] known = refl
  back_in_plan (us ∷ lists) known =
      ap (λ (vs : List ℕ). vs ∷ renumbered back (renumbered number lists)) (back_in us (known 0))
      ∙ ap (λ (vss : List (List ℕ)). us ∷ vss) (back_in_plan lists (λ t. known (suc t)))

module _ (units others : Units) (number : ℕ → ℕ) (is : IsRenumbering units others number) where
  within_count : (u : ℕ) → u < units.count → number u < units.count
  within_count u lt = let there = is.among.known u lt in let count = is.count in omega arith

  known_there : (v : ℕ) → v < others.count → (u : ℕ) × (u < units.count) × (number u ≡ v)
  known_there v lt = is_given number units.count within_count is.among.once v (let count = is.count in omega arith)

  -- as many stand at each station, and so as many end the day there
  same_standing : (s m : ℕ) → standing_at others s m ≡ sum_below (λ u. if is_at others s m (number u) then 1 else 0) units.count
  same_standing s m =
      ap (λ (n : ℕ). sum_below (λ v. if is_at others s m v then 1 else 0) n) is.count
      ∙ sym (tally_given number units.count within_count is.among.once (λ v. if is_at others s m v then 1 else 0) (λ v. few (is_at others s m v)))
    where
      few : (b : Bool) → cond {A = ℕ} b 1 0 ≤ 1
      few true = omega arith
      few false = omega arith

  same_ending : (day : Day) (plan : List (List ℕ)) → IsPlanOfUnits units day plan → (s m : ℕ) → ending_of others day (renumbered number plan) s m ≡ ending_of units day plan s m
  same_ending day plan of s m =
      let more = more_end units others number is.among day plan of s m in
      let start = same_start units others number is.among day plan of s m in
      let standing = same_standing s m in
      omega arith

  runs_on : (day : Day) (plan : List (List ℕ)) → RunsOf units day plan → RunsOf others day (renumbered number plan)
  runs_on day plan runs =
      whole others day (renumbered number plan) (runs_through units others number is.among day plan (through units day plan runs))
      (λ s m there kind. same_ending day plan runs.is_plan s m ∙ runs.balance s m there kind)

  -- the unit that has this number, and unit 0 where there is none
  back_at : (v : ℕ) → (v < others.count) ⊎ (others.count ≤ v) → ℕ
  back_at v (inl lt) = (known_there v lt).0
  back_at v (inr past) = 0

  back_within : (v : ℕ) (o : (v < others.count) ⊎ (others.count ≤ v)) → v < others.count → back_at v o < units.count
  unfolding back_at
  back_within v (inl there) lt = (known_there v there).1
  back_within v (inr past) lt = absurd (omega arith)

  back_number : (v : ℕ) (o : (v < others.count) ⊎ (others.count ≤ v)) → v < others.count → number (back_at v o) ≡ v
  unfolding back_at
  back_number v (inl there) lt = (known_there v there).2
  back_number v (inr past) lt = absurd (omega arith)

  back : ℕ → ℕ
  back v = back_at v (cases_lt v others.count)

  within : (v : ℕ) → v < others.count → back v < units.count
  unfolding back
  within v lt = back_within v (cases_lt v others.count) lt

  number_back : (v : ℕ) → v < others.count → number (back v) ≡ v
  unfolding back
  number_back v lt = back_number v (cases_lt v others.count) lt

  renumbers_back : IsRenumberedBack units others number back
  renumbers_back = record {
    renumbers = record {
      among = record {
        known = within;
        once = λ v w lv lw e. sym (number_back v lv) ∙ ap number e ∙ number_back w lw;
        unit_type = λ v lt. sym (is.among.unit_type (back v) (within v lt)) ∙ ap others.unit_type (number_back v lt);
        home = λ v lt. sym (is.among.home (back v) (within v lt)) ∙ ap others.home (number_back v lt);
      };
      count = sym is.count;
    };
    back_is = λ u lt. is.among.once (back (number u)) u (within (number u) (is.among.known u lt)) lt (number_back (number u) (is.among.known u lt));
    number_is = number_back;
  }

pub units_are_renumbered_back : UnitsAreRenumberedBack
units_are_renumbered_back units others number is = (back units others number is, renumbers_back units others number is)

pub renumbered_plans_run : RenumberedPlansRun
renumbered_plans_run units others number day plan is of =
    let backward = units_are_renumbered_back units others number is in
    let types = types_stay units others number is.among plan (known_at units others number is.among day plan of) in
    record {
      runs = (
        runs_on units others number is day plan,
        λ runs. subst (RunsOf units day) (back_in_plan number backward.0 units.count (backward.1).back_is plan (known_at units others number is.among day plan of))
            (runs_on others units backward.0 (backward.1).renumbers day (renumbered number plan) runs),
      );
      types = types;
      cost = ap (cost_of day) types;
      duties = same_duty units others number is.among day plan of;
    }

pub plans_run_among : PlansRunAmong
plans_run_among units others number day rows plan is of =
    let types = types_stay units others number is plan (known_at units others number is day plan of) in
    record {
      runs = λ runs. through_rows day rows others (renumbered number plan) (runs_through units others number is day plan runs);
      types = types;
      cost = cost_rows day rows (map (map others.unit_type) (renumbered number plan)) ∙ ap (cost_of day) types;
      duties = λ u lt. duty_rows day rows (renumbered number plan) (number u) ∙ same_duty units others number is day plan of u lt;
      ends = λ s m. ap (λ (n : ℕ). n + standing_at units s m) (ending_rows day rows others (renumbered number plan) s m) ∙ more_end units others number is day plan of s m;
    }
