-- A plan in which units run in the place of others runs, and has the same types.
use Rattle.std.proofs.Common.{◌≡◌, ℕ, ◌≤◌, ◌<◌, Bool, List, [], ◌∷◌, length, map, refl, sym, ap, ◌∙◌, subst, arith, inl, inr, Option, unwrap_or}
use Rattle.std.specs.Prelude.{filter, nat_lt, IsTrue}
use Rattle.std.proofs.lemmas.Bool.{cases_eq, cases_lt, cases_Bool, cond-true, cond-false, lt-ltb, le-leb, leb-true}
use Rattle.rail_base.specs.declared.limits.TheConstants.{MAX_MINUTES}
use Rattle.timetable.specs.Accepted.{IsDay, AreLinks, IsStocked}
use Rattle.timetable.specs.Day.{Day, leaves, home_of, type_of, types_of, unit_count}
use Rattle.timetable.specs.Duties.{duty}
use Rattle.timetable.specs.Links.{list_of, kept}
use Rattle.timetable.specs.Lists.{count_of, has, below, IsDistinct}
use Rattle.timetable.specs.Running.{Runs, BeginsAt, EachFollows}
use Rattle.timetable.proofs.ListedUnits.{list_of-types}
use Rattle.timetable.proofs.Listing.{get_listed, length-listed}
use Rattle.timetable.proofs.Ones.{one_same, one_other, count_below_out}
use Rattle.inventory.specs.NamedBefore.{IsNamedBefore, IsListOf, MayFollowByPlaces, duty_before}
use Rattle.inventory.specs.NamedUnits.{named_from}
use Rattle.inventory.specs.NamingLaws.{RunsOn}
use Rattle.inventory.specs.Places.{kept_places, coming}
use Rattle.inventory.proofs.Laws.{named_plans_run}
use Rattle.inventory.proofs.Linked.{come_is, kept_is, coming_same, LeadsInto, leads_into}
use Rattle.inventory.proofs.Order.{count_of-in_order}
use Rattle.inventory.proofs.Running.{same_plans, none_past}
use Rattle.inventory.proofs.Serving.{served}
use Rattle.urgent_units.specs.Namings.{IsNaming}
use Rattle.urgent_units.specs.Exchanges.{renamed}
use Rattle.urgent_units.proofs.Labels.{kept-map, coming_renamed, holds, types_are, map_same, map_twice}

-- Units of the same types, none twice on a trip; the same one as long as the unit stays in the train; and each of them
-- begins the day at home and can go from one of its trips to the next.
pub record IsRenaming (day : Day) (plan : List (List ℕ)) (who : ℕ → ℕ → ℕ) : Type 0 where
  pub known : (t u : ℕ) → IsTrue (has u (list_of plan t)) → who t u < unit_count day
  pub types : (t u : ℕ) → IsTrue (has u (list_of plan t)) → type_of day (who t u) ≡ type_of day u
  pub apart : (t u v : ℕ) → IsTrue (has u (list_of plan t)) → IsTrue (has v (list_of plan t)) → who t u ≡ who t v → u ≡ v
  pub kept_on : (a b u : ℕ) → IsTrue (has u (kept day plan a b)) → who b u ≡ who a u
  pub homes : (u : ℕ) → u < unit_count day → BeginsAt day (home_of day u) (duty day (renamed day who plan) u)
  pub follows : (u : ℕ) → u < unit_count day
      → EachFollows (MayFollowByPlaces day (map (types_of day) plan) (renamed day who plan) u) (duty day (renamed day who plan) u)

-- the list of a trip in the renamed plan
pub renamed_list : (day : Day) (who : ℕ → ℕ → ℕ) (plan : List (List ℕ)) (t : ℕ) → t < length day.trips → list_of (renamed day who plan) t ≡ map (who t) (list_of plan t)
unfolding renamed list_of
renamed_list day who plan t below = ap (λ (o : Option (List ℕ)). unwrap_or o []) (get_listed (λ t. map (who t) (list_of plan t)) (length day.trips) t below)

pub renamed_long : (day : Day) (who : ℕ → ℕ → ℕ) (plan : List (List ℕ)) → length (renamed day who plan) ≡ length day.trips
unfolding renamed
renamed_long day who plan = length-listed (λ t. map (who t) (list_of plan t)) (length day.trips)

-- other numbers that are apart keep a list without repeats
map_apart : (f : ℕ → ℕ) (us : List ℕ) → ((u v : ℕ) → 1 ≤ count_of u us → 1 ≤ count_of v us → f u ≡ f v → u ≡ v) → IsDistinct us → IsDistinct (map f us)
map_apart f [] apart once x = omega arith
map_apart f (u ∷ us) apart once x =
    let here = one_same u u refl in
    let rest = map_apart f us (λ v w a b e. apart v w (omega (arith, a)) (omega (arith, b)) e) (λ y. (let few = once y in omega (arith, few))) x in
    elim (cases_eq (f u) x) [
      | inl same ↦ omega (arith, one_same (f u) x same, ap (λ (y : ℕ). count_of y (map f us)) (sym same), none us (λ v c. c))
      | inr differs ↦ omega (arith, rest, one_other (f u) x differs)
    ]
  where
    none : (vs : List ℕ) → ((v : ℕ) → 1 ≤ count_of v vs → 1 ≤ count_of v us) → count_of (f u) (map f vs) ≡ 0
    none [] within = refl
    none (v ∷ vs) within =
        let there = one_same v v refl in
        let in_it = within v (omega (arith, there)) in
        let differs : ¬ (f v ≡ f u) = λ e. (
        let same : v ≡ u = apart v u (omega (arith, in_it)) (let first = one_same u u refl in omega (arith, first)) e in
        let twice = once u in
        let first = one_same u u refl in
        let again = ap (λ (y : ℕ). count_of y us) same in
        absurd (omega (arith, twice, first, again, in_it))) in
        omega (arith, one_other (f v) (f u) differs, none vs (λ w c. within w (omega (arith, c))))

all_early : (day : Day) (minute : ℕ) (ts : List ℕ) → ((t : ℕ) → 1 ≤ count_of t ts → leaves day t < minute) → filter (λ t. nat_lt (leaves day t) minute) ts ≡ ts
all_early day minute [] early = refl
all_early day minute (t ∷ ts) early =
    cond-true (nat_lt (leaves day t) minute) (t ∷ filter (λ t. nat_lt (leaves day t) minute) ts) (filter (λ t. nat_lt (leaves day t) minute) ts) (lt-ltb (leaves day t) minute (early t (let here = one_same t t refl in omega (arith, here))))
    ∙ ap (λ (xs : List ℕ). t ∷ xs) (all_early day minute ts (λ x c. early x (omega (arith, c))))

filter_fewer : (p : ℕ → Bool) (x : ℕ) (ys : List ℕ) → count_of x (filter p ys) ≤ count_of x ys
filter_fewer p x [] = omega arith
filter_fewer p x (y ∷ ys) = let rest = filter_fewer p x ys in elim (cases_Bool (p y)) [
  | inl passes ↦ let e = ap (count_of x) (cond-true (p y) (y ∷ filter p ys) (filter p ys) passes) in omega (arith, rest, e)
  | inr fails ↦ let e = ap (count_of x) (cond-false (p y) (y ∷ filter p ys) (filter p ys) fails) in omega (arith, rest, e)
]

trip_known : (day : Day) (other : List (List ℕ)) (u t : ℕ) → 1 ≤ count_of t (duty day other u) → t < length day.trips
unfolding duty
trip_known day other u t there =
    let order = count_of-in_order day t (filter (λ t. has u (list_of other t)) (below (length day.trips))) in
    let fewer = filter_fewer (λ t. has u (list_of other t)) t (below (length day.trips)) in
    elim (cases_lt t (length day.trips)) [
      | inl under ↦ under
      | inr past ↦ absurd (omega (arith, there, order, fewer, count_below_out t (length day.trips) past))
    ]

-- all trips leave within the two days
pub whole_duty_of : (day : Day) (other : List (List ℕ)) (u : ℕ) → ((t : ℕ) → t < length day.trips → leaves day t < MAX_MINUTES) → duty_before day other MAX_MINUTES u ≡ duty day other u
whole_duty_of day other u early = all_early day MAX_MINUTES (duty day other u) (λ t there. early t (trip_known day other u t there))

module _ (day : Day) (plan : List (List ℕ)) (who : ℕ → ℕ → ℕ) (is_day : IsDay day) (links : AreLinks day) (stocked : IsStocked day) (runs : Runs day plan) (renaming : IsRenaming day plan who) where
  abbrev types : List (List ℕ)
  types = map (types_of day) plan

  abbrev other : List (List ℕ)
  other = renamed day who plan

  early : (t : ℕ) → t < length day.trips → leaves day t < MAX_MINUTES
  early t known = omega (arith, is_day.timetable.time t known, is_day.timetable.late t known)

  in_list : (t u : ℕ) → 1 ≤ count_of u (list_of plan t) → IsTrue (has u (list_of plan t))
  in_list t u there = le-leb 1 (count_of u (list_of plan t)) there

  map_known : (f : ℕ → ℕ) (us : List ℕ) (n x : ℕ) → ((u : ℕ) → 1 ≤ count_of u us → f u < n) → 1 ≤ count_of x (map f us) → x < n
  map_known f [] n x each there = absurd (omega (arith, there))
  map_known f (u ∷ us) n x each there = elim (cases_eq (f u) x) [
    | inl same ↦ subst (λ (y : ℕ). y < n) same (each u (let here = one_same u u refl in omega (arith, here)))
    | inr differs ↦ map_known f us n x (λ v c. each v (omega (arith, c))) (omega (arith, there, one_other (f u) x differs))
  ]

  listed_right : (t : ℕ) → t < length day.trips → IsListOf day (list_of types t) (list_of other t)
  listed_right t below =
      subst (IsListOf day (list_of types t)) (sym (renamed_list day who plan t below)) (record {
        distinct = map_apart (who t) (list_of plan t) (λ u v a b e. renaming.apart t u v (in_list t u a) (in_list t v b) e) (runs.lists t below).distinct;
        known = λ x there. map_known (who t) (list_of plan t) (unit_count day) x (λ u c. renaming.known t u (in_list t u c)) (leb-true 1 (count_of x (map (who t) (list_of plan t))) there);
        types_are =
            sym (map_twice (type_of day) (who t) (list_of plan t))
            ∙ map_same (λ u. type_of day (who t u)) (type_of day) (list_of plan t) (λ u c. renaming.types t u (in_list t u c))
            ∙ sym (list_of-types day plan t);
      })

  links_right : (t : ℕ) → t < length day.trips → kept_places day types t (list_of other t) ≡ coming day types (list_of other) t
  links_right t below =
      ap (kept_places day types t) (renamed_list day who plan t below)
      ∙ kept-map day types (who t) t (list_of plan t)
      ∙ ap (map (who t)) (come_is day types links (type_of day) plan (types_are day plan is_day links runs 0) (holds day plan is_day links runs 0) t)
      ∙ coming_renamed day types (who t) who (list_of plan) t
      (λ a u leads there. renaming.kept_on a t u (le-leb 1 (count_of u (kept day plan a t))
      (let is = ap (count_of u) (kept_is day types links (type_of day) plan (types_are day plan is_day links runs 0) (holds day plan is_day links runs 0) a t) in omega (arith, is, there))))
      ∙ coming_lists t
    where
      coming_lists : (t : ℕ) → coming day types (λ a. map (who a) (list_of plan a)) t ≡ coming day types (list_of other) t
      coming_lists t = coming_same day types (λ a. map (who a) (list_of plan a)) (list_of other) t (λ a leads.
          let into : LeadsInto day a t = leads_into day types links a t leads in
          sym (renamed_list day who plan a into.from))

  whole_duty : (u : ℕ) → duty_before day other MAX_MINUTES u ≡ duty day other u
  whole_duty u = whole_duty_of day other u early

  named : IsNamedBefore day types MAX_MINUTES other
  named = record {
    lists = λ t below before. listed_right t below;
    links = λ t below before. links_right t below;
    homes = λ u known. subst (BeginsAt day (home_of day u)) (sym (whole_duty u)) (renaming.homes u known);
    follows = λ u known. subst (EachFollows (MayFollowByPlaces day types other u)) (sym (whole_duty u)) (renaming.follows u known);
  }

  pub renamed_runs : IsNaming day plan other
  renamed_runs =
      let on : RunsOn day types MAX_MINUTES other (named_from day types MAX_MINUTES other) = named_plans_run day types MAX_MINUTES other is_day links stocked (served day plan is_day links stocked runs) named in
      let long : length (named_from day types MAX_MINUTES other) ≡ length other = on.runs.is_plan.trips ∙ sym (renamed_long day who plan) in
      let same : named_from day types MAX_MINUTES other ≡ other = same_plans (named_from day types MAX_MINUTES other) other long (λ t. elim (cases_lt t (length day.trips)) [
        | inl below ↦ on.agrees t below (early t below)
        | inr past ↦ none_past (named_from day types MAX_MINUTES other) t (omega (arith, past, on.runs.is_plan.trips)) ∙ sym (none_past other t (omega (arith, past, renamed_long day who plan)))
      ]) in
      record { runs = subst (Runs day) same on.runs; types = subst (λ (p : List (List ℕ)). map (types_of day) p ≡ types) same on.types_are }
