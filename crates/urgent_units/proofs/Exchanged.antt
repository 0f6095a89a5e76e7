-- Two units of one type that stand ready in one yard may exchange all that leaves from then on.
use Rattle.std.proofs.Common.{◌≡◌, ◌≢◌, ℕ, ◌≤◌, ◌<◌, Bool, true, false, List, [], ◌∷◌, ◌++◌, length, map, refl, sym, ap, ◌∙◌, subst, arith, inl, inr, ◌⊎◌}
use Rattle.std.specs.Prelude.{if◌then◌else◌, ◌==◌, nat_le, nat_lt}
use Rattle.std.specs.List.{All}
use Rattle.std.proofs.lemmas.Bool.{cases_eq, cases_Bool, cond-true, cond-false, eqb-true, eq-eqb, false≢true, lt-ltb, le-ltb, ltb-true, ltb-false, leb-true, le-leb}
use Rattle.std.proofs.lemmas.List.{append-nil, map-append, map-id}
use Rattle.std.proofs.lemmas.List.Elements.{All-nil, All-cons, All-head, All-tail}
use Rattle.rail_base.specs.declared.limits.TheConstants.{MAX_MINUTES}
use Rattle.timetable.specs.Accepted.{IsDay, AreLinks, IsStocked}
use Rattle.timetable.specs.Day.{Day, leaves, arrives, from_of, to_of, home_of, type_of, types_of, unit_count, ready_at}
use Rattle.timetable.specs.Duties.{duty, ends_at}
use Rattle.timetable.specs.Links.{list_of, kept, given}
use Rattle.timetable.specs.Lists.{count_of, has}
use Rattle.timetable.specs.Running.{Runs, BeginsAt, EachFollows}
use Rattle.timetable.proofs.ListedUnits.{list_of-types}
use Rattle.timetable.proofs.Ones.{one_same, one_other}
use Rattle.inventory.specs.NamedBefore.{GoesByPlaces, MayFollowByPlaces}
use Rattle.inventory.specs.Places.{going_on, given_places, taken_places}
use Rattle.inventory.proofs.Earlier.{running_plans_are_named}
use Rattle.inventory.proofs.Linked.{AllHold, LeadsInto, given_is, given_places-map, going_leads_into, kept_is, leads_into, taken_is, taken_places-map}
use Rattle.inventory.proofs.OnDuty.{duty_within, first_takes, last_gives, last_of_duty as last_trip, on_duty, stays as kept_apart}
use Rattle.urgent_units.specs.declared.legs.Leg.{Leg}
use Rattle.urgent_units.specs.Exchanges.{ExchangedPlansRun, RunsExchanged, StandsReady, exchanged, exchanged_plan, in_place, legs_before, legs_from}
use Rattle.urgent_units.specs.Namings.{IsNaming}
use Rattle.urgent_units.specs.Legs.{end_of, leg_of, legs_of_unit, stays}
use Rattle.urgent_units.specs.Runs.{last_from, runs_of}
use Rattle.urgent_units.proofs.DutyParts.{after_known, after_of, before_has, before_known, before_of, duty_parts, early_known, early_trips, filter_same, follows_first, follows_joined, follows_second, follows_so, follows_there, is_early, late_known, late_trips}
use Rattle.urgent_units.proofs.InTurn.{end_of_trips}
use Rattle.urgent_units.proofs.Labels.{goes-map, kept_on_trip, map_same, one_way}
use Rattle.urgent_units.proofs.Renamed.{IsRenaming, renamed_list, renamed_runs, whole_duty_of}
use Rattle.urgent_units.proofs.RunsApart.{Part, before_are, from_are, last_holds, legs_leave, legs_over, none_over, runs_apart, runs_same}

-- ---- who is whose

not_same : (x y : ℕ) → x ≢ y → (x == y) ≡ false
not_same x y differs = elim (cases_Bool (x == y)) [
  | inl same ↦ absurd (differs (eqb-true x y same))
  | inr isnt ↦ isnt
]

module _ (u v : ℕ) (apart : u ≢ v) where
  first_is : exchanged u v u ≡ v
  first_is = cond-true {A = ℕ} (u == u) v (if u == v then u else u) (eq-eqb u u refl)

  second_is : exchanged u v v ≡ u
  second_is = cond-false {A = ℕ} (v == u) v (if v == v then u else v) (not_same v u (λ e. apart (sym e))) ∙ cond-true {A = ℕ} (v == v) u v (eq-eqb v v refl)

  third_is : (w : ℕ) → w ≢ u → w ≢ v → exchanged u v w ≡ w
  third_is w not_u not_v = cond-false {A = ℕ} (w == u) v (if w == v then u else w) (not_same w u not_u) ∙ cond-false {A = ℕ} (w == v) u w (not_same w v not_v)

  -- each unit is one of the two, or a third one
  abbrev Kind : ℕ → Type 0
  Kind w = (w ≡ u) ⊎ ((w ≡ v) ⊎ ((w ≢ u) × (w ≢ v)))

  kind : (w : ℕ) → Kind w
  kind w = elim (cases_eq w u) [
    | inl same ↦ inl same
    | inr not_u ↦ elim (cases_eq w v) [
      | inl same ↦ inr (inl same)
      | inr not_v ↦ inr (inr (not_u, not_v))
    ]
  ]

  exchanged_twice : (w : ℕ) → exchanged u v (exchanged u v w) ≡ w
  exchanged_twice w = by (kind w)
    where
      by : Kind w → exchanged u v (exchanged u v w) ≡ w
      by (inl same) = ap (λ (x : ℕ). exchanged u v (exchanged u v x)) same ∙ ap (exchanged u v) first_is ∙ second_is ∙ sym same
      by (inr (inl same)) = ap (λ (x : ℕ). exchanged u v (exchanged u v x)) same ∙ ap (exchanged u v) second_is ∙ first_is ∙ sym same
      by (inr (inr apart_from)) = ap (exchanged u v) (third_is w apart_from.0 apart_from.1) ∙ third_is w apart_from.0 apart_from.1

  -- whom a list has with the exchange
  count_exchanged : (us : List ℕ) (w : ℕ) → count_of w (map (exchanged u v) us) ≡ count_of (exchanged u v w) us
  count_exchanged [] w = refl
  count_exchanged (x ∷ us) w = omega (arith, count_exchanged us w, ap {B = ℕ} (λ (b : Bool). if b then 1 else 0) (test x))
    where
      test : (x : ℕ) → (exchanged u v x == w) ≡ (x == exchanged u v w)
      test x = elim (cases_eq (exchanged u v x) w) [
        | inl same ↦ eq-eqb (exchanged u v x) w same ∙ sym (eq-eqb x (exchanged u v w) (sym (exchanged_twice x) ∙ ap (exchanged u v) same))
        | inr differs ↦ not_same (exchanged u v x) w differs ∙ sym (not_same x (exchanged u v w) (λ e. differs (ap (exchanged u v) e ∙ exchanged_twice w)))
      ]

  has_exchanged : (us : List ℕ) (w : ℕ) → has w (map (exchanged u v) us) ≡ has (exchanged u v w) us
  has_exchanged us w = ap (λ (n : ℕ). nat_le 1 n) (count_exchanged us w)

-- ---- where trips end

last_from_there : (ts : List ℕ) (t : ℕ) → 1 ≤ count_of (last_from t ts) (t ∷ ts)
last_from_there [] t = (let one = one_same t t refl in omega (arith, one))
last_from_there (c ∷ ts) t = (let rest = last_from_there ts c in omega (arith, rest))

ends_at_last : (day : Day) (ts : List ℕ) (t at : ℕ) → ends_at day at (t ∷ ts) ≡ to_of day (last_from t ts)
ends_at_last day [] t at = refl
ends_at_last day (c ∷ ts) t at = ends_at_last day ts c (to_of day t)

last_trip_is : (ts : List ℕ) (t : ℕ) → last_trip t ts ≡ last_from t ts
last_trip_is [] t = refl
last_trip_is (c ∷ ts) t = last_trip_is ts c

all_front : (P : Leg → Type 0) (xs ys : List Leg) → All P (xs ++ ys) → All P xs
all_front P [] ys each = All-nil P
all_front P (x ∷ xs) ys each = All-cons P x xs (All-head P x (xs ++ ys) each) (all_front P xs ys (All-tail P x (xs ++ ys) each))

-- each trip but the last is followed by another
follower : (R : ℕ → ℕ → Type 0) (ts : List ℕ) (t a : ℕ) → EachFollows R (t ∷ ts) → 1 ≤ count_of a (t ∷ ts) → (a ≡ last_from t ts) ⊎ ((c : ℕ) × (1 ≤ count_of c ts) × R a c)
follower R [] t a each there = elim (cases_eq t a) [
  | inl same ↦ inl (sym same)
  | inr differs ↦ absurd (let other = one_other t a differs in omega (arith, other, there))
]
follower R (c ∷ ts) t a each there = elim (cases_eq t a) [
  | inl same ↦ inr ((c, (let one = one_same c c refl in omega (arith, one)), subst (λ (x : ℕ). R x c) same each.0))
  | inr differs ↦ elim (follower R ts c a each.1 (let other = one_other t a differs in omega (arith, other, there))) [
    | inl last ↦ inl last
    | inr next ↦ inr ((next.0, (let later = next.1 in omega (arith, later)), next.2))
  ]
]

-- ---- the exchange

module _ (day : Day) (plan : List (List ℕ)) (u v s minute : ℕ) (is_day : IsDay day) (links : AreLinks day) (stocked : IsStocked day) (runs : Runs day plan)
    (known_u : u < unit_count day) (known_v : v < unit_count day) (apart : u ≢ v) (same_type : type_of day u ≡ type_of day v)
    (stands_u : StandsReady day plan u s minute) (stands_v : StandsReady day plan v s minute) where
  abbrev types : List (List ℕ)
  types = map (types_of day) plan

  abbrev other : List (List ℕ)
  other = exchanged_plan day u v minute plan

  abbrev ex : ℕ → ℕ
  ex = exchanged u v

  abbrev who : ℕ → ℕ → ℕ
  who = in_place day u v minute

  abbrev before : ℕ → List ℕ
  before x = before_of day minute plan x

  abbrev after : ℕ → List ℕ
  after x = after_of day minute plan x

  types_are : (t : ℕ) → map (type_of day) (list_of plan t) ≡ list_of types t
  types_are t = sym (list_of-types day plan t)

  holds : AllHold (type_of day) day plan
  holds = record { holds = runs.links }

  takes_time : (t : ℕ) → t < length day.trips → leaves day t < arrives day t
  takes_time = is_day.timetable.time

  -- ---- the lists

  list_early : (t : ℕ) → t < length day.trips → is_early day minute t ≡ true → list_of other t ≡ list_of plan t
  list_early t below early =
      renamed_list day who plan t below
      ∙ map_same (who t) (λ x. x) (list_of plan t) (λ x there. cond-true {A = ℕ} (nat_lt (leaves day t) minute) x (exchanged u v x) early)
      ∙ map-id (list_of plan t)

  list_late : (t : ℕ) → t < length day.trips → is_early day minute t ≡ false → list_of other t ≡ map ex (list_of plan t)
  list_late t below late =
      renamed_list day who plan t below
      ∙ map_same (who t) ex (list_of plan t) (λ x there. cond-false {A = ℕ} (nat_lt (leaves day t) minute) x (exchanged u v x) late)

  -- what a part of a trip's list has, which is read off the types
  abbrev IsPart : (List ℕ → List ℕ) → Type 0
  IsPart F = (us : List ℕ) → map ex (F us) ≡ F (map ex us)

  part_early : (F : List ℕ → List ℕ) (t w : ℕ) → t < length day.trips → is_early day minute t ≡ true → has w (F (list_of other t)) ≡ has w (F (list_of plan t))
  part_early F t w below early = ap (λ (us : List ℕ). has w (F us)) (list_early t below early)

  part_late : (F : List ℕ → List ℕ) (t w : ℕ) → IsPart F → t < length day.trips → is_early day minute t ≡ false → has w (F (list_of other t)) ≡ has (ex w) (F (list_of plan t))
  part_late F t w maps below late =
      ap (λ (us : List ℕ). has w (F us)) (list_late t below late) ∙ ap (λ (us : List ℕ). has w us) (sym (maps (list_of plan t))) ∙ has_exchanged u v apart (F (list_of plan t)) w

  gives : (a : ℕ) → IsPart (given_places day types a)
  gives a us = given_places-map day types ex a us

  takes : (b : ℕ) → IsPart (taken_places day types b)
  takes b us = taken_places-map day types ex b us

  goes_on : (a b : ℕ) → IsPart (going_on day types a b)
  goes_on a b us = goes-map day types ex a b us

  -- ---- the duties

  duty_is : (w : ℕ) → duty day other w ≡ before w ++ after (ex w)
  duty_is w =
      duty_parts day minute other w
      ∙ ap (λ (xs : List ℕ). xs ++ after_of day minute other w) (filter_same (λ t. has w (list_of other t)) (λ t. has w (list_of plan t)) (early_trips day minute)
      (λ t there. let k = early_known day minute t there in part_early (λ us. us) t w k.0 k.1))
      ∙ ap (λ (xs : List ℕ). before w ++ xs) (filter_same (λ t. has w (list_of other t)) (λ t. has (ex w) (list_of plan t)) (late_trips day minute)
      (λ t there. let k = late_known day minute t there in part_late (λ us. us) t w (λ us. refl) k.0 k.1))

  early_all : (t : ℕ) → t < length day.trips → leaves day t < MAX_MINUTES
  early_all t known = omega (arith, is_day.timetable.time t known, is_day.timetable.late t known)

  followed : (w : ℕ) → w < unit_count day → EachFollows (MayFollowByPlaces day types plan w) (before w ++ after w)
  followed w known =
      subst (EachFollows (MayFollowByPlaces day types plan w)) (whole_duty_of day plan w early_all ∙ duty_parts day minute plan w)
      ((running_plans_are_named day plan MAX_MINUTES links runs).follows w known)

  begun : (w : ℕ) → w < unit_count day → BeginsAt day (home_of day w) (before w ++ after w)
  begun w known = subst (BeginsAt day (home_of day w)) (duty_parts day minute plan w) (runs.homes w known)

  -- ---- a unit that stands ready

  module _ (x : ℕ) (known_x : x < unit_count day) (stands : StandsReady day plan x s minute) where
    abbrev goes : ℕ → ℕ → Bool
    goes = stays day plan x

    stays_is : (a b : ℕ) → goes a b ≡ has x (going_on day types a b (list_of plan a))
    stays_is a b = ap (λ (us : List ℕ). has x us) (kept_is day types links (type_of day) plan types_are holds a b)

    early_in : (ts : List ℕ) → before x ≡ ts → (y : ℕ) → 1 ≤ count_of y ts → (y < length day.trips) × (leaves day y < minute)
    early_in ts is y there =
        let k = before_known day minute plan x y (subst (λ (xs : List ℕ). 1 ≤ count_of y xs) (sym is) there) in
        (k.0, ltb-true (leaves day y) minute k.1)

    late_in : (bs : List ℕ) → after x ≡ bs → (y : ℕ) → 1 ≤ count_of y bs → (y < length day.trips) × (minute ≤ leaves day y)
    late_in bs is y there =
        let k = after_known day minute plan x y (subst (λ (xs : List ℕ). 1 ≤ count_of y xs) (sym is) there) in
        (k.0, ltb-false (leaves day y) minute k.1)

    part : (ts bs : List ℕ) → before x ≡ ts → after x ≡ bs → Part goes ts bs
    part [] bs is are = tt
    part (t ∷ ts) [] is are = tt
    part (t ∷ ts) (b ∷ bs) is are =
        none_over day goes minute ts t b bs (λ y there. (early_in (t ∷ ts) is y there).1)
        (λ y there.
        let k = late_in (b ∷ bs) are y there in
        let time = takes_time y k.0 in
        (k.1, omega (arith, time)))
        (subst (λ (xs : List ℕ). All (λ leg. leg.departs < minute → leg.ready ≤ minute) (map (leg_of day) (runs_of goes xs)))
        (duty_parts day minute plan x ∙ ap (λ (xs : List ℕ). xs ++ after x) is ∙ ap (λ (xs : List ℕ). (t ∷ ts) ++ xs) are) stands.ready)

    legs_are : legs_of_unit day plan x ≡ legs_over day goes (before x) ++ legs_over day goes (after x)
    legs_are =
        ap (λ (ts : List ℕ). map (leg_of day) (runs_of goes ts)) (duty_parts day minute plan x)
        ∙ ap (map (leg_of day)) (runs_apart goes (before x) (after x) (part (before x) (after x) refl refl))
        ∙ map-append (leg_of day) (runs_of goes (before x)) (runs_of goes (after x))

    before_is : legs_before minute (legs_of_unit day plan x) ≡ legs_over day goes (before x)
    before_is =
        ap (legs_before minute) legs_are
        ∙ before_are day goes minute (before x) (after x) (λ y there. (early_in (before x) refl y there).1) (λ y there. (late_in (after x) refl y there).1)

    from_is : legs_from minute (legs_of_unit day plan x) ≡ legs_over day goes (after x)
    from_is =
        ap (legs_from minute) legs_are
        ∙ from_are day goes minute (before x) (after x) (λ y there. (early_in (before x) refl y there).1) (λ y there. (late_in (after x) refl y there).1)

    ends_there : (ts : List ℕ) → before x ≡ ts → ends_at day (home_of day x) ts ≡ s
    ends_there ts is = ends ts is ∙ (ap (λ (legs : List Leg). end_of (home_of day x) legs) (sym before_is) ∙ stands.there)
      where
        ends : (ts : List ℕ) → before x ≡ ts → ends_at day (home_of day x) ts ≡ end_of (home_of day x) (legs_over day goes (before x))
        ends [] is = ap (λ (ts : List ℕ). end_of (home_of day x) (legs_over day goes ts)) (sym is)
        ends (t ∷ ts) is = sym (end_of_trips day takes_time plan x ts t (home_of day x)) ∙ ap (λ (ts : List ℕ). end_of (home_of day x) (legs_over day goes ts)) (sym is)

    -- over the minute it goes through the yard
    by_yard : (t : ℕ) (ts : List ℕ) (b : ℕ) (bs : List ℕ) → before x ≡ t ∷ ts → after x ≡ b ∷ bs → GoesByPlaces day types plan x (last_from t ts) b
    by_yard t ts b bs is are =
        either (follows_there (MayFollowByPlaces day types plan x) ts t b bs
        (subst (EachFollows (MayFollowByPlaces day types plan x)) (ap (λ (xs : List ℕ). xs ++ after x) is ∙ ap (λ (xs : List ℕ). (t ∷ ts) ++ xs) are) (followed x known_x)))
      where
        either : MayFollowByPlaces day types plan x (last_from t ts) b → GoesByPlaces day types plan x (last_from t ts) b
        either (inl going) = absurd (false≢true (sym (part (t ∷ ts) (b ∷ bs) is are) ∙ stays_is (last_from t ts) b ∙ going))
        either (inr yard) = yard

    last_given : (t : ℕ) (ts : List ℕ) → before x ≡ t ∷ ts → has x (given_places day types (last_from t ts) (list_of plan (last_from t ts))) ≡ true
    last_given t ts is = on (after x) refl
      where
        on : (bs : List ℕ) → after x ≡ bs → has x (given_places day types (last_from t ts) (list_of plan (last_from t ts))) ≡ true
        on (b ∷ bs) are = (by_yard t ts b bs is are).given
        on [] are =
            let whole : duty day plan x ≡ t ∷ ts = duty_parts day minute plan x ∙ ap (λ (xs : List ℕ). before x ++ xs) are ∙ append-nil (before x) ∙ is in
            let one = last_gives day plan is_day links runs x t ts whole in
            let last = ap (λ (a : ℕ). count_of x (given day plan a)) (last_trip_is ts t) in
            let same = ap (count_of x) (given_is day types links (type_of day) plan types_are holds (last_from t ts)) in
            le-leb 1 (count_of x (given_places day types (last_from t ts) (list_of plan (last_from t ts)))) (omega (arith, one, last, same))

    first_taken : (b : ℕ) (bs : List ℕ) → after x ≡ b ∷ bs → has x (taken_places day types b (list_of plan b)) ≡ true
    first_taken b bs are = on (before x) refl
      where
        on : (ts : List ℕ) → before x ≡ ts → has x (taken_places day types b (list_of plan b)) ≡ true
        on (t ∷ ts) is = (by_yard t ts b bs is are).taken
        on [] is =
            let whole : duty day plan x ≡ b ∷ bs = duty_parts day minute plan x ∙ ap (λ (xs : List ℕ). xs ++ after x) is ∙ are in
            let one = first_takes day plan is_day links runs x b bs whole in
            let same = ap (count_of x) (taken_is day types links (type_of day) plan types_are holds b) in
            le-leb 1 (count_of x (taken_places day types b (list_of plan b))) (omega (arith, one, same))

    first_station : (b : ℕ) (bs : List ℕ) → after x ≡ b ∷ bs → from_of day b ≡ s
    first_station b bs are = on (before x) refl
      where
        on : (ts : List ℕ) → before x ≡ ts → from_of day b ≡ s
        on (t ∷ ts) is = sym ((by_yard t ts b bs is are).station) ∙ sym (ends_at_last day ts t (home_of day x)) ∙ ends_there (t ∷ ts) is
        on [] is = subst (BeginsAt day (home_of day x)) (ap (λ (xs : List ℕ). xs ++ after x) is ∙ are) (begun x known_x) ∙ ends_there [] is

    last_ready : (t : ℕ) (ts : List ℕ) → before x ≡ t ∷ ts → ready_at day (last_from t ts) ≤ minute
    last_ready t ts is =
        let Back : Leg → Type 0 = λ leg. leg.departs < minute → leg.ready ≤ minute in
        let back : All Back (legs_over day goes (before x)) = all_front Back (legs_over day goes (before x)) (legs_over day goes (after x)) (subst (All Back) legs_are stands.ready) in
        let gone : All (λ leg. leg.departs < minute) (legs_over day goes (before x)) = legs_leave day goes (λ m. m < minute) (before x) (λ y there. (early_in (before x) refl y there).1) in
        last_holds day goes (λ m. m ≤ minute) ts t
        (subst (λ (xs : List ℕ). All (λ leg. leg.ready ≤ minute) (legs_over day goes xs)) is (λ k d below. back k d below (gone k d below)))

    -- it isn't kept from a trip before the minute into one after it
    none_kept : (a b : ℕ) → 1 ≤ count_of a (before x) → 1 ≤ count_of x (kept day plan a b) → is_early day minute b ≡ true
    none_kept a b there kept_over = on (before x) refl
      where
        given_not : (c : ℕ) → has x (given_places day types c (list_of plan c)) ≡ true → a ≡ c → ⊥
        given_not c is same =
            let none = (kept_apart day plan is_day links runs a b x kept_over).0 in
            let some = leb-true 1 (count_of x (given_places day types c (list_of plan c))) is in
            let places = ap (count_of x) (given_is day types links (type_of day) plan types_are holds c) in
            let at = ap (λ (t : ℕ). count_of x (given day plan t)) same in
            absurd (omega (arith, none, some, places, at))

        on : (ts : List ℕ) → before x ≡ ts → is_early day minute b ≡ true
        on [] is = absurd (let none = ap (count_of a) is in omega (arith, none, there))
        on (t ∷ ts) is = elim (follower (MayFollowByPlaces day types plan x) ts t a
            (subst (EachFollows (MayFollowByPlaces day types plan x)) is (follows_first (MayFollowByPlaces day types plan x) (before x) (after x) (followed x known_x)))
            (subst (λ (xs : List ℕ). 1 ≤ count_of a xs) is there)) [
              | inl last ↦ absurd (given_not (last_from t ts) (last_given t ts is) last)
              | inr next ↦ elim next.2 [
                | inl going ↦
                    let into : 1 ≤ count_of x (kept day plan a next.0) = (
                    let some = leb-true 1 (count_of x (going_on day types a next.0 (list_of plan a))) going in
                    let same = ap (count_of x) (kept_is day types links (type_of day) plan types_are holds a next.0) in
                    omega (arith, some, same)) in
                    let same = one_way day plan is_day links runs 0 x a b next.0 kept_over into in
                    subst (λ (c : ℕ). is_early day minute c ≡ true) (sym same)
                    (before_known day minute plan x next.0 (subst (λ (xs : List ℕ). 1 ≤ count_of next.0 xs) (sym is) (let later = next.1 in omega (arith, later)))).1
                | inr yard ↦ absurd (given_not a yard.given refl)
              ]
            ]

  -- ---- steps with the exchange

  step_early : (w a b : ℕ) → (a < length day.trips) × (is_early day minute a ≡ true) → (b < length day.trips) × (is_early day minute b ≡ true)
      → MayFollowByPlaces day types plan w a b → MayFollowByPlaces day types other w a b
  step_early w a b at_a at_b (inl going) = inl (part_early (going_on day types a b) a w at_a.0 at_a.1 ∙ going)
  step_early w a b at_a at_b (inr yard) = inr (record {
    given = part_early (given_places day types a) a w at_a.0 at_a.1 ∙ yard.given;
    taken = part_early (taken_places day types b) b w at_b.0 at_b.1 ∙ yard.taken;
    station = yard.station;
    ready = yard.ready;
  })

  step_late : (w a b : ℕ) → (a < length day.trips) × (is_early day minute a ≡ false) → (b < length day.trips) × (is_early day minute b ≡ false)
      → MayFollowByPlaces day types plan (ex w) a b → MayFollowByPlaces day types other w a b
  step_late w a b at_a at_b (inl going) = inl (part_late (going_on day types a b) a w (goes_on a b) at_a.0 at_a.1 ∙ going)
  step_late w a b at_a at_b (inr yard) = inr (record {
    given = part_late (given_places day types a) a w (gives a) at_a.0 at_a.1 ∙ yard.given;
    taken = part_late (taken_places day types b) b w (takes b) at_b.0 at_b.1 ∙ yard.taken;
    station = yard.station;
    ready = yard.ready;
  })

  -- of a third unit
  part_third : (F : List ℕ → List ℕ) (t w : ℕ) → ex w ≡ w → IsPart F → t < length day.trips → has w (F (list_of other t)) ≡ has w (F (list_of plan t))
  part_third F t w third maps below = elim (cases_Bool (is_early day minute t)) [
    | inl early ↦ part_early F t w below early
    | inr late ↦ part_late F t w maps below late ∙ ap (λ (x : ℕ). has x (F (list_of plan t))) third
  ]

  step_third : (w a b : ℕ) → ex w ≡ w → a < length day.trips → b < length day.trips → MayFollowByPlaces day types plan w a b → MayFollowByPlaces day types other w a b
  step_third w a b third at_a at_b (inl going) = inl (part_third (going_on day types a b) a w third (goes_on a b) at_a ∙ going)
  step_third w a b third at_a at_b (inr yard) = inr (record {
    given = part_third (given_places day types a) a w third (gives a) at_a ∙ yard.given;
    taken = part_third (taken_places day types b) b w third (takes b) at_b ∙ yard.taken;
    station = yard.station;
    ready = yard.ready;
  })

  duty_third : (w : ℕ) → ex w ≡ w → duty day other w ≡ duty day plan w
  duty_third w third = duty_is w ∙ ap (λ (x : ℕ). before w ++ after x) third ∙ sym (duty_parts day minute plan w)

  -- ---- of two units that stand ready

  module _ (x y : ℕ) (known_x : x < unit_count day) (known_y : y < unit_count day) (to_y : ex x ≡ y) (stands_x : StandsReady day plan x s minute) (stands_y : StandsReady day plan y s minute) where
    follows_both : EachFollows (MayFollowByPlaces day types other x) (before x ++ after y)
    follows_both = on (before x) (after y) refl refl
      where
        first : EachFollows (MayFollowByPlaces day types other x) (before x)
        first = follows_so (MayFollowByPlaces day types plan x) (MayFollowByPlaces day types other x) (before x)
            (λ a b in_a in_b. step_early x a b (before_known day minute plan x a in_a) (before_known day minute plan x b in_b))
            (follows_first (MayFollowByPlaces day types plan x) (before x) (after x) (followed x known_x))

        second : EachFollows (MayFollowByPlaces day types other x) (after y)
        second = follows_so (MayFollowByPlaces day types plan y) (MayFollowByPlaces day types other x) (after y)
            (λ a b in_a in_b step. step_late x a b (after_known day minute plan y a in_a) (after_known day minute plan y b in_b)
            (subst (λ (z : ℕ). MayFollowByPlaces day types plan z a b) (sym to_y) step))
            (follows_second (MayFollowByPlaces day types plan y) (before y) (after y) (followed y known_y))

        on : (ts bs : List ℕ) → before x ≡ ts → after y ≡ bs → EachFollows (MayFollowByPlaces day types other x) (before x ++ after y)
        on [] bs is are = subst (λ (xs : List ℕ). EachFollows (MayFollowByPlaces day types other x) (xs ++ after y)) (sym is) second
        on (t ∷ ts) [] is are =
            subst (EachFollows (MayFollowByPlaces day types other x)) (sym (ap (λ (xs : List ℕ). before x ++ xs) are ∙ append-nil (before x))) first
        on (t ∷ ts) (b ∷ bs) is are =
            let a = last_from t ts in
            let in_a = early_in x known_x stands_x (t ∷ ts) is a (last_from_there ts t) in
            let in_b = late_in y known_y stands_y (b ∷ bs) are b (let one = one_same b b refl in omega (arith, one)) in
            let early : is_early day minute a ≡ true = lt-ltb (leaves day a) minute in_a.1 in
            let late : is_early day minute b ≡ false = le-ltb (leaves day b) minute in_b.1 in
            let back = last_ready x known_x stands_x t ts is in
            subst (EachFollows (MayFollowByPlaces day types other x)) (sym (ap (λ (xs : List ℕ). xs ++ after y) is ∙ ap (λ (xs : List ℕ). (t ∷ ts) ++ xs) are))
            (follows_joined (MayFollowByPlaces day types other x) ts t b bs
            (subst (EachFollows (MayFollowByPlaces day types other x)) is first)
            (inr (record {
              given = part_early (given_places day types a) a x in_a.0 early ∙ last_given x known_x stands_x t ts is;
              taken = part_late (taken_places day types b) b x (takes b) in_b.0 late ∙ ap (λ (z : ℕ). has z (taken_places day types b (list_of plan b))) to_y ∙ first_taken y known_y stands_y b bs are;
              station = sym (ends_at_last day ts t (home_of day x)) ∙ ends_there x known_x stands_x (t ∷ ts) is ∙ sym (first_station y known_y stands_y b bs are);
              ready = omega (arith, back, in_b.1);
            }))
            (subst (EachFollows (MayFollowByPlaces day types other x)) are second))

    begins_both : BeginsAt day (home_of day x) (before x ++ after y)
    begins_both = on (before x) (after y) refl refl
      where
        on : (ts bs : List ℕ) → before x ≡ ts → after y ≡ bs → BeginsAt day (home_of day x) (before x ++ after y)
        on (t ∷ ts) bs is are =
            subst (λ (xs : List ℕ). BeginsAt day (home_of day x) (xs ++ after y)) (sym is)
            (subst (λ (xs : List ℕ). BeginsAt day (home_of day x) (xs ++ after x)) is (begun x known_x))
        on [] [] is are = subst (BeginsAt day (home_of day x)) (sym (ap (λ (xs : List ℕ). xs ++ after y) is ∙ are)) tt
        on [] (b ∷ bs) is are =
            subst (BeginsAt day (home_of day x)) (sym (ap (λ (xs : List ℕ). xs ++ after y) is ∙ are))
            (first_station y known_y stands_y b bs are ∙ sym (ends_there x known_x stands_x [] is))

  -- ---- the plan runs

  type_kept : (w : ℕ) → type_of day (ex w) ≡ type_of day w
  type_kept w = by (kind u v apart w)
    where
      by : (w ≡ u) ⊎ ((w ≡ v) ⊎ ((w ≢ u) × (w ≢ v))) → type_of day (ex w) ≡ type_of day w
      by (inl same) = ap (λ (x : ℕ). type_of day (ex x)) same ∙ ap (type_of day) (first_is u v apart) ∙ sym same_type ∙ ap (type_of day) (sym same)
      by (inr (inl same)) = ap (λ (x : ℕ). type_of day (ex x)) same ∙ ap (type_of day) (second_is u v apart) ∙ same_type ∙ ap (type_of day) (sym same)
      by (inr (inr third)) = ap (type_of day) (third_is u v apart w third.0 third.1)

  known_kept : (w : ℕ) → w < unit_count day → ex w < unit_count day
  known_kept w known = by (kind u v apart w)
    where
      by : (w ≡ u) ⊎ ((w ≡ v) ⊎ ((w ≢ u) × (w ≢ v))) → ex w < unit_count day
      by (inl same) = subst (λ (x : ℕ). x < unit_count day) (sym (ap ex same ∙ first_is u v apart)) known_v
      by (inr (inl same)) = subst (λ (x : ℕ). x < unit_count day) (sym (ap ex same ∙ second_is u v apart)) known_u
      by (inr (inr third)) = subst (λ (x : ℕ). x < unit_count day) (sym (third_is u v apart w third.0 third.1)) known

  who_early : (t x : ℕ) → is_early day minute t ≡ true → who t x ≡ x
  who_early t x early = cond-true {A = ℕ} (nat_lt (leaves day t) minute) x (exchanged u v x) early

  who_late : (t x : ℕ) → is_early day minute t ≡ false → who t x ≡ ex x
  who_late t x late = cond-false {A = ℕ} (nat_lt (leaves day t) minute) x (exchanged u v x) late

  -- a unit that is kept over the minute is a third one
  kept_third : (a b x : ℕ) → 1 ≤ count_of x (kept day plan a b) → is_early day minute a ≡ true → is_early day minute b ≡ false → ex x ≡ x
  kept_third a b x kept_over early late = by (kind u v apart x)
    where
      into : LeadsInto day a b
      into =
          let same = ap (count_of x) (kept_is day types links (type_of day) plan types_are holds a b) in
          leads_into day types links a b (going_leads_into day types links x a b (list_of plan a) (omega (arith, kept_over, same)))

      on_it : 1 ≤ count_of a (before x)
      on_it =
          let there = kept_on_trip day plan is_day links runs 0 a b x kept_over in
          let listed = on_duty day plan is_day links runs x a into.from there in
          before_has day minute plan x a listed early

      not_one : (z : ℕ) → z < unit_count day → StandsReady day plan z s minute → x ≡ z → ⊥
      not_one z known stands same =
          false≢true (sym late ∙ none_kept z known stands a b (subst (λ (w : ℕ). 1 ≤ count_of a (before w)) same on_it) (subst (λ (w : ℕ). 1 ≤ count_of w (kept day plan a b)) same kept_over))

      by : (x ≡ u) ⊎ ((x ≡ v) ⊎ ((x ≢ u) × (x ≢ v))) → ex x ≡ x
      by (inl same) = absurd (not_one u known_u stands_u same)
      by (inr (inl same)) = absurd (not_one v known_v stands_v same)
      by (inr (inr third)) = third_is u v apart x third.0 third.1

  renaming : IsRenaming day plan who
  renaming = record {
    known = λ t x there. elim (cases_Bool (is_early day minute t)) [
      | inl early ↦ subst (λ (z : ℕ). z < unit_count day) (sym (who_early t x early)) (runs.is_plan.units t x there)
      | inr late ↦ subst (λ (z : ℕ). z < unit_count day) (sym (who_late t x late)) (known_kept x (runs.is_plan.units t x there))
    ];
    types = λ t x there. elim (cases_Bool (is_early day minute t)) [
      | inl early ↦ ap (type_of day) (who_early t x early)
      | inr late ↦ ap (type_of day) (who_late t x late) ∙ type_kept x
    ];
    apart = λ t x y in_x in_y same. elim (cases_Bool (is_early day minute t)) [
      | inl early ↦ sym (who_early t x early) ∙ same ∙ who_early t y early
      | inr late ↦ sym (exchanged_twice u v apart x) ∙ ap ex (sym (who_late t x late) ∙ same ∙ who_late t y late) ∙ exchanged_twice u v apart y
    ];
    kept_on = λ a b x there. kept_same a b x (leb-true 1 (count_of x (kept day plan a b)) there);
    homes = λ w known. homes w known (kind u v apart w);
    follows = λ w known. follows w known (kind u v apart w);
  }
    where
      kept_same : (a b x : ℕ) → 1 ≤ count_of x (kept day plan a b) → who b x ≡ who a x
      kept_same a b x kept_over = elim (cases_Bool (is_early day minute a)) [
        | inl early_a ↦ elim (cases_Bool (is_early day minute b)) [
          | inl early_b ↦ who_early b x early_b ∙ sym (who_early a x early_a)
          | inr late_b ↦ who_late b x late_b ∙ kept_third a b x kept_over early_a late_b ∙ sym (who_early a x early_a)
        ]
        | inr late_a ↦ elim (cases_Bool (is_early day minute b)) [
          | inl early_b ↦
              let same = ap (count_of x) (kept_is day types links (type_of day) plan types_are holds a b) in
              let into : LeadsInto day a b = leads_into day types links a b (going_leads_into day types links x a b (list_of plan a) (omega (arith, kept_over, same))) in
              let time = takes_time a into.from in
              absurd (omega (arith, time, into.in_time, ltb-false (leaves day a) minute late_a, ltb-true (leaves day b) minute early_b))
          | inr late_b ↦ who_late b x late_b ∙ sym (who_late a x late_a)
        ]
      ]

      homes : (w : ℕ) → w < unit_count day → (w ≡ u) ⊎ ((w ≡ v) ⊎ ((w ≢ u) × (w ≢ v))) → BeginsAt day (home_of day w) (duty day other w)
      homes w known (inl same) =
          subst (λ (z : ℕ). BeginsAt day (home_of day z) (duty day other z)) (sym same)
          (subst (BeginsAt day (home_of day u)) (sym (duty_is u ∙ ap (λ (z : ℕ). before u ++ after z) (first_is u v apart))) (begins_both u v known_u known_v (first_is u v apart) stands_u stands_v))
      homes w known (inr (inl same)) =
          subst (λ (z : ℕ). BeginsAt day (home_of day z) (duty day other z)) (sym same)
          (subst (BeginsAt day (home_of day v)) (sym (duty_is v ∙ ap (λ (z : ℕ). before v ++ after z) (second_is u v apart))) (begins_both v u known_v known_u (second_is u v apart) stands_v stands_u))
      homes w known (inr (inr third)) = subst (BeginsAt day (home_of day w)) (sym (duty_third w (third_is u v apart w third.0 third.1))) (runs.homes w known)

      follows : (w : ℕ) → w < unit_count day → (w ≡ u) ⊎ ((w ≡ v) ⊎ ((w ≢ u) × (w ≢ v))) → EachFollows (MayFollowByPlaces day types other w) (duty day other w)
      follows w known (inl same) =
          subst (λ (z : ℕ). EachFollows (MayFollowByPlaces day types other z) (duty day other z)) (sym same)
          (subst (EachFollows (MayFollowByPlaces day types other u)) (sym (duty_is u ∙ ap (λ (z : ℕ). before u ++ after z) (first_is u v apart))) (follows_both u v known_u known_v (first_is u v apart) stands_u stands_v))
      follows w known (inr (inl same)) =
          subst (λ (z : ℕ). EachFollows (MayFollowByPlaces day types other z) (duty day other z)) (sym same)
          (subst (EachFollows (MayFollowByPlaces day types other v)) (sym (duty_is v ∙ ap (λ (z : ℕ). before v ++ after z) (second_is u v apart))) (follows_both v u known_v known_u (second_is u v apart) stands_v stands_u))
      follows w known (inr (inr third)) =
          let same = third_is u v apart w third.0 third.1 in
          subst (EachFollows (MayFollowByPlaces day types other w)) (sym (duty_third w same))
          (follows_so (MayFollowByPlaces day types plan w) (MayFollowByPlaces day types other w) (duty day plan w)
          (λ a b in_a in_b. step_third w a b same (duty_within day plan is_day links runs w a in_a) (duty_within day plan is_day links runs w b in_b))
          (subst (EachFollows (MayFollowByPlaces day types plan w)) (sym (duty_parts day minute plan w)) (followed w known)))

  naming : IsNaming day plan other
  naming = renamed_runs day plan who is_day links stocked runs renaming

  -- ---- the legs

  other_types : (t : ℕ) → map (type_of day) (list_of other t) ≡ list_of types t
  other_types t = sym (list_of-types day other t) ∙ ap (λ (all : List (List ℕ)). list_of all t) naming.types

  stays_other : (w a b : ℕ) → stays day other w a b ≡ has w (going_on day types a b (list_of other a))
  stays_other w a b = ap (λ (us : List ℕ). has w us) (kept_is day types links (type_of day) other other_types (record { holds = naming.runs.links }) a b)

  stays_plan : (w a b : ℕ) → stays day plan w a b ≡ has w (going_on day types a b (list_of plan a))
  stays_plan w a b = ap (λ (us : List ℕ). has w us) (kept_is day types links (type_of day) plan types_are holds a b)

  stays_early : (w a b : ℕ) → a < length day.trips → is_early day minute a ≡ true → stays day other w a b ≡ stays day plan w a b
  stays_early w a b below early = stays_other w a b ∙ part_early (going_on day types a b) a w below early ∙ sym (stays_plan w a b)

  stays_late : (w a b : ℕ) → a < length day.trips → is_early day minute a ≡ false → stays day other w a b ≡ stays day plan (ex w) a b
  stays_late w a b below late = stays_other w a b ∙ part_late (going_on day types a b) a w (goes_on a b) below late ∙ sym (stays_plan (ex w) a b)

  module _ (x y : ℕ) (known_x : x < unit_count day) (known_y : y < unit_count day) (to_y : ex x ≡ y) (stands_x : StandsReady day plan x s minute) (stands_y : StandsReady day plan y s minute) where
    parts_both : (ts bs : List ℕ) → before x ≡ ts → Part (stays day other x) ts bs
    parts_both [] bs is = tt
    parts_both (t ∷ ts) [] is = tt
    parts_both (t ∷ ts) (b ∷ bs) is =
        let a = last_from t ts in
        let in_a = early_in x known_x stands_x (t ∷ ts) is a (last_from_there ts t) in
        let given_there = leb-true 1 (count_of x (given_places day types a (list_of plan a))) (last_given x known_x stands_x t ts is) in
        let places = ap (count_of x) (given_is day types links (type_of day) plan types_are holds a) in
        stays_early x a b in_a.0 (lt-ltb (leaves day a) minute in_a.1)
        ∙ refuted (stays day plan x a b) (λ h.
        let none = (kept_apart day plan is_day links runs a b x (leb-true 1 (count_of x (kept day plan a b)) h)).0 in
        absurd (omega (arith, none, given_there, places)))
      where
        refuted : (b : Bool) → (b ≡ true → ⊥) → b ≡ false
        refuted true h = absurd (h refl)
        refuted false h = refl

    legs_both : legs_of_unit day other x ≡ legs_before minute (legs_of_unit day plan x) ++ legs_from minute (legs_of_unit day plan y)
    legs_both =
        ap (λ (ts : List ℕ). map (leg_of day) (runs_of (stays day other x) ts)) (duty_is x ∙ ap (λ (z : ℕ). before x ++ after z) to_y)
        ∙ ap (map (leg_of day)) (runs_apart (stays day other x) (before x) (after y) (parts_both (before x) (after y) refl)
        ∙ ap (λ (runs : List (List ℕ)). runs ++ runs_of (stays day other x) (after y)) (runs_same (stays day other x) (stays day plan x) (before x)
        (λ a b in_a. let k = before_known day minute plan x a in_a in stays_early x a b k.0 k.1))
        ∙ ap (λ (runs : List (List ℕ)). runs_of (stays day plan x) (before x) ++ runs) (runs_same (stays day other x) (stays day plan y) (after y)
        (λ a b in_a. let k = after_known day minute plan y a in_a in stays_late x a b k.0 k.1 ∙ ap (λ (z : ℕ). stays day plan z a b) to_y)))
        ∙ map-append (leg_of day) (runs_of (stays day plan x) (before x)) (runs_of (stays day plan y) (after y))
        ∙ ap (λ (legs : List Leg). legs ++ legs_over day (stays day plan y) (after y)) (sym (before_is x known_x stands_x))
        ∙ ap (λ (legs : List Leg). legs_before minute (legs_of_unit day plan x) ++ legs) (sym (from_is y known_y stands_y))

  legs_third : (w : ℕ) → w ≢ u → w ≢ v → legs_of_unit day other w ≡ legs_of_unit day plan w
  legs_third w not_u not_v =
      let third = third_is u v apart w not_u not_v in
      ap (λ (ts : List ℕ). map (leg_of day) (runs_of (stays day other w) ts)) (duty_third w third)
      ∙ ap (map (leg_of day)) (runs_same (stays day other w) (stays day plan w) (duty day plan w) (λ a b in_a. stays_third a b (duty_within day plan is_day links runs w a in_a) third))
    where
      stays_third : (a b : ℕ) → a < length day.trips → ex w ≡ w → stays day other w a b ≡ stays day plan w a b
      stays_third a b below third = stays_other w a b ∙ part_third (going_on day types a b) a w third (goes_on a b) below ∙ sym (stays_plan w a b)

  exchange_runs : RunsExchanged day plan u v minute
  exchange_runs = record {
    naming = naming;
    first = legs_both u v known_u known_v (first_is u v apart) stands_u stands_v;
    second = legs_both v u known_v known_u (second_is u v apart) stands_v stands_u;
    others = λ w not_u not_v. legs_third w not_u not_v;
  }

pub exchanged_plans_run : ExchangedPlansRun
exchanged_plans_run day plan u v s minute is_day links stocked runs known_u known_v apart same_type stands_u stands_v =
    exchange_runs day plan u v s minute is_day links stocked runs known_u known_v apart same_type stands_u stands_v
