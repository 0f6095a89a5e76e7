-- Where each trip is right, the plan runs.
use Rattle.std.proofs.Common.{◌≡◌, ℕ, suc, ◌+◌, ◌<◌, ◌≤◌, List, [], ◌∷◌, length, map, reverse, Bool, true, false, cond}
use Rattle.std.proofs.Common.{Option, Some, None, refl, sym, ap, ◌∙◌, subst, arith, ◌⊎◌, inl, inr}
use Rattle.std.specs.Prelude.{if◌then◌else◌, ◌==◌, ◌&&◌, nat_le, filter, unwrap_or, option_map}
use Rattle.std.proofs.lemmas.Bool.{cases_lt, cases_Bool, cond-true, cond-false, false≢true, and_parts, eqb-true}
use Rattle.std.proofs.lemmas.Bool.{leb-true, le-leb}
use Rattle.std.proofs.lemmas.List.{length-map}
use Rattle.std.proofs.lemmas.Option.{slice_get_past}
use Rattle.rail_base.specs.declared.limits.TheConstants.{MAX_MINUTES, MAX_REALLOCATION}
use Rattle.timetable.specs.Accepted.{IsDay, AreLinks, IsStocked}
use Rattle.timetable.specs.Admissible.{is_admissible}
use Rattle.timetable.specs.Day.{Day, leaves, from_of, to_of, home_of, type_of, types_of, unit_count, ready_at}
use Rattle.timetable.specs.Duties.{is_before, in_order, duty, ends_at, last_place, last_place_of}
use Rattle.timetable.specs.Links.{list_of, kept, given, taken}
use Rattle.timetable.specs.Lists.{count_of, has, below}
use Rattle.rules.proofs.OfTheStock.{MayFollow, ending}
use Rattle.timetable.specs.Running.{EachFollows, BeginsAt, ending_of, Runs}
use Rattle.timetable.proofs.ListedUnits.{list_of-types}
use Rattle.inventory.specs.Counts.{AreServed}
use Rattle.inventory.specs.NamedUnits.{after_trip, standing, may_be_taken, latest_first}
use Rattle.inventory.specs.Places.{going_on, given_places, kept_places, taken_places, coming}
use Rattle.inventory.proofs.Sums.{sum_same}
use Rattle.inventory.proofs.Order.{in_list, AreInTurn, is_strict, not_itself, leaves_before, filter_in_order, is_there}
use Rattle.inventory.proofs.Order.{is_trip, latest_in_turn}
use Rattle.inventory.proofs.Linked.{Goes, AllHold, goes, leads_into, going_leads_into, coming_from, coming_has}
use Rattle.inventory.proofs.Linked.{places_share, kept_is, given_is, taken_is, rule_back}
use Rattle.inventory.proofs.Standing.{AreRight, latest, latest_some, stands_after, after_none, after_some, standing_is}
use Rattle.inventory.proofs.Standing.{right_of, go_on, leads_before, le_has}
use Rattle.inventory.proofs.Yards.{tally, yard_count, and_true}
use Rattle.inventory.proofs.Enough.{all_hold, all_stand}
use Rattle.inventory.proofs.Following.{last_in, last_some, follows_more, begins_more, reverse_twice, passing_here}
use Rattle.inventory.proofs.Following.{passing_not, latest_is_last}

-- ---- lists of lists

pub same_plans : (xs ys : List (List ℕ)) → length xs ≡ length ys → ((t : ℕ) → list_of xs t ≡ list_of ys t) → xs ≡ ys
unfolding list_of
same_plans [] [] e h = refl
same_plans [] (y ∷ ys) e h = absurd (omega arith)
same_plans (x ∷ xs) [] e h = absurd (omega arith)
same_plans (x ∷ xs) (y ∷ ys) e h =
    let head : x ≡ y = h 0 in
    let rest : xs ≡ ys = same_plans xs ys (omega arith) (λ t. h (suc t)) in
    ap (λ z. z ∷ xs) head ∙ ap (λ zs. y ∷ zs) rest

pub none_past : (lists : List (List ℕ)) (t : ℕ) → length lists ≤ t → list_of lists t ≡ []
unfolding list_of
none_past lists t past = ap (λ (o : Option (List ℕ)). unwrap_or o []) (slice_get_past lists t past)

-- the end of trips, by the last of them
ends_last : (day : Day) (home : ℕ) (ts : List ℕ) (o : Option ℕ) → last_in ts ≡ o → ends_at day home ts ≡ unwrap_or (option_map (to_of day) o) home
unfolding last_in
ends_last day home [] o e = ap (λ o. unwrap_or (option_map (to_of day) o) home) e
ends_last day home (t ∷ []) o e = ap (λ o. unwrap_or (option_map (to_of day) o) home) e
ends_last day home (s ∷ t ∷ ts) o e = ends_last day (to_of day s) (t ∷ ts) o e ∙ some o (λ is. last_some t ts (e ∙ is))
  where
    some : (o : Option ℕ) → (o ≡ None → ⊥) → unwrap_or (option_map (to_of day) o) (to_of day s) ≡ unwrap_or (option_map (to_of day) o) home
    some None h = absurd (h refl)
    some (Some x) h = refl

module _ (day : Day) (types plan : List (List ℕ)) (links : AreLinks day) (is_day : IsDay day) (stocked : IsStocked day) (served : AreServed day types)
    (long : length plan ≡ length day.trips) (rights : AreRight day types (list_of plan) (latest_first day)) where
  -- ---- each trip

  right_at : (done : List ℕ) → AreRight day types (list_of plan) done → (t : ℕ) → 1 ≤ count_of t done
      → (types_of day (list_of plan t) ≡ list_of types t) × ((u : ℕ) → 1 ≤ count_of u (list_of plan t) → u < unit_count day) × (kept_places day types t (list_of plan t) ≡ coming day types (list_of plan) t)
  right_at [] right t c = absurd (omega arith)
  right_at (b ∷ before) right t c = elim (in_list t b before c) [
    | inl e ↦ subst (λ x. (types_of day (list_of plan x) ≡ list_of types x) × ((u : ℕ) → 1 ≤ count_of u (list_of plan x) → u < unit_count day) × (kept_places day types x (list_of plan x) ≡ coming day types (list_of plan) x)) e
        (right.0.types_are, right.0.known, right.0.kept_are)
    | inr later ↦ right_at before right.1 t later
  ]

  types_at : (t : ℕ) → map (type_of day) (list_of plan t) ≡ list_of types t
  types_at t = elim (cases_lt t (length day.trips)) [
    | inl lt ↦ (right_at (latest_first day) rights t (is_there day t lt)).0
    | inr ge ↦
        let trips = served.trips in
        ap (map (type_of day)) (none_past plan t (omega arith)) ∙ sym (none_past types t (omega arith))
  ]

  pub types_all : map (types_of day) plan ≡ types
  types_all = let trips = served.trips in same_plans (map (types_of day) plan) types (length-map plan (types_of day) ∙ long ∙ sym trips) (λ t. list_of-types day plan t ∙ types_at t)

  units_at : (t u : ℕ) → 1 ≤ count_of u (list_of plan t) → u < unit_count day
  units_at t u c = elim (cases_lt t (length day.trips)) [
    | inl lt ↦ (right_at (latest_first day) rights t (is_there day t lt)).1 u c
    | inr ge ↦ let none = ap (count_of u) (none_past plan t (omega arith)) in absurd (omega arith)
  ]

  all_links : AllHold (type_of day) day plan
  all_links = rule_back day types links (type_of day) plan types_at (all_hold day types served) (λ b lt. (right_at (latest_first day) rights b (is_there day b lt)).2)

  -- ---- each unit, as trips run

  kept_are : (a b : ℕ) → kept day plan a b ≡ going_on day types a b (list_of plan a)
  kept_are a b = kept_is day types links (type_of day) plan types_at all_links a b

  given_are : (a : ℕ) → given day plan a ≡ given_places day types a (list_of plan a)
  given_are a = given_is day types links (type_of day) plan types_at all_links a

  taken_are : (b : ℕ) → taken day plan b ≡ taken_places day types b (list_of plan b)
  taken_are b = taken_is day types links (type_of day) plan types_at all_links b

  module _ (u b : ℕ) (before : List ℕ) (turns : AreInTurn day (b ∷ before)) (right : AreRight day types (list_of plan) (b ∷ before)) (here : 1 ≤ count_of u (list_of plan b)) where
    -- it came with the train that it ran in last, or is taken
    came_or_taken : ((a : ℕ) × (latest day types (list_of plan) before u ≡ Some a) × (1 ≤ count_of u (going_on day types a b (list_of plan a))))
        ⊎ (1 ≤ count_of u (taken_places day types b (list_of plan b)))
    came_or_taken =
        let shares = places_share day types b u (list_of plan b) in
        let same = ap (count_of u) right.0.kept_are in
        elim (cases_lt 0 (count_of u (taken_places day types b (list_of plan b)))) [
          | inl some ↦ inr (omega arith)
          | inr none ↦
              let from = coming_from day types (list_of plan) u b (omega arith) in
              inl (from.0, go_on day types (list_of plan) links is_day before turns.1 right.1 from.0 b u (leads_before day types (list_of plan) links is_day from.0 b before turns.0 from.1) turns.0.fresh from.2, from.2)
        ]

    begins_here : latest day types (list_of plan) before u ≡ None → from_of day b ≡ home_of day u
    begins_here none = on came_or_taken
      where
        on : ((a : ℕ) × (latest day types (list_of plan) before u ≡ Some a) × (1 ≤ count_of u (going_on day types a b (list_of plan a)))) ⊎ (1 ≤ count_of u (taken_places day types b (list_of plan b)))
            → from_of day b ≡ home_of day u
        on (inl came) = let is = came.1 in absurd (cc)
        on (inr took) =
            let may = right.0.taken_are u took in
            let at_home : may_be_taken (from_of day b) (leaves day b) (Some (record { station = home_of day u; ready = 0 })) ≡ true =
            ap (may_be_taken (from_of day b) (leaves day b)) (sym (standing_is day types (list_of plan) before u ∙ ap (stands_after day types (list_of plan) u) none ∙ after_none day types (list_of plan) u)) ∙ may in
            sym (eqb-true (home_of day u) (from_of day b) (and_parts (home_of day u == from_of day b) (nat_le 0 (leaves day b)) at_home).0)

    follows_here : (a : ℕ) → latest day types (list_of plan) before u ≡ Some a → MayFollow day plan u a b
    follows_here a is = on came_or_taken
      where
        on : ((c : ℕ) × (latest day types (list_of plan) before u ≡ Some c) × (1 ≤ count_of u (going_on day types c b (list_of plan c)))) ⊎ (1 ≤ count_of u (taken_places day types b (list_of plan b)))
            → MayFollow day plan u a b
        on (inl came) =
            let is' = came.1 in
            let found : Some came.0 ≡ Some a = sym is' ∙ is in
            let same : came.0 ≡ a = cc in
            let goes_on = subst (λ x. 1 ≤ count_of u (going_on day types x b (list_of plan x))) same came.2 in
            inl (le_has u (kept day plan a b) (subst (λ l. 1 ≤ count_of u l) (sym (kept_are a b)) goes_on))
        on (inr took) =
            let may = right.0.taken_are u took in
            let stands : standing day types (list_of plan) before u ≡ after_trip day types (list_of plan) a u =
            standing_is day types (list_of plan) before u ∙ ap (stands_after day types (list_of plan) u) is ∙ after_some day types (list_of plan) u a in
            let may' : may_be_taken (from_of day b) (leaves day b) (after_trip day types (list_of plan) a u) ≡ true = ap (may_be_taken (from_of day b) (leaves day b)) (sym stands) ∙ may in
            elim (cases_Bool (has u (given_places day types a (list_of plan a)))) [
              | inl gave ↦
                  let both : (to_of day a == from_of day b) && nat_le (ready_at day a) (leaves day b) ≡ true =
                  sym (ap (may_be_taken (from_of day b) (leaves day b)) (cond-true (has u (given_places day types a (list_of plan a))) (Some (record { station = to_of day a; ready = ready_at day a })) None gave)) ∙ may' in
                  let parts = and_parts (to_of day a == from_of day b) (nat_le (ready_at day a) (leaves day b)) both in
                  inr (record {
                    given = subst (λ l. has u l ≡ true) (sym (given_are a)) gave;
                    taken = le_has u (taken day plan b) (subst (λ l. 1 ≤ count_of u l) (sym (taken_are b)) took);
                    station = eqb-true (to_of day a) (from_of day b) parts.0;
                    ready = leb-true (ready_at day a) (leaves day b) parts.1;
                  })
              | inr kept_it ↦
                  absurd (false≢true (sym (ap (may_be_taken (from_of day b) (leaves day b)) (cond-false (has u (given_places day types a (list_of plan a))) _ None kept_it)) ∙ may'))
            ]

  -- ---- the duty of a unit

  runs_on : ℕ → List ℕ → List ℕ
  runs_on u done = filter (λ t. has u (list_of plan t)) (reverse done)

  duty_is : (u : ℕ) → duty day plan u ≡ runs_on u (latest_first day)
  unfolding duty runs_on latest_first
  duty_is u =
      filter_in_order day (λ t. has u (list_of plan t)) (below (length day.trips))
      ∙ ap (filter (λ t. has u (list_of plan t))) (sym (reverse_twice (in_order day (below (length day.trips)))))

  duty_runs : (u : ℕ) (done : List ℕ) → AreInTurn day done → AreRight day types (list_of plan) done
      → BeginsAt day (home_of day u) (runs_on u done) × EachFollows (MayFollow day plan u) (runs_on u done)
  unfolding runs_on
  duty_runs u [] turns right = (tt, tt)
  duty_runs u (b ∷ before) turns right =
      let rest = duty_runs u before turns.1 right.1 in
      elim (cases_Bool (has u (list_of plan b))) [
        | inl here ↦
            let some = leb-true 1 (count_of u (list_of plan b)) here in
            let e = passing_here (λ t. has u (list_of plan t)) b before here in
            let last = latest_is_last day types (list_of plan) before u in (
              subst (BeginsAt day (home_of day u)) (sym e) (begins_more day (home_of day u) (filter (λ t. has u (list_of plan t)) (reverse before)) b rest.0 (λ none. begins_here u b before turns right some (sym last ∙ none))),
              subst (EachFollows (MayFollow day plan u)) (sym e) (follows_more (MayFollow day plan u) (filter (λ t. has u (list_of plan t)) (reverse before)) b rest.1 (λ a is. follows_here u b before turns right some a (sym last ∙ is))),
            )
        | inr isnt ↦
            let e = passing_not (λ t. has u (list_of plan t)) b before isnt in
            (subst (BeginsAt day (home_of day u)) (sym e) rest.0, subst (EachFollows (MayFollow day plan u)) (sym e) rest.1)
      ]

  -- ---- the end of the day

  -- no trip of a unit comes after its latest
  none_later : (u : ℕ) (done : List ℕ) → AreInTurn day done → (a b : ℕ) → latest day types (list_of plan) done u ≡ Some a → 1 ≤ count_of b done → 1 ≤ count_of u (list_of plan b) → is_before day a b ≡ false
  unfolding latest
  none_later u [] turns a b is there here = absurd (omega arith)
  none_later u (t ∷ before) turns a b is there here = elim (cases_Bool (has u (list_of plan t))) [
    | inl ran ↦
        let found : Some t ≡ Some a = sym (cond-true (has u (list_of plan t)) (Some t) (latest day types (list_of plan) before u) ran) ∙ is in
        let same : t ≡ a = cc in
        elim (in_list b t before there) [
          | inl e ↦ subst (λ x. is_before day a x ≡ false) (sym same ∙ e) (not_itself day a)
          | inr earlier ↦ subst (λ x. is_before day x b ≡ false) same (is_strict day b t (turns.0.earlier b earlier))
        ]
    | inr isnt ↦
        let found = sym (cond-false (has u (list_of plan t)) (Some t) (latest day types (list_of plan) before u) isnt) ∙ is in
        elim (in_list b t before there) [
          | inl e ↦ absurd (false≢true (sym isnt ∙ ap (λ x. has u (list_of plan x)) e ∙ le_has u (list_of plan b) here))
          | inr earlier ↦ none_later u before turns.1 a b found earlier here
        ]
  ]

  -- a unit's last trip gave it to the yard, since no trip is left that it could go on to
  given_last : (u a : ℕ) → latest day types (list_of plan) (latest_first day) u ≡ Some a → 1 ≤ count_of u (given_places day types a (list_of plan a))
  given_last u a is =
      let ran = latest_some day types (list_of plan) (latest_first day) u a is in
      let some = ran.1 in
      let g : Goes day types a = goes day types links a in
      let all = g.total u (list_of plan a) in
      let first = never g.first in
      let second = never g.second in
      omega arith
    where
      never : (b : ℕ) → count_of u (going_on day types a b (list_of plan a)) ≡ 0
      never b = elim (cases_lt 0 (count_of u (going_on day types a b (list_of plan a)))) [
        | inl some ↦
            let into = going_leads_into day types links u a b (list_of plan a) (omega arith) in
            let leads = leads_into day types links a b into in
            let travels = is_day.timetable.time a leads.from in
            let in_time = leads.in_time in
            let comes = coming_has day types (list_of plan) u a b into in
            let shares = places_share day types b u (list_of plan b) in
            let kept_here = ap (count_of u) (right_at (latest_first day) rights b (is_there day b leads.to)).2 in
            absurd (false≢true (sym (none_later u (latest_first day) (latest_in_turn day) a b is (is_there day b leads.to) (omega arith)) ∙ leaves_before day a b (omega arith)))
        | inr none ↦ omega arith
      ]

  all_ready : (t : ℕ) → t < length day.trips → ready_at day t ≤ MAX_MINUTES + MAX_REALLOCATION
  all_ready t lt = let a = is_day.timetable.late t lt in let r = is_day.timetable.reallocation (to_of day t) in omega arith

  -- it stands where its duty ends
  ends_there : (u s : ℕ) → may_be_taken s (MAX_MINUTES + MAX_REALLOCATION) (standing day types (list_of plan) (latest_first day) u) ≡ (last_place day plan u == s)
  unfolding last_place_of runs_on
  ends_there u s = on (latest day types (list_of plan) (latest_first day) u) refl
    where
      ends : (o : Option ℕ) → latest day types (list_of plan) (latest_first day) u ≡ o → last_place day plan u ≡ unwrap_or (option_map (to_of day) o) (home_of day u)
      ends o is = ap (ends_at day (home_of day u)) (duty_is u) ∙ ends_last day (home_of day u) (runs_on u (latest_first day)) o (latest_is_last day types (list_of plan) (latest_first day) u ∙ is)

      on : (o : Option ℕ) → latest day types (list_of plan) (latest_first day) u ≡ o
          → may_be_taken s (MAX_MINUTES + MAX_REALLOCATION) (standing day types (list_of plan) (latest_first day) u) ≡ (last_place day plan u == s)
      on None is =
          ap (may_be_taken s (MAX_MINUTES + MAX_REALLOCATION)) (standing_is day types (list_of plan) (latest_first day) u ∙ ap (stands_after day types (list_of plan) u) is ∙ after_none day types (list_of plan) u)
          ∙ and_true (home_of day u == s) (nat_le 0 (MAX_MINUTES + MAX_REALLOCATION)) (le-leb 0 (MAX_MINUTES + MAX_REALLOCATION) (omega arith))
          ∙ ap (λ (k : ℕ). k == s) (sym (ends None is))
      on (Some a) is =
          let ran = latest_some day types (list_of plan) (latest_first day) u a is in
          ap (may_be_taken s (MAX_MINUTES + MAX_REALLOCATION)) (standing_is day types (list_of plan) (latest_first day) u ∙ ap (stands_after day types (list_of plan) u) is ∙ after_some day types (list_of plan) u a
          ∙ cond-true (has u (given_places day types a (list_of plan a))) (Some (record { station = to_of day a; ready = ready_at day a })) None (le_has u (given_places day types a (list_of plan a)) (given_last u a is)))
          ∙ and_true (to_of day a == s) (nat_le (ready_at day a) (MAX_MINUTES + MAX_REALLOCATION)) (le-leb (ready_at day a) (MAX_MINUTES + MAX_REALLOCATION) (all_ready a (is_trip day a ran.0)))
          ∙ ap (λ (k : ℕ). k == s) (sym (ends (Some a) is))

  ending_is : (s m : ℕ) → ending day plan s m ≡ yard_count day types (list_of plan) links is_day (latest_first day) s m (MAX_MINUTES + MAX_REALLOCATION)
  unfolding ending_of yard_count tally
  ending_is s m =
      sum_same (λ u. if (last_place day plan u == s) && (type_of day u == m) then 1 else 0)
      (λ u. if type_of day u == m then (if may_be_taken s (MAX_MINUTES + MAX_REALLOCATION) (standing day types (list_of plan) (latest_first day) u) then 1 else 0) else 0) (unit_count day)
      (λ u lt. both (last_place day plan u == s) (type_of day u == m) ∙ ap (λ (b : Bool). cond {A = ℕ} (type_of day u == m) (cond {A = ℕ} b 1 0) 0) (sym (ends_there u s)))
    where
      both : (b c : Bool) → cond {A = ℕ} (b && c) 1 0 ≡ cond {A = ℕ} c (cond {A = ℕ} b 1 0) 0
      both true true = refl
      both true false = refl
      both false true = refl
      both false false = refl

  pub plan_runs : Runs day plan
  plan_runs = record {
    is_plan = record { trips = long; units = λ t u is. units_at t u (leb-true 1 (count_of u (list_of plan t)) is) };
    lists = λ t lt. record {
      distinct = λ u. right_of day types (list_of plan) (latest_first day) rights t u (is_there day t lt);
      admissible = ap (is_admissible day t) (types_at t) ∙ served.admissible t lt;
    };
    links = all_links.holds;
    homes = λ u lt. subst (BeginsAt day (home_of day u)) (sym (duty_is u)) (duty_runs u (latest_first day) (latest_in_turn day) rights).0;
    follows = λ u lt. subst (EachFollows (MayFollow day plan u)) (sym (duty_is u)) (duty_runs u (latest_first day) (latest_in_turn day) rights).1;
    balance = λ s m station unit_type. ending_is s m ∙ all_stand day types (list_of plan) links is_day stocked served rights (MAX_MINUTES + MAX_REALLOCATION) all_ready s m station unit_type;
  }
