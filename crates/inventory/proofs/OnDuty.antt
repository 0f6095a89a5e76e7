-- What one unit takes from the yards and gives to them along its duty, in a plan that runs: it is taken where it
-- stands, and given where it ends.
use Rattle.std.proofs.Common.{◌≡◌, ℕ, ◌+◌, ◌<◌, ◌≤◌, List, [], ◌∷◌, length, map, Bool, true, false, cond, Option, refl}
use Rattle.std.proofs.Common.{sym, ap, ◌∙◌, subst, arith, ⊎_elim, inl, inr, unwrap_or}
use Rattle.std.specs.Prelude.{if◌then◌else◌, ◌==◌, ◌&&◌, nat_le, IsTrue, filter}
use Rattle.std.proofs.lemmas.Bool.{cases_lt, cases_Bool, cond-true, cond-false, false≢true, and_parts, and_from}
use Rattle.std.proofs.lemmas.Bool.{eqb-true, eq-eqb, leb-true, le-leb}
use Rattle.std.proofs.lemmas.Option.{slice_get_past}
use Rattle.timetable.specs.Accepted.{IsDay, AreLinks}
use Rattle.timetable.specs.Day.{Day, leaves, from_of, to_of, home_of, type_of, types_of, unit_count, ready_at}
use Rattle.timetable.specs.Duties.{is_before, duty, ends_at, last_place, last_place_of}
use Rattle.timetable.specs.Links.{list_of, kept, given, taken}
use Rattle.timetable.specs.Lists.{count_of, has, below, sum_below}
use Rattle.rules.proofs.OfTheStock.{MayFollow, GoesByYard}
use Rattle.timetable.specs.Running.{Runs, EachFollows, BeginsAt}
use Rattle.timetable.proofs.ListedUnits.{list_of-types}
use Rattle.inventory.specs.Places.{going_on, given_places, kept_places, taken_places, coming}
use Rattle.inventory.proofs.Sums.{one, one_same, one_other, sum_same}
use Rattle.inventory.proofs.Order.{InLine, in_list, duty_in_line, count_of-in_order, count_below_in, count_below_out}
use Rattle.inventory.proofs.Order.{leaves_before, not_itself}
use Rattle.inventory.proofs.Linked.{Goes, LeadsInto, AllHold, goes, going_leads_into, leads_into, coming_from}
use Rattle.inventory.proofs.Linked.{coming_has, places_share, come_is, taken_is, given_is, kept_is}
use Rattle.inventory.proofs.Standing.{not_given, going_less}
use Rattle.inventory.proofs.Yards.{list_sum, list_sum_below, cond_zero}

-- ---- lists of trips

pub filter_in : (p : ℕ → Bool) (x : ℕ) (ys : List ℕ) → p x ≡ true → count_of x (filter p ys) ≡ count_of x ys
filter_in p x [] is = refl
filter_in p x (y ∷ ys) is = let rest = filter_in p x ys is in elim (cases_Bool (p y)) [
  | inl passes ↦ let e : count_of x (filter p (y ∷ ys)) ≡ one y x + count_of x (filter p ys) = ap (count_of x) (cond-true (p y) (y ∷ filter p ys) (filter p ys) passes) in omega arith
  | inr fails ↦
      let e : count_of x (filter p (y ∷ ys)) ≡ count_of x (filter p ys) = ap (count_of x) (cond-false (p y) (y ∷ filter p ys) (filter p ys) fails) in
      let other = one_other y x (λ same. false≢true (sym fails ∙ ap p same ∙ is)) in
      omega arith
]

pub filter_out : (p : ℕ → Bool) (x : ℕ) (ys : List ℕ) → p x ≡ false → count_of x (filter p ys) ≡ 0
filter_out p x [] isnt = refl
filter_out p x (y ∷ ys) isnt = let rest = filter_out p x ys isnt in elim (cases_Bool (p y)) [
  | inl passes ↦
      let e : count_of x (filter p (y ∷ ys)) ≡ one y x + count_of x (filter p ys) = ap (count_of x) (cond-true (p y) (y ∷ filter p ys) (filter p ys) passes) in
      let other = one_other y x (λ same. false≢true (sym isnt ∙ ap p (sym same) ∙ passes)) in
      omega arith
  | inr fails ↦ let e : count_of x (filter p (y ∷ ys)) ≡ count_of x (filter p ys) = ap (count_of x) (cond-false (p y) (y ∷ filter p ys) (filter p ys) fails) in omega arith
]

-- the last of trips that are not none
abbrev pub last_of_duty : ℕ → List ℕ → ℕ
last_of_duty a [] = a
last_of_duty a (b ∷ ts) = last_of_duty b ts

pub last_there : (a : ℕ) (ts : List ℕ) → 1 ≤ count_of (last_of_duty a ts) (a ∷ ts)
last_there a [] = let o = one_same a a refl in omega arith
last_there a (b ∷ ts) = let rest = last_there b ts in omega arith

-- no trip of the line leaves after its last
last_is_latest : (day : Day) (a : ℕ) (ts : List ℕ) → InLine day (a ∷ ts) → (x : ℕ) → 1 ≤ count_of x (a ∷ ts) → is_before day (last_of_duty a ts) x ≡ false
last_is_latest day a [] line x c = elim (in_list x a [] c) [
  | inl e ↦ subst (λ y. is_before day a y ≡ false) e (not_itself day a)
  | inr nowhere ↦ absurd (omega arith)
]
last_is_latest day a (b ∷ ts) line x c = elim (in_list x a (b ∷ ts) c) [
  | inl e ↦ subst (λ y. is_before day (last_of_duty b ts) y ≡ false) e (line.0 (last_of_duty b ts) (last_there b ts))
  | inr later ↦ last_is_latest day b ts line.1 x later
]

ends_at_last : (day : Day) (station a : ℕ) (ts : List ℕ) → ends_at day station (a ∷ ts) ≡ to_of day (last_of_duty a ts)
ends_at_last day station a [] = refl
ends_at_last day station a (b ∷ ts) = ends_at_last day (to_of day a) b ts

-- sums along trips that follow one another, where each step is balanced
steps_most : (R : ℕ → ℕ → Type 0) (takes gives : ℕ → ℕ) → ((a b : ℕ) → R a b → takes b ≤ gives a) → (a : ℕ) (ts : List ℕ) → EachFollows R (a ∷ ts) → list_sum takes ts ≤ list_sum gives (a ∷ ts)
unfolding list_sum
steps_most R takes gives step a [] h = omega arith
steps_most R takes gives step a (b ∷ ts) h = let first = step a b h.0 in let rest = steps_most R takes gives step b ts h.1 in omega arith

steps_same : (R : ℕ → ℕ → Type 0) (takes gives : ℕ → ℕ) → ((a b : ℕ) → R a b → takes b ≡ gives a) → (a : ℕ) (ts : List ℕ) → EachFollows R (a ∷ ts)
    → list_sum takes ts + gives (last_of_duty a ts) ≡ list_sum gives (a ∷ ts)
unfolding list_sum
steps_same R takes gives step a [] h = omega arith
steps_same R takes gives step a (b ∷ ts) h = let first = step a b h.0 in let rest = steps_same R takes gives step b ts h.1 in omega arith

module _ (day : Day) (plan : List (List ℕ)) (is_day : IsDay day) (links : AreLinks day) (runs : Runs day plan) where
  abbrev types : List (List ℕ)
  types = map (types_of day) plan

  types_are : (t : ℕ) → map (type_of day) (list_of plan t) ≡ list_of types t
  types_are t = sym (list_of-types day plan t)

  holds : AllHold (type_of day) day plan
  holds = record { holds = runs.links }

  -- ---- one trip

  outside : (t : ℕ) → length day.trips ≤ t → list_of plan t ≡ []
  unfolding list_of
  outside t past = ap (λ (o : Option (List ℕ)). unwrap_or o []) (slice_get_past plan t (let same = runs.is_plan.trips in omega arith))

  pub once : (t u : ℕ) → count_of u (list_of plan t) ≤ 1
  once t u = elim (cases_lt t (length day.trips)) [
    | inl lt ↦ (runs.lists t lt).distinct u
    | inr past ↦ let none = ap (count_of u) (outside t past) in omega arith
  ]

  taken_at : (t u : ℕ) → count_of u (taken day plan t) ≡ count_of u (taken_places day types t (list_of plan t))
  taken_at t u = ap (count_of u) (taken_is day types links (type_of day) plan types_are holds t)

  given_at : (t u : ℕ) → count_of u (given day plan t) ≡ count_of u (given_places day types t (list_of plan t))
  given_at t u = ap (count_of u) (given_is day types links (type_of day) plan types_are holds t)

  come_at : (t u : ℕ) → count_of u (kept_places day types t (list_of plan t)) ≡ count_of u (coming day types (list_of plan) t)
  come_at t u = ap (count_of u) (come_is day types links (type_of day) plan types_are holds t)

  pub taken_less : (t u : ℕ) → count_of u (taken day plan t) ≤ count_of u (list_of plan t)
  taken_less t u = let is = taken_at t u in let share = places_share day types t u (list_of plan t) in omega arith

  pub given_less : (t u : ℕ) → count_of u (given day plan t) ≤ count_of u (list_of plan t)
  given_less t u =
      let g : Goes day types t = goes day types links t in
      let is = given_at t u in
      let total = g.total u (list_of plan t) in
      omega arith

  -- a unit that stays in the train from one trip to another is not given by the one, nor taken by the other
  pub stays : (a b u : ℕ) → 1 ≤ count_of u (kept day plan a b) → (count_of u (given day plan a) ≡ 0) × (count_of u (taken day plan b) ≡ 0)
  stays a b u c =
      let k = ap (count_of u) (kept_is day types links (type_of day) plan types_are holds a b) in
      let none = not_given day types (list_of plan) links is_day a b u (list_of plan a) (once a u) (omega arith) in
      let into = going_leads_into day types links u a b (list_of plan a) (omega arith) in
      let came = coming_has day types (list_of plan) u a b into in
      let come = come_at b u in
      let share = places_share day types b u (list_of plan b) in
      let few = once b u in
      let g = given_at a u in
      let t = taken_at b u in
      (omega arith, omega arith)

  -- ---- the trips of a duty

  pub on_duty : (u t : ℕ) → t < length day.trips → 1 ≤ count_of u (list_of plan t) → 1 ≤ count_of t (duty day plan u)
  unfolding duty
  on_duty u t lt c =
      let a = count_of-in_order day t (filter (λ t. has u (list_of plan t)) (below (length day.trips))) in
      let b = filter_in (λ t. has u (list_of plan t)) t (below (length day.trips)) (le-leb 1 (count_of u (list_of plan t)) c) in
      let there = count_below_in t (length day.trips) lt in
      omega arith

  pub duty_once : (u t : ℕ) → count_of t (duty day plan u) ≤ 1
  unfolding duty
  duty_once u t =
      let a = count_of-in_order day t (filter (λ t. has u (list_of plan t)) (below (length day.trips))) in
      elim (cases_Bool (has u (list_of plan t))) [
        | inl is ↦ let b = filter_in (λ t. has u (list_of plan t)) t (below (length day.trips)) is in elim (cases_lt t (length day.trips)) [
          | inl lt ↦ let there = count_below_in t (length day.trips) lt in omega arith
          | inr past ↦ let none = count_below_out t (length day.trips) past in omega arith
        ]
        | inr isnt ↦ let b = filter_out (λ t. has u (list_of plan t)) t (below (length day.trips)) isnt in omega arith
      ]

  pub duty_within : (u t : ℕ) → 1 ≤ count_of t (duty day plan u) → t < length day.trips
  unfolding duty
  duty_within u t c =
      let a = count_of-in_order day t (filter (λ t. has u (list_of plan t)) (below (length day.trips))) in
      elim (cases_lt t (length day.trips)) [
        | inl lt ↦ lt
        | inr past ↦ let none = count_below_out t (length day.trips) past in elim (cases_Bool (has u (list_of plan t))) [
          | inl is ↦ let b = filter_in (λ t. has u (list_of plan t)) t (below (length day.trips)) is in absurd (omega arith)
          | inr isnt ↦ let b = filter_out (λ t. has u (list_of plan t)) t (below (length day.trips)) isnt in absurd (omega arith)
        ]
      ]

  pub duty_has : (u t : ℕ) → 1 ≤ count_of t (duty day plan u) → 1 ≤ count_of u (list_of plan t)
  unfolding duty
  duty_has u t c =
      let a = count_of-in_order day t (filter (λ t. has u (list_of plan t)) (below (length day.trips))) in
      elim (cases_Bool (has u (list_of plan t))) [
        | inl is ↦ leb-true 1 (count_of u (list_of plan t)) is
        | inr isnt ↦ let b = filter_out (λ t. has u (list_of plan t)) t (below (length day.trips)) isnt in absurd (omega arith)
      ]

  -- ---- one step of a duty

  -- taken until a minute, given and ready at a minute
  abbrev pub takes_until : ℕ → ℕ → ℕ → ℕ → ℕ
  takes_until s minute u t = if (from_of day t == s) && nat_le (leaves day t) minute then count_of u (taken day plan t) else 0

  abbrev pub gives_until : ℕ → ℕ → ℕ → ℕ → ℕ
  gives_until s minute u t = if (to_of day t == s) && nat_le (ready_at day t) minute then count_of u (given day plan t) else 0

  -- taken and given at all
  abbrev pub takes_here : ℕ → ℕ → ℕ → ℕ
  takes_here s u t = if from_of day t == s then count_of u (taken day plan t) else 0

  abbrev pub gives_here : ℕ → ℕ → ℕ → ℕ
  gives_here s u t = if to_of day t == s then count_of u (given day plan t) else 0

  until_step : (s minute u a b : ℕ) → MayFollow day plan u a b → takes_until s minute u b ≤ gives_until s minute u a
  until_step s minute u a b follows = ⊎_elim
      (λ (in_train : IsTrue (has u (kept day plan a b))).
      let none = (stays a b u (leb-true 1 (count_of u (kept day plan a b)) in_train)).1 in
      let zero = cond_zero ((from_of day b == s) && nat_le (leaves day b) minute) (count_of u (taken day plan b)) none in
      omega arith)
      (λ (yard : GoesByYard day plan u a b). elim (cases_Bool ((from_of day b == s) && nat_le (leaves day b) minute)) [
        | inl now ↦
            let both = and_parts (from_of day b == s) (nat_le (leaves day b) minute) now in
            let left = leb-true (leaves day b) minute both.1 in
            let ready = yard.ready in
            let there = eq-eqb (to_of day a) s (yard.station ∙ eqb-true (from_of day b) s both.0) in
            let by_then = and_from (to_of day a == s) (nat_le (ready_at day a) minute) there (le-leb (ready_at day a) minute (omega arith)) in
            let gives = cond-true {A = ℕ} ((to_of day a == s) && nat_le (ready_at day a) minute) (count_of u (given day plan a)) 0 by_then in
            let takes = cond-true {A = ℕ} ((from_of day b == s) && nat_le (leaves day b) minute) (count_of u (taken day plan b)) 0 now in
            let some = leb-true 1 (count_of u (given day plan a)) yard.given in
            let less = taken_less b u in
            let few = once b u in
            omega arith
        | inr not_now ↦ let takes = cond-false {A = ℕ} ((from_of day b == s) && nat_le (leaves day b) minute) (count_of u (taken day plan b)) 0 not_now in omega arith
      ])
      follows

  pub here_step : (s u a b : ℕ) → MayFollow day plan u a b → takes_here s u b ≡ gives_here s u a
  here_step s u a b follows = ⊎_elim
      (λ (in_train : IsTrue (has u (kept day plan a b))).
      let none = stays a b u (leb-true 1 (count_of u (kept day plan a b)) in_train) in
      let takes = cond_zero (from_of day b == s) (count_of u (taken day plan b)) none.1 in
      let gives = cond_zero (to_of day a == s) (count_of u (given day plan a)) none.0 in
      omega arith)
      (λ (yard : GoesByYard day plan u a b).
      let some = leb-true 1 (count_of u (given day plan a)) yard.given in
      let less = given_less a u in
      let few = once a u in
      let some' = leb-true 1 (count_of u (taken day plan b)) yard.taken in
      let less' = taken_less b u in
      let few' = once b u in
      let same : count_of u (taken day plan b) ≡ count_of u (given day plan a) = omega arith in
      ap (λ (n : ℕ). cond {A = ℕ} (from_of day b == s) n 0) same ∙ ap (λ (t : ℕ). cond {A = ℕ} (t == s) (count_of u (given day plan a)) 0) (sym yard.station))
      follows

  -- ---- the first and the last trip

  -- a unit comes to no trip that it first runs on in a train
  pub first_takes : (u b : ℕ) (ts : List ℕ) → duty day plan u ≡ b ∷ ts → count_of u (taken day plan b) ≡ 1
  first_takes u b ts is =
      let line : InLine day (b ∷ ts) = subst (InLine day) is (duty_in_line day plan u) in
      let there = one_same b b refl in
      let on = ap (count_of b) is in
      let runs_on = duty_has u b (omega arith) in
      let few = once b u in
      let share = places_share day types b u (list_of plan b) in
      let come = come_at b u in
      let t = taken_at b u in
      elim (cases_lt 0 (count_of u (coming day types (list_of plan) b))) [
        | inl came ↦
            let from = coming_from day types (list_of plan) u b (omega arith) in
            let leads : LeadsInto day from.0 b = leads_into day types links from.0 b from.1 in
            let less = going_less day types (list_of plan) links is_day from.0 b u (list_of plan from.0) in
            let goes_on = from.2 in
            let earlier = on_duty u from.0 leads.from (omega arith) in
            let on_it = ap (count_of from.0) is in
            let in_time = leads.in_time in
            let time = is_day.timetable.time from.0 leads.from in
            let before = leaves_before day from.0 b (omega arith) in
            absurd (elim (in_list from.0 b ts (omega arith)) [
              | inl e ↦ let same = ap (leaves day) e in omega arith
              | inr later ↦ false≢true (sym (line.0 from.0 later) ∙ before)
            ])
        | inr none ↦ omega arith
      ]

  -- a unit goes on in no train from the trip that it runs on last
  pub last_gives : (u a : ℕ) (ts : List ℕ) → duty day plan u ≡ a ∷ ts → count_of u (given day plan (last_of_duty a ts)) ≡ 1
  last_gives u a ts is =
      let last = last_of_duty a ts in
      let g : Goes day types (last_of_duty a ts) = goes day types links (last_of_duty a ts) in
      let line : InLine day (a ∷ ts) = subst (InLine day) is (duty_in_line day plan u) in
      let there = last_there a ts in
      let on = ap (count_of (last_of_duty a ts)) is in
      let runs_on = duty_has u (last_of_duty a ts) (omega arith) in
      let few = once (last_of_duty a ts) u in
      let total = g.total u (list_of plan (last_of_duty a ts)) in
      let gives = given_at (last_of_duty a ts) u in
      elim (cases_lt 0 (count_of u (going_on day types (last_of_duty a ts) g.first (list_of plan (last_of_duty a ts))))) [
        | inl first ↦ absurd (goes_nowhere g.first (omega arith))
        | inr none ↦ elim (cases_lt 0 (count_of u (going_on day types (last_of_duty a ts) g.second (list_of plan (last_of_duty a ts))))) [
          | inl second ↦ absurd (goes_nowhere g.second (omega arith))
          | inr none' ↦ omega arith
        ]
      ]
    where
      goes_nowhere : (c : ℕ) → 1 ≤ count_of u (going_on day types (last_of_duty a ts) c (list_of plan (last_of_duty a ts))) → ⊥
      goes_nowhere c h =
          let into = going_leads_into day types links u (last_of_duty a ts) c (list_of plan (last_of_duty a ts)) h in
          let leads : LeadsInto day (last_of_duty a ts) c = leads_into day types links (last_of_duty a ts) c into in
          let came = coming_has day types (list_of plan) u (last_of_duty a ts) c into in
          let come = come_at c u in
          let share = places_share day types c u (list_of plan c) in
          let later = on_duty u c leads.to (omega arith) in
          let on_it = ap (count_of c) is in
          let line : InLine day (a ∷ ts) = subst (InLine day) is (duty_in_line day plan u) in
          let in_time = leads.in_time in
          let time = is_day.timetable.time (last_of_duty a ts) leads.from in
          false≢true (sym (last_is_latest day a ts line c (omega arith)) ∙ leaves_before day (last_of_duty a ts) c (omega arith))

  -- ---- a whole duty

  abbrev at_home : ℕ → ℕ → ℕ
  at_home s u = if home_of day u == s then 1 else 0

  until_duty : (s minute u : ℕ) → u < unit_count day → list_sum (takes_until s minute u) (duty day plan u) ≤ at_home s u + list_sum (gives_until s minute u) (duty day plan u)
  unfolding list_sum
  until_duty s minute u lt = on (duty day plan u) (runs.homes u lt) (runs.follows u lt)
    where
      on : (ts : List ℕ) → BeginsAt day (home_of day u) ts → EachFollows (MayFollow day plan u) ts → list_sum (takes_until s minute u) ts ≤ at_home s u + list_sum (gives_until s minute u) ts
      on [] begins follows = omega arith
      on (a ∷ ts) begins follows =
          let rest = steps_most (MayFollow day plan u) (takes_until s minute u) (gives_until s minute u) (until_step s minute u) a ts follows in
          elim (cases_Bool ((from_of day a == s) && nat_le (leaves day a) minute)) [
            | inl now ↦
                let both = and_parts (from_of day a == s) (nat_le (leaves day a) minute) now in
                let takes = cond-true {A = ℕ} ((from_of day a == s) && nat_le (leaves day a) minute) (count_of u (taken day plan a)) 0 now in
                let home = cond-true {A = ℕ} (home_of day u == s) 1 0 (eq-eqb (home_of day u) s (sym begins ∙ eqb-true (from_of day a) s both.0)) in
                let less = taken_less a u in
                let few = once a u in
                omega arith
            | inr not_now ↦ let takes = cond-false {A = ℕ} ((from_of day a == s) && nat_le (leaves day a) minute) (count_of u (taken day plan a)) 0 not_now in omega arith
          ]

  here_duty : (s u : ℕ) → u < unit_count day
      → at_home s u + list_sum (gives_here s u) (duty day plan u) ≡ (if last_place day plan u == s then 1 else 0) + list_sum (takes_here s u) (duty day plan u)
  unfolding list_sum last_place_of
  here_duty s u lt = on (duty day plan u) refl (runs.homes u lt) (runs.follows u lt)
    where
      on : (ts : List ℕ) → duty day plan u ≡ ts → BeginsAt day (home_of day u) ts → EachFollows (MayFollow day plan u) ts
          → at_home s u + list_sum (gives_here s u) ts ≡ (if ends_at day (home_of day u) ts == s then 1 else 0) + list_sum (takes_here s u) ts
      on [] is begins follows = refl
      on (a ∷ ts) is begins follows =
          let rest = steps_same (MayFollow day plan u) (takes_here s u) (gives_here s u) (here_step s u) a ts follows in
          let first : takes_here s u a ≡ at_home s u = ap (λ (n : ℕ). cond {A = ℕ} (from_of day a == s) n 0) (first_takes u a ts is) ∙ ap (λ (t : ℕ). cond {A = ℕ} (t == s) 1 0) begins in
          let last : gives_here s u (last_of_duty a ts) ≡ (if ends_at day (home_of day u) (a ∷ ts) == s then 1 else 0) =
          ap (λ (n : ℕ). cond {A = ℕ} (to_of day (last_of_duty a ts) == s) n 0) (last_gives u a ts is) ∙ ap (λ (t : ℕ). cond {A = ℕ} (t == s) 1 0) (sym (ends_at_last day (home_of day u) a ts)) in
          omega arith

  -- ---- all trips

  -- what is nothing on trips that do not have the unit, is of its duty alone
  pub of_duty : (u : ℕ) (f : ℕ → ℕ) → ((t : ℕ) → t < length day.trips → count_of u (list_of plan t) ≡ 0 → f t ≡ 0) → list_sum f (duty day plan u) ≡ sum_below f (length day.trips)
  of_duty u f none =
      list_sum_below f (length day.trips) (duty day plan u) (duty_within u) (duty_once u)
      ∙ sum_same (λ t. if has t (duty day plan u) then f t else 0) f (length day.trips)
      (λ t lt. elim (cases_Bool (has t (duty day plan u))) [
        | inl is ↦ cond-true {A = ℕ} (has t (duty day plan u)) (f t) 0 is
        | inr isnt ↦ cond-false {A = ℕ} (has t (duty day plan u)) (f t) 0 isnt ∙ sym (none t lt (elim (cases_lt 0 (count_of u (list_of plan t))) [
          | inl there ↦ absurd (false≢true (sym isnt ∙ le-leb 1 (count_of t (duty day plan u)) (on_duty u t lt (omega arith))))
          | inr nowhere ↦ omega arith
        ]))
      ])

  -- a unit is taken at a station until a minute no more often than it was at home there, or was given there and is
  -- ready
  pub until_unit : (s minute u : ℕ) → u < unit_count day → sum_below (takes_until s minute u) (length day.trips) ≤ at_home s u + sum_below (gives_until s minute u) (length day.trips)
  until_unit s minute u lt =
      let takes = of_duty u (takes_until s minute u) (λ t in_day none. cond_zero ((from_of day t == s) && nat_le (leaves day t) minute) (count_of u (taken day plan t)) (let less = taken_less t u in omega arith)) in
      let gives = of_duty u (gives_until s minute u) (λ t in_day none. cond_zero ((to_of day t == s) && nat_le (ready_at day t) minute) (count_of u (given day plan t)) (let less = given_less t u in omega arith)) in
      let whole = until_duty s minute u lt in
      omega arith

  -- over the whole day, it is at a station in the end where it was at home or was given, and was not taken
  pub here_unit : (s u : ℕ) → u < unit_count day → at_home s u + sum_below (gives_here s u) (length day.trips) ≡ (if last_place day plan u == s then 1 else 0) + sum_below (takes_here s u) (length day.trips)
  here_unit s u lt =
      let takes = of_duty u (takes_here s u) (λ t in_day none. cond_zero (from_of day t == s) (count_of u (taken day plan t)) (let less = taken_less t u in omega arith)) in
      let gives = of_duty u (gives_here s u) (λ t in_day none. cond_zero (to_of day t == s) (count_of u (given day plan t)) (let less = given_less t u in omega arith)) in
      let whole = here_duty s u lt in
      omega arith
