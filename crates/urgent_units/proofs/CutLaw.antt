-- No naming brings more urgent units to the depot than a yard cut is worth.
use Rattle.std.proofs.Common.{◌≡◌, ℕ, zero, suc, ◌+◌, ◌-◌, ◌≤◌, ◌<◌, Bool, true, false, List, [], ◌∷◌, length, map, refl, sym, ap, ◌∙◌, subst, arith, inl, inr, ◌⊎◌, Some, None, Option, get_or}
use Rattle.std.specs.Prelude.{if◌then◌else◌, ◌==◌, ◌&&◌, not, nat_lt, nat_le, filter}
use Rattle.std.proofs.lemmas.Bool.{cases_Bool, cases_eq, cond-true, cond-false, eqb-true, eq-eqb, le-leb, false≢true}
use Rattle.timetable.specs.Accepted.{IsDay, AreLinks, DoMeet}
use Rattle.timetable.specs.Day.{Day, leaves, from_of, to_of, home_of, type_of, unit_count, ready_at}
use Rattle.timetable.specs.Duties.{duty, last_place}
use Rattle.timetable.specs.Lists.{count_of, below, sum_below, IsDistinct}
use Rattle.timetable.specs.Running.{Runs}
use Rattle.timetable.proofs.Ones.{one_same, one_other}
use Rattle.timetable.proofs.Sums.{sum_same, sum_add, sum_le, sum_zero}
use Rattle.urgent_units.specs.declared.legs.Leg.{Leg}
use Rattle.urgent_units.specs.declared.legs.UnitLegs.{UnitLegs}
use Rattle.urgent_units.specs.declared.wish.Wish.{Wish}
use Rattle.urgent_units.specs.Cuts.{is_in, is_left, goes_out, legs_out, held_out, held_out_at, cut_value, value_of}
use Rattle.urgent_units.specs.Held.{is_held, is_held_from, held}
use Rattle.urgent_units.specs.Laws.{CutsBoundNamings}
use Rattle.urgent_units.specs.Legs.{TypeLegs, leg_of, legs_of, legs_of_unit, unit_legs, all_legs, stays, end_of}
use Rattle.urgent_units.specs.Moments.{minutes_at, moment_count, moment_of, over_after, over_at}
use Rattle.urgent_units.specs.Namings.{IsNaming, brought}
use Rattle.urgent_units.specs.Runs.{runs_of}
use Rattle.urgent_units.specs.Wishes.{IsWish}
use Rattle.urgent_units.proofs.Begun.{of_runs}
use Rattle.urgent_units.proofs.Crossing.{InTurn, Events, crosses, held_counts, leaving, waiting, wait_at}
use Rattle.urgent_units.proofs.EventMinutes.{minutes_rise, departs_at, ready_at_moment}
use Rattle.urgent_units.proofs.InTurn.{AtStations}
use Rattle.urgent_units.proofs.LabelSums.{legs_sum, legs_agree, over-filter}
use Rattle.urgent_units.proofs.ListSums.{over, tally, counted_over, over-map, over-flat_map, over_same, over_le, over_add, over_sum_below}
use Rattle.urgent_units.proofs.Moments.{Rise}
use Rattle.urgent_units.proofs.UnitTurns.{legs_in_turn}

-- ---- some of many

module _ (f : ℕ → ℕ) where
  abbrev pub picked : ℕ → List ℕ → ℕ
  picked u [] = 0
  picked u (w ∷ ws) = (if w == u then f u else 0) + picked u ws

  pub picked_none : (u : ℕ) (ws : List ℕ) → count_of u ws ≡ 0 → picked u ws ≡ 0
  picked_none u [] none = refl
  picked_none u (w ∷ ws) none = elim (cases_Bool (w == u)) [
    | inl same ↦ absurd (let here = one_same w u (eqb-true w u same) in omega (arith, none, here))
    | inr differs ↦ omega (arith, cond-false {A = ℕ} (w == u) (f u) 0 differs, picked_none u ws (omega (arith, none)))
  ]

  picked_once : (u : ℕ) (ws : List ℕ) → count_of u ws ≤ 1 → picked u ws ≤ f u
  picked_once u [] once = omega arith
  picked_once u (w ∷ ws) once = elim (cases_Bool (w == u)) [
    | inl same ↦
        let here = one_same w u (eqb-true w u same) in
        omega (arith, cond-true {A = ℕ} (w == u) (f u) 0 same, picked_none u ws (omega (arith, once, here)))
    | inr differs ↦ omega (arith, cond-false {A = ℕ} (w == u) (f u) 0 differs, picked_once u ws (omega (arith, once)))
  ]

  pub picked_all : (ws : List ℕ) (n : ℕ) → ((u : ℕ) → 1 ≤ count_of u ws → u < n) → over f ws ≡ sum_below (λ u. picked u ws) n
  picked_all [] n known = sym (sum_zero (λ _. 0) n (λ k lt. refl))
  picked_all (w ∷ ws) n known =
      let here = one_same w w refl in
      omega (arith, sum_add (λ u. if w == u then f u else 0) (λ u. picked u ws) n, picked_all ws n (λ u c. known u (omega (arith, c))), at_one n w (known w (omega (arith, here))))
    where
      at_one : (n w : ℕ) → w < n → sum_below (λ u. if w == u then f u else 0) n ≡ f w
      at_one zero w below = absurd (omega (arith, below))
      at_one (suc n) w below = elim (cases_eq w n) [
        | inl same ↦
            let none = sum_zero (λ u. if w == u then f u else 0) n (λ k lt. not_there w k (λ e. absurd (omega (arith, same, e, lt)))) in
            omega (arith, none, cond-true {A = ℕ} (w == n) (f n) 0 (eq-eqb w n same), ap f same)
        | inr differs ↦ omega (arith, at_one n w (omega (arith, below, differs)), not_there w n differs)
      ]
        where
          not_there : (w k : ℕ) → ¬ (w ≡ k) → (if w == k then f k else 0) ≡ 0
          not_there w k differs = elim (cases_Bool (w == k)) [
            | inl same ↦ absurd (differs (eqb-true w k same))
            | inr isnt ↦ cond-false {A = ℕ} (w == k) (f k) 0 isnt
          ]

  -- numbers that pass a test, none twice, are among all that pass it
  some_of_all : (p : ℕ → Bool) (ws : List ℕ) (n : ℕ) → IsDistinct ws → ((u : ℕ) → 1 ≤ count_of u ws → u < n) → ((u : ℕ) → 1 ≤ count_of u ws → p u ≡ true) → over f ws ≤ over f (filter p (below n))
  some_of_all p ws n once known pass =
      omega (arith, picked_all ws n known, over-filter f p n, sum_le (λ u. picked u ws) (λ u. if p u then f u else 0) n (λ u lt. each u))
    where
      cases_lt' : (n : ℕ) → (1 ≤ n) ⊎ (n ≡ 0)
      cases_lt' zero = inr refl
      cases_lt' (suc n) = inl (omega arith)

      none_there : (u : ℕ) → p u ≡ false → count_of u ws ≡ 0
      none_there u fails = elim (cases_lt' (count_of u ws)) [
        | inl some ↦ absurd (false≢true (sym fails ∙ pass u some))
        | inr none ↦ none
      ]

      each : (u : ℕ) → picked u ws ≤ (if p u then f u else 0)
      each u = elim (cases_Bool (p u)) [
        | inl passes ↦ omega (arith, cond-true {A = ℕ} (p u) (f u) 0 passes, picked_once u ws (once u))
        | inr fails ↦ omega (arith, picked_none u ws (none_there u fails))
      ]

-- ---- sums over legs that look at their ends alone

abbrev pub of_leg : (ℕ → ℕ → ℕ → ℕ → ℕ) → Leg → ℕ
of_leg h leg = h leg.from leg.departs leg.to leg.ready

abbrev pub type_units : Day → ℕ → List ℕ
type_units day m = filter (λ u. type_of day u == m) (below (unit_count day))

abbrev pub all_sum : Day → List (List ℕ) → ℕ → (ℕ → ℕ → ℕ → ℕ → ℕ) → ℕ
all_sum day plan m h = over (λ u. over (of_leg h) (legs_of_unit day plan u)) (type_units day m)

-- sums over the units of a type that are the same for each
pub type_same : (day : Day) (m : ℕ) (f g : ℕ → ℕ) → ((u : ℕ) → u < unit_count day → type_of day u ≡ m → f u ≡ g u) → over f (type_units day m) ≡ over g (type_units day m)
type_same day m f g same =
    over-filter f (λ u. type_of day u == m) (unit_count day)
    ∙ sum_same (λ u. if type_of day u == m then f u else 0) (λ u. if type_of day u == m then g u else 0) (unit_count day) (λ u known. elim (cases_Bool (type_of day u == m)) [
      | inl is ↦ cond-true {A = ℕ} (type_of day u == m) (f u) 0 is ∙ same u known (eqb-true (type_of day u) m is) ∙ sym (cond-true {A = ℕ} (type_of day u == m) (g u) 0 is)
      | inr isnt ↦ cond-false {A = ℕ} (type_of day u == m) (f u) 0 isnt ∙ sym (cond-false {A = ℕ} (type_of day u == m) (g u) 0 isnt)
    ])
    ∙ sym (over-filter g (λ u. type_of day u == m) (unit_count day))

sum_by_runs : (day : Day) (plan : List (List ℕ)) (m : ℕ) (h : ℕ → ℕ → ℕ → ℕ → ℕ) → all_sum day plan m h ≡ legs_sum day plan m (λ a b. h (from_of day a) (leaves day a) (to_of day b) (ready_at day b))
sum_by_runs day plan m h =
    over_same (λ u. over (of_leg h) (legs_of_unit day plan u)) (λ u. of_runs (λ a b. h (from_of day a) (leaves day a) (to_of day b) (ready_at day b)) (runs_of (stays day plan u) (duty day plan u))) (type_units day m)
    (λ k d below. over-map (of_leg h) (leg_of day) (runs_of (stays day plan (get_or (type_units day m) k d)) (duty day plan (get_or (type_units day m) k d))))

-- the same over the legs of the type in one list
pub over_all_legs : (day : Day) (plan : List (List ℕ)) (m : ℕ) (f : Leg → ℕ) → over f (all_legs (legs_of day plan m)) ≡ over (λ u. over f (legs_of_unit day plan u)) (type_units day m)
over_all_legs day plan m f =
    over-flat_map f (λ (unit : UnitLegs). unit.legs) (map (unit_legs day plan) (type_units day m))
    ∙ over-map (λ (unit : UnitLegs). over f unit.legs) (unit_legs day plan) (type_units day m)

-- ---- the law

module _ (day : Day) (plan other : List (List ℕ)) (wish : Wish) (cut : List (List Bool)) (is_day : IsDay day) (links : AreLinks day) (meet : DoMeet day) (is_wish : IsWish day wish)
    (runs : Runs day plan) (naming : IsNaming day plan other) where
  abbrev m : ℕ
  m = wish.unit_type

  abbrev all : TypeLegs
  all = legs_of day plan m

  abbrev units : List ℕ
  units = type_units day m

  pub rises : (s : ℕ) → Rise 0 (minutes_at all s)
  rises s = minutes_rise all s

  agree : (h : ℕ → ℕ → ℕ → ℕ → ℕ) → all_sum day other m h ≡ all_sum day plan m h
  agree h =
      sum_by_runs day other m h
      ∙ legs_agree day plan other is_day links runs naming.runs naming.types m is_day.timetable.time (λ a b. h (from_of day a) (leaves day a) (to_of day b) (ready_at day b))
      ∙ sym (sum_by_runs day plan m h)

  -- ---- one unit of the other plan

  abbrev pub its_legs : ℕ → List Leg
  its_legs u = legs_of_unit day other u

  -- its legs leave one after another from home, and end at its last place
  pub unit_in_turn : (p : List (List ℕ)) → Runs day p → (u : ℕ) → u < unit_count day → InTurn (home_of day u) 0 (legs_of_unit day p u) × (end_of (home_of day u) (legs_of_unit day p u) ≡ last_place day p u) × AtStations day is_day.timetable.time p u (legs_of_unit day p u)
  unit_in_turn p p_runs u known = legs_in_turn day is_day links meet p p_runs u known

  -- each of its legs leaves and is ready at a moment, since the given plan has such a leg too
  pub events : (ls : List Leg) → ((h : ℕ → ℕ → ℕ → ℕ → ℕ) → over (of_leg h) ls ≤ all_sum day plan m h) → AtStations day is_day.timetable.time other 0 ls → Events all cut rises ls
  events [] few there = tt
  events (leg ∷ ls) few there =
      let leaves_here : ℕ → ℕ → ℕ → ℕ → ℕ = λ from departs to ready. tally (from == leg.from && departs == leg.departs) in
      let ready_here : ℕ → ℕ → ℕ → ℕ → ℕ = λ from departs to ready. tally (to == leg.to && ready == leg.ready) in
      let one = both_same leg.from leg.departs in
      let one' = both_same leg.to leg.ready in (
        departs_at all leg.from leg.departs (omega (arith, few leaves_here, over_all_legs day plan m (of_leg leaves_here), one)),
        ready_at_moment all leg.to leg.ready (omega (arith, few ready_here, over_all_legs day plan m (of_leg ready_here), one')),
        there.0,
        there.1,
        events ls (λ h. (let more = few h in omega (arith, more))) there.2,
      )
    where
      both_same : (a b : ℕ) → tally (a == a && b == b) ≡ 1
      both_same a b = ap (λ (x : Bool). tally (x && b == b)) (eq-eqb a a refl) ∙ ap (λ (x : Bool). tally (true && x)) (eq-eqb b b refl)

  -- a unit of the type has no more legs of a kind than all units together
  pub of_all : (u : ℕ) → u < unit_count day → type_of day u ≡ m → (h : ℕ → ℕ → ℕ → ℕ → ℕ) → over (of_leg h) (its_legs u) ≤ all_sum day plan m h
  of_all u known is_type h =
      let some = some_of_all (λ v. over (of_leg h) (its_legs v)) (λ v. type_of day v == m) (u ∷ []) (unit_count day)
      (λ x. (let few = at_most_one x in omega (arith, few)))
      (λ x c. subst (λ (v : ℕ). v < unit_count day) (alone x c) known)
      (λ x c. subst (λ (v : ℕ). (type_of day v == m) ≡ true) (alone x c) (eq-eqb (type_of day u) m is_type)) in
      omega (arith, some, agree h)
    where
      at_most_one : (x : ℕ) → count_of x (u ∷ []) ≤ 1
      at_most_one x = elim (cases_eq u x) [
        | inl same ↦ omega (arith, one_same u x same)
        | inr differs ↦ omega (arith, one_other u x differs)
      ]

      alone : (x : ℕ) → 1 ≤ count_of x (u ∷ []) → u ≡ x
      alone x c = elim (cases_eq u x) [
        | inl same ↦ same
        | inr differs ↦ absurd (omega (arith, c, one_other u x differs))
      ]

  -- what a unit adds to the cut
  abbrev pub adds : ℕ → ℕ
  adds u = leaving all cut rises (its_legs u) + waiting all cut rises (home_of day u) 0 (its_legs u)

  -- a unit that is brought begins outside of the cut, or crosses it
  brought_crosses : is_in cut wish.depot (moment_count all wish.depot - 1) ≡ false → (u : ℕ) → u < unit_count day → type_of day u ≡ m
      → tally (last_place day other u == wish.depot) ≤ tally (not (is_in cut (home_of day u) 0)) + adds u
  brought_crosses out u known is_type = elim (cases_Bool (last_place day other u == wish.depot)) [
    | inr elsewhere ↦ omega (arith, cond-false {A = ℕ} (last_place day other u == wish.depot) 1 0 elsewhere)
    | inl there ↦ elim (cases_Bool (is_in cut (home_of day u) 0)) [
      | inr outside ↦ omega (arith, at_most (last_place day other u == wish.depot), ap (λ (b : Bool). tally (not b)) outside)
      | inl inside ↦
          let turn = unit_in_turn other naming.runs u known in
          let ends : end_of (home_of day u) (its_legs u) ≡ wish.depot = turn.1 ∙ eqb-true (last_place day other u) wish.depot there in
          let over_is : over_at all (home_of day u) 0 ≡ 0 = start (minutes_at all (home_of day u)) in
          let crossing = crosses all cut rises (its_legs u) (home_of day u) 0 0 turn.0 (events (its_legs u) (of_all u known is_type) turn.2) (is_day.units.home u known) (omega arith) over_is inside
          (subst (λ (s : ℕ). is_in cut s (moment_count all s - 1) ≡ false) (sym ends) out) in
          omega (arith, at_most (last_place day other u == wish.depot), crossing)
    ]
  ]
    where
      at_most : (b : Bool) → tally b ≤ 1
      at_most true = omega arith
      at_most false = omega arith

      start : (ms : List ℕ) → over_after 0 ms 0 ≡ 0
      start [] = refl
      start (k ∷ ms) = refl

  -- ---- all units

  -- as many legs go out of the cut in the one plan as in the other
  pub leaving_same : over (λ u. leaving all cut rises (its_legs u)) units ≡ legs_out all cut
  leaving_same =
      let out : ℕ → ℕ → ℕ → ℕ → ℕ = λ from departs to ready. tally (is_in cut from (moment_of all from departs) && not (is_in cut to (moment_of all to ready))) in
      agree out ∙ sym (over_all_legs day plan m (of_leg out)) ∙ counted_over (goes_out all cut) (all_legs all)

  -- how many units of the type are held, of a plan
  abbrev pub held_of : List (List ℕ) → ℕ → ℕ → ℕ
  held_of p s o = over (λ u. tally (is_held_from (home_of day u) 0 (legs_of_unit day p u) s o)) units

  abbrev pub out_by : ℕ → ℕ → ℕ → ℕ → ℕ → ℕ → ℕ
  out_by s o from departs to ready = tally (from == s && nat_lt departs o)

  abbrev pub in_by : ℕ → ℕ → ℕ → ℕ → ℕ → ℕ → ℕ
  in_by s o from departs to ready = tally (to == s && nat_lt ready o)

  pub held_sum : (p : List (List ℕ)) → Runs day p → (s o : ℕ)
      → held_of p s o + all_sum day p m (out_by s o) ≡ over (λ u. tally (home_of day u == s && nat_le 0 o)) units + all_sum day p m (in_by s o)
  held_sum p p_runs s o =
      sym (over_add (λ u. tally (is_held_from (home_of day u) 0 (legs_of_unit day p u) s o)) (λ u. over (of_leg (out_by s o)) (legs_of_unit day p u)) units)
      ∙ type_same day m (λ u. tally (is_held_from (home_of day u) 0 (legs_of_unit day p u) s o) + over (of_leg (out_by s o)) (legs_of_unit day p u))
      (λ u. tally (home_of day u == s && nat_le 0 o) + over (of_leg (in_by s o)) (legs_of_unit day p u))
      (λ u known is_type. held_counts (home_of day u) 0 (legs_of_unit day p u) s o (unit_in_turn p p_runs u known).0)
      ∙ over_add (λ u. tally (home_of day u == s && nat_le 0 o)) (λ u. over (of_leg (in_by s o)) (legs_of_unit day p u)) units

  held_same : (s o : ℕ) → held_of other s o ≡ held_of plan s o
  held_same s o = omega (arith, held_sum other naming.runs s o, held_sum plan runs s o, agree (out_by s o), agree (in_by s o))

  pub held_is : (s k : ℕ) → held_of plan s (over_at all s k) ≡ held all s k
  unfolding held
  held_is s k =
      sym (over-map (λ (unit : UnitLegs). tally (is_held unit s (over_at all s k))) (unit_legs day plan) units)
      ∙ counted_over (λ (unit : UnitLegs). is_held unit s (over_at all s k)) all.units

  -- as many units wait at the end of the cut
  pub waiting_same : over (λ u. waiting all cut rises (home_of day u) 0 (its_legs u)) units ≡ held_out all cut
  waiting_same =
      over_sum_below (λ s u. sum_below (λ k. wait_at all cut rises (home_of day u) 0 (its_legs u) s k) (moment_count all s - 1)) all.stations units
      ∙ sum_same _ (held_out_at all cut) all.stations (λ s below.
      over_sum_below (λ k u. wait_at all cut rises (home_of day u) 0 (its_legs u) s k) (moment_count all s - 1) units
      ∙ sum_same _ (λ k. if is_left cut s k then held all s k else 0) (moment_count all s - 1) (λ k lt.
      when_over (is_left cut s k) (λ u. tally (is_held_from (home_of day u) 0 (its_legs u) s (over_at all s k))) units
      ∙ ap (λ (n : ℕ). if is_left cut s k then n else 0) (held_same s (over_at all s k) ∙ held_is s k)))
    where
      when_over : (b : Bool) (f : ℕ → ℕ) (us : List ℕ) → over (λ u. if b then f u else 0) us ≡ (if b then over f us else 0)
      when_over true f us = refl
      when_over false f [] = refl
      when_over false f (u ∷ us) = omega (arith, when_over false f us)

  pub cut_bounds : (value : ℕ) → value_of day all wish cut ≡ Some value → brought day wish other ≤ value
  unfolding value_of cut_value brought
  cut_bounds value is = elim (cases_Bool (is_in cut wish.depot (moment_count all wish.depot - 1))) [
    | inl in_it ↦ absurd (none_some (sym (cond-true {A = Option ℕ} (is_in cut wish.depot (moment_count all wish.depot - 1)) None (Some (cut_value day all wish cut)) in_it) ∙ is))
    | inr out ↦
        let worth : cut_value day all wish cut ≡ value = some_same (sym (cond-false {A = Option ℕ} (is_in cut wish.depot (moment_count all wish.depot - 1)) None (Some (cut_value day all wish cut)) out) ∙ is) in
        let counted = counted_over (λ u. last_place day other u == wish.depot) wish.units in
        let outside = counted_over (λ u. not (is_in cut (home_of day u) 0)) wish.units in
        let each = over_le (λ u. tally (last_place day other u == wish.depot)) (λ u. tally (not (is_in cut (home_of day u) 0)) + adds u) wish.units
        (λ k d below.
        let u = get_or wish.units k d in
        let there = wish_has wish.units k d below in
        brought_crosses out u (is_wish.known u (le-leb 1 (count_of u wish.units) there)) (is_wish.types u (le-leb 1 (count_of u wish.units) there))) in
        let parts = over_add (λ u. tally (not (is_in cut (home_of day u) 0))) adds wish.units in
        let all_of = some_of_all adds (λ u. type_of day u == m) wish.units (unit_count day) is_wish.distinct (λ u c. is_wish.known u (le-leb 1 (count_of u wish.units) c))
        (λ u c. eq-eqb (type_of day u) m (is_wish.types u (le-leb 1 (count_of u wish.units) c))) in
        let halves = over_add (λ u. leaving all cut rises (its_legs u)) (λ u. waiting all cut rises (home_of day u) 0 (its_legs u)) units in
        omega (arith, counted, outside, each, parts, all_of, halves, leaving_same, waiting_same, worth)
  ]
    where
      none_some : {n : ℕ} → None ≡ Some n → ⊥
      none_some e = absurd cc

      some_same : {n k : ℕ} → Some n ≡ Some k → n ≡ k
      some_same e = cc

      wish_has : (us : List ℕ) (k d : ℕ) → k < length us → 1 ≤ count_of (get_or us k d) us
      wish_has [] k d below = absurd (omega (arith, below))
      wish_has (x ∷ xs) zero d below = (let here = one_same x x refl in omega (arith, here))
      wish_has (x ∷ xs) (suc k) d below = (let later : 1 ≤ count_of (get_or xs k d) xs = wish_has xs k d (omega (arith, below)) in omega (arith, later))

pub cuts_bound_namings : CutsBoundNamings
cuts_bound_namings day plan other wish cut value is_day links meet is_wish runs naming is =
    cut_bounds day plan other wish cut is_day links meet is_wish runs naming value is
