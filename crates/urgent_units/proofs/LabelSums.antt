-- What the legs of all units of a type come to is read off the labels, and so is one for all plans that run with the
-- same types.
use Rattle.std.proofs.Common.{◌≡◌, ℕ, zero, suc, ◌<◌, Bool, true, false, List, [], ◌∷◌, length, map, refl, sym, ap, ◌∙◌, subst, arith}
use Rattle.std.specs.Prelude.{if◌then◌else◌, ◌==◌, filter}
use Rattle.std.proofs.lemmas.Bool.{cond-true, cond-false, le-leb}
use Rattle.std.proofs.lemmas.List.{length-map}
use Rattle.std.proofs.lemmas.List.Elements.{filter-append}
use Rattle.timetable.specs.Accepted.{IsDay, AreLinks}
use Rattle.timetable.specs.Day.{Day, leaves, arrives, type_of, types_of, unit_count}
use Rattle.timetable.specs.Duties.{duty}
use Rattle.timetable.specs.Links.{list_of, given}
use Rattle.timetable.specs.Lists.{count_of, has, below, sum_below}
use Rattle.timetable.specs.Running.{Runs}
use Rattle.timetable.proofs.ListedUnits.{list_of-types}
use Rattle.timetable.proofs.Sums.{sum_same, sum_swap, sum_zero}
use Rattle.inventory.specs.Places.{given_places, kept_places, taken_places, coming}
use Rattle.inventory.proofs.Linked.{LeadsInto, leads_into, coming_same, given_places-map, given_is}
use Rattle.inventory.proofs.OnDuty.{once, given_less}
use Rattle.inventory.proofs.Yards.{list_sum_below}
use Rattle.urgent_units.specs.Legs.{stays}
use Rattle.urgent_units.specs.Runs.{runs_of}
use Rattle.urgent_units.proofs.Begun.{of_runs}
use Rattle.urgent_units.proofs.Labels.{labels, label, first_label, of_label, began, given_sum, unit_legs_sum, labels_come, labels_taken, places_same, holds, types_are, list_sum_is}
use Rattle.urgent_units.proofs.ListSums.{over, over-append, over-map}

-- ---- sums over the units of a type

-- over the numbers below a bound that pass a test
pub over-filter : (f : ℕ → ℕ) (p : ℕ → Bool) (n : ℕ) → over f (filter p (below n)) ≡ sum_below (λ u. if p u then f u else 0) n
over-filter f p zero = refl
over-filter f p (suc n) =
    ap (over f) (filter-append p (below n) (n ∷ [])) ∙ over-append f (filter p (below n)) (filter p (n ∷ []))
    ∙ omega (arith, over-filter f p n, one (p n) refl)
  where
    one : (b : Bool) → p n ≡ b → over f (filter p (n ∷ [])) ≡ (if p n then f n else 0)
    one true is = ap (over f) (cond-true (p n) (n ∷ []) [] is) ∙ omega (arith, cond-true {A = ℕ} (p n) (f n) 0 is)
    one false is = ap (over f) (cond-false (p n) (n ∷ []) [] is) ∙ sym (cond-false {A = ℕ} (p n) (f n) 0 is)

-- what g gives of the first and the last trip of each leg of the units of a type
abbrev pub legs_sum : Day → List (List ℕ) → ℕ → (ℕ → ℕ → ℕ) → ℕ
legs_sum day plan m g = over (λ u. of_runs g (runs_of (stays day plan u) (duty day plan u))) (filter (λ u. type_of day u == m) (below (unit_count day)))

module _ (day : Day) (plan : List (List ℕ)) (is_day : IsDay day) (links : AreLinks day) (runs : Runs day plan) (m : ℕ) (g : ℕ → ℕ → ℕ) where
  abbrev types : List (List ℕ)
  types = map (types_of day) plan

  when_swap : (a b : Bool) (n : ℕ) → (if a then (if b then n else 0) else 0) ≡ (if b then (if a then n else 0) else 0)
  when_swap true true n = refl
  when_swap true false n = refl
  when_swap false true n = refl
  when_swap false false n = refl

  when_sum : (b : Bool) (f : ℕ → ℕ) (n : ℕ) → (if b then sum_below f n else 0) ≡ sum_below (λ t. if b then f t else 0) n
  when_sum true f n = refl
  when_sum false f n = sym (sum_zero (λ t. 0) n (λ k lt. refl))

  labelled : (t u : ℕ) → (if type_of day u == m then g (began day plan is_day links runs m u t) t else 0) ≡ of_label day plan is_day links runs m g t (label day plan is_day links runs m t u)
  labelled t u = by (type_of day u == m)
    where
      by : (b : Bool) → (if b then g (began day plan is_day links runs m u t) t else 0) ≡ of_label day plan is_day links runs m g t (if b then suc (began day plan is_day links runs m u t) else 0)
      by true = refl
      by false = refl

  -- of the trips, what their given places are labelled with
  pub legs_by_labels : legs_sum day plan m g ≡ sum_below (λ t. over (of_label day plan is_day links runs m g t) (given_places day types t (labels day plan is_day links runs m t))) (length day.trips)
  legs_by_labels =
      over-filter (λ u. of_runs g (runs_of (stays day plan u) (duty day plan u))) (λ u. type_of day u == m) (unit_count day)
      ∙ sum_same (λ u. if type_of day u == m then of_runs g (runs_of (stays day plan u) (duty day plan u)) else 0)
      (λ u. sum_below (λ t. if type_of day u == m then given_sum day plan is_day links runs m g u t else 0) (length day.trips)) (unit_count day)
      (λ u known. ap (λ (n : ℕ). if type_of day u == m then n else 0) (unit_legs_sum day plan is_day links runs m g u known) ∙ when_sum (type_of day u == m) (given_sum day plan is_day links runs m g u) (length day.trips))
      ∙ sum_swap (λ u t. if type_of day u == m then given_sum day plan is_day links runs m g u t else 0) (unit_count day) (length day.trips)
      ∙ sum_same (λ t. sum_below (λ u. if type_of day u == m then given_sum day plan is_day links runs m g u t else 0) (unit_count day))
      (λ t. over (of_label day plan is_day links runs m g t) (given_places day types t (labels day plan is_day links runs m t))) (length day.trips) (λ t in_day. of_trip t)
    where
      of_trip : (t : ℕ) → sum_below (λ u. if type_of day u == m then given_sum day plan is_day links runs m g u t else 0) (unit_count day)
          ≡ over (of_label day plan is_day links runs m g t) (given_places day types t (labels day plan is_day links runs m t))
      of_trip t =
          let us = given day plan t in
          let value : ℕ → ℕ = λ u. of_label day plan is_day links runs m g t (label day plan is_day links runs m t u) in
          sum_same (λ u. if type_of day u == m then given_sum day plan is_day links runs m g u t else 0) (λ u. if has u us then value u else 0) (unit_count day)
          (λ u known. when_swap (type_of day u == m) (has u us) (g (began day plan is_day links runs m u t) t) ∙ ap (λ (n : ℕ). if has u us then n else 0) (labelled t u))
          ∙ sym (list_sum_below value (unit_count day) us
          (λ u there. runs.is_plan.units t u (le-leb 1 (count_of u (list_of plan t)) (let less = given_less day plan is_day links runs t u in omega (arith, less, there))))
          (λ u. (let less = given_less day plan is_day links runs t u in let few = once day plan is_day links runs t u in omega (arith, less, few))))
          ∙ list_sum_is value us
          ∙ sym (over-map (of_label day plan is_day links runs m g t) (label day plan is_day links runs m t) us)
          ∙ ap (over (of_label day plan is_day links runs m g t)) (ap (map (label day plan is_day links runs m t)) (given_is day types links (type_of day) plan (types_are day plan is_day links runs m) (holds day plan is_day links runs m) t)
          ∙ given_places-map day types (label day plan is_day links runs m t) t (list_of plan t))

-- ---- two plans with the same types

module _ (day : Day) (plan other : List (List ℕ)) (is_day : IsDay day) (links : AreLinks day) (runs : Runs day plan) (other_runs : Runs day other)
    (same : map (types_of day) other ≡ map (types_of day) plan) (m : ℕ) (takes_time : (t : ℕ) → t < length day.trips → leaves day t < arrives day t) where
  abbrev both : List (List ℕ)
  both = map (types_of day) plan

  -- trips that leave before a minute have the same labels
  labels_before : (minute t : ℕ) → t < length day.trips → leaves day t < minute → labels day other is_day links other_runs m t ≡ labels day plan is_day links runs m t
  labels_before zero t in_day before = absurd (omega (arith, before))
  labels_before (suc minute) t in_day before =
      let ours = labels day plan is_day links runs m in
      let theirs = labels day other is_day links other_runs m in
      places_same day both t (theirs t) (ours t)
      (length-map (list_of other t) (label day other is_day links other_runs m t) ∙ long t ∙ sym (length-map (list_of plan t) (label day plan is_day links runs m t)))
      (subst (λ (ts : List (List ℕ)). kept_places day ts t (theirs t) ≡ coming day ts theirs t) same (labels_come day other is_day links other_runs m t in_day)
      ∙ coming_same day both theirs ours t (λ a leads.
      let into : LeadsInto day a t = leads_into day both links a t leads in
      labels_before minute a into.from (omega (arith, into.in_time, takes_time a into.from, before)))
      ∙ sym (labels_come day plan is_day links runs m t in_day))
      (subst (λ (ts : List (List ℕ)). taken_places day ts t (theirs t) ≡ map (first_label day plan is_day links runs m t) (taken_places day ts t (list_of ts t))) same (labels_taken day other is_day links other_runs m t in_day)
      ∙ sym (labels_taken day plan is_day links runs m t in_day))
    where
      long : (t : ℕ) → length (list_of other t) ≡ length (list_of plan t)
      long t = sym (length-map (list_of other t) (type_of day)) ∙ ap (length {A = ℕ}) (sym (list_of-types day other t) ∙ ap (λ (ts : List (List ℕ)). list_of ts t) same ∙ list_of-types day plan t)
          ∙ length-map (list_of plan t) (type_of day)

  pub legs_agree : (g : ℕ → ℕ → ℕ) → legs_sum day other m g ≡ legs_sum day plan m g
  legs_agree g =
      legs_by_labels day other is_day links other_runs m g
      ∙ sum_same _ _ (length day.trips) (λ t in_day.
      ap (over (of_label day plan is_day links runs m g t))
      (ap (λ (ts : List (List ℕ)). given_places day ts t (labels day other is_day links other_runs m t)) same
      ∙ ap (given_places day both t) (labels_before (suc (leaves day t)) t in_day (omega arith))))
      ∙ sym (legs_by_labels day plan is_day links runs m g)
