-- The first unit that is missing, found in a loop over the units.
use Rattle.std.proofs.Common.{◌≡◌, ℕ, ◌+◌, ◌<◌, List, ◌∷◌, length, get_or, set, take, drop, Option, Some, unwrap_or}
use Rattle.std.proofs.Common.{slice_get, Bool, true, false, cond, sym, ap, ◌∙◌}
use Rattle.std.proofs.lemmas.List.{drop_more, get_or_read}
use Rattle.timetable.specs.Day.{Day, leaves, from_of}
use Rattle.timetable.specs.Lists.{has}
use Rattle.day_simulator.specs.declared.events.UnitLocation.{UnitLocation}
use Rattle.day_simulator.specs.declared.events.UnitLocation.TheVariants.{Aboard, Yard}
use Rattle.std.proofs.lemmas.Option.{unwrap_or-slice_get}
use Rattle.day_simulator.specs.declared.events.Stage.{Stage}
use Rattle.day_simulator.specs.declared.events.Stage.TheVariants as stage
use Rattle.day_simulator.specs.State.{stage_of, location_of, put_all, is_ready}
use Rattle.day_simulator.specs.Steps.{first_missing}
use Rattle.day_simulator.proofs.PutPlaces.{location_of-put_all, location_of-get_or, put_all-more}

-- the place that a loop reads
pub place_read : (ps : List UnitLocation) (u i : ℕ) (p : UnitLocation) → i ≡ u → i < length ps → p ≡ get_or ps i p → location_of ps u ≡ p
place_read ps u i p same h e = ap (λ (k : ℕ). location_of ps k) (sym same) ∙ location_of-get_or ps i ∙ sym (get_or_read ps i p h e (Yard 0 0))

-- the stage that is read
pub stage_read : (stages : List Stage) (t i : ℕ) (s : Stage) → i ≡ t → i < length stages → s ≡ get_or stages i s → stage_of stages t ≡ s
unfolding stage_of
stage_read stages t i s same h e =
    ap (λ (k : ℕ). unwrap_or (slice_get stages k) stage.Arrived) (sym same) ∙ unwrap_or-slice_get stages i stage.Arrived ∙ sym (get_or_read stages i s h e stage.Arrived)

-- the test of the loop is the test at the trip's station and minute
pub same_test : (s station m minute : ℕ) (p q : UnitLocation) → s ≡ station → m ≡ minute → p ≡ q → is_ready station minute p ≡ is_ready s m q
same_test s station m minute p q e f g = cc

module _ (day : Day) (t : ℕ) (ps : List UnitLocation) (us : List ℕ) (k u : ℕ) (below : k < length us) (is_u : u ≡ get_or us k u) (found : Option ℕ)
    (so_far : first_missing day t (put_all ps (take k us) (Aboard t)) (drop k us) ≡ found) where
  one_step : first_missing day t (put_all ps (take k us) (Aboard t)) (u ∷ drop (k + 1) us) ≡ found
  one_step = ap (first_missing day t (put_all ps (take k us) (Aboard t))) (sym (drop_more us k u below ∙ ap (λ (v : ℕ). v ∷ drop (k + 1) us) (sym is_u))) ∙ so_far

  by_test : (b : Bool) → is_ready (from_of day t) (leaves day t) (location_of (put_all ps (take k us) (Aboard t)) u) ≡ b
      → cond b (first_missing day t (set (put_all ps (take k us) (Aboard t)) u (Aboard t)) (drop (k + 1) us)) (Some u) ≡ found
  by_test b e = ap (λ (c : Bool). cond c (first_missing day t (set (put_all ps (take k us) (Aboard t)) u (Aboard t)) (drop (k + 1) us)) (Some u)) (sym e) ∙ one_step

  -- a unit that was taken before is missing
  pub missing_taken : u < length ps → has u (take k us) ≡ true → Some u ≡ found
  missing_taken inside h = by_test false
      (ap (is_ready (from_of day t) (leaves day t)) (location_of-put_all ps (take k us) (Aboard t) u inside ∙ ap (λ (b : Bool). cond b (Aboard t) (location_of ps u)) h))

  ready_is : u < length ps → has u (take k us) ≡ false → is_ready (from_of day t) (leaves day t) (location_of (put_all ps (take k us) (Aboard t)) u) ≡ is_ready (from_of day t) (leaves day t) (location_of ps u)
  ready_is inside h = ap (is_ready (from_of day t) (leaves day t)) (location_of-put_all ps (take k us) (Aboard t) u inside ∙ ap (λ (b : Bool). cond b (Aboard t) (location_of ps u)) h)

  -- a unit that is not ready is missing
  pub missing_unready : u < length ps → has u (take k us) ≡ false → is_ready (from_of day t) (leaves day t) (location_of ps u) ≡ false → Some u ≡ found
  missing_unready inside h e = by_test false (ready_is inside h ∙ e)

  -- past a unit that is ready the search goes on
  pub missing_later : u < length ps → has u (take k us) ≡ false → is_ready (from_of day t) (leaves day t) (location_of ps u) ≡ true
      → first_missing day t (put_all ps (take (k + 1) us) (Aboard t)) (drop (k + 1) us) ≡ found
  missing_later inside h e =
      ap (λ (qs : List UnitLocation). first_missing day t qs (drop (k + 1) us)) (sym (put_all-more ps us k u (Aboard t) below is_u)) ∙ by_test true (ready_is inside h ∙ e)
