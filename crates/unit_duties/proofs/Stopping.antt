-- Stops that are added to duties.
use Rattle.std.proofs.Common.{◌≡◌, ◌≢◌, ℕ, zero, suc, ◌+◌, ◌<◌, ◌≤◌, List, [], ◌∷◌, ◌++◌, length, get_or, set, map}
use Rattle.std.proofs.Common.{filter, Bool, true, false, cond, not, refl, sym, ap, ◌∙◌, subst, arith, append-nil, ◌-◌}
use Rattle.std.proofs.Common.{⊎_elim, eq-eqb, ne_eqb}
use Rattle.std.specs.Prelude.{◌==◌}
use Rattle.std.proofs.lemmas.Bool.{cases_eq, cases_lt, cases_Bool, false≢true}
use Rattle.std.proofs.lemmas.List.{length-set, get_or-set_same, get_or-set_other, get_or_append_left}
use Rattle.std.proofs.lemmas.List.{get_or-append_right, ext_get_or, length-map, map-append}
use Rattle.std.proofs.lemmas.Option.{unwrap_or-slice_get}
use Rattle.timetable.specs.Day.{Day, unit_count}
use Rattle.timetable.specs.Duties.{duty, in_order}
use Rattle.timetable.specs.Links.{list_of}
use Rattle.timetable.specs.Lists.{has, below}
use Rattle.timetable.proofs.ListedUnits.{has_first, has_later}
use Rattle.inventory.proofs.Named.{length-below}
use Rattle.inventory.proofs.Order.{filter_in_order}
use Rattle.unit_duties.specs.declared.stops.Stop.{Stop}
use Rattle.unit_duties.specs.Stops.{first_place, stop_on, stops_of, duties_of}
use Rattle.unit_duties.specs.AddedStops.{stops_at, stop_of}

-- ---- one list of units, one unit more

-- the first place of a unit is that among the first units, where it is there
first_place-more : (u v : ℕ) (us : List ℕ) → has u us ≡ true → first_place u (us ++ v ∷ []) ≡ first_place u us
first_place-more u v [] h = absurd (false≢true h)
first_place-more u v (x ∷ us) h = ⊎_elim here (there (λ k. first_place-more u v us k)) (cases_eq x u)
  where
    here : x ≡ u → first_place u (x ∷ us ++ v ∷ []) ≡ first_place u (x ∷ us)
    here e = let is = eq-eqb x u e in ap (λ (b : Bool). cond (not b) (1 + first_place u (us ++ v ∷ [])) 0) is ∙ sym (ap (λ (b : Bool). cond (not b) (1 + first_place u us) 0) is)

    there : (has u us ≡ true → first_place u (us ++ v ∷ []) ≡ first_place u us) → x ≢ u → first_place u (x ∷ us ++ v ∷ []) ≡ first_place u (x ∷ us)
    there later ne = ap (λ (n : ℕ). cond (not (x == u)) (1 + n) 0) (later (sym (has_later x u us ne) ∙ h))

-- a unit that isn't there yet comes behind the others
first_place-new : (u : ℕ) (us : List ℕ) → has u us ≡ false → first_place u (us ++ u ∷ []) ≡ length us
first_place-new u [] h = ap (λ (b : Bool). cond (not b) 1 0) (eq-eqb u u refl)
first_place-new u (x ∷ us) h = ⊎_elim here (there (λ k. first_place-new u us k)) (cases_eq x u)
  where
    here : x ≡ u → first_place u (x ∷ us ++ u ∷ []) ≡ length (x ∷ us)
    here e = absurd (false≢true (sym h ∙ has_first x u us e))

    there : (has u us ≡ false → first_place u (us ++ u ∷ []) ≡ length us) → x ≢ u → first_place u (x ∷ us ++ u ∷ []) ≡ length (x ∷ us)
    there later ne =
        ap (λ (b : Bool). cond (not b) (1 + first_place u (us ++ u ∷ [])) 0) (ne_eqb x u ne) ∙ (let ih : first_place u (us ++ u ∷ []) ≡ length us = later (sym (has_later x u us ne) ∙ h) in omega arith)

has-more : (u v : ℕ) (us : List ℕ) → has u us ≡ true → has u (us ++ v ∷ []) ≡ true
has-more u v [] h = absurd (false≢true h)
has-more u v (x ∷ us) h = ⊎_elim (λ (e : x ≡ u). has_first x u (us ++ v ∷ []) e) (λ (ne : x ≢ u). has_later x u (us ++ v ∷ []) ne ∙ has-more u v us (sym (has_later x u us ne) ∙ h)) (cases_eq x u)

has-new : (u : ℕ) (us : List ℕ) → has u (us ++ u ∷ []) ≡ true
has-new u [] = has_first u u [] refl
has-new u (x ∷ us) = ⊎_elim (λ (e : x ≡ u). has_first x u (us ++ u ∷ []) e) (λ (ne : x ≢ u). has_later x u (us ++ u ∷ []) ne ∙ has-new u us) (cases_eq x u)

has-other : (u v : ℕ) (us : List ℕ) → v ≢ u → has u (us ++ v ∷ []) ≡ has u us
has-other u v [] ne = has_later v u [] ne
has-other u v (x ∷ us) ne = ⊎_elim
    (λ (e : x ≡ u). has_first x u (us ++ v ∷ []) e ∙ sym (has_first x u us e))
    (λ (o : x ≢ u). has_later x u (us ++ v ∷ []) o ∙ has-other u v us ne ∙ sym (has_later x u us o)) (cases_eq x u)

-- the stops of a unit that was there
pub stop_of-there : (t u v : ℕ) (us : List ℕ) → has u us ≡ true → stop_of t u (us ++ v ∷ []) ≡ stop_of t u us
stop_of-there t u v us h =
    ap (λ (b : Bool). cond b (record { trip = t; position = first_place u (us ++ v ∷ []) } ∷ []) []) (has-more u v us h)
    ∙ ap (λ (n : ℕ). record { trip = t; position = n } ∷ []) (first_place-more u v us h)
    ∙ sym (ap (λ (b : Bool). cond b (record { trip = t; position = first_place u us } ∷ []) []) h)

-- of a unit that is another one than the one more
pub stop_of-other : (t u v : ℕ) (us : List ℕ) → v ≢ u → stop_of t u (us ++ v ∷ []) ≡ stop_of t u us
stop_of-other t u v us ne = ⊎_elim
    (λ (h : has u us ≡ true). stop_of-there t u v us h)
    (λ (h : has u us ≡ false).
    ap (λ (b : Bool). cond b (record { trip = t; position = first_place u (us ++ v ∷ []) } ∷ []) []) (has-other u v us ne ∙ h)
    ∙ sym (ap (λ (b : Bool). cond b (record { trip = t; position = first_place u us } ∷ []) []) h))
    (cases_Bool (has u us))

-- of the unit that is one more
pub stop_of-new : (t u : ℕ) (us : List ℕ) → has u us ≡ false → stop_of t u (us ++ u ∷ []) ≡ record { trip = t; position = length us } ∷ []
stop_of-new t u us h =
    ap (λ (b : Bool). cond b (record { trip = t; position = first_place u (us ++ u ∷ []) } ∷ []) []) (has-new u us)
    ∙ ap (λ (n : ℕ). record { trip = t; position = n } ∷ []) (first_place-new u us h)

pub stop_of-none : (t u : ℕ) (us : List ℕ) → has u us ≡ false → stop_of t u us ≡ []
stop_of-none t u us h = ap (λ (b : Bool). cond b (record { trip = t; position = first_place u us } ∷ []) []) h

-- ---- the stops of all units

stops_at-get_or : (lists : List (List Stop)) (u : ℕ) → stops_at lists u ≡ get_or lists u []
stops_at-get_or lists u = unwrap_or-slice_get lists u []

pub stops_at-set_same : (lists : List (List Stop)) (u : ℕ) (stops : List Stop) → u < length lists → stops_at (set lists u stops) u ≡ stops
stops_at-set_same lists u stops h = stops_at-get_or (set lists u stops) u ∙ get_or-set_same lists u stops [] h

pub stops_at-set_other : (lists : List (List Stop)) (v u : ℕ) (stops : List Stop) → u ≢ v → stops_at (set lists v stops) u ≡ stops_at lists u
stops_at-set_other lists v u stops ne = stops_at-get_or (set lists v stops) u ∙ get_or-set_other lists v u stops [] ne ∙ sym (stops_at-get_or lists u)

-- a trip was added as far as these units
pub record AddedSoFar (t : ℕ) (us : List ℕ) (before now : List (List Stop)) : Type 0 where
  pub long : length now ≡ length before
  pub each : (u : ℕ) → u < length before → stops_at now u ≡ stops_at before u ++ stop_of t u us

-- one more unit, which is there already
pub added_there : (t v : ℕ) (us : List ℕ) (before now : List (List Stop)) → has v us ≡ true → AddedSoFar t us before now → AddedSoFar t (us ++ v ∷ []) before now
added_there t v us before now h so_far = record {
  long = so_far.long;
  each = λ u lt. so_far.each u lt ∙ ap (λ (l : List Stop). stops_at before u ++ l) (sym (⊎_elim
      (λ (e : v ≡ u). stop_of-there t u v us (ap (λ (w : ℕ). has w us) (sym e) ∙ h)) (λ (ne : v ≢ u). stop_of-other t u v us ne) (cases_eq v u)));
}

-- the stops with one more unit, which stands behind these
abbrev with_new : ℕ → ℕ → List ℕ → List (List Stop) → List (List Stop)
with_new t v us lists = set lists v (stops_at lists v ++ record { trip = t; position = length us } ∷ [])

new_here : (t v : ℕ) (us : List ℕ) (before now : List (List Stop)) → has v us ≡ false → v < length before → AddedSoFar t us before now
    → stops_at (with_new t v us now) v ≡ stops_at before v ++ stop_of t v (us ++ v ∷ [])
new_here t v us before now h lt so_far =
    let long = so_far.long in
    let none : stops_at now v ≡ stops_at before v = so_far.each v lt ∙ ap (λ (l : List Stop). stops_at before v ++ l) (stop_of-none t v us h) ∙ append-nil (stops_at before v) in
    stops_at-set_same now v (stops_at now v ++ record { trip = t; position = length us } ∷ []) (omega arith)
    ∙ ap (λ (l : List Stop). l ++ record { trip = t; position = length us } ∷ []) none
    ∙ ap (λ (l : List Stop). stops_at before v ++ l) (sym (stop_of-new t v us h))

new_there : (t v : ℕ) (us : List ℕ) (before now : List (List Stop)) → AddedSoFar t us before now → (u : ℕ) → u < length before → v ≢ u
    → stops_at (with_new t v us now) u ≡ stops_at before u ++ stop_of t u (us ++ v ∷ [])
new_there t v us before now so_far u lt ne =
    stops_at-set_other now v u (stops_at now v ++ record { trip = t; position = length us } ∷ []) (λ e. ne (sym e))
    ∙ so_far.each u lt ∙ ap (λ (l : List Stop). stops_at before u ++ l) (sym (stop_of-other t u v us ne))

-- one more unit, which is new
added_behind : (t v : ℕ) (us : List ℕ) (before now : List (List Stop)) → has v us ≡ false → v < length before → AddedSoFar t us before now
    → AddedSoFar t (us ++ v ∷ []) before (with_new t v us now)
added_behind t v us before now h lt so_far = record {
  long = length-set now v (stops_at now v ++ record { trip = t; position = length us } ∷ []) ∙ so_far.long;
  each = λ u ltu. ⊎_elim
      (λ (e : v ≡ u). subst (λ (w : ℕ). stops_at (with_new t v us now) w ≡ stops_at before w ++ stop_of t w (us ++ v ∷ [])) e (new_here t v us before now h lt so_far))
      (λ (ne : v ≢ u). new_there t v us before now so_far u ltu ne) (cases_eq v u);
}

pub added_new : (t v n : ℕ) (us : List ℕ) (before now : List (List Stop)) → has v us ≡ false → v < length before → n ≡ length us → AddedSoFar t us before now
    → AddedSoFar t (us ++ v ∷ []) before (set now v (stops_at now v ++ record { trip = t; position = n } ∷ []))
added_new t v n us before now h lt e so_far =
    subst (λ (k : ℕ). AddedSoFar t (us ++ v ∷ []) before (set now v (stops_at now v ++ record { trip = t; position = k } ∷ []))) (sym e) (added_behind t v us before now h lt so_far)

-- ---- one trip after another

-- the duties of a plan as far as these trips
pub record StopsSoFar (plan : List (List ℕ)) (units : ℕ) (trips : List ℕ) (lists : List (List Stop)) : Type 0 where
  pub long : length lists ≡ units
  pub each : (u : ℕ) → u < units → stops_at lists u ≡ map (stop_on plan u) (filter (λ t. has u (list_of plan t)) trips)

length-map_below : {X : Type 0} (f : ℕ → List X) (n : ℕ) → length (map f (below n)) ≡ n
length-map_below f n = length-map (below n) f ∙ length-below n

read_below : {X : Type 0} (f : ℕ → List X) (n u : ℕ) → u < n → get_or (map f (below n)) u [] ≡ f u
read_below f zero u lt = absurd (omega arith)
read_below f (suc n) u lt =
    let long = length-map_below f n in
    ap (λ l. get_or l u []) (map-append f (below n) (n ∷ []))
    ∙ ⊎_elim
    (λ (l : u < n). get_or_append_left (map f (below n)) (f n ∷ []) [] u (omega arith) ∙ read_below f n u l)
    (λ (ge : n ≤ u).
    let here : u - n ≡ 0 = omega arith in
    let is : n ≡ u = omega arith in
    get_or-append_right (map f (below n)) (f n ∷ []) n u [] long ge ∙ ap (λ (k : ℕ). get_or (f n ∷ []) k []) here ∙ ap f is)
    (cases_lt u n)

-- lists that are known at each number
pub lists_known : {X : Type 0} (f : ℕ → List X) (n : ℕ) (lists : List (List X)) → length lists ≡ n → ((u : ℕ) → u < n → get_or lists u [] ≡ f u) → lists ≡ map f (below n)
lists_known f n lists long each = ext_get_or [] lists (map f (below n)) (long ∙ sym (length-map_below f n)) (λ u lt. each u (omega arith) ∙ sym (read_below f n u (omega arith)))

-- the duties of a plan, once each trip was added
pub stops_are_duties : (day : Day) (plan : List (List ℕ)) (trips : List ℕ) (lists : List (List Stop)) → trips ≡ in_order day (below (length day.trips))
    → StopsSoFar plan (unit_count day) trips lists → lists ≡ duties_of day plan
unfolding duties_of duty
stops_are_duties day plan trips lists e so_far =
    lists_known (stops_of day plan) (unit_count day) lists so_far.long
    (λ u lt. sym (stops_at-get_or lists u) ∙ so_far.each u lt ∙ ap (λ (ts : List ℕ). map (stop_on plan u) (filter (λ t. has u (list_of plan t)) ts)) e
    ∙ ap (map (stop_on plan u)) (sym (filter_in_order day (λ t. has u (list_of plan t)) (below (length day.trips)))))
