-- Where units are once some of them are put to one place, and the first unit that is missing.
use Rattle.std.proofs.Common.{◌≡◌, ℕ, ◌<◌, ◌≤◌, List, [], ◌∷◌, length, true, false, Some, None, refl, sym, ◌∙◌, subst}
use Rattle.std.proofs.Common.{arith, ◌≢◌, ⊎_elim}
use Rattle.std.specs.Prelude.{slice_set}
use Rattle.std.proofs.lemmas.Option.{unwrap_or-slice_get}
use Rattle.std.proofs.lemmas.List.{get_or-set_same, get_or-set_other, length-set}
use Rattle.std.proofs.lemmas.Bool.{cases_eq, cases_lt, cases_Bool, cond-true, cond-false, false≢true}
use Rattle.timetable.specs.Day.{Day, leaves, from_of}
use Rattle.timetable.specs.Lists.{count_of, IsDistinct}
use Rattle.day_simulator.specs.declared.events.UnitLocation.{UnitLocation}
use Rattle.day_simulator.specs.declared.events.UnitLocation.TheVariants.{Yard, Aboard}
use Rattle.day_simulator.specs.declared.events.Stage.{Stage}
use Rattle.day_simulator.specs.declared.events.Stage.TheVariants as stage
use Rattle.day_simulator.specs.State.{location_of, stage_of, is_ready, put_all}
use Rattle.day_simulator.specs.Steps.{first_missing}
use Rattle.timetable.proofs.Ones.{one_same, one_other}

pub place_same : (locations : List UnitLocation) (u : ℕ) (p : UnitLocation) → u < length locations → location_of (slice_set locations u p) u ≡ p
unfolding location_of
place_same locations u p lt = unwrap_or-slice_get (slice_set locations u p) u (Yard 0 0) ∙ get_or-set_same locations u p (Yard 0 0) lt

pub place_other : (locations : List UnitLocation) (u v : ℕ) (p : UnitLocation) → v ≢ u → location_of (slice_set locations u p) v ≡ location_of locations v
unfolding location_of
place_other locations u v p ne =
    unwrap_or-slice_get (slice_set locations u p) v (Yard 0 0)
    ∙ get_or-set_other locations u v p (Yard 0 0) ne
    ∙ sym (unwrap_or-slice_get locations v (Yard 0 0))

pub stage_same : (stages : List Stage) (t : ℕ) (s : Stage) → t < length stages → stage_of (slice_set stages t s) t ≡ s
unfolding stage_of
stage_same stages t s lt = unwrap_or-slice_get (slice_set stages t s) t stage.Arrived ∙ get_or-set_same stages t s stage.Arrived lt

pub stage_other : (stages : List Stage) (t r : ℕ) (s : Stage) → r ≢ t → stage_of (slice_set stages t s) r ≡ stage_of stages r
unfolding stage_of
stage_other stages t r s ne =
    unwrap_or-slice_get (slice_set stages t s) r stage.Arrived
    ∙ get_or-set_other stages t r s stage.Arrived ne
    ∙ sym (unwrap_or-slice_get stages r stage.Arrived)

-- each of these units has a place
pub record HavePlaces (n : ℕ) (us : List ℕ) : Type 0 where
  pub within : (v : ℕ) → 1 ≤ count_of v us → v < n

pub have_places_tail : (n u : ℕ) (us : List ℕ) → HavePlaces n (u ∷ us) → HavePlaces n us
have_places_tail n u us h = record { within = λ v c. h.within v (omega arith) }

pub has_place_head : (n u : ℕ) (us : List ℕ) → HavePlaces n (u ∷ us) → u < n
has_place_head n u us h = let o = one_same u u refl in h.within u (omega arith)

pub length-put_all : (locations : List UnitLocation) (us : List ℕ) (p : UnitLocation) → length (put_all locations us p) ≡ length locations
length-put_all locations [] p = refl
length-put_all locations (u ∷ us) p = length-put_all (slice_set locations u p) us p ∙ length-set locations u p

-- the other units stay where they are
pub put_out : (locations : List UnitLocation) (us : List ℕ) (p : UnitLocation) (v : ℕ) → count_of v us ≡ 0 → location_of (put_all locations us p) v ≡ location_of locations v
put_out locations [] p v c = refl
put_out locations (u ∷ us) p v c =
    let ne : v ≢ u = λ e. (let o = one_same u v (sym e) in absurd (omega arith)) in
    put_out (slice_set locations u p) us p v (omega arith) ∙ place_other locations u v p ne

-- these units are at the place
pub put_in : (locations : List UnitLocation) (us : List ℕ) (p : UnitLocation) (v : ℕ) → HavePlaces (length locations) us → 1 ≤ count_of v us → location_of (put_all locations us p) v ≡ p
put_in locations [] p v h c = absurd (omega arith)
put_in locations (u ∷ us) p v h c =
    let tail = have_places_tail (length locations) u us h in
    let longer = length-set locations u p in
    ⊎_elim
    (λ (more : 0 < count_of v us). put_in (slice_set locations u p) us p v (subst (λ n. HavePlaces n us) (sym longer) tail) (omega arith))
    (λ (gone : count_of v us ≤ 0).
    let here : u ≡ v = ⊎_elim (λ (e : u ≡ v). e) (λ (ne : u ≢ v). let o = one_other u v ne in absurd (omega arith)) (cases_eq u v) in
    put_out (slice_set locations u p) us p v (omega arith)
    ∙ subst (λ w. location_of (slice_set locations u p) w ≡ p) here (place_same locations u p (has_place_head (length locations) u us h)))
    (cases_lt 0 (count_of v us))

-- all these units are in the yard where the trip takes them, and ready
pub record AllReady (day : Day) (t : ℕ) (locations : List UnitLocation) (us : List ℕ) : Type 0 where
  pub ready : (v : ℕ) → 1 ≤ count_of v us → is_ready (from_of day t) (leaves day t) (location_of locations v) ≡ true

ready_once : (day : Day) (t : ℕ) (locations : List UnitLocation) (u : ℕ) (us : List ℕ) → u < length locations → AllReady day t (slice_set locations u (Aboard t)) us → count_of u us ≡ 0
ready_once day t locations u us lt h =
    ⊎_elim (λ (more : 0 < count_of u us).
    let r = h.ready u (omega arith) in
    let at = place_same locations u (Aboard t) lt in
    let r' : false ≡ true = subst (λ p. is_ready (from_of day t) (leaves day t) p ≡ true) at r in
    absurd (false≢true r'))
    (λ (gone : count_of u us ≤ 0). omega arith) (cases_lt 0 (count_of u us))

pub record Served (day : Day) (t : ℕ) (locations : List UnitLocation) (us : List ℕ) : Type 0 where
  pub distinct : IsDistinct us
  pub ready : AllReady day t locations us

served_more : (day : Day) (t : ℕ) (locations : List UnitLocation) (u : ℕ) (us : List ℕ) → u < length locations → is_ready (from_of day t) (leaves day t) (location_of locations u) ≡ true → Served day t (slice_set locations u (Aboard t)) us → Served day t locations (u ∷ us)
served_more day t locations u us lt is h =
    let gone = ready_once day t locations u us lt h.ready in
    record {
      distinct = λ v. ⊎_elim (λ (e : u ≡ v). let z = subst (λ w. count_of w us ≡ 0) e gone in let o = one_same u v e in omega arith)
          (λ (ne : u ≢ v). let o = one_other u v ne in let d = h.distinct v in omega arith) (cases_eq u v);
      ready = record {
        ready = λ v c. ⊎_elim (λ (e : u ≡ v). subst (λ w. is_ready (from_of day t) (leaves day t) (location_of locations w) ≡ true) e is)
            (λ (ne : u ≢ v). let o = one_other u v ne in
            subst (λ p. is_ready (from_of day t) (leaves day t) p ≡ true) (place_other locations u v (Aboard t) (λ e. ne (sym e))) (h.ready.ready v (omega arith)))
            (cases_eq u v);
      };
    }

served_fewer : (day : Day) (t : ℕ) (locations : List UnitLocation) (u : ℕ) (us : List ℕ) → Served day t locations (u ∷ us) → Served day t (slice_set locations u (Aboard t)) us
served_fewer day t locations u us h =
    let o = one_same u u refl in
    let once = h.distinct u in
    record {
      distinct = λ v. let d = h.distinct v in omega arith;
      ready = record {
        ready = λ v c.
            let ne : v ≢ u = λ e. (let c' = subst (λ w. 1 ≤ count_of w us) e c in absurd (omega arith)) in
            subst (λ p. is_ready (from_of day t) (leaves day t) p ≡ true) (sym (place_other locations u v (Aboard t) ne)) (h.ready.ready v (omega arith));
      };
    }

-- none is missing exactly where none is there twice and all are ready
pub served_from_none : (day : Day) (t : ℕ) (locations : List UnitLocation) (us : List ℕ) → HavePlaces (length locations) us → first_missing day t locations us ≡ None → Served day t locations us
served_from_none day t locations [] h e = record { distinct = λ v. omega arith; ready = record { ready = λ v c. absurd (omega arith) } }
served_from_none day t locations (u ∷ us) h e =
    ⊎_elim
    (λ is. served_more day t locations u us (has_place_head _ u us h) is
    (served_from_none day t (slice_set locations u (Aboard t)) us
    (subst (λ n. HavePlaces n us) (sym (length-set locations u (Aboard t))) (have_places_tail _ u us h))
    (sym (cond-true (is_ready (from_of day t) (leaves day t) (location_of locations u)) (first_missing day t (slice_set locations u (Aboard t)) us) (Some u) is) ∙ e)))
    (λ isnt.
    let some : Some u ≡ None = sym (cond-false (is_ready (from_of day t) (leaves day t) (location_of locations u)) (first_missing day t (slice_set locations u (Aboard t)) us) (Some u) isnt) ∙ e in
    absurd (cc))
    (cases_Bool (is_ready (from_of day t) (leaves day t) (location_of locations u)))

pub none_from_served : (day : Day) (t : ℕ) (locations : List UnitLocation) (us : List ℕ) → Served day t locations us → first_missing day t locations us ≡ None
none_from_served day t locations [] h = refl
none_from_served day t locations (u ∷ us) h =
    let o = one_same u u refl in
    cond-true (is_ready (from_of day t) (leaves day t) (location_of locations u)) (first_missing day t (slice_set locations u (Aboard t)) us) (Some u) (h.ready.ready u (omega arith))
    ∙ none_from_served day t (slice_set locations u (Aboard t)) us (served_fewer day t locations u us h)
