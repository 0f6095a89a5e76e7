-- Where units are after some were put to a place.
use Rattle.std.proofs.Common.{◌≡◌, ◌≢◌, ℕ, ◌+◌, ◌<◌, List, [], ◌∷◌, ◌++◌, length, get_or, set, take, Bool, true}
use Rattle.std.proofs.Common.{false, cond, refl, sym, ap, ◌∙◌, subst, arith, ⊎_elim}
use Rattle.std.specs.Prelude.{slice_set}
use Rattle.std.proofs.lemmas.Bool.{cases_eq}
use Rattle.std.proofs.lemmas.Option.{unwrap_or-slice_get}
use Rattle.std.proofs.lemmas.List.{take_more, length-set, get_or-set_same, get_or-set_other}
use Rattle.timetable.specs.Lists.{has}
use Rattle.timetable.proofs.ListedUnits.{has_first, has_later}
use Rattle.day_simulator.specs.declared.events.UnitLocation.{UnitLocation}
use Rattle.day_simulator.specs.declared.events.UnitLocation.TheVariants.{Yard}
use Rattle.day_simulator.specs.State.{location_of, put_all}

-- as many places as before
pub length-put_all : (ps : List UnitLocation) (us : List ℕ) (p : UnitLocation) → length (put_all ps us p) ≡ length ps
length-put_all ps [] p = refl
length-put_all ps (u ∷ us) p = length-put_all (set ps u p) us p ∙ length-set ps u p

pub put_all-append : (ps : List UnitLocation) (us vs : List ℕ) (p : UnitLocation) → put_all ps (us ++ vs) p ≡ put_all (put_all ps us p) vs p
put_all-append ps [] vs p = refl
put_all-append ps (u ∷ us) vs p = put_all-append (set ps u p) us vs p

-- one more unit is put to the place
pub put_all-more : (ps : List UnitLocation) (us : List ℕ) (k u : ℕ) (p : UnitLocation) → k < length us → u ≡ get_or us k u
    → slice_set (put_all ps (take k us) p) u p ≡ put_all ps (take (k + 1) us) p
put_all-more ps us k u p h e =
    let there : take (k + 1) us ≡ take k us ++ u ∷ [] = rw (take_more us k u h, ← e) refl in
    rw there (sym (put_all-append ps (take k us) (u ∷ []) p))

pub location_of-get_or : (ps : List UnitLocation) (u : ℕ) → location_of ps u ≡ get_or ps u (Yard 0 0)
unfolding location_of
location_of-get_or ps u = unwrap_or-slice_get ps u (Yard 0 0)

-- where a unit is after one was put to a place
pub location_of-set_same : (ps : List UnitLocation) (u : ℕ) (p : UnitLocation) → u < length ps → location_of (set ps u p) u ≡ p
location_of-set_same ps u p h = location_of-get_or (set ps u p) u ∙ get_or-set_same ps u p (Yard 0 0) h

pub location_of-set_other : (ps : List UnitLocation) (v u : ℕ) (p : UnitLocation) → u ≢ v → location_of (set ps v p) u ≡ location_of ps u
location_of-set_other ps v u p h = location_of-get_or (set ps v p) u ∙ get_or-set_other ps v u p (Yard 0 0) h ∙ sym (location_of-get_or ps u)

cond_same : {X : Type 0} (b : Bool) (x : X) → cond b x x ≡ x
cond_same true x = refl
cond_same false x = refl

-- where a unit is after these were put to a place
pub location_of-put_all : (ps : List UnitLocation) (us : List ℕ) (p : UnitLocation) (u : ℕ) → u < length ps
    → location_of (put_all ps us p) u ≡ cond (has u us) p (location_of ps u)
location_of-put_all ps [] p u h = refl
location_of-put_all ps (v ∷ us) p u h =
    location_of-put_all (set ps v p) us p u (omega (arith, length-set ps v p))
    ∙ ⊎_elim here there (cases_eq v u)
  where
    here : v ≡ u → cond (has u us) p (location_of (set ps v p) u) ≡ cond (has u (v ∷ us)) p (location_of ps u)
    here e =
        let put : location_of (set ps v p) u ≡ p = subst (λ (w : ℕ). location_of (set ps w p) u ≡ p) (sym e) (location_of-set_same ps u p h) in
        ap (λ (q : UnitLocation). cond (has u us) p q) put ∙ cond_same (has u us) p ∙ sym (ap (λ (b : Bool). cond b p (location_of ps u)) (has_first v u us e))

    there : v ≢ u → cond (has u us) p (location_of (set ps v p) u) ≡ cond (has u (v ∷ us)) p (location_of ps u)
    there ne =
        ap (λ (q : UnitLocation). cond (has u us) p q) (location_of-set_other ps v u p (λ e. ne (sym e)))
        ∙ ap (λ (b : Bool). cond b p (location_of ps u)) (sym (has_later v u us ne))
