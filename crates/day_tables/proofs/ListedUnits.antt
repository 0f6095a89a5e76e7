-- Units in a list, and their types.
use Rattle.std.proofs.Common.{◌≡◌, ◌≢◌, ℕ, zero, suc, ◌+◌, ◌<◌, ◌≤◌, List, [], ◌∷◌, ◌++◌, length, get_or, take, map}
use Rattle.std.proofs.Common.{Option, Some, None, Bool, true, IsTrue, refl, sym, ap, ◌∙◌, subst, arith, unwrap_or}
use Rattle.std.proofs.Common.{slice_get, leb, eq-eqb, ne_eqb, ⊎_elim}
use Rattle.std.specs.Prelude.{option_map, ◌==◌, ◌||◌}
use Rattle.std.specs.List.{list_any}
use Rattle.std.proofs.lemmas.Bool.Decides.{nat_tests}
use Rattle.std.proofs.lemmas.Bool.{le-leb, cases_eq}
use Rattle.std.proofs.lemmas.List.{take_more, map-append}
use Rattle.rules.specs.declared.records.Unit as unit
use Rattle.day_tables.specs.Links.{list_of}
use Rattle.day_tables.specs.Lists.{count_of, has}
use Rattle.day_tables.specs.Day.{Day, units_of, type_of, types_of, unit_count}
use Rattle.day_tables.specs.Running.{AreUnits}

count_at : (us : List ℕ) (k d : ℕ) → k < length us → 1 ≤ count_of (get_or us k d) us
count_at [] k d h = absurd (omega arith)
count_at (x ∷ us) zero d h = grind (arith, nat_tests)
count_at (x ∷ us) (suc k) d h = omega (arith, count_at us k d (omega arith))

-- a list has what stands at a place of it
pub has_at : (us : List ℕ) (k u : ℕ) → k < length us → u ≡ get_or us k u → IsTrue (has u us)
has_at us k u h e = let one : 1 ≤ count_of u us = subst (λ (v : ℕ). 1 ≤ count_of v us) (sym e) (count_at us k u h) in le-leb 1 (count_of u us) one

-- a unit of a list is a unit of the day
pub unit_at : (day : Day) (us : List ℕ) (k u : ℕ) → AreUnits day us → k < length us → u ≡ get_or us k u → u < unit_count day
unit_at day us k u known h e = known u (has_at us k u h e)

pub has_first : (v u : ℕ) (us : List ℕ) → v ≡ u → has u (v ∷ us) ≡ true
has_first v u us e = let one : 1 ≤ count_of u (v ∷ us) = grind (arith, nat_tests) in le-leb 1 (count_of u (v ∷ us)) one

pub has_later : (v u : ℕ) (us : List ℕ) → v ≢ u → has u (v ∷ us) ≡ has u us
has_later v u us ne = let same : count_of u (v ∷ us) ≡ count_of u us = grind (arith, nat_tests) in ap (λ (n : ℕ). leb 1 n) same

-- the test for a unit among others
pub list_any-has : (us : List ℕ) (u : ℕ) → list_any (λ v. v == u) us ≡ has u us
list_any-has [] u = refl
list_any-has (v ∷ us) u = ⊎_elim here (there (list_any-has us u)) (cases_eq v u)
  where
    here : v ≡ u → (v == u) || list_any (λ v. v == u) us ≡ has u (v ∷ us)
    here e = ap (λ (b : Bool). b || list_any (λ v. v == u) us) (eq-eqb v u e) ∙ sym (has_first v u us e)

    there : list_any (λ v. v == u) us ≡ has u us → v ≢ u → (v == u) || list_any (λ v. v == u) us ≡ has u (v ∷ us)
    there later ne = ap (λ (b : Bool). b || list_any (λ v. v == u) us) (ne_eqb v u ne) ∙ later ∙ sym (has_later v u us ne)

-- the type of a unit that is there
pub type_is : (day : Day) (u : ℕ) (x : unit.Unit) → slice_get (units_of day) u ≡ Some x → type_of day u ≡ x.unit_type
unfolding type_of
type_is day u x e = ap (λ (o : Option unit.Unit). unwrap_or (option_map (λ x. x.unit_type) o) 0) e

-- the types of one more unit
pub types_more : (day : Day) (us : List ℕ) (k u : ℕ) (x : unit.Unit) → k < length us → u ≡ get_or us k u → slice_get (units_of day) u ≡ Some x
    → types_of day (take (k + 1) us) ≡ types_of day (take k us) ++ x.unit_type ∷ []
types_more day us k u x h e s =
    let there : take (k + 1) us ≡ take k us ++ u ∷ [] = rw (take_more us k u h, ← e) refl in
    rw there (map-append (type_of day) (take k us) (u ∷ []) ∙ ap (λ (m : ℕ). map (type_of day) (take k us) ++ m ∷ []) (type_is day u x s))

slice_get-map : {X Y : Type 0} (f : X → Y) (xs : List X) (i : ℕ) → slice_get (map f xs) i ≡ option_map f (slice_get xs i)
slice_get-map f [] i = refl
slice_get-map f (x ∷ xs) zero = refl
slice_get-map f (x ∷ xs) (suc i) = slice_get-map f xs i

-- the types of a trip's list
pub list_of-types : (day : Day) (plan : List (List ℕ)) (t : ℕ) → list_of (map (types_of day) plan) t ≡ types_of day (list_of plan t)
unfolding list_of
list_of-types day plan t = ap (λ (o : Option (List ℕ)). unwrap_or o []) (slice_get-map (types_of day) plan t) ∙ of_option (slice_get plan t)
  where
    of_option : (o : Option (List ℕ)) → unwrap_or (option_map (types_of day) o) [] ≡ types_of day (unwrap_or o [])
    of_option None = refl
    of_option (Some us) = refl
