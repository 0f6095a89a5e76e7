-- What a composition is without one unit, by places.
use Rattle.std.proofs.Common.{◌≡◌, ℕ, zero, suc, ◌+◌, ◌-◌, ◌<◌, ◌≤◌, List, [], ◌∷◌, ◌++◌, length, take, drop, get_or, Some, Option}
use Rattle.std.proofs.Common.{refl, sym, ap, ◌∙◌, subst, arith, inl, inr, Contains, slice_get, unwrap_or, Bool, false}
use Rattle.std.proofs.lemmas.Bool.{cases_eq}
use Rattle.std.proofs.lemmas.List.{get_or_append_left, take-append-drop}
use Rattle.std.proofs.lemmas.Option.{slice_get_within}
use Rattle.std.proofs.Math.Seq.{get_or-append_seam}
use Rattle.rules.specs.declared.records.End.{End}
use Rattle.rules.specs.declared.records.End.TheVariants as at
use Rattle.timetable.specs.Compositions.{compositions_of, composition_at}
use Rattle.timetable.specs.Day.{Day}
use Rattle.timetable.specs.Links.{turned}
use Rattle.price_bound.specs.CompositionTrees.{AreEach, IsOneLess, IsRest, IsTurnedPlace, IsUnitMore, place_at}
use Rattle.price_bound.proofs.CompositionTrees.{number_past, part_there}

-- ---- lists of places

pub each_more : (Is : ℕ → ℕ → Type 0) (n : ℕ) (places : List ℕ) (one : ℕ) (new : List ℕ) → new ≡ places ++ one ∷ [] → AreEach Is n places → Is n one
    → AreEach Is (n + 1) new
each_more Is n places one new is done here = subst (AreEach Is (n + 1)) (sym is) (record {
  long = longer places ∙ ap (λ (k : ℕ). k + 1) done.long;
  each = λ k under. elim (cases_eq k n) [
    | inl same ↦
        let last : one ≡ place_at (places ++ one ∷ []) k =
        sym (get_or-append_seam places one [] 0) ∙ ap (λ (j : ℕ). get_or (places ++ one ∷ []) j 0) (done.long ∙ sym same) in
        subst (λ (place : ℕ). Is k place) last (subst (λ (j : ℕ). Is j one) (sym same) here)
    | inr differ ↦
        let before : k < n = omega (arith, under, differ) in
        subst (λ (place : ℕ). Is k place) (sym (get_or_append_left places (one ∷ []) 0 k (omega (arith, before, done.long)))) (done.each k before)
  ];
})
  where
    longer : (xs : List ℕ) → length (xs ++ one ∷ []) ≡ length xs + 1
    longer [] = refl
    longer (x ∷ xs) = omega (arith, longer xs)

-- ---- without one unit

one_of : (xs : List ℕ) → length xs ≡ 1 → (x : ℕ) × (xs ≡ x ∷ [])
one_of [] long = absurd (omega (arith, long))
one_of (x ∷ []) long = (x, refl)
one_of (x ∷ y ∷ xs) long = absurd (omega (arith, long))

pub one_less_rear : (ms : List ℕ) (n : ℕ) → n ≡ length ms → 1 ≤ n → IsOneLess at.Rear ms (take (n - 1) ms)
one_less_rear ms n long some =
    let (x, is) = one_of (drop (n - 1) ms) (rest_long ms (n - 1) (omega (arith, long, some))) in
    record { unit = x; is = sym (take-append-drop (n - 1) ms) ∙ ap (λ (xs : List ℕ). take (n - 1) ms ++ xs) is }
  where
    rest_long : (xs : List ℕ) (k : ℕ) → length xs ≡ suc k → length (drop k xs) ≡ 1
    rest_long [] k e = absurd (omega (arith, e))
    rest_long (x ∷ xs) zero e = e
    rest_long (x ∷ xs) (suc k) e = rest_long xs k (omega (arith, e))

pub one_less_front : (ms : List ℕ) (n : ℕ) → n ≡ length ms → 1 ≤ n → IsOneLess at.Front ms (drop (length ms - (n - 1)) ms)
one_less_front [] n long some = absurd (omega (arith, long, some))
one_less_front (x ∷ ms) n long some =
    let one : length (x ∷ ms) - (n - 1) ≡ 1 = omega (arith, long, some) in
    record { unit = x; is = ap (λ (xs : List ℕ). x ∷ xs) (sym (ap (λ (k : ℕ). drop k (x ∷ ms)) one)) }

pub one_less_all : (end : End) (ms : List ℕ) → length ms < 2 → 1 ≤ length ms → IsOneLess end ms []
one_less_all end ms few some = let (x, is) = one_of ms (omega (arith, few, some)) in by end x is
  where
    by : (e : End) (x : ℕ) → ms ≡ x ∷ [] → IsOneLess e ms []
    by at.None x is = record { unit = x; is = refl }
    by at.Rear x is = record { unit = x; is = is }
    by at.Front x is = record { unit = x; is = is }

pub less_there : (day : Day) (end : End) (comp : ℕ) (ms less : List ℕ) → comp < length (compositions_of day) → composition_at day comp ≡ ms
    → IsOneLess end ms less → 1 ≤ length less → Contains (compositions_of day) less
less_there day end comp ms less listed is of some = by end (subst (λ (xs : List ℕ). IsUnitMore end xs less of.unit) (sym is) of.is)
  where
    by : (e : End) → IsUnitMore e (composition_at day comp) less of.unit → Contains (compositions_of day) less
    by at.None none = absurd (omega (arith, some, ap length none))
    by at.Rear more = part_there day at.Rear comp less (of.unit ∷ []) listed some more
    by at.Front more = part_there day at.Front comp less (of.unit ∷ []) listed some more

pub number_is : (day : Day) (comp : ℕ) (ms : List ℕ) → slice_get (compositions_of day) comp ≡ Some ms → composition_at day comp ≡ ms
number_is day comp ms at = ap (λ (o : Option (List ℕ)). unwrap_or o []) at

pub rest_at : (day : Day) (end : End) (comp place : ℕ) (ms less : List ℕ) → composition_at day comp ≡ ms → IsOneLess end ms less
    → slice_get (compositions_of day) place ≡ Some less → IsRest day end comp place
rest_at day end comp place ms less is of there =
    let below : place < length (compositions_of day) = slice_get_within (compositions_of day) place less there in
    record {
      within = omega (arith, below);
      unit = of.unit;
      is = subst (λ (xs : List ℕ). IsUnitMore end (composition_at day comp) xs of.unit) (sym (number_is day place less there))
          (subst (λ (xs : List ℕ). IsUnitMore end xs less of.unit) (sym is) of.is);
    }

pub rest_root : (day : Day) (end : End) (comp place : ℕ) (ms : List ℕ) → composition_at day comp ≡ ms → IsOneLess end ms []
    → place ≡ length (compositions_of day) → IsRest day end comp place
rest_root day end comp place ms is of root = record {
  within = omega (arith, root);
  unit = of.unit;
  is = subst (λ (xs : List ℕ). IsUnitMore end (composition_at day comp) xs of.unit) (sym (number_past day place (omega (arith, root))))
      (subst (λ (xs : List ℕ). IsUnitMore end xs [] of.unit) (sym is) of.is);
}

-- ---- after a reversal

pub place_there : (day : Day) (r : Bool) (comp place : ℕ) (ms : List ℕ) → turned r (composition_at day comp) ≡ ms
    → slice_get (compositions_of day) place ≡ Some ms → IsTurnedPlace day r comp place
place_there day r comp place ms is there = record {
  listed = slice_get_within (compositions_of day) place ms there;
  is = number_is day place ms there ∙ sym is;
}

pub place_same : (day : Day) (comp place : ℕ) → comp < length (compositions_of day) → place ≡ comp → IsTurnedPlace day false comp place
place_same day comp place listed same = record { listed = omega (arith, listed, same); is = ap (composition_at day) same }
