-- The unit whose next leg leaves first, among all.
use Rattle.std.proofs.Common.{◌≡◌, ℕ, ◌≤◌, ◌<◌, List, [], ◌∷◌, length, get_or, refl, ap, arith, Option, Some, None, MatchOption}
use Rattle.std.specs.Prelude.{slice_get}
use Rattle.urgent_units.specs.declared.swaps.MarkedLeg.{MarkedLeg}
use Rattle.urgent_units.specs.declared.swaps.TheConstants.{NEVER}
use Rattle.urgent_units.specs.UnderWay.{IsFirstToLeave, added, departure_of}
use Rattle.urgent_units.proofs.Added.{added_none}

-- where there is no next leg, there is none
pub none_next : (legs : List MarkedLeg) → slice_get legs 0 ≡ None → legs ≡ []
none_next [] is = refl
none_next (x ∷ legs) is = absurd cc

pub first_found : (aheads : List (List MarkedLeg)) (first : Option ℕ) (departs number : ℕ) → length aheads ≤ number → ((k : ℕ) → k < number → departs ≤ departure_of (get_or aheads k []))
    → MatchOption first ((departs ≡ NEVER) × ((k : ℕ) → k < number → get_or aheads k [] ≡ [])) (λ i. (i < length aheads) × (departure_of (get_or aheads i []) ≡ departs) × (departs < NEVER))
    → MatchOption first ((k : ℕ) → k < length aheads → get_or aheads k [] ≡ []) (λ number. IsFirstToLeave aheads number)
first_found aheads None departs number all least is = λ k below. is.1 k (omega (arith, below, all))
first_found aheads (Some i) departs number all least is = record {
  within = is.0;
  some = (let at = is.1 in let less = is.2 in omega (arith, at, less));
  first = λ k below. (let at = is.1 in let le = least k (omega (arith, below, all)) in omega (arith, at, le));
}

pub none_left : (aheads : List (List MarkedLeg)) → ((k : ℕ) → k < length aheads → get_or aheads k [] ≡ []) → added (λ legs. length legs) aheads ≡ 0
none_left aheads empty = added_none (λ (legs : List MarkedLeg). length legs) aheads [] (λ k below. ap (λ (legs : List MarkedLeg). length legs) (empty k below))
