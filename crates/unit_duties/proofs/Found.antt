-- Where the yards serve, a unit is ready for each place of the next trip.
use Rattle.std.proofs.Common.{◌≡◌, ◌∙◌, ℕ, ◌≤◌, List, [], ◌∷◌, leb, get_or, Option, Some, None, refl, sym, ap, arith}
use Rattle.std.specs.Prelude.{◌==◌}
use Rattle.std.proofs.lemmas.Bool.{false≢true, and_parts, eqb-true, leb-true}
use Rattle.timetable.specs.Day.{Day, type_of, types_of}
use Rattle.timetable.specs.Lists.{count_of}
use Rattle.inventory.specs.NamedUnits.{InYard, may_be_taken, next_unit, fetched}
use Rattle.inventory.proofs.Fetching.{AreFetched}
use Rattle.inventory.proofs.OneMore.{fetched_less}
use Rattle.inventory.proofs.Sums.{one_same}
use Rattle.unit_duties.specs.Yards.{IsFree, AllFound}

module _ (day : Day) (stands : ℕ → Option InYard) (s minute : ℕ) where
  heads : (x y : ℕ) (xs ys : List ℕ) → x ∷ xs ≡ y ∷ ys → x ≡ y
  heads x y xs ys e = ap (λ (l : List ℕ). get_or l 0 x) e

  is_free : (chosen types us : List ℕ) (m u : ℕ) → AreFetched day stands s minute chosen (m ∷ types) (u ∷ us) → IsFree day stands s minute chosen m u
  is_free chosen types us m u all = at (stands u) refl
    where
      here : 1 ≤ count_of u (u ∷ us)
      here = let one = one_same u u refl in omega arith

      at : (o : Option InYard) → stands u ≡ o → IsFree day stands s minute chosen m u
      at None e = absurd (false≢true (sym (ap (may_be_taken s minute) e) ∙ all.there u here))
      at (Some place) e =
          let tests = and_parts (place.station == s) (leb place.ready minute) (sym (ap (may_be_taken s minute) e) ∙ all.there u here) in
          record {
            known = all.known u here;
            ready = place.ready;
            stands_there = e ∙ ap (λ (x : ℕ). Some (record { station = x; ready = place.ready })) (eqb-true place.station s tests.0);
            in_time = leb-true place.ready minute tests.1;
            unit_type = heads (type_of day u) m (types_of day us) types all.types_are;
            not_chosen = all.others u here;
          }

  pub all_found : (chosen types : List ℕ) → AreFetched day stands s minute chosen types (fetched day stands s minute chosen types) → AllFound day stands s minute chosen types
  unfolding fetched
  all_found chosen [] all = tt
  all_found chosen (m ∷ types) all =
      let u = next_unit day stands s minute chosen m in
      let us = fetched day stands s minute (next_unit day stands s minute chosen m ∷ chosen) types in
      ((u, is_free chosen types us m u all), all_found (u ∷ chosen) types (fetched_less day stands s minute chosen types us m u all))
