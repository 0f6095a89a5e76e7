-- What is known of the units of a wish: each is of the day, and stands at one of its stations at the start; and there are
-- no more than the day may have.
use Rattle.std.proofs.Common.{◌≡◌, ℕ, zero, suc, ◌≤◌, ◌<◌, List, [], ◌∷◌, length, get_or, refl, sym, subst, arith}
use Rattle.std.specs.Prelude.{IsTrue}
use Rattle.std.proofs.lemmas.Bool.{le-leb}
use Rattle.rail_base.specs.declared.limits.TheConstants.{MAX_UNITS}
use Rattle.timetable.specs.Accepted.{IsDay}
use Rattle.timetable.specs.Day.{Day, home_of, unit_count}
use Rattle.timetable.specs.Lists.{count_of, has}
use Rattle.timetable.proofs.Ones.{one_same}
use Rattle.urgent_units.specs.declared.wish.Wish.{Wish}
use Rattle.urgent_units.specs.Wishes.{IsWish}
use Rattle.urgent_units.proofs.WishRows.{few_units}

pub there_is : (us : List ℕ) (k d : ℕ) → k < length us → 1 ≤ count_of (get_or us k d) us
there_is [] k d under = absurd (omega (arith, under))
there_is (x ∷ xs) zero d under = (let here = one_same x x refl in omega (arith, here))
there_is (x ∷ xs) (suc k) d under = (
    let later : 1 ≤ count_of (get_or xs k d) xs = there_is xs k d (omega (arith, under)) in
    omega (arith, later))

module _ (day : Day) (wish : Wish) (is_wish : IsWish day wish) where
  pub of_day : (us : List ℕ) (k u : ℕ) → us ≡ wish.units → k < length us → u ≡ get_or us k u → u < unit_count day
  of_day us k u same under is =
      let there : 1 ≤ count_of u us = subst (λ (v : ℕ). 1 ≤ count_of v us) (sym is) (there_is us k u under) in
      is_wish.known u (subst (λ (vs : List ℕ). IsTrue (has u vs)) same (le-leb 1 (count_of u us) there))

  pub few : IsDay day → length wish.units ≤ MAX_UNITS
  few is_day =
      let within = few_units wish.units (unit_count day) (λ u c. is_wish.known u (le-leb 1 (count_of u wish.units) c)) is_wish.distinct in
      let most = is_day.units.few in
      omega (arith, within, most)

  pub at_home : (us : List ℕ) (k u : ℕ) → IsDay day → us ≡ wish.units → k < length us → u ≡ get_or us k u → home_of day u < length day.stations
  at_home us k u is_day same under is = is_day.units.home u (of_day us k u same under is)
