-- The index at which picks are broken, where there is one: the slack there has the sign that is said.
use Rattle.std.proofs.Common.{◌≡◌, ◌<◌, ◌+◌, ℕ, zero, suc, List, ◌++◌, length, Option, Some, None, Bool, true, not}
use Rattle.std.proofs.Common.{◌&&◌, slice_get, get_or, unwrap_or, position, refl, sym, ap, subst, ◌∙◌, arith, ℤ, pos}
use Rattle.std.proofs.Common.{negsuc, ◌*ℤ◌, ◌<ℤ◌, int_lt, inl, inr, ◌⊎◌, if◌then◌else◌}
use Rattle.std.specs.Prelude.{option_map}
use Rattle.std.proofs.lemmas.Bool.{lt-ltb}
use Rattle.std.proofs.lemmas.Int.{ints}
use Rattle.std.proofs.lemmas.List.Quantifiers.{position-Some}
use Rattle.std.proofs.lemmas.Option.{slice_get-get_or, slice_get_within}
use Rattle.timetable.specs.declared.day.indices.Place.{Place}
use Rattle.timetable.specs.declared.day.indices.Place.TheVariants.{Mu}
use Rattle.timetable.specs.Day.{Day}
use Rattle.timetable.specs.Indices.{lambdas_of, mus_of, sigmas_of, places_of}
use Rattle.timetable.proofs.Listing.{get_first, get_second}
use Rattle.branch_tree.specs.declared.multipliers.Entry.{Entry}
use Rattle.branch_tree.specs.Meanings.{IsBroken}
use Rattle.price_bound.specs.DayMeanings.{meanings_of}
use Rattle.price_bound.specs.Slacks.{broken_at, broken_index, first_from, is_none, is_positive, or_else, sign_of}
use Rattle.price_bound.specs.Slacks.{slack_at, slack_of}

-- ---- a number that is not 0, and its sign

pub record IsSigned (value : ℤ) : Type 0 where
  pub unit : (sign_of value ≡ pos 1) ⊎ (sign_of value ≡ negsuc 0)
  pub positive : pos 0 <ℤ (sign_of value *ℤ value)

above_zero : (n : ℕ) → sign_of (pos (suc n)) ≡ pos 1
above_zero n = ap (λ (b : Bool). if b then pos 1 else negsuc 0) (lt-ltb 0 (suc n) (omega arith))

signed_above : (n : ℕ) → IsSigned (pos (suc n))
signed_above n = record {
  unit = inl (above_zero n);
  positive = subst (λ (sign : ℤ). pos 0 <ℤ (sign *ℤ pos (suc n))) (sym (above_zero n)) (omega (arith, ints));
}

signed_positive : (value : ℤ) → int_lt (pos 0) value ≡ true → IsSigned value × (sign_of value ≡ pos 1)
signed_positive (pos zero) e = absurd cc
signed_positive (pos (suc n)) e = (signed_above n, above_zero n)
signed_positive (negsuc n) e = absurd cc

signed : (value : ℤ) → not (not (int_lt (pos 0) value) && not (int_lt value (pos 0))) ≡ true → IsSigned value
signed (pos zero) e = absurd cc
signed (pos (suc n)) e = signed_above n
signed (negsuc n) e = record { unit = inr refl; positive = omega (arith, ints) }

-- ---- the first of some places that passes a test

pub record IsFirst (start : ℕ) (test : Place → Bool) (places : List Place) (index : ℕ) : Type 0 where
  pub number : ℕ
  pub place : Place
  pub sum : start + number ≡ index
  pub at : slice_get places number ≡ Some place
  pub passes : test place ≡ true

first_is : (start : ℕ) (test : Place → Bool) (places : List Place) (index : ℕ) (o : Option ℕ) → position test places ≡ o
    → option_map (λ n. start + n) o ≡ Some index → IsFirst start test places index
first_is start test places index None is some = absurd cc
first_is start test places index (Some n) is some =
    let found = position-Some test places n (Mu 0 0) is in record {
      number = n;
      place = get_or places n (Mu 0 0);
      sum = cc;
      at = slice_get-get_or places n (Mu 0 0) found.0;
      passes = found.1;
    }

-- one of two that may be there
either : (first second : Option ℕ) (index : ℕ) → or_else first second ≡ Some index → (first ≡ Some index) ⊎ (second ≡ Some index)
either (Some n) second index e = inl e
either None second index e = inr e

module _ (day : Day) (picks : List ℕ) where
  -- the place of an index with the sign of its slack
  broken_by : (index : ℕ) (place : Place) → broken_index day picks ≡ Some index → slice_get (places_of day) index ≡ Some place → IsSigned (slack_at day picks place)
      → (index < length (lambdas_of day) → sign_of (slack_at day picks place) ≡ pos 1) → IsBroken (meanings_of day) picks (broken_at day picks)
  unfolding broken_at slack_of
  broken_by index place broken at is below =
      let slack : slack_of day picks index ≡ slack_at day picks place = ap (λ (o : Option Place). unwrap_or (option_map (slack_at day picks) o) (pos 0)) at in
      let entry : broken_at day picks ≡ record { index = index; value = sign_of (slack_of day picks index) } =
      ap (λ (o : Option ℕ). unwrap_or (option_map (λ i. record { index = i; value = sign_of (slack_of day picks i) }) o) (record { index = 0; value = pos 1 })) broken in
      subst (λ (e : Entry). IsBroken (meanings_of day) picks e) (sym entry) (record {
        index = slice_get_within (places_of day) index place at;
        unit = subst (λ (v : ℤ). (sign_of v ≡ pos 1) ⊎ (sign_of v ≡ negsuc 0)) (sym slack) is.unit;
        positive = subst (λ (v : ℤ). pos 0 <ℤ (sign_of v *ℤ v)) (sym slack) is.positive;
        sign = λ early. ap sign_of slack ∙ below early;
      })

  at_lambda : (n : ℕ) (place : Place) → slice_get (lambdas_of day) n ≡ Some place → slice_get (places_of day) (0 + n) ≡ Some place
  at_lambda n place at =
      let same : 0 + n ≡ n = omega arith in
      ap (slice_get (places_of day)) same ∙ get_first (lambdas_of day) (mus_of day ++ sigmas_of day) n (slice_get_within (lambdas_of day) n place at) ∙ at

  at_mu : (n : ℕ) (place : Place) → slice_get (mus_of day) n ≡ Some place → slice_get (places_of day) (length (lambdas_of day) + n) ≡ Some place
  at_mu n place at =
      get_second (lambdas_of day) (mus_of day ++ sigmas_of day) n ∙ get_first (mus_of day) (sigmas_of day) n (slice_get_within (mus_of day) n place at) ∙ at

  at_sigma : (n : ℕ) (place : Place) → slice_get (sigmas_of day) n ≡ Some place → slice_get (places_of day) (length (lambdas_of day) + length (mus_of day) + n) ≡ Some place
  at_sigma n place at =
      let sum : length (lambdas_of day) + length (mus_of day) + n ≡ length (lambdas_of day) + (length (mus_of day) + n) = omega arith in
      ap (slice_get (places_of day)) sum ∙ get_second (lambdas_of day) (mus_of day ++ sigmas_of day) (length (mus_of day) + n) ∙ get_second (mus_of day) (sigmas_of day) n ∙ at

  moved : (start n index : ℕ) (place : Place) → start + n ≡ index → slice_get (places_of day) (start + n) ≡ Some place → slice_get (places_of day) index ≡ Some place
  moved start n index place sum at = ap (slice_get (places_of day)) (sym sum) ∙ at

  -- where an index is found, the picks are broken there
  pub broken_there : (index : ℕ) → broken_index day picks ≡ Some index → IsBroken (meanings_of day) picks (broken_at day picks)
  broken_there index broken =
      let mus : Option ℕ = first_from (length (lambdas_of day)) (λ place. not (is_none day picks place)) (mus_of day) in
      let lambdas : Option ℕ = first_from 0 (is_positive day picks) (lambdas_of day) in
      let sigmas : Option ℕ = first_from (length (lambdas_of day) + length (mus_of day)) (is_positive day picks) (sigmas_of day) in
      elim (either sigmas (or_else lambdas mus) index broken) [
        | inl at ↦
            let first = first_is (length (lambdas_of day) + length (mus_of day)) (is_positive day picks) (sigmas_of day) index (position (is_positive day picks) (sigmas_of day)) refl at in
            let is = signed_positive (slack_at day picks first.place) first.passes in
            broken_by index first.place broken (moved (length (lambdas_of day) + length (mus_of day)) first.number index first.place first.sum (at_sigma first.number first.place first.at)) is.0 (λ early. is.1)
        | inr other ↦ elim (either lambdas mus index other) [
          | inl at ↦
              let first = first_is 0 (is_positive day picks) (lambdas_of day) index (position (is_positive day picks) (lambdas_of day)) refl at in
              let is = signed_positive (slack_at day picks first.place) first.passes in
              broken_by index first.place broken (moved 0 first.number index first.place first.sum (at_lambda first.number first.place first.at)) is.0 (λ early. is.1)
          | inr at ↦
              let first = first_is (length (lambdas_of day)) (λ place. not (is_none day picks place)) (mus_of day) index (position (λ place. not (is_none day picks place)) (mus_of day)) refl at in
              broken_by index first.place broken (moved (length (lambdas_of day)) first.number index first.place first.sum (at_mu first.number first.place first.at))
              (signed (slack_at day picks first.place) first.passes) (λ early. absurd (omega (arith, early, first.sum)))
        ]
      ]
