-- What stands at an end of a composition that fits, also as the train goes the other way, fits too.
use Rattle.std.proofs.Common.{◌≡◌, ℕ, ◌+◌, ◌≤◌, Bool, true, false, List, [], ◌∷◌, ◌++◌, length, reverse, refl, sym, ap}
use Rattle.std.proofs.Common.{subst, ◌∙◌, arith, length-append}
use Rattle.std.specs.List.{list_all}
use Rattle.std.specs.Str.{bytes_eq}
use Rattle.std.specs.Prelude.{nat_lt}
use Rattle.std.proofs.lemmas.Bool.{and_parts, and_from, le-leb}
use Rattle.std.proofs.lemmas.List.{reverse-append, length-reverse}
use Rattle.std.proofs.lemmas.List.Folds.{list_all-append}
use Rattle.std.proofs.lemmas.Slice.Eq.{bytes_eq-Decides}
use Rattle.rules.specs.declared.records.UnitType.{UnitType}
use Rattle.compositions.specs.Composition.{sum_over, metres_of, family_of, are_types, is_one_family, fits_in}
use Rattle.compositions.proofs.Fitting.{Fits-from_test}
use Rattle.timetable.specs.Links.{turned}

all-reverse : (test : ℕ → Bool) (ms : List ℕ) → list_all test ms ≡ true → list_all test (reverse ms) ≡ true
all-reverse test [] all = refl
all-reverse test (m ∷ ms) all =
    let both = and_parts (test m) (list_all test ms) all in
    ap (list_all test) (reverse-append (m ∷ []) ms) ∙ list_all-append test (reverse ms) (m ∷ [])
    ∙ and_from _ _ (all-reverse test ms both.1) (and_from (test m) true both.0 refl)

all-left : (test : ℕ → Bool) (ms ns : List ℕ) → list_all test (ms ++ ns) ≡ true → list_all test ms ≡ true
all-left test ms ns all = (and_parts _ _ (sym (list_all-append test ms ns) ∙ all)).0

all-right : (test : ℕ → Bool) (ms ns : List ℕ) → list_all test (ms ++ ns) ≡ true → list_all test ns ≡ true
all-right test ms ns all = (and_parts _ _ (sym (list_all-append test ms ns) ∙ all)).1

sum_over-append : (f : UnitType → ℕ) (types : List UnitType) (ms ns : List ℕ) → sum_over f types (ms ++ ns) ≡ sum_over f types ms + sum_over f types ns
sum_over-append f types [] ns = omega arith
sum_over-append f types (m ∷ ms) ns = let ih = sum_over-append f types ms ns in omega arith

sum_over-reverse : (f : UnitType → ℕ) (types : List UnitType) (ms : List ℕ) → sum_over f types (reverse ms) ≡ sum_over f types ms
sum_over-reverse f types [] = refl
sum_over-reverse f types (m ∷ ms) =
    let e = ap (sum_over f types) (reverse-append (m ∷ []) ms) ∙ sum_over-append f types (reverse ms) (m ∷ []) in
    let ih = sum_over-reverse f types ms in
    omega arith

module _ (types : List UnitType) (longest : ℕ) where
  -- whether a type is of a family
  abbrev of_family : List ℕ → ℕ → Bool
  of_family family n = bytes_eq (family_of types n) family

  -- what fits, but for having a unit
  record MayFit (ms : List ℕ) : Type 0 where
    few : length ms ≤ 6
    known : are_types types ms ≡ true
    family : List ℕ
    one_family : list_all (of_family family) ms ≡ true
    short : metres_of types ms ≤ longest

  may_fit : (ms : List ℕ) → fits_in types longest ms ≡ true → MayFit ms
  may_fit [] fits = let f = Fits-from_test types longest [] fits in record { few = f.few; known = refl; family = []; one_family = refl; short = f.short }
  may_fit (m ∷ ms) fits =
      let f = Fits-from_test types longest (m ∷ ms) fits in record {
        few = f.few;
        known = f.known;
        family = family_of types m;
        one_family = and_from _ _ ((bytes_eq-Decides (family_of types m) (family_of types m)).1 refl) f.family;
        short = f.short;
      }

  is_family : (family ms : List ℕ) → list_all (of_family family) ms ≡ true → is_one_family types ms ≡ true
  is_family family [] all = refl
  is_family family (m ∷ ms) all =
      let both = and_parts (of_family family m) (list_all (of_family family) ms) all in
      let first : family_of types m ≡ family = (bytes_eq-Decides (family_of types m) family).0 both.0 in
      ap (λ (name : List ℕ). list_all (of_family name) ms) first ∙ both.1

  fits-from : (ms : List ℕ) → MayFit ms → 1 ≤ length ms → fits_in types longest ms ≡ true
  fits-from ms may some =
      and_from _ _ (and_from _ _ (and_from _ _ (and_from _ _ (le-leb 1 (length ms) some) (le-leb (length ms) 6 may.few)) may.known) (is_family may.family ms may.one_family))
      (le-leb (metres_of types ms) longest may.short)

  fit-reverse : (ms : List ℕ) → MayFit ms → MayFit (reverse ms)
  fit-reverse ms may = record {
    few = omega (arith, length-reverse ms, may.few);
    known = all-reverse (λ m. nat_lt m (length types)) ms may.known;
    family = may.family;
    one_family = all-reverse (of_family may.family) ms may.one_family;
    short = omega (arith, sum_over-reverse (λ t. t.metres) types ms, may.short);
  }

  fit-turned : (r : Bool) (ms : List ℕ) → MayFit ms → MayFit (turned r ms)
  fit-turned true ms may = fit-reverse ms may
  fit-turned false ms may = may

  fit-left : (ms ns : List ℕ) → MayFit (ms ++ ns) → MayFit ms
  fit-left ms ns may = record {
    few = omega (arith, length-append ms ns, may.few);
    known = all-left (λ m. nat_lt m (length types)) ms ns may.known;
    family = may.family;
    one_family = all-left (of_family may.family) ms ns may.one_family;
    short = omega (arith, sum_over-append (λ t. t.metres) types ms ns, may.short);
  }

  fit-right : (ms ns : List ℕ) → MayFit (ms ++ ns) → MayFit ns
  fit-right ms ns may = record {
    few = omega (arith, length-append ms ns, may.few);
    known = all-right (λ m. nat_lt m (length types)) ms ns may.known;
    family = may.family;
    one_family = all-right (of_family may.family) ms ns may.one_family;
    short = omega (arith, sum_over-append (λ t. t.metres) types ms ns, may.short);
  }

  pub left_fits : (r : Bool) (whole ms ns : List ℕ) → fits_in types longest whole ≡ true → turned r whole ≡ ms ++ ns → 1 ≤ length ms → fits_in types longest ms ≡ true
  left_fits r whole ms ns fits is some = fits-from ms (fit-left ms ns (subst MayFit is (fit-turned r whole (may_fit whole fits)))) some

  pub right_fits : (r : Bool) (whole ms ns : List ℕ) → fits_in types longest whole ≡ true → turned r whole ≡ ms ++ ns → 1 ≤ length ns → fits_in types longest ns ≡ true
  right_fits r whole ms ns fits is some = fits-from ns (fit-right ms ns (subst MayFit is (fit-turned r whole (may_fit whole fits)))) some
