-- Sums over the units of compositions, by those over the units of lower ones.
use Rattle.std.proofs.Common.{◌≡◌, ℕ, zero, suc, ◌+◌, ◌*◌, ◌<◌, ◌⊎◌, List, [], ◌∷◌, ◌++◌, length, take, set, get_or, sym, ap, ◌∙◌}
use Rattle.std.proofs.Common.{subst, arith, ℤ, pos, ◌+ℤ◌, inl, inr, length-append, length-set, map, slice_get, Some}
use Rattle.std.proofs.lemmas.Bool.{cases_eq}
use Rattle.std.proofs.lemmas.Int.{ints}
use Rattle.std.proofs.lemmas.List.{get_or-set_other, get_or-set_same, length-map}
use Rattle.std.proofs.lemmas.List.Elements.{All-get_or}
use Rattle.std.proofs.Math.Seq.{get_or-append_seam}
use Rattle.inventory.proofs.Holds.{zero_entry}
use Rattle.rules.specs.declared.records.End.TheVariants as at
use Rattle.timetable.specs.Compositions.{compositions_of, composition_at}
use Rattle.timetable.specs.Day.{Day}
use Rattle.transitions.proofs.Listed.{few_units}
use Rattle.price_bound.specs.CellSizes.{IsSmall, most_price, most_units_price}
use Rattle.price_bound.specs.CompositionTrees.{IsLast, IsRest}
use Rattle.price_bound.specs.Credits.{AreSmallAmounts, AreSumsBefore, AreSumsOf, IsFree, sum_in}
use Rattle.price_bound.proofs.Adding.{small_more, small_zero, sum_small}
use Rattle.price_bound.proofs.CompositionTrees.{fewer_lower, number_past}
use Rattle.price_bound.proofs.Crediting.{known}
use Rattle.price_bound.proofs.IntLaws.{sum_append, sum_none}
use Rattle.price_bound.proofs.Resting.{number_is}

-- ---- what a composition is made of

same_last : (xs ys : List ℕ) (x y : ℕ) → xs ++ x ∷ [] ≡ ys ++ y ∷ [] → x ≡ y
same_last xs ys x y e =
    let long : length xs ≡ length ys = omega (arith, ap length e, length-append xs (x ∷ []), length-append ys (y ∷ [])) in
    sym (get_or-append_seam xs x [] 0) ∙ ap (λ (zs : List ℕ). get_or zs (length xs) 0) e
    ∙ ap (λ (n : ℕ). get_or (ys ++ y ∷ []) n 0) long ∙ get_or-append_seam ys y [] 0

-- a list is its front and its last entry
with_last : (ms : List ℕ) (k last : ℕ) → slice_get ms k ≡ Some last → suc k ≡ length ms → ms ≡ take k ms ++ last ∷ []
with_last [] k last at long = absurd (omega (arith, long))
with_last (m ∷ ms) zero last at long = by ms (omega (arith, long))
  where
    by : (rest : List ℕ) → length rest ≡ 0 → m ∷ rest ≡ last ∷ []
    by [] none = let some : Some m ≡ Some last = at in let same : m ≡ last = cc in ap (λ (x : ℕ). x ∷ []) same
    by (x ∷ rest) none = absurd (omega (arith, none))
with_last (m ∷ ms) (suc k) last at long = ap (λ (xs : List ℕ). m ∷ xs) (with_last ms k last at (omega (arith, long)))

pub last_is : (day : Day) (comp : ℕ) (ms : List ℕ) (k last : ℕ) → comp < length (compositions_of day)
    → slice_get (compositions_of day) comp ≡ Some ms → suc k ≡ length ms → slice_get ms k ≡ Some last → IsLast day comp last
last_is day comp ms k last listed at long here =
    let units : composition_at day comp ≡ take k ms ++ last ∷ [] = number_is day comp ms at ∙ with_last ms k last here long in
    let there : get_or (composition_at day comp) (length (take k ms)) 0 ≡ last =
    ap (λ (xs : List ℕ). get_or xs (length (take k ms)) 0) units ∙ get_or-append_seam (take k ms) last [] 0 in
    record {
      rest = take k ms;
      is = units;
      known = subst (λ (m : ℕ). m < length day.types) there
          (All-get_or (λ (m : ℕ). m < length day.types) (composition_at day comp) (length (take k ms)) 0
          (omega (arith, ap length units, length-append (take k ms) (last ∷ []))) (known day comp listed));
    }

units_are : (day : Day) (comp rest last : ℕ) → IsRest day at.Rear comp rest → IsLast day comp last
    → composition_at day comp ≡ composition_at day rest ++ last ∷ []
units_are day comp rest last is by =
    is.is ∙ ap (λ (unit : ℕ). composition_at day rest ++ unit ∷ []) (same_last (composition_at day rest) by.rest is.unit last (sym is.is ∙ by.is))

-- ---- sums

pub rest_sum : (row : List ℤ) (day : Day) (comp rest last : ℕ) → IsRest day at.Rear comp rest → IsLast day comp last
    → sum_in row (composition_at day comp) ≡ sum_in row (composition_at day rest) +ℤ get_or row last (pos 0)
rest_sum row day comp rest last is by =
    ap (sum_in row) (units_are day comp rest last is by)
    ∙ sum_append (λ m. get_or row m (pos 0)) (composition_at day rest) (last ∷ [])
    ∙ one_more (sum_in row (composition_at day rest)) (get_or row last (pos 0))
  where
    one_more : (a b : ℤ) → a +ℤ (b +ℤ pos 0) ≡ a +ℤ b
    one_more a b = omega (arith, ints)

-- a composition has one unit more than its rest, which has a lower number or is past the last
rest_lower : (day : Day) (comp rest : ℕ) → comp < length (compositions_of day) → IsRest day at.Rear comp rest
    → (rest < comp) ⊎ (rest ≡ length (compositions_of day))
rest_lower day comp rest listed is = elim (cases_eq rest (length (compositions_of day))) [
  | inl past ↦ inr past
  | inr differ ↦ inl (fewer_lower day rest comp (omega (arith, differ, is.within)) listed
      (omega (arith, ap length is.is, length-append (composition_at day rest) (is.unit ∷ []))))
]

pub sum_of_comp_small : (row : List ℤ) (day : Day) (comp : ℕ) → comp < length (compositions_of day) → length row ≡ length day.types
    → AreSmallAmounts row → IsSmall most_units_price (sum_in row (composition_at day comp))
sum_of_comp_small row day comp listed long small =
    let ms : List ℕ = composition_at day comp in
    small_more (length ms * most_price) most_units_price (sum_in row ms) (omega (arith, few_units day comp listed))
    (sum_small (λ m. get_or row m (pos 0)) most_price ms (λ k d lt.
    small (get_or ms k d) (subst (λ (n : ℕ). get_or ms k d < n) (sym long)
    (All-get_or (λ (m : ℕ). m < length day.types) ms k d lt (known day comp listed)))))

-- the sum at the place of a rest
module _ (row sums : List ℤ) (day : Day) (comp rest : ℕ) (listed : comp < length (compositions_of day)) (is : IsRest day at.Rear comp rest)
    (done : AreSumsBefore day row comp sums) where
  none_here : rest ≡ length (compositions_of day) → get_or sums rest (pos 0) ≡ pos 0
  none_here past = ap (λ (k : ℕ). get_or sums k (pos 0)) past ∙ done.none

  pub rest_sum_at : get_or sums rest (pos 0) ≡ sum_in row (composition_at day rest)
  rest_sum_at = elim (rest_lower day comp rest listed is) [
    | inl lower ↦ done.sums.values rest lower
    | inr past ↦ none_here past ∙ sym (ap (sum_in row) (number_past day rest (omega (arith, past))))
  ]

  pub rest_small_at : IsSmall most_units_price (get_or sums rest (pos 0))
  rest_small_at = elim (rest_lower day comp rest listed is) [
    | inl lower ↦ done.sums.small rest lower
    | inr past ↦ subst (IsSmall most_units_price) (sym (none_here past)) (small_zero most_units_price)
  ]

-- before the first composition there are no sums
pub sums_begin : (day : Day) (row sums : List ℤ) → length sums ≡ suc (length (compositions_of day))
    → AreSumsBefore day row 0 (set sums (length (compositions_of day)) (pos 0))
sums_begin day row sums long = record {
  long = length-set sums (length (compositions_of day)) (pos 0) ∙ long;
  none = get_or-set_same sums (length (compositions_of day)) (pos 0) (pos 0) (omega (arith, long));
  sums = record {
    values = λ c before. absurd (omega (arith, before));
    small = λ c before. absurd (omega (arith, before));
  };
}

-- where units of no type cost anything, all sums are 0
pub free_sums : (day : Day) (amounts row new : List ℤ) → length row ≡ suc (length (compositions_of day)) → IsFree amounts
    → new ≡ map (λ _. pos 0) row → AreSumsOf day amounts new
free_sums day amounts row new long free is =
    subst (AreSumsOf day amounts) (sym is) (record {
      long = length-map row (λ _. pos 0) ∙ long;
      sums = record {
        values = λ c listed. zero_entry row c ∙ sym (sum_none (λ m. get_or amounts m (pos 0)) (composition_at day c) free);
        small = λ c listed. subst (IsSmall most_units_price) (sym (zero_entry row c)) (small_zero most_units_price);
      };
    })

-- one sum more
pub sums_more : (day : Day) (row sums : List ℤ) (comp : ℕ) (sum : ℤ) → comp < length (compositions_of day) → AreSumsBefore day row comp sums
    → sum ≡ sum_in row (composition_at day comp) → IsSmall most_units_price sum → AreSumsBefore day row (comp + 1) (set sums comp sum)
sums_more day row sums comp sum listed done is small = record {
  long = length-set sums comp sum ∙ done.long;
  none = get_or-set_other sums comp (length (compositions_of day)) sum (pos 0) (λ same. absurd (omega (arith, same, listed))) ∙ done.none;
  sums = record {
    values = λ c before. elim (cases_eq c comp) [
      | inl same ↦ subst (λ (k : ℕ). get_or (set sums comp sum) k (pos 0) ≡ sum_in row (composition_at day k)) (sym same)
          (get_or-set_same sums comp sum (pos 0) (omega (arith, listed, done.long)) ∙ is)
      | inr differ ↦ get_or-set_other sums comp c sum (pos 0) differ ∙ done.sums.values c (omega (arith, before, differ))
    ];
    small = λ c before. elim (cases_eq c comp) [
      | inl same ↦ subst (λ (k : ℕ). IsSmall most_units_price (get_or (set sums comp sum) k (pos 0))) (sym same)
          (subst (IsSmall most_units_price) (sym (get_or-set_same sums comp sum (pos 0) (omega (arith, listed, done.long)))) small)
      | inr differ ↦ subst (IsSmall most_units_price) (sym (get_or-set_other sums comp c sum (pos 0) differ))
          (done.sums.small c (omega (arith, before, differ)))
    ];
  };
}
