-- Where multipliers are put among the departure minutes of a station and type, and what those from one on come to.
use Rattle.std.proofs.Common.{◌≡◌, ◌≢◌, ◌⊎◌, ℕ, suc, ◌+◌, ◌<◌, ◌≤◌, List, [], ◌∷◌, length, get_or, Bool, true, false}
use Rattle.std.proofs.Common.{◌&&◌, refl, sym, ap, ◌∙◌, subst, arith, ℤ, pos, ◌+ℤ◌, inl, inr, Option, Some, None}
use Rattle.std.proofs.Common.{unwrap_or, slice_get}
use Rattle.std.specs.Prelude.{◌==◌, if◌then◌else◌, nat_le, nat_lt, option_map}
use Rattle.std.proofs.lemmas.Bool.{cases_eq, cases_lt, eq-eqb, ne_eqb, lt-ltb, le-ltb}
use Rattle.std.proofs.lemmas.Int.{ints}
use Rattle.timetable.specs.declared.day.indices.Place.{Place}
use Rattle.timetable.specs.declared.day.indices.Place.TheVariants.{Lambda, Mu, Sigma}
use Rattle.timetable.specs.Day.{Day}
use Rattle.timetable.specs.Indices.{IsPlace, places_of}
use Rattle.timetable.specs.Minutes.{minutes_of}
use Rattle.timetable.proofs.Indices.{known_place}
use Rattle.timetable.proofs.Minutes.{are_minutes}
use Rattle.inventory.specs.CountTable.{changed, earlier, plus}
use Rattle.inventory.specs.Counted.{HasPlaces, number_at}
use Rattle.inventory.proofs.Filled.{place_le, place_within}
use Rattle.inventory.proofs.Tables.{changed_here, elsewhere}
use Rattle.branch_tree.specs.declared.multipliers.Entry.{Entry}
use Rattle.branch_tree.specs.IntSums.{int_sum}
use Rattle.price_bound.specs.CellSizes.{IsSmall}
use Rattle.price_bound.specs.YardPrices.{by_place, of_type, price_by}
use Rattle.price_bound.proofs.Adding.{plus_is, small_more, small_sum}
use Rattle.price_bound.proofs.IntLaws.{none_more, sum_add, sum_same}

-- a value that is put at a station, type and place, at one of them
abbrev pub put_by : ℕ → ℕ → ℕ → ℕ → ℕ → ℕ → ℤ → ℤ
put_by s m k station unit_type place value =
    if (s == station) && (k == place) then of_type m unit_type value else pos 0

-- and as it counts from a place on
abbrev pub from_by : ℕ → ℕ → ℕ → ℕ → ℕ → ℕ → ℤ → ℤ
from_by s m k station unit_type place value =
    if (s == station) && nat_lt k (suc place) then of_type m unit_type value else pos 0

-- what counts from a place on is what is put there, and what counts from the next on
next_from : (s m k station unit_type place : ℕ) (v : ℤ) → from_by s m k station unit_type place v
    ≡ from_by s m (suc k) station unit_type place v +ℤ put_by s m k station unit_type place v
next_from s m k station unit_type place v = of (s == station) (cases_eq k place)
  where
    by_tests : (b before at later : Bool) (x : ℤ) → ((if before then x else pos 0) ≡ (if later then x else pos 0) +ℤ (if at then x else pos 0))
        → (if b && before then x else pos 0) ≡ (if b && later then x else pos 0) +ℤ (if b && at then x else pos 0)
    by_tests true before at later x e = e
    by_tests false before at later x e = omega (arith, ints)

    tests : (before at later : Bool) (x : ℤ) (b a l : Bool) → before ≡ b → at ≡ a → later ≡ l
        → ((if b then x else pos 0) ≡ (if l then x else pos 0) +ℤ (if a then x else pos 0))
        → (if before then x else pos 0) ≡ (if later then x else pos 0) +ℤ (if at then x else pos 0)
    tests before at later x b a l e f g is =
        ap (λ (t : Bool). if t then x else pos 0) e ∙ is
        ∙ ap (λ (t : Bool). (if t then x else pos 0) +ℤ (if a then x else pos 0)) (sym g)
        ∙ ap (λ (t : Bool). (if later then x else pos 0) +ℤ (if t then x else pos 0)) (sym f)

    here : (x : ℤ) → x ≡ pos 0 +ℤ x
    here x = omega (arith, ints)

    plain : (x : ℤ) → x ≡ x +ℤ pos 0
    plain x = omega (arith, ints)

    of : (b : Bool) → (k ≡ place) ⊎ (k ≢ place) → (if b && nat_lt k (suc place) then of_type m unit_type v else pos 0)
        ≡ (if b && nat_lt (suc k) (suc place) then of_type m unit_type v else pos 0) +ℤ (if b && (k == place) then of_type m unit_type v else pos 0)
    of b (inl e) = by_tests b (nat_lt k (suc place)) (k == place) (nat_lt (suc k) (suc place)) (of_type m unit_type v)
        (tests (nat_lt k (suc place)) (k == place) (nat_lt (suc k) (suc place)) (of_type m unit_type v) true true false
        (lt-ltb k (suc place) (omega (arith, e))) (eq-eqb k place e) (le-ltb (suc k) (suc place) (omega (arith, e))) (here (of_type m unit_type v)))
    of b (inr differ) = elim (cases_lt k place) [
      | inl before ↦ by_tests b (nat_lt k (suc place)) (k == place) (nat_lt (suc k) (suc place)) (of_type m unit_type v)
          (tests (nat_lt k (suc place)) (k == place) (nat_lt (suc k) (suc place)) (of_type m unit_type v) true false true
          (lt-ltb k (suc place) (omega (arith, before))) (ne_eqb k place differ) (lt-ltb (suc k) (suc place) (omega (arith, before))) (plain (of_type m unit_type v)))
      | inr after ↦ by_tests b (nat_lt k (suc place)) (k == place) (nat_lt (suc k) (suc place)) (of_type m unit_type v)
          (tests (nat_lt k (suc place)) (k == place) (nat_lt (suc k) (suc place)) (of_type m unit_type v) false false false
          (le-ltb k (suc place) (omega (arith, after, differ))) (ne_eqb k place differ) (le-ltb (suc k) (suc place) (omega (arith, after))) (plain (pos 0)))
    ]

module _ (day : Day) where
  -- what a multiplier gives at a station, type and place
  abbrev pub put_at : ℕ → ℕ → ℕ → Place → ℤ → ℤ
  put_at s m k (Lambda station unit_type place) value = put_by s m k station unit_type place value
  put_at s m k (Mu station unit_type) value = put_by s m k station unit_type (length (minutes_of day station)) value
  put_at s m k (Sigma h c) value = pos 0

  -- and from a place on
  abbrev pub from_at : ℕ → ℕ → ℕ → Place → ℤ → ℤ
  from_at s m k (Lambda station unit_type place) value = from_by s m k station unit_type place value
  from_at s m k (Mu station unit_type) value = from_by s m k station unit_type (length (minutes_of day station)) value
  from_at s m k (Sigma h c) value = pos 0

  -- ---- one value is put

  module _ (T : List (List (List ℤ))) (places : HasPlaces day T) (station unit_type place : ℕ) (v : ℤ) (s m k : ℕ)
      (lt : s < length day.stations) (lt' : m < length day.types) (le : k ≤ length (minutes_of day s))
      (small : IsSmall 2000000000000000000 (number_at T s m k)) (small_v : IsSmall 2000000000000000000 v) where
    abbrev was : ℤ
    was = number_at T s m k

    abbrev becomes : ℤ
    becomes = number_at (changed station unit_type place v T) s m k

    added : plus was v ≡ was +ℤ v
    added = plus_is was v (small_more (2000000000000000000 + 2000000000000000000) 4000000000000000000 (was +ℤ v) (omega arith)
        (small_sum 2000000000000000000 2000000000000000000 was v small small_v))

    as_tested : (b c : Bool) → ((s == station) && (k == place)) ≡ b → (m == unit_type) ≡ c → (if b then (if c then v else pos 0) else pos 0)
        ≡ put_by s m k station unit_type place v
    as_tested b c e f =
        ap (λ (t : Bool). if t then (if c then v else pos 0) else pos 0) (sym e)
        ∙ ap (λ (t : Bool). if (s == station) && (k == place) then (if t then v else pos 0) else pos 0) (sym f)

    not_there : (s ≡ station → m ≡ unit_type → k ≡ place → ⊥) → put_by s m k station unit_type place v ≡ pos 0 → becomes ≡ was +ℤ put_by s m k station unit_type place v
    not_there apart none = elsewhere day T places station unit_type place v s m k lt lt' apart ∙ none_more was (put_by s m k station unit_type place v) none

    no_station : (b : Bool) → (s == station) ≡ b → b ≡ false → put_by s m k station unit_type place v ≡ pos 0
    no_station b e f = ap (λ (t : Bool). if t && (k == place) then of_type m unit_type v else pos 0) (e ∙ f)

    no_type : (b : Bool) → (if b then (if (m == unit_type) then v else pos 0) else pos 0) ≡ (if b then (if false then v else pos 0) else pos 0) → (if b then of_type m unit_type v else pos 0) ≡ pos 0
    no_type true e = e
    no_type false e = refl

    no_place : (b : Bool) → (if b && false then of_type m unit_type v else pos 0) ≡ pos 0
    no_place true = refl
    no_place false = refl

    pub put_more : becomes ≡ was +ℤ put_by s m k station unit_type place v
    put_more = elim (cases_eq s station) [
      | inr differ ↦ not_there (λ e e' e''. differ e) (no_station false (ne_eqb s station differ) refl)
      | inl e ↦ elim (cases_eq m unit_type) [
        | inr differ ↦ not_there (λ e e' e''. differ e') (no_type ((s == station) && (k == place))
            (ap (λ (t : Bool). if (s == station) && (k == place) then (if t then v else pos 0) else pos 0) (ne_eqb m unit_type differ)))
        | inl e' ↦ elim (cases_eq k place) [
          | inr differ ↦ not_there (λ e e' e''. differ e'')
              (ap (λ (t : Bool). if (s == station) && t then of_type m unit_type v else pos 0) (ne_eqb k place differ) ∙ no_place (s == station))
          | inl e'' ↦
              changed_here day T places station unit_type place v s m k lt lt' le e e' e'' ∙ added
              ∙ ap (λ (x : ℤ). was +ℤ x) (as_tested true true
              (ap (λ (t : Bool). t && (k == place)) (eq-eqb s station e) ∙ eq-eqb k place e'') (eq-eqb m unit_type e'))
        ]
      ]
    ]

  -- ---- what counts from a place on

  next_place : (s m k : ℕ) (place : Place) (v : ℤ) → from_at s m k place v ≡ from_at s m (suc k) place v +ℤ put_at s m k place v
  next_place s m k (Lambda station unit_type place) v = next_from s m k station unit_type place v
  next_place s m k (Mu station unit_type) v = next_from s m k station unit_type (length (minutes_of day station)) v
  next_place s m k (Sigma h c) v = omega (arith, ints)

  -- a test that is made at the station alone
  at_station : (s station : ℕ) (b c : Bool) (x : ℤ) → (s ≡ station → b ≡ c) → (if (s == station) && b then x else pos 0) ≡ (if (s == station) && c then x else pos 0)
  at_station s station b c x each = elim (cases_eq s station) [
    | inl e ↦ ap (λ (t : Bool). if (s == station) && t then x else pos 0) (each e)
    | inr differ ↦
        ap (λ (t : Bool). if t && b then x else pos 0) (ne_eqb s station differ)
        ∙ sym (ap (λ (t : Bool). if t && c then x else pos 0) (ne_eqb s station differ))
  ]

  never : (b : Bool) (x : ℤ) → (if b && false then x else pos 0) ≡ pos 0
  never true x = refl
  never false x = refl

  always : (b : Bool) (x : ℤ) → (if b && true then x else pos 0) ≡ (if b then x else pos 0)
  always true x = refl
  always false x = refl

  -- after all minutes and the place for later nothing counts
  none_after : (s m : ℕ) (place : Place) (v : ℤ) → IsPlace day place → from_at s m (suc (length (minutes_of day s))) place v ≡ pos 0
  none_after s m (Lambda station unit_type k) v is =
      at_station s station (nat_lt (suc (length (minutes_of day s))) (suc k)) false (of_type m unit_type v)
      (λ e. le-ltb (suc (length (minutes_of day s))) (suc k)
      (subst (λ (x : ℕ). suc k ≤ suc (length (minutes_of day x))) (sym e) (let (_, _, below) = is in omega (arith, below))))
      ∙ never (s == station) (of_type m unit_type v)
  none_after s m (Mu station unit_type) v is =
      at_station s station (nat_lt (suc (length (minutes_of day s))) (suc (length (minutes_of day station)))) false (of_type m unit_type v)
      (λ e. le-ltb (suc (length (minutes_of day s))) (suc (length (minutes_of day station)))
      (subst (λ (x : ℕ). suc (length (minutes_of day station)) ≤ suc (length (minutes_of day x))) (sym e) (omega arith)))
      ∙ never (s == station) (of_type m unit_type v)
  none_after s m (Sigma h c) v is = refl

  -- from the first place whose minute isn't before a minute on, just those multipliers count that the price has
  price_from : (s minute m : ℕ) (place : Place) (v : ℤ) → IsPlace day place
      → from_at s m (earlier minute (minutes_of day s)) place v ≡ price_by day s minute m place v
  price_from s minute m (Lambda station unit_type k) v is =
      at_station s station (nat_lt (earlier minute (minutes_of day s)) (suc k)) (nat_le minute (get_or (minutes_of day station) k 0)) (of_type m unit_type v)
      (λ e. subst (λ (x : ℕ). nat_lt (earlier minute (minutes_of day x)) (suc k) ≡ nat_le minute (get_or (minutes_of day station) k 0)) (sym e)
      (let (_, _, below) = is in place_le (minutes_of day station) minute k (are_minutes day station).rise below))
  price_from s minute m (Mu station unit_type) v is =
      at_station s station (nat_lt (earlier minute (minutes_of day s)) (suc (length (minutes_of day station)))) true (of_type m unit_type v)
      (λ e. subst (λ (x : ℕ). nat_lt (earlier minute (minutes_of day x)) (suc (length (minutes_of day station))) ≡ true) (sym e)
      (lt-ltb (earlier minute (minutes_of day station)) (suc (length (minutes_of day station))) (omega (arith, place_within (minutes_of day station) minute))))
      ∙ always (s == station) (of_type m unit_type v)
  price_from s minute m (Sigma h c) v is = refl

  -- ---- the same of all multipliers

  by_known : (f g : Place → ℤ → ℤ) → ((place : Place) (v : ℤ) → IsPlace day place → f place v ≡ g place v) → (entry : Entry) → by_place day f entry ≡ by_place day g entry
  by_known f g each entry = on (slice_get (places_of day) entry.index) refl
    where
      on : (o : Option Place) → slice_get (places_of day) entry.index ≡ o
          → unwrap_or (option_map (λ place. f place entry.value) o) (pos 0) ≡ unwrap_or (option_map (λ place. g place entry.value) o) (pos 0)
      on None at = refl
      on (Some place) at = each place entry.value (known_place day entry.index place at)

  by_sum : (f g : Place → ℤ → ℤ) (entry : Entry) → by_place day (λ place v. f place v +ℤ g place v) entry ≡ by_place day f entry +ℤ by_place day g entry
  by_sum f g entry = on (slice_get (places_of day) entry.index)
    where
      on : (o : Option Place) → unwrap_or (option_map (λ place. f place entry.value +ℤ g place entry.value) o) (pos 0)
          ≡ unwrap_or (option_map (λ place. f place entry.value) o) (pos 0) +ℤ unwrap_or (option_map (λ place. g place entry.value) o) (pos 0)
      on None = refl
      on (Some place) = refl

  by_none : (f : Place → ℤ → ℤ) → ((place : Place) (v : ℤ) → IsPlace day place → f place v ≡ pos 0) → (entries : List Entry) → int_sum (by_place day f) entries ≡ pos 0
  by_none f none entries = sum_same (by_place day f) (λ (entry : Entry). pos 0) entries each ∙ zeros entries
    where
      each : (entry : Entry) → by_place day f entry ≡ pos 0
      each entry = on (slice_get (places_of day) entry.index) refl
        where
          on : (o : Option Place) → slice_get (places_of day) entry.index ≡ o → unwrap_or (option_map (λ place. f place entry.value) o) (pos 0) ≡ pos 0
          on None at = refl
          on (Some place) at = none place entry.value (known_place day entry.index place at)

      zeros : (entries : List Entry) → int_sum (λ (entry : Entry). pos 0) entries ≡ pos 0
      zeros [] = refl
      zeros (entry ∷ entries) = nothing (int_sum (λ (e : Entry). pos 0) entries) (zeros entries)
        where
          nothing : (a : ℤ) → a ≡ pos 0 → pos 0 +ℤ a ≡ pos 0
          nothing a e = omega (arith, ints, e)

  module _ (entries : List Entry) where
    abbrev pub all_put : ℕ → ℕ → ℕ → ℤ
    all_put s m k = int_sum (by_place day (put_at s m k)) entries

    abbrev pub all_from : ℕ → ℕ → ℕ → ℤ
    all_from s m k = int_sum (by_place day (from_at s m k)) entries

    pub all_next : (s m k : ℕ) → all_from s m k ≡ all_from s m (suc k) +ℤ all_put s m k
    all_next s m k =
        sum_same (by_place day (from_at s m k)) (λ entry. by_place day (from_at s m (suc k)) entry +ℤ by_place day (put_at s m k) entry) entries
        (λ entry. by_known (from_at s m k) (λ place v. from_at s m (suc k) place v +ℤ put_at s m k place v) (λ place v is. next_place s m k place v) entry
        ∙ by_sum (from_at s m (suc k)) (put_at s m k) entry)
        ∙ sum_add (by_place day (from_at s m (suc k))) (by_place day (put_at s m k)) entries

    pub none_from : (s m : ℕ) → all_from s m (suc (length (minutes_of day s))) ≡ pos 0
    none_from s m = by_none (from_at s m (suc (length (minutes_of day s)))) (none_after s m) entries

    pub prices_from : (s minute m : ℕ) → all_from s m (earlier minute (minutes_of day s)) ≡ int_sum (by_place day (price_by day s minute m)) entries
    prices_from s minute m =
        sum_same (by_place day (from_at s m (earlier minute (minutes_of day s)))) (by_place day (price_by day s minute m)) entries
        (λ entry. by_known (from_at s m (earlier minute (minutes_of day s))) (price_by day s minute m) (price_from s minute m) entry)
