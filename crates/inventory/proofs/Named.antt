-- The named plan: each of its lists is the one that the rule names from the lists of the trips before it.
use Rattle.std.proofs.Common.{◌≡◌, ℕ, zero, suc, ◌<◌, ◌≤◌, List, [], ◌∷◌, ◌++◌, length, map, eqb, Option, Some, refl}
use Rattle.std.proofs.Common.{sym, ap, ◌∙◌, arith, ◌≢◌, ◌⊎◌, inl, inr, length-append}
use Rattle.std.specs.Prelude.{if◌then◌else◌, nat_lt, unwrap_or, slice_get}
use Rattle.std.proofs.lemmas.Bool.{cases_eq, cases_lt, cond-true, cond-false, eq-eqb, ne_eqb}
use Rattle.std.proofs.lemmas.List.{length-map, map-append}
use Rattle.std.proofs.lemmas.Option.{slice_get_past}
use Rattle.std.proofs.Math.Path.{fun_ext}
use Rattle.timetable.specs.Accepted.{IsDay, AreLinks}
use Rattle.timetable.specs.Day.{Day, leaves, from_of}
use Rattle.timetable.specs.Links.{list_of, itself, taken_with}
use Rattle.timetable.specs.Lists.{count_of, has, below}
use Rattle.inventory.specs.NamedUnits.{InYard, standing, after_trip, fetched, named_list, list_from, naming}
use Rattle.inventory.specs.NamedUnits.{latest_first, named_from}
use Rattle.inventory.specs.Places.{coming, put_together}
use Rattle.inventory.proofs.Sums.{one_same}
use Rattle.inventory.proofs.Order.{IsTurn, AreInTurn, is_trip, latest_in_turn}
use Rattle.inventory.proofs.Linked.{coming_same}
use Rattle.inventory.proofs.Standing.{leads_before}
use Rattle.inventory.proofs.Righting.{AreNamedBy}

-- ---- lists by number

in_front : {X : Type 0} (xs ys : List X) (i : ℕ) → i < length xs → slice_get (xs ++ ys) i ≡ slice_get xs i
in_front [] ys i lt = absurd (omega arith)
in_front (x ∷ xs) ys zero lt = refl
in_front (x ∷ xs) ys (suc i) lt = in_front xs ys i (omega arith)

at_last : {X : Type 0} (xs : List X) (y : X) (i : ℕ) → i ≡ length xs → slice_get (xs ++ y ∷ []) i ≡ Some y
at_last [] y zero e = refl
at_last [] y (suc i) e = absurd (omega arith)
at_last (x ∷ xs) y zero e = absurd (omega arith)
at_last (x ∷ xs) y (suc i) e = at_last xs y i (omega arith)

pub length-below : (n : ℕ) → length (below n) ≡ n
length-below zero = refl
length-below (suc n) = let rest = length-below n in length-append (below n) (n ∷ []) ∙ (omega arith)

pub at_below : {X : Type 0} (f : ℕ → X) (n t : ℕ) → t < n → slice_get (map f (below n)) t ≡ Some (f t)
at_below f zero t lt = absurd (omega arith)
at_below f (suc n) t lt =
    let long : length (map f (below n)) ≡ n = length-map (below n) f ∙ length-below n in
    ap (λ l. slice_get l t) (map-append f (below n) (n ∷ []))
    ∙ elim (cases_eq t n) [
      | inl e ↦ at_last (map f (below n)) (f n) t (omega arith) ∙ ap (λ k. Some (f k)) (sym e)
      | inr ne ↦ in_front (map f (below n)) (f n ∷ []) t (omega arith) ∙ at_below f n t (omega arith)
    ]

module _ (day : Day) (types : List (List ℕ)) (minute : ℕ) (plan : List (List ℕ)) where
  -- ---- the lists

  naming_none : (done : List ℕ) (t : ℕ) → count_of t done ≡ 0 → naming day types minute plan done t ≡ []
  unfolding naming
  naming_none [] t none = refl
  naming_none (b ∷ before) t none = elim (cases_eq t b) [
    | inl e ↦ let o = one_same b t (sym e) in absurd (omega arith)
    | inr ne ↦ cond-false (eqb t b) (list_from day types minute plan (naming day types minute plan before) before b) (naming day types minute plan before t) (ne_eqb t b ne)
        ∙ naming_none before t (omega arith)
  ]

  pub named_is : (t : ℕ) → list_of (named_from day types minute plan) t ≡ naming day types minute plan (latest_first day) t
  unfolding named_from list_of
  named_is t = elim (cases_lt t (length day.trips)) [
    | inl lt ↦ ap (λ (o : Option (List ℕ)). unwrap_or o []) (at_below (naming day types minute plan (latest_first day)) (length day.trips) t lt)
    | inr ge ↦
        let long : length (map (naming day types minute plan (latest_first day)) (below (length day.trips))) ≡ length day.trips = length-map (below (length day.trips)) (naming day types minute plan (latest_first day)) ∙ length-below (length day.trips) in
        ap (λ (o : Option (List ℕ)). unwrap_or o []) (slice_get_past (map (naming day types minute plan (latest_first day)) (below (length day.trips))) t (omega arith))
        ∙ sym (naming_none (latest_first day) t (none (cases_lt 0 (count_of t (latest_first day))) ge))
  ]
    where
      none : (0 < count_of t (latest_first day)) ⊎ (count_of t (latest_first day) ≤ 0) → length day.trips ≤ t → count_of t (latest_first day) ≡ 0
      none (inl some) ge = let lt = is_trip day t (omega arith) in absurd (omega arith)
      none (inr few) ge = omega arith

  pub length-named : length (named_from day types minute plan) ≡ length day.trips
  unfolding named_from
  length-named = length-map (below (length day.trips)) (naming day types minute plan (latest_first day)) ∙ length-below (length day.trips)

  -- ---- the rule

  -- only the lists of the trips that ran matter
  pub standing_same : (lists others : ℕ → List ℕ) (before : List ℕ) → ((t : ℕ) → 1 ≤ count_of t before → lists t ≡ others t) → (u : ℕ) → standing day types lists before u ≡ standing day types others before u
  unfolding standing
  standing_same lists others [] same u = refl
  standing_same lists others (t ∷ before) same u =
      let o = one_same t t refl in
      ap (λ (l : List ℕ). if has u l then after_trip day types (λ _. l) t u else standing day types lists before u) (same t (omega arith))
      ∙ ap (λ (s : Option InYard). if has u (others t) then after_trip day types others t u else s) (standing_same lists others before (λ x c. same x (omega arith)) u)

  module _ (links : AreLinks day) (is_day : IsDay day) where
    pub list_same : (lists others : ℕ → List ℕ) (b : ℕ) (before : List ℕ) → IsTurn day b before → ((t : ℕ) → 1 ≤ count_of t before → lists t ≡ others t)
        → list_from day types minute plan lists before b ≡ list_from day types minute plan others before b
    unfolding list_from named_list
    list_same lists others b before turn same =
        let stands : standing day types lists before ≡ standing day types others before = fun_ext (standing_same lists others before same) in
        let come : coming day types lists b ≡ coming day types others b =
        coming_same day types lists others b (λ a c. same a (leads_before day types lists links is_day a b before turn c)) in
        ap (λ (c : List ℕ). if nat_lt (leaves day b) minute then list_of plan b else put_together day b c (fetched day (standing day types lists before) (from_of day b) (leaves day b) [] (taken_with itself day types b))) come
        ∙ ap (λ (s : ℕ → Option InYard). if nat_lt (leaves day b) minute then list_of plan b else put_together day b (coming day types others b) (fetched day s (from_of day b) (leaves day b) [] (taken_with itself day types b))) stands

    pub by_rule : (lists : ℕ → List ℕ) (done : List ℕ) → AreInTurn day done → ((t : ℕ) → 1 ≤ count_of t done → lists t ≡ naming day types minute plan done t) → AreNamedBy day types minute plan lists done
    unfolding naming
    by_rule lists [] turns same = tt
    by_rule lists (b ∷ before) turns same =
        let o = one_same b b refl in
        let fresh = turns.0.fresh in
        let rest : (t : ℕ) → 1 ≤ count_of t before → lists t ≡ naming day types minute plan before t =
        λ t c. (let ne : t ≢ b = λ e. (let x = ap (λ y. count_of y before) e in absurd (omega arith)) in
        same t (omega arith) ∙ cond-false (eqb t b) (list_from day types minute plan (naming day types minute plan before) before b) (naming day types minute plan before t) (ne_eqb t b ne)) in (
          record {
            named = same b (omega arith) ∙ cond-true (eqb b b) (list_from day types minute plan (naming day types minute plan before) before b) (naming day types minute plan before b) (eq-eqb b b refl)
                ∙ list_same (naming day types minute plan before) lists b before turns.0 (λ t c. sym (rest t c));
          },
          by_rule lists before turns.1 rest,
        )

    pub named_by_rule : AreNamedBy day types minute plan (list_of (named_from day types minute plan)) (latest_first day)
    named_by_rule = by_rule (list_of (named_from day types minute plan)) (latest_first day) (latest_in_turn day) (λ t c. named_is t)
