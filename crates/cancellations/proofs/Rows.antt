-- Rows that cancel trips: each cancels one trip, they cancel one list, and one more row adds its trip.
use Rattle.std.proofs.Common.{◌≡◌, ℕ, zero, suc, ◌+◌, ◌<◌, ◌≤◌, List, [], ◌∷◌, ◌++◌, length, take, Some, get_or}
use Rattle.std.proofs.Common.{refl, sym, ap, subst, ◌∙◌, arith, inl, inr, false, true, length-append}
use Rattle.std.specs.Prelude.{slice_get}
use Rattle.std.proofs.lemmas.Bool.{cases_eq, cases_lt, leb-true, le-leb}
use Rattle.std.proofs.lemmas.List.{length-take-le, take_all, take_more, take-append-le, take-take}
use Rattle.std.proofs.lemmas.Option.{slice_get-get_or, slice_get_within}
use Rattle.std.proofs.Math.Seq.{take-append_seam}
use Rattle.timetable.specs.Accepted.{HaveNames}
use Rattle.timetable.specs.Day.{Day}
use Rattle.timetable.specs.Lists.{IsDistinct, count_of, has}
use Rattle.timetable.specs.NamedEntries.{find_name}
use Rattle.timetable.proofs.FoundNames.{names_are_found}
use Rattle.timetable.proofs.Listing.{get_first, get_second}
use Rattle.timetable.proofs.Ones.{one_same, one_other}
use Rattle.rules.proofs.Turning.{count_of-append}
use Rattle.cancellations.specs.Cancellations.{AreCancellable, CancelEach, Cancels, IsFirstWrong}

abbrev Rows : Type 0
Rows = List (List (List ℕ))

take_entry : (xs : List ℕ) (n k t : ℕ) → k < n → slice_get (take n xs) k ≡ Some t → slice_get xs k ≡ Some t
take_entry xs zero k t lt e = absurd (omega (arith, lt))
take_entry [] (suc n) k t lt e = e
take_entry (x ∷ xs) (suc n) zero t lt e = e
take_entry (x ∷ xs) (suc n) (suc k) t lt e = take_entry xs n k t (omega (arith, lt)) e

module _ (day : Day) (minute : ℕ) where
  pub none_cancel : CancelEach day minute [] []
  none_cancel = record { count = refl; each = λ k t fields at_row at_trip. absurd cc }

  -- one more row cancels one more trip
  pub more_cancel : (rows : Rows) (trips : List ℕ) (fields : List (List ℕ)) (t : ℕ) → CancelEach day minute rows trips → Cancels day minute trips fields t
      → CancelEach day minute (rows ++ fields ∷ []) (trips ++ t ∷ [])
  more_cancel rows trips fields t each one = record {
    count = omega (arith, length-append trips (t ∷ []), length-append rows (fields ∷ []), each.count);
    each = λ k s row at_row at_trip. elim (cases_lt k (length rows)) [
      | inl before ↦
          let within : k < length trips = omega (arith, before, each.count) in
          subst (λ (others : List ℕ). Cancels day minute others row s) (sym (take-append-le k trips (t ∷ []) (omega (arith, within))))
          (each.each k s row (sym (get_first rows (fields ∷ []) k before) ∙ at_row) (sym (get_first trips (t ∷ []) k within) ∙ at_trip))
      | inr past ↦
          let there : k < length (rows ++ fields ∷ []) = slice_get_within (rows ++ fields ∷ []) k row at_row in
          let last : k ≡ length rows + 0 = omega (arith, past, there, length-append rows (fields ∷ [])) in
          let last_trip : k ≡ length trips + 0 = omega (arith, last, each.count) in
          let row_is : Some fields ≡ Some row = sym (ap (λ (n : ℕ). slice_get (rows ++ fields ∷ []) n) last ∙ get_second rows (fields ∷ []) 0) ∙ at_row in
          let trip_is : Some t ≡ Some s = sym (ap (λ (n : ℕ). slice_get (trips ++ t ∷ []) n) last_trip ∙ get_second trips (t ∷ []) 0) ∙ at_trip in
          let same_row : fields ≡ row = cc in
          let same_trip : t ≡ s = cc in
          let front : trips ≡ take k (trips ++ t ∷ []) =
          sym (ap (λ (n : ℕ). take n (trips ++ t ∷ [])) (omega (arith, last_trip)) ∙ take-append_seam trips (t ∷ [])) in
          subst (λ (others : List ℕ). Cancels day minute others row s) front
          (subst (λ (r : List (List ℕ)). Cancels day minute trips r s) same_row (subst (λ (n : ℕ). Cancels day minute trips fields n) same_trip one))
    ];
  }

  -- the rows before another cancel the trips before its trip
  pub front_cancels : (rows before after : Rows) (trips : List ℕ) → rows ≡ before ++ after → CancelEach day minute rows trips
      → CancelEach day minute before (take (length before) trips)
  front_cancels rows before after trips whole each =
      let long : length before ≤ length trips = omega (arith, each.count, ap length whole, length-append before after) in
      record {
        count = length-take-le (length before) trips long;
        each = λ k t fields at_row at_trip.
            let within : k < length before = slice_get_within before k fields at_row in
            subst (λ (others : List ℕ). Cancels day minute others fields t) (sym (take-take k (length before) trips (omega (arith, within))))
            (each.each k t fields (ap (λ (rs : Rows). slice_get rs k) whole ∙ get_first before after k within ∙ at_row)
            (take_entry trips (length before) k t within at_trip));
      }

  module _ (names : HaveNames day) where
    -- a row cancels one trip
    pub one_trip : (others : List ℕ) (fields : List (List ℕ)) (t s : ℕ) → Cancels day minute others fields t → Cancels day minute others fields s → t ≡ s
    one_trip others fields t s a b =
        let alike : a.name ∷ [] ≡ b.name ∷ [] = sym a.one_field ∙ b.one_field in
        let name : a.name ≡ b.name = cc in
        let found : Some t ≡ Some s =
        sym ((names_are_found day names).trip t a.name a.named) ∙ ap (λ (text : List ℕ). find_name (λ trip. trip.name) day.trips text) name
        ∙ (names_are_found day names).trip s b.name b.named in
        cc

    module _ (rows : Rows) (some others : List ℕ) (one : CancelEach day minute rows some) (other : CancelEach day minute rows others) where
      fronts : (k : ℕ) → k ≤ length rows → take k some ≡ take k others
      fronts zero le = refl
      fronts (suc k) le =
          let below : k < length rows = omega (arith, le) in
          let in_some : k < length some = omega (arith, below, one.count) in
          let in_others : k < length others = omega (arith, below, other.count) in
          let rest : take k some ≡ take k others = fronts k (omega (arith, le)) in
          let first : Cancels day minute (take k others) (get_or rows k []) (get_or some k 0) =
          subst (λ (before : List ℕ). Cancels day minute before (get_or rows k []) (get_or some k 0)) rest
          (one.each k (get_or some k 0) (get_or rows k []) (slice_get-get_or rows k [] below) (slice_get-get_or some k 0 in_some)) in
          let second : Cancels day minute (take k others) (get_or rows k []) (get_or others k 0) =
          other.each k (get_or others k 0) (get_or rows k []) (slice_get-get_or rows k [] below) (slice_get-get_or others k 0 in_others) in
          let here : get_or some k 0 ≡ get_or others k 0 = one_trip (take k others) (get_or rows k []) (get_or some k 0) (get_or others k 0) first second in
          let on : suc k ≡ k + 1 = omega arith in
          ap (λ (n : ℕ). take n some) on ∙ take_more some k 0 in_some
          ∙ ap (λ (front : List ℕ). front ++ get_or some k 0 ∷ []) rest ∙ ap (λ (t : ℕ). take k others ++ t ∷ []) here
          ∙ sym (ap (λ (n : ℕ). take n others) on ∙ take_more others k 0 in_others)

      -- rows cancel one list of trips
      pub one_list : some ≡ others
      one_list =
          sym (take_all (length rows) some (omega (arith, one.count))) ∙ fronts (length rows) (omega arith)
          ∙ take_all (length rows) others (omega (arith, other.count))

    -- no rows that reach past the first wrong one cancel trips
    pub none_further : (rows : Rows) (row : ℕ) (front rest : Rows) (trips : List ℕ) (wrong : IsFirstWrong day minute rows row) → rows ≡ front ++ rest
        → CancelEach day minute front trips → length wrong.before < length front → ⊥
    none_further rows row front rest trips wrong whole each further =
        let place : slice_get rows (length wrong.before + 0) ≡ Some wrong.fields =
        ap (λ (rs : Rows). slice_get rs (length wrong.before + 0)) wrong.whole ∙ get_second wrong.before (wrong.fields ∷ wrong.after) 0 in
        let there : slice_get rows (length wrong.before) ≡ Some wrong.fields = ap (λ (n : ℕ). slice_get rows n) (omega arith) ∙ place in
        let in_front : slice_get front (length wrong.before) ≡ Some wrong.fields =
        sym (ap (λ (rs : Rows). slice_get rs (length wrong.before)) whole ∙ get_first front rest (length wrong.before) further) ∙ there in
        let in_trips : length wrong.before < length trips = omega (arith, further, each.count) in
        let t : ℕ = get_or trips (length wrong.before) 0 in
        let cancels : Cancels day minute (take (length wrong.before) trips) wrong.fields t =
        each.each (length wrong.before) t wrong.fields in_front (slice_get-get_or trips (length wrong.before) 0 in_trips) in
        let up_to : CancelEach day minute wrong.before (take (length wrong.before) trips) = record {
          count = length-take-le (length wrong.before) trips (omega (arith, in_trips));
          each = λ k s fields at_row at_trip.
              let within : k < length wrong.before = slice_get_within wrong.before k fields at_row in
              subst (λ (others : List ℕ). Cancels day minute others fields s) (sym (take-take k (length wrong.before) trips (omega (arith, within))))
              (each.each k s fields
              (sym (get_first front rest k (omega (arith, within, further))) ∙ sym (ap (λ (rs : Rows). slice_get rs k) whole)
              ∙ ap (λ (rs : Rows). slice_get rs k) wrong.whole ∙ get_first wrong.before (wrong.fields ∷ wrong.after) k within ∙ at_row)
              (take_entry trips (length wrong.before) k s within at_trip));
        } in
        let same : take (length wrong.before) trips ≡ wrong.trips = one_list wrong.before (take (length wrong.before) trips) wrong.trips up_to wrong.right in
        wrong.wrong t (subst (λ (others : List ℕ). Cancels day minute others wrong.fields t) same cancels)

  -- ---- what is known of the trips

  module _ (rows : Rows) (trips : List ℕ) (each : CancelEach day minute rows trips) where
    -- a trip that is cancelled by some row may be cancelled
    some_place : (xs : List ℕ) (t : ℕ) → 1 ≤ count_of t xs → (k : ℕ) × (slice_get xs k ≡ Some t)
    some_place [] t there = absurd (omega (arith, there))
    some_place (x ∷ xs) t there = elim (cases_eq x t) [
      | inl e ↦ (0, ap (λ (n : ℕ). Some n) e)
      | inr ne ↦ let other = one_other x t ne in let rest = some_place xs t (omega (arith, there, other)) in (suc rest.0, rest.1)
    ]

    row_of : (k t : ℕ) → slice_get trips k ≡ Some t → Cancels day minute (take k trips) (get_or rows k []) t
    row_of k t at =
        let below : k < length rows = omega (arith, slice_get_within trips k t at, each.count) in
        each.each k t (get_or rows k []) (slice_get-get_or rows k [] below) at

    -- no trip of a front is named twice
    front_once : (k : ℕ) → k ≤ length trips → IsDistinct (take k trips)
    front_once zero le x = omega arith
    front_once (suc k) le x =
        let below : k < length trips = omega (arith, le) in
        let rest : count_of x (take k trips) ≤ 1 = front_once k (omega (arith, le)) x in
        let on : suc k ≡ k + 1 = omega arith in
        let counted : count_of x (take (suc k) trips) ≡ count_of x (take k trips) + count_of x (get_or trips k 0 ∷ []) =
        ap (count_of x) (ap (λ (n : ℕ). take n trips) on ∙ take_more trips k 0 below) ∙ count_of-append x (take k trips) (get_or trips k 0 ∷ []) in
        elim (cases_eq (get_or trips k 0) x) [
          | inl is ↦
              let other : has (get_or trips k 0) (take k trips) ≡ false = (row_of k (get_or trips k 0) (slice_get-get_or trips k 0 below)).other in
              let here : has x (take k trips) ≡ false = subst (λ (t : ℕ). has t (take k trips) ≡ false) is other in
              let one = one_same (get_or trips k 0) x is in
              elim (cases_lt 0 (count_of x (take k trips))) [
                | inl some ↦ let there : has x (take k trips) ≡ true = le-leb 1 (count_of x (take k trips)) (omega (arith, some)) in absurd cc
                | inr none ↦ omega (arith, none, one, counted)
              ]
          | inr isnt ↦ let none = one_other (get_or trips k 0) x isnt in omega (arith, none, counted, rest)
        ]

    -- they may be cancelled together
    pub are_cancellable : AreCancellable day minute trips
    are_cancellable = record {
      once = subst IsDistinct (take_all (length trips) trips (omega arith)) (front_once (length trips) (omega arith));
      each = λ t there.
          let at = some_place trips t (leb-true 1 (count_of t trips) there) in
          (row_of at.0 t at.1).may_be;
    }
