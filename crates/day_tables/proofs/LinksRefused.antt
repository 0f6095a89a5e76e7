-- The tests on the links fail where their words say so, and in their order.
use Rattle.std.proofs.Common.{◌≡◌, ◌≢◌, inl, inr, ℕ, ◌<◌, ◌≤◌, Bool, true, false, List, [], ◌∷◌, refl, sym, ap, subst}
use Rattle.std.proofs.Common.{◌∙◌, arith, Option, Some, None, Ok, slice_get}
use Rattle.std.specs.Prelude.{◌||◌, ◌==◌}
use Rattle.std.specs.List.{AllZip}
use Rattle.std.proofs.lemmas.Bool.{and_cases, or_cases, or_parts, leb-true, leb-false, eqb-true, eqb-false, both_ways}
use Rattle.std.proofs.lemmas.Option.{same_Some, get_or_from_slice_get}
use Rattle.rules.specs.declared.records.UnitType.{UnitType}
use Rattle.rules.specs.declared.records.End.{End}
use Rattle.rules.specs.declared.records.End.TheVariants as at
use Rattle.rail_csv.specs.declared.rows.KindWord.{KindWord}
use Rattle.rail_csv.specs.declared.rows.KindWord.TheVariants as words
use Rattle.rail_csv.specs.declared.rows.LinkRow.{LinkRow}
use Rattle.rail_csv.specs.declared.rows.TripRow.{TripRow}
use Rattle.rail_csv.specs.declared.rows.Table.TheVariants as names
use Rattle.rules.specs.declared.records.Link.{Link}
use Rattle.rules.specs.declared.records.LinkKind.{LinkKind}
use Rattle.rules.specs.declared.records.LinkKind.TheVariants.{Turn, Join, Split}
use Rattle.rules.specs.declared.records.Station.{Station}
use Rattle.rules.specs.declared.records.Trip.{Trip}
use Rattle.day_tables.specs.declared.building.refusal.InstanceRefusal.{InstanceRefusal}
use Rattle.day_tables.specs.declared.building.refusal.InstanceRefusal.TheVariants.{UnknownName, WrongLinkFields}
use Rattle.day_tables.specs.declared.building.tables.Tables.{Tables}
use Rattle.day_tables.specs.Build.{accept_trip, trips_in}
use Rattle.day_tables.specs.LinkRows.{lacks_an_end, does_shunt, turn_in, join_in, split_in, kind_of, is_arriving}
use Rattle.day_tables.specs.LinkRows.{is_departing, names_again, do_meet, is_in_time, each_pair, accept_trips}
use Rattle.day_tables.specs.LinkRows.{accept_link, links_in}
use Rattle.day_tables.specs.Links.{arriving_in, departing_in}
use Rattle.day_tables.specs.Lists.{of_entry, has}
use Rattle.day_tables.specs.Meaning.{IsKindOf}
use Rattle.day_tables.specs.NamedEntries.{find_name}
use Rattle.day_tables.specs.Refusals.{IsNoTrip, FitsKind, NamesArriving, NamesDeparting, NamedBefore, UsesTwice}
use Rattle.day_tables.specs.Refusals.{HasTripsThat, kind_tests, meeting_tests, link_tests}
use Rattle.day_tables.specs.Tests.{Test, ◌when◌, row_tests}
use Rattle.day_tables.specs.Rowwise.{row_after}
use Rattle.day_tables.proofs.Accepting.{any_front, accepted_zip}
use Rattle.day_tables.proofs.Days.{entry_at, entry_is}
use Rattle.day_tables.proofs.Entries.{IsTripOfRow, found_name, trip_of_row}
use Rattle.day_tables.proofs.Linking.{IsFound, two_ends, kind_made, link_of_row, has_one, has_two, pair_passes}
use Rattle.day_tables.proofs.LinkNames.{has_itself, has_first, has_second}
use Rattle.day_tables.proofs.RowNames.{same_name, zip_at, zip_entry, AreNamed, no_row, some_row, row_number}
use Rattle.day_tables.proofs.Said.{trips_apart}
use Rattle.day_tables.proofs.Tests.{Outcome, outcome_passed, outcome_guard, outcome_choice, outcome_found, outcome_then}
use Rattle.day_tables.proofs.Tests.{outcome_each, outcome_ok, outcome_err, any_entries}

-- ---- fields that fit no kind, and names that are unknown

-- the tests on a row of this kind with these second names
abbrev tests_of : Tables → ℕ → LinkRow → KindWord → Option (List ℕ) → Option (List ℕ) → List (Test InstanceRefusal)
tests_of tables number row word second second_out =
    WrongLinkFields number when (¬ FitsKind word second second_out row.uncouple row.couple row.exchange)
    ∷ UnknownName names.Links number 1 when IsNoTrip tables (Some row.arriving)
    ∷ UnknownName names.Links number 2 when IsNoTrip tables second
    ∷ UnknownName names.Links number 3 when IsNoTrip tables (Some row.departing)
    ∷ UnknownName names.Links number 4 when IsNoTrip tables second_out
    ∷ []

turn_unfit : (uncouple couple : End) (exchange : Bool) → lacks_an_end uncouple couple exchange ≡ true → FitsKind words.Turn None None uncouple couple exchange → ⊥
turn_unfit uncouple couple false lacks fits = absurd cc
turn_unfit at.None couple true lacks fits = fits.0 refl
turn_unfit at.Front at.None true lacks fits = fits.1 refl
turn_unfit at.Rear at.None true lacks fits = fits.1 refl
turn_unfit at.Front at.Front true lacks fits = absurd cc
turn_unfit at.Front at.Rear true lacks fits = absurd cc
turn_unfit at.Rear at.Front true lacks fits = absurd cc
turn_unfit at.Rear at.Rear true lacks fits = absurd cc

turn_fit : (uncouple couple : End) (exchange : Bool) → lacks_an_end uncouple couple exchange ≡ false → FitsKind words.Turn None None uncouple couple exchange
turn_fit uncouple couple false none = tt
turn_fit uncouple couple true none = two_ends uncouple couple true none refl

join_unfit : (name : List ℕ) (uncouple couple : End) (exchange : Bool) → does_shunt uncouple couple exchange ≡ true → FitsKind words.Join (Some name) None uncouple couple exchange → ⊥
join_unfit name at.None at.None false shunts fits = absurd cc
join_unfit name at.None at.None true shunts fits = fits
join_unfit name at.None at.Front exchange shunts fits = fits
join_unfit name at.None at.Rear exchange shunts fits = fits
join_unfit name at.Front couple exchange shunts fits = fits
join_unfit name at.Rear couple exchange shunts fits = fits

join_fit : (name : List ℕ) (uncouple couple : End) (exchange : Bool) → does_shunt uncouple couple exchange ≡ false → FitsKind words.Join (Some name) None uncouple couple exchange
join_fit name at.None at.None false none = tt
join_fit name at.None at.None true none = absurd cc
join_fit name at.None at.Front exchange none = absurd cc
join_fit name at.None at.Rear exchange none = absurd cc
join_fit name at.Front couple exchange none = absurd cc
join_fit name at.Rear couple exchange none = absurd cc

split_unfit : (name : List ℕ) (uncouple couple : End) (exchange : Bool) → does_shunt uncouple couple exchange ≡ true → FitsKind words.Split None (Some name) uncouple couple exchange → ⊥
split_unfit name at.None at.None false shunts fits = absurd cc
split_unfit name at.None at.None true shunts fits = fits
split_unfit name at.None at.Front exchange shunts fits = fits
split_unfit name at.None at.Rear exchange shunts fits = fits
split_unfit name at.Front couple exchange shunts fits = fits
split_unfit name at.Rear couple exchange shunts fits = fits

split_fit : (name : List ℕ) (uncouple couple : End) (exchange : Bool) → does_shunt uncouple couple exchange ≡ false → FitsKind words.Split None (Some name) uncouple couple exchange
split_fit name at.None at.None false none = tt
split_fit name at.None at.None true none = absurd cc
split_fit name at.None at.Front exchange none = absurd cc
split_fit name at.None at.Rear exchange none = absurd cc
split_fit name at.Front couple exchange none = absurd cc
split_fit name at.Rear couple exchange none = absurd cc

module _ (tables : Tables) (trips : List Trip) (named : AreNamed (λ row. row.name) (λ t. t.name) tables.trips trips) (number : ℕ) (row : LinkRow) where
  no_trip : (name : List ℕ) → find_name (λ t. t.name) trips name ≡ None → IsNoTrip tables (Some name)
  no_trip name none = no_row (λ row. row.name) (λ t. t.name) tables.trips trips named name none

  some_trip : (name : List ℕ) (n : ℕ) → find_name (λ t. t.name) trips name ≡ Some n → ¬ IsNoTrip tables (Some name)
  some_trip name n is = some_row (λ row. row.name) (λ t. t.name) tables.trips trips named name n is

  turn_outcome : (second second_out : Option (List ℕ)) → Outcome (tests_of tables number row words.Turn second second_out) (turn_in trips number row second second_out)
  unfolding turn_in
  turn_outcome None None = outcome_guard _ _ (lacks_an_end row.uncouple row.couple row.exchange) _ (turn_unfit row.uncouple row.couple row.exchange) (λ none unfit. unfit (turn_fit row.uncouple row.couple row.exchange none))
      (λ none. outcome_found _ _ (find_name (λ t. t.name) trips row.arriving) _ (no_trip row.arriving) (some_trip row.arriving) (λ a is_a. outcome_passed _ _ _ (λ none. none)
      (outcome_found _ _ (find_name (λ t. t.name) trips row.departing) _ (no_trip row.departing) (some_trip row.departing) (λ b is_b. outcome_passed _ [] (Ok (Turn a b row.uncouple row.couple row.exchange)) (λ none. none) (outcome_ok _ _)))))
  turn_outcome (Some name) second_out = outcome_err _ _ _ (λ fits. fits)
  turn_outcome None (Some name) = outcome_err _ _ _ (λ fits. fits)

  join_outcome : (second second_out : Option (List ℕ)) → Outcome (tests_of tables number row words.Join second second_out) (join_in trips number row second second_out)
  unfolding join_in
  join_outcome (Some name) None = outcome_guard _ _ (does_shunt row.uncouple row.couple row.exchange) _ (join_unfit name row.uncouple row.couple row.exchange) (λ none unfit. unfit (join_fit name row.uncouple row.couple row.exchange none))
      (λ none. outcome_found _ _ (find_name (λ t. t.name) trips row.arriving) _ (no_trip row.arriving) (some_trip row.arriving)
      (λ a1 is_a1. outcome_found _ _ (find_name (λ t. t.name) trips name) _ (no_trip name) (some_trip name)
      (λ a2 is_a2. outcome_found _ _ (find_name (λ t. t.name) trips row.departing) _ (no_trip row.departing) (some_trip row.departing)
      (λ b is_b. outcome_passed _ [] (Ok (Join a1 a2 b)) (λ none. none) (outcome_ok _ _)))))
  join_outcome None second_out = outcome_err _ _ _ (λ fits. fits)
  join_outcome (Some name) (Some other) = outcome_err _ _ _ (λ fits. fits)

  split_outcome : (second second_out : Option (List ℕ)) → Outcome (tests_of tables number row words.Split second second_out) (split_in trips number row second second_out)
  unfolding split_in
  split_outcome None (Some name) = outcome_guard _ _ (does_shunt row.uncouple row.couple row.exchange) _ (split_unfit name row.uncouple row.couple row.exchange) (λ none unfit. unfit (split_fit name row.uncouple row.couple row.exchange none))
      (λ none. outcome_found _ _ (find_name (λ t. t.name) trips row.arriving) _ (no_trip row.arriving) (some_trip row.arriving)
      (λ a is_a. outcome_passed _ _ _ (λ none. none) (outcome_found _ _ (find_name (λ t. t.name) trips row.departing) _ (no_trip row.departing) (some_trip row.departing)
      (λ b1 is_b1. outcome_found _ _ (find_name (λ t. t.name) trips name) _ (no_trip name) (some_trip name) (λ b2 is_b2. outcome_ok _ _)))))
  split_outcome (Some name) second_out = outcome_err _ _ _ (λ fits. fits)
  split_outcome None None = outcome_err _ _ _ (λ fits. fits)

  kind_outcome : (word : KindWord) → Outcome (tests_of tables number row word row.arriving2 row.departing2) (kind_of word trips number row)
  kind_outcome words.Turn = turn_outcome row.arriving2 row.departing2
  kind_outcome words.Join = join_outcome row.arriving2 row.departing2
  kind_outcome words.Split = split_outcome row.arriving2 row.departing2

-- ---- trips that are used twice

-- the row of a link names its trips
arriving_named : (trips : List Trip) (row : LinkRow) (kind : LinkKind) → IsKindOf (IsFound trips) row kind → (t : ℕ) → has t (arriving_in kind) ≡ true → (name : List ℕ) → IsFound trips name t → NamesArriving row name
arriving_named trips row (Turn a b uncouple couple exchange) is t here name found = inl (same_name (λ t. t.name) trips row.arriving name t (is.arriving ∙ ap Some (sym (has_one t a here))) found)
arriving_named trips row (Join a1 a2 b) is t here name found = elim (has_two t a1 a2 here) [
  | inl same ↦ inl (same_name (λ t. t.name) trips row.arriving name t (is.arriving ∙ ap Some (sym same)) found)
  | inr same ↦ inr (is.named ∙ ap Some (same_name (λ t. t.name) trips is.name name t (is.arriving2 ∙ ap Some (sym same)) found))
]
arriving_named trips row (Split a b1 b2) is t here name found = inl (same_name (λ t. t.name) trips row.arriving name t (is.arriving ∙ ap Some (sym (has_one t a here))) found)

departing_named : (trips : List Trip) (row : LinkRow) (kind : LinkKind) → IsKindOf (IsFound trips) row kind → (t : ℕ) → has t (departing_in kind) ≡ true → (name : List ℕ) → IsFound trips name t → NamesDeparting row name
departing_named trips row (Turn a b uncouple couple exchange) is t here name found = inl (same_name (λ t. t.name) trips row.departing name t (is.departing ∙ ap Some (sym (has_one t b here))) found)
departing_named trips row (Join a1 a2 b) is t here name found = inl (same_name (λ t. t.name) trips row.departing name t (is.departing ∙ ap Some (sym (has_one t b here))) found)
departing_named trips row (Split a b1 b2) is t here name found = elim (has_two t b1 b2 here) [
  | inl same ↦ inl (same_name (λ t. t.name) trips row.departing name t (is.departing ∙ ap Some (sym same)) found)
  | inr same ↦ inr (is.named ∙ ap Some (same_name (λ t. t.name) trips is.name name t (is.departing2 ∙ ap Some (sym same)) found))
]

-- the links so far are those of the rows so far
abbrev AreOf : List Trip → List LinkRow → List Link → Type 0
AreOf trips rows links = AllZip (λ row link. IsKindOf (IsFound trips) row link.kind) rows links

arriving_before : (trips : List Trip) (front : List LinkRow) (entries : List Link) → AreOf trips front entries → (row : LinkRow) (name : List ℕ) (t : ℕ) → NamesArriving row name → IsFound trips name t → is_arriving entries t ≡ true
    → NamedBefore NamesArriving front row
arriving_before trips front entries all row name t names found some = (
  name,
  names,
  any_front (λ row link. IsKindOf (IsFound trips) row link.kind) (λ link. has t (arriving_in link.kind)) (λ earlier. NamesArriving earlier name)
      (λ earlier link is here. arriving_named trips earlier link.kind is t here name found) front entries all some,
)

departing_before : (trips : List Trip) (front : List LinkRow) (entries : List Link) → AreOf trips front entries → (row : LinkRow) (name : List ℕ) (t : ℕ) → NamesDeparting row name → IsFound trips name t → is_departing entries t ≡ true
    → NamedBefore NamesDeparting front row
departing_before trips front entries all row name t names found some = (
  name,
  names,
  any_front (λ row link. IsKindOf (IsFound trips) row link.kind) (λ link. has t (departing_in link.kind)) (λ earlier. NamesDeparting earlier name)
      (λ earlier link is here. departing_named trips earlier link.kind is t here name found) front entries all some,
)

used_twice : (trips : List Trip) (front : List LinkRow) (entries : List Link) → AreOf trips front entries → (row : LinkRow) (kind : LinkKind) → IsKindOf (IsFound trips) row kind → names_again entries kind ≡ true → UsesTwice front row
used_twice trips front entries all row (Turn a b uncouple couple exchange) is again = elim (or_cases (is_arriving entries a) (is_departing entries b) again) [
  | inl here ↦ inr (inr (inl (arriving_before trips front entries all row row.arriving a (inl refl) is.arriving here)))
  | inr here ↦ inr (inr (inr (departing_before trips front entries all row row.departing b (inl refl) is.departing here)))
]
used_twice trips front entries all row (Join a1 a2 b) is again = elim (or_cases (a1 == a2 || is_arriving entries a1 || is_arriving entries a2) (is_departing entries b) again) [
  | inr here ↦ inr (inr (inr (departing_before trips front entries all row row.departing b (inl refl) is.departing here)))
  | inl rest ↦ elim (or_cases (a1 == a2 || is_arriving entries a1) (is_arriving entries a2) rest) [
    | inr here ↦ inr (inr (inl (arriving_before trips front entries all row is.name a2 (inr is.named) is.arriving2 here)))
    | inl first ↦ elim (or_cases (a1 == a2) (is_arriving entries a1) first) [
      | inr here ↦ inr (inr (inl (arriving_before trips front entries all row row.arriving a1 (inl refl) is.arriving here)))
      | inl same ↦ inl (is.named ∙ ap Some (same_name (λ t. t.name) trips is.name row.arriving a1 (is.arriving2 ∙ ap Some (sym (eqb-true a1 a2 same))) is.arriving))
    ]
  ]
]
used_twice trips front entries all row (Split a b1 b2) is again = elim (or_cases (b1 == b2 || is_arriving entries a || is_departing entries b1) (is_departing entries b2) again) [
  | inr here ↦ inr (inr (inr (departing_before trips front entries all row is.name b2 (inr is.named) is.departing2 here)))
  | inl rest ↦ elim (or_cases (b1 == b2 || is_arriving entries a) (is_departing entries b1) rest) [
    | inr here ↦ inr (inr (inr (departing_before trips front entries all row row.departing b1 (inl refl) is.departing here)))
    | inl first ↦ elim (or_cases (b1 == b2) (is_arriving entries a) first) [
      | inr here ↦ inr (inr (inl (arriving_before trips front entries all row row.arriving a (inl refl) is.arriving here)))
      | inl same ↦ inr (inl (is.named ∙ ap Some (same_name (λ t. t.name) trips is.name row.departing b1 (is.departing2 ∙ ap Some (sym (eqb-true b1 b2 same))) is.departing)))
    ]
  ]
]

-- ---- trips that are new

-- the number of a trip that a row names
arriving_number : (trips : List Trip) (row : LinkRow) (kind : LinkKind) → IsKindOf (IsFound trips) row kind → (name : List ℕ) → NamesArriving row name → (t : ℕ) × IsFound trips name t × (has t (arriving_in kind) ≡ true)
arriving_number trips row (Turn a b uncouple couple exchange) is name (inl same) = (a, subst (λ (n : List ℕ). IsFound trips n a) same is.arriving, has_itself a)
arriving_number trips row (Turn a b uncouple couple exchange) is name (inr second) = let none : None ≡ Some name = sym is.no_arriving2 ∙ second in absurd cc
arriving_number trips row (Join a1 a2 b) is name (inl same) = (a1, subst (λ (n : List ℕ). IsFound trips n a1) same is.arriving, has_first a1 a2)
arriving_number trips row (Join a1 a2 b) is name (inr second) = (a2, subst (λ (n : List ℕ). IsFound trips n a2) (same_Some is.name name (sym is.named ∙ second)) is.arriving2, has_second a1 a2)
arriving_number trips row (Split a b1 b2) is name (inl same) = (a, subst (λ (n : List ℕ). IsFound trips n a) same is.arriving, has_itself a)
arriving_number trips row (Split a b1 b2) is name (inr second) = let none : None ≡ Some name = sym is.no_arriving2 ∙ second in absurd cc

departing_number : (trips : List Trip) (row : LinkRow) (kind : LinkKind) → IsKindOf (IsFound trips) row kind → (name : List ℕ) → NamesDeparting row name → (t : ℕ) × IsFound trips name t × (has t (departing_in kind) ≡ true)
departing_number trips row (Turn a b uncouple couple exchange) is name (inl same) = (b, subst (λ (n : List ℕ). IsFound trips n b) same is.departing, has_itself b)
departing_number trips row (Turn a b uncouple couple exchange) is name (inr second) = let none : None ≡ Some name = sym is.no_departing2 ∙ second in absurd cc
departing_number trips row (Join a1 a2 b) is name (inl same) = (b, subst (λ (n : List ℕ). IsFound trips n b) same is.departing, has_itself b)
departing_number trips row (Join a1 a2 b) is name (inr second) = let none : None ≡ Some name = sym is.no_departing2 ∙ second in absurd cc
departing_number trips row (Split a b1 b2) is name (inl same) = (b1, subst (λ (n : List ℕ). IsFound trips n b1) same is.departing, has_first b1 b2)
departing_number trips row (Split a b1 b2) is name (inr second) = (b2, subst (λ (n : List ℕ). IsFound trips n b2) (same_Some is.name name (sym is.named ∙ second)) is.departing2, has_second b1 b2)

-- the trips of a kind that names none again are new, and differ
record AreNew (before : List Link) (kind : LinkKind) : Type 0 where
  arriving : (t : ℕ) → has t (arriving_in kind) ≡ true → is_arriving before t ≡ false
  departing : (t : ℕ) → has t (departing_in kind) ≡ true → is_departing before t ≡ false

are_new : (before : List Link) (kind : LinkKind) → names_again before kind ≡ false → AreNew before kind
are_new before (Turn a b uncouple couple exchange) none =
    let (new_a, new_b) = or_parts (is_arriving before a) (is_departing before b) none in
    record {
      arriving = λ t here. subst (λ (t : ℕ). is_arriving before t ≡ false) (sym (has_one t a here)) new_a;
      departing = λ t here. subst (λ (t : ℕ). is_departing before t ≡ false) (sym (has_one t b here)) new_b;
    }
are_new before (Join a1 a2 b) none =
    let (rest, new_b) = or_parts (a1 == a2 || is_arriving before a1 || is_arriving before a2) (is_departing before b) none in
    let (rest2, new_a2) = or_parts (a1 == a2 || is_arriving before a1) (is_arriving before a2) rest in
    let (differ, new_a1) = or_parts (a1 == a2) (is_arriving before a1) rest2 in
    record {
      arriving = λ t here. elim (has_two t a1 a2 here) [
        | inl is ↦ subst (λ (t : ℕ). is_arriving before t ≡ false) (sym is) new_a1
        | inr is ↦ subst (λ (t : ℕ). is_arriving before t ≡ false) (sym is) new_a2
      ];
      departing = λ t here. subst (λ (t : ℕ). is_departing before t ≡ false) (sym (has_one t b here)) new_b;
    }
are_new before (Split a b1 b2) none =
    let (rest, new_b2) = or_parts (b1 == b2 || is_arriving before a || is_departing before b1) (is_departing before b2) none in
    let (rest2, new_b1) = or_parts (b1 == b2 || is_arriving before a) (is_departing before b1) rest in
    let (differ, new_a) = or_parts (b1 == b2) (is_arriving before a) rest2 in
    record {
      arriving = λ t here. subst (λ (t : ℕ). is_arriving before t ≡ false) (sym (has_one t a here)) new_a;
      departing = λ t here. elim (has_two t b1 b2 here) [
        | inl is ↦ subst (λ (t : ℕ). is_departing before t ≡ false) (sym is) new_b1
        | inr is ↦ subst (λ (t : ℕ). is_departing before t ≡ false) (sym is) new_b2
      ];
    }

-- two trips of a side that are one
arriving_apart : (trips : List Trip) (before : List Link) (row : LinkRow) (kind : LinkKind) → IsKindOf (IsFound trips) row kind → names_again before kind ≡ false → row.arriving2 ≡ Some row.arriving → ⊥
arriving_apart trips before row (Turn a b uncouple couple exchange) is none twice = let never : None ≡ Some row.arriving = sym is.no_arriving2 ∙ twice in absurd cc
arriving_apart trips before row (Join a1 a2 b) is none twice =
    let (rest, new_b) = or_parts (a1 == a2 || is_arriving before a1 || is_arriving before a2) (is_departing before b) none in
    let (rest2, new_a2) = or_parts (a1 == a2 || is_arriving before a1) (is_arriving before a2) rest in
    let (differ, new_a1) = or_parts (a1 == a2) (is_arriving before a1) rest2 in
    let one : row.arriving ≡ is.name = same_Some row.arriving is.name (sym twice ∙ is.named) in
    eqb-false a1 a2 differ (same_Some a1 a2 (sym is.arriving ∙ ap (find_name (λ t. t.name) trips) one ∙ is.arriving2))
arriving_apart trips before row (Split a b1 b2) is none twice = let never : None ≡ Some row.arriving = sym is.no_arriving2 ∙ twice in absurd cc

departing_apart : (trips : List Trip) (before : List Link) (row : LinkRow) (kind : LinkKind) → IsKindOf (IsFound trips) row kind → names_again before kind ≡ false → row.departing2 ≡ Some row.departing → ⊥
departing_apart trips before row (Turn a b uncouple couple exchange) is none twice = let never : None ≡ Some row.departing = sym is.no_departing2 ∙ twice in absurd cc
departing_apart trips before row (Join a1 a2 b) is none twice = let never : None ≡ Some row.departing = sym is.no_departing2 ∙ twice in absurd cc
departing_apart trips before row (Split a b1 b2) is none twice =
    let (rest, new_b2) = or_parts (b1 == b2 || is_arriving before a || is_departing before b1) (is_departing before b2) none in
    let (rest2, new_b1) = or_parts (b1 == b2 || is_arriving before a) (is_departing before b1) rest in
    let (differ, new_a) = or_parts (b1 == b2) (is_arriving before a) rest2 in
    let one : row.departing ≡ is.name = same_Some row.departing is.name (sym twice ∙ is.named) in
    eqb-false b1 b2 differ (same_Some b1 b2 (sym is.departing ∙ ap (find_name (λ t. t.name) trips) one ∙ is.departing2))

not_used_twice : (trips : List Trip) (front : List LinkRow) (entries : List Link) → AreOf trips front entries → (row : LinkRow) (kind : LinkKind) → IsKindOf (IsFound trips) row kind → names_again entries kind ≡ false → ¬ UsesTwice front row
not_used_twice trips front entries all row kind is none (inl twice) = arriving_apart trips entries row kind is none twice
not_used_twice trips front entries all row kind is none (inr (inl twice)) = departing_apart trips entries row kind is none twice
not_used_twice trips front entries all row kind is none (inr (inr (inl (name, names, some)))) =
    let (t, found, here) = arriving_number trips row kind is name names in
    both_ways (is_arriving entries t) ((are_new entries kind none).arriving t here)
    (any_entries (λ row link. IsKindOf (IsFound trips) row link.kind) (λ link. has t (arriving_in link.kind)) (λ earlier. NamesArriving earlier name)
    (λ earlier link of_row named.
    let (s, found_s, has_s) = arriving_number trips earlier link.kind of_row name named in
    subst (λ (k : ℕ). has k (arriving_in link.kind) ≡ true) (same_Some s t (sym found_s ∙ found)) has_s) front entries all some)
not_used_twice trips front entries all row kind is none (inr (inr (inr (name, names, some)))) =
    let (t, found, here) = departing_number trips row kind is name names in
    both_ways (is_departing entries t) ((are_new entries kind none).departing t here)
    (any_entries (λ row link. IsKindOf (IsFound trips) row link.kind) (λ link. has t (departing_in link.kind)) (λ earlier. NamesDeparting earlier name)
    (λ earlier link of_row named.
    let (s, found_s, has_s) = departing_number trips earlier link.kind of_row name named in
    subst (λ (k : ℕ). has k (departing_in link.kind) ≡ true) (same_Some s t (sym found_s ∙ found)) has_s) front entries all some)

-- ---- trips that do not meet, or not in time

-- an arriving and a departing trip that fail a test
record FailingPair (trips : List Trip) (row : LinkRow) (test : ℕ → ℕ → Bool) : Type 0 where
  pub a : ℕ
  pub b : ℕ
  pub name : List ℕ
  pub name_out : List ℕ
  pub arriving : NamesArriving row name
  pub departing : NamesDeparting row name_out
  pub found : IsFound trips name a
  pub found_out : IsFound trips name_out b
  pub fails : test a b ≡ false

failing_pair : (trips : List Trip) (row : LinkRow) (test : ℕ → ℕ → Bool) (kind : LinkKind) → IsKindOf (IsFound trips) row kind → each_pair test kind ≡ false → FailingPair trips row test
failing_pair trips row test (Turn a b uncouple couple exchange) is fails = record { a = a; b = b; name = row.arriving; name_out = row.departing; arriving = inl refl; departing = inl refl; found = is.arriving; found_out = is.departing; fails = fails }
failing_pair trips row test (Join a1 a2 b) is fails = elim (and_cases (test a1 b) (test a2 b) fails) [
  | inl first ↦ record { a = a1; b = b; name = row.arriving; name_out = row.departing; arriving = inl refl; departing = inl refl; found = is.arriving; found_out = is.departing; fails = first }
  | inr second ↦ record { a = a2; b = b; name = is.name; name_out = row.departing; arriving = inr is.named; departing = inl refl; found = is.arriving2; found_out = is.departing; fails = second }
]
failing_pair trips row test (Split a b1 b2) is fails = elim (and_cases (test a b1) (test a b2) fails) [
  | inl first ↦ record { a = a; b = b1; name = row.arriving; name_out = row.departing; arriving = inl refl; departing = inl refl; found = is.arriving; found_out = is.departing; fails = first }
  | inr second ↦ record { a = a; b = b2; name = row.arriving; name_out = is.name; arriving = inl refl; departing = inr is.named; found = is.arriving; found_out = is.departing2; fails = second }
]

-- the row of a trip
record IsTripFrom (stations : List Station) (row : TripRow) (trip : Trip) : Type 0 where
  pub name : trip.name ≡ row.name
  pub from : find_name (λ s. s.name) stations row.from ≡ Some trip.from
  pub to : find_name (λ s. s.name) stations row.to ≡ Some trip.to
  pub departure : trip.departure ≡ row.departure
  pub arrival : trip.arrival ≡ row.arrival

-- the trip of a name, and its row
record FoundTrip (stations : List Station) (rows : List TripRow) (trips : List Trip) (name : List ℕ) (t : ℕ) : Type 0 where
  pub row : TripRow
  pub trip : Trip
  pub row_at : slice_get rows t ≡ Some row
  pub trip_at : slice_get trips t ≡ Some trip
  pub is : IsTripFrom stations row trip
  pub named : row.name ≡ name

trips_from : (stations : List Station) (types : List UnitType) (rows : List TripRow) (trips : List Trip) → trips_in stations types rows ≡ Ok trips → AllZip (IsTripFrom stations) rows trips
unfolding trips_in
trips_from stations types rows trips made = accepted_zip (accept_trip stations types) (IsTripFrom stations)
    (λ before row trip e.
    let of_row : IsTripOfRow stations types before row trip = trip_of_row stations types before row trip e in
    record {
      name = ap (λ (t : Trip). t.name) of_row.is;
      from = of_row.from;
      to = of_row.to;
      departure = ap (λ (t : Trip). t.departure) of_row.is;
      arrival = ap (λ (t : Trip). t.arrival) of_row.is;
    })
    [] [] rows trips tt made

trips_named : (stations : List Station) (types : List UnitType) (rows : List TripRow) (trips : List Trip) → trips_in stations types rows ≡ Ok trips → AreNamed (λ row. row.name) (λ t. t.name) rows trips
unfolding trips_in
trips_named stations types rows trips made = accepted_zip (accept_trip stations types) (λ row t. row.name ≡ t.name)
    (λ before row trip e. ap (λ (t : Trip). t.name) (sym (trip_of_row stations types before row trip e).is)) [] [] rows trips tt made

found_trip : (stations : List Station) (types : List UnitType) (rows : List TripRow) (trips : List Trip) (name : List ℕ) (t : ℕ) → trips_in stations types rows ≡ Ok trips → IsFound trips name t → FoundTrip stations rows trips name t
found_trip stations types rows trips name t made found =
    let (below, named) = found_name (λ t. t.name) trips name t found in
    let (trip, at, _) = entry_at (λ _. Unit {0}) trips t below (λ k d b. tt) in
    let (row, row_at, is) = zip_at (IsTripFrom stations) rows trips t trip (trips_from stations types rows trips made) at in
    record {
      row = row;
      trip = trip;
      row_at = row_at;
      trip_at = at;
      is = is;
      named = sym is.name ∙ ap (λ (t : Trip). t.name) (sym (get_or_from_slice_get trips t trip trip at)) ∙ named trip;
    }

-- the trip of a row whose name was found
trip_of : (stations : List Station) (types : List UnitType) (rows : List TripRow) (trips : List Trip) (i t : ℕ) (row : TripRow) → trips_in stations types rows ≡ Ok trips → slice_get rows i ≡ Some row → IsFound trips row.name t
    → (trip : Trip) × (slice_get trips t ≡ Some trip) × IsTripFrom stations row trip
trip_of stations types rows trips i t row made at found =
    let same : i ≡ t = row_number (λ row. row.name) (λ t. t.name) rows trips (trips_named stations types rows trips made) i t row (trips_apart stations types rows trips made) at found in
    let (trip, there, is) = zip_entry (IsTripFrom stations) rows trips i row (trips_from stations types rows trips made) at in
    (trip, ap (slice_get trips) (sym same) ∙ there, is)

apart : (tables : Tables) (stations : List Station) (types : List UnitType) (trips : List Trip) (row : LinkRow) → trips_in stations types tables.trips ≡ Ok trips
    → FailingPair trips row (do_meet trips) → HasTripsThat (λ a b. a.to ≢ b.from) tables row
apart tables stations types trips row made pair =
    let a = found_trip stations types tables.trips trips pair.name pair.a made pair.found in
    let b = found_trip stations types tables.trips trips pair.name_out pair.b made pair.found_out in
    let to : of_entry (λ trip. trip.to) trips pair.a 0 ≡ a.trip.to = entry_is (λ trip. trip.to) trips pair.a 0 a.trip a.trip_at in
    let from : of_entry (λ trip. trip.from) trips pair.b 0 ≡ b.trip.from = entry_is (λ trip. trip.from) trips pair.b 0 b.trip b.trip_at in (
      pair.a,
      pair.b,
      a.row,
      b.row,
      a.row_at,
      b.row_at,
      subst (NamesArriving row) (sym a.named) pair.arriving,
      subst (NamesDeparting row) (sym b.named) pair.departing,
      λ same.
          let one : a.trip.to ≡ b.trip.from = same_Some a.trip.to b.trip.from (sym a.is.to ∙ ap (find_name (λ s. s.name) stations) same ∙ b.is.from) in
          eqb-false (of_entry (λ trip. trip.to) trips pair.a 0) (of_entry (λ trip. trip.from) trips pair.b 0) pair.fails (to ∙ one ∙ sym from),
    )

early : (tables : Tables) (stations : List Station) (types : List UnitType) (trips : List Trip) (row : LinkRow) → trips_in stations types tables.trips ≡ Ok trips
    → FailingPair trips row (is_in_time trips) → HasTripsThat (λ a b. b.departure < a.arrival) tables row
early tables stations types trips row made pair =
    let a = found_trip stations types tables.trips trips pair.name pair.a made pair.found in
    let b = found_trip stations types tables.trips trips pair.name_out pair.b made pair.found_out in
    let arrival : of_entry (λ trip. trip.arrival) trips pair.a 1 ≡ a.row.arrival = entry_is (λ trip. trip.arrival) trips pair.a 1 a.trip a.trip_at ∙ a.is.arrival in
    let departure : of_entry (λ trip. trip.departure) trips pair.b 0 ≡ b.row.departure = entry_is (λ trip. trip.departure) trips pair.b 0 b.trip b.trip_at ∙ b.is.departure in
    let before : of_entry (λ trip. trip.departure) trips pair.b 0 < of_entry (λ trip. trip.arrival) trips pair.a 1 =
    leb-false (of_entry (λ trip. trip.arrival) trips pair.a 1) (of_entry (λ trip. trip.departure) trips pair.b 0) pair.fails in (
      pair.a,
      pair.b,
      a.row,
      b.row,
      a.row_at,
      b.row_at,
      subst (NamesArriving row) (sym a.named) pair.arriving,
      subst (NamesDeparting row) (sym b.named) pair.departing,
      omega (arith, before, arrival, departure),
    )

-- trips of which every pair passes
meets : (tables : Tables) (stations : List Station) (types : List UnitType) (trips : List Trip) (row : LinkRow) (kind : LinkKind) → trips_in stations types tables.trips ≡ Ok trips → IsKindOf (IsFound trips) row kind
    → each_pair (do_meet trips) kind ≡ true → ¬ HasTripsThat (λ a b. a.to ≢ b.from) tables row
meets tables stations types trips row kind made is pass (i, j, a, b, at_a, at_b, arrives, departs, differ) =
    let (s, found_s, has_s) = arriving_number trips row kind is a.name arrives in
    let (t, found_t, has_t) = departing_number trips row kind is b.name departs in
    let (trip_a, there_a, is_a) = trip_of stations types tables.trips trips i s a made at_a found_s in
    let (trip_b, there_b, is_b) = trip_of stations types tables.trips trips j t b made at_b found_t in
    let same : of_entry (λ trip. trip.to) trips s 0 ≡ of_entry (λ trip. trip.from) trips t 0 = eqb-true _ _ (pair_passes (do_meet trips) kind pass s t has_s has_t) in
    let one : trip_a.to ≡ trip_b.from = sym (entry_is (λ trip. trip.to) trips s 0 trip_a there_a) ∙ same ∙ entry_is (λ trip. trip.from) trips t 0 trip_b there_b in
    differ (same_name (λ s. s.name) stations a.to b.from trip_b.from (is_a.to ∙ ap Some one) is_b.from)

in_time : (tables : Tables) (stations : List Station) (types : List UnitType) (trips : List Trip) (row : LinkRow) (kind : LinkKind) → trips_in stations types tables.trips ≡ Ok trips → IsKindOf (IsFound trips) row kind
    → each_pair (is_in_time trips) kind ≡ true → ¬ HasTripsThat (λ a b. b.departure < a.arrival) tables row
in_time tables stations types trips row kind made is pass (i, j, a, b, at_a, at_b, arrives, departs, early) =
    let (s, found_s, has_s) = arriving_number trips row kind is a.name arrives in
    let (t, found_t, has_t) = departing_number trips row kind is b.name departs in
    let (trip_a, there_a, is_a) = trip_of stations types tables.trips trips i s a made at_a found_s in
    let (trip_b, there_b, is_b) = trip_of stations types tables.trips trips j t b made at_b found_t in
    let after : of_entry (λ trip. trip.arrival) trips s 1 ≤ of_entry (λ trip. trip.departure) trips t 0 = leb-true _ _ (pair_passes (is_in_time trips) kind pass s t has_s has_t) in
    let arrival : of_entry (λ trip. trip.arrival) trips s 1 ≡ a.arrival = entry_is (λ trip. trip.arrival) trips s 1 trip_a there_a ∙ is_a.arrival in
    let departure : of_entry (λ trip. trip.departure) trips t 0 ≡ b.departure = entry_is (λ trip. trip.departure) trips t 0 trip_b there_b ∙ is_b.departure in
    absurd (omega arith)

-- ---- all rows

pub links_outcome : (tables : Tables) (stations : List Station) (types : List UnitType) (trips : List Trip) → trips_in stations types tables.trips ≡ Ok trips → Outcome (row_tests (link_tests tables) [] tables.links) (links_in trips tables.links)
unfolding links_in accept_link accept_trips
links_outcome tables stations types trips made =
    let named : AreNamed (λ row. row.name) (λ t. t.name) tables.trips trips = trips_named stations types tables.trips trips made in
    outcome_each (accept_link trips) (link_tests tables) (λ row link. IsKindOf (IsFound trips) row link.kind) (λ before row link is. (link_of_row trips before row link is).kind)
    (λ front entries row all. outcome_then (kind_tests tables (row_after entries) row) (meeting_tests tables (row_after entries) front row) (kind_of row.kind trips (row_after entries) row) _
    (kind_outcome tables trips named (row_after entries) row row.kind)
    (λ kind is_kind.
    let is : IsKindOf (IsFound trips) row kind = kind_made trips (row_after entries) row row.kind kind refl is_kind in
    let link : Link = record { kind = kind; reverse = row.reverse } in
    outcome_guard _ _ (names_again entries kind) _ (used_twice trips front entries all row kind is) (not_used_twice trips front entries all row kind is)
    (λ new. outcome_choice _ _ (each_pair (do_meet trips) kind) _
    (λ fails. apart tables stations types trips row made (failing_pair trips row (do_meet trips) kind is fails))
    (meets tables stations types trips row kind made is)
    (λ meet. outcome_choice _ [] (each_pair (is_in_time trips) kind) (Ok link)
    (λ fails. early tables stations types trips row made (failing_pair trips row (is_in_time trips) kind is fails))
    (in_time tables stations types trips row kind made is)
    (λ _. outcome_ok _ _)))))
    [] [] tables.links tt
