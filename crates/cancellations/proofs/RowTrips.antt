-- Which trip a row cancels, and which trips may be cancelled, as they are tested.
use Rattle.std.proofs.Common.{◌≡◌, ℕ, ◌<◌, ◌≤◌, List, [], ◌∷◌, length, Bool, true, false, Some, None, IsTrue}
use Rattle.std.proofs.Common.{refl, sym, ap, subst, ◌∙◌, arith, inl, inr}
use Rattle.std.specs.Prelude.{nat_lt, not, option_and_then, slice_get, ◌↔◌}
use Rattle.std.specs.List.{list_any}
use Rattle.std.specs.Str.{is_utf8}
use Rattle.std.proofs.lemmas.Bool.{cases_eq, leb-true, le-leb, ltb-false, ltb-true, or_parts}
use Rattle.rail_csv.specs.Columns.{field}
use Rattle.rules.specs.declared.records.Link.{Link}
use Rattle.timetable.specs.Accepted.{AreLinks, HaveNames}
use Rattle.timetable.specs.Day.{Day, leaves}
use Rattle.timetable.specs.Links.{departing_in, incoming, link_into}
use Rattle.timetable.specs.Lists.{count_of, has}
use Rattle.timetable.specs.NamedEntries.{find_name}
use Rattle.timetable.proofs.FoundNames.{names_are_found}
use Rattle.timetable.proofs.Linked.{into_is}
use Rattle.timetable.proofs.NamedTrips.{IsNamed, named_or_not, place_is}
use Rattle.timetable.proofs.Ones.{one_other}
use Rattle.timetable.proofs.Said.{number_found}
use Rattle.cancellations.specs.Cancellations.{Cancels, MayBeCancelled}
use Rattle.cancellations.proofs.Passing.{has_any}

-- ---- rows

one_field : (fields : List (List ℕ)) → length fields ≡ 1 → fields ≡ field fields 0 ∷ []
one_field [] one = absurd (omega (arith, one))
one_field (name ∷ []) one = refl
one_field (name ∷ other ∷ fields) one = absurd (omega (arith, one))

module _ (day : Day) (minute : ℕ) (others : List ℕ) (fields : List (List ℕ)) where
  -- a row that cancels has one field, whose text is the name
  pub name_of : (t : ℕ) (cancels : Cancels day minute others fields t) → field fields 0 ≡ cancels.name
  name_of t cancels = ap (λ (all : List (List ℕ)). field all 0) cancels.one_field

  pub not_one : (length fields ≡ 1 → ⊥) → (t : ℕ) → Cancels day minute others fields t → ⊥
  not_one differs t cancels = differs (ap length cancels.one_field)

  pub not_text : is_utf8 (field fields 0) ≡ false → (t : ℕ) → Cancels day minute others fields t → ⊥
  not_text isnt t cancels =
      let is : is_utf8 (field fields 0) ≡ true = ap is_utf8 (name_of t cancels) ∙ cancels.is_text in absurd cc

  module _ (names : HaveNames day) where
    found : (t : ℕ) → Cancels day minute others fields t → find_name (λ trip. trip.name) day.trips (field fields 0) ≡ Some t
    found t cancels =
        ap (λ (text : List ℕ). find_name (λ trip. trip.name) day.trips text) (name_of t cancels)
        ∙ (names_are_found day names).trip t cancels.name cancels.named

    pub not_named : find_name (λ trip. trip.name) day.trips (field fields 0) ≡ None → (t : ℕ) → Cancels day minute others fields t → ⊥
    not_named none t cancels = let is : find_name (λ trip. trip.name) day.trips (field fields 0) ≡ Some t = found t cancels in absurd cc

    -- it cancels the trip that has the name
    pub is_trip : (trip t : ℕ) → find_name (λ trip. trip.name) day.trips (field fields 0) ≡ Some trip → Cancels day minute others fields t → t ≡ trip
    is_trip trip t at cancels = let both : Some t ≡ Some trip = sym (found t cancels) ∙ at in cc

    pub not_other : (trip : ℕ) → find_name (λ trip. trip.name) day.trips (field fields 0) ≡ Some trip → has trip others ≡ true
        → (t : ℕ) → Cancels day minute others fields t → ⊥
    not_other trip at there t cancels =
        let is : has t others ≡ true = ap (λ (n : ℕ). has n others) (is_trip trip t at cancels) ∙ there in
        let isnt : has t others ≡ false = cancels.other in
        absurd cc

    pub not_may : (trip : ℕ) → find_name (λ trip. trip.name) day.trips (field fields 0) ≡ Some trip → (MayBeCancelled day minute trip → ⊥)
        → (t : ℕ) → Cancels day minute others fields t → ⊥
    not_may trip at never t cancels = never (subst (MayBeCancelled day minute) (is_trip trip t at cancels) cancels.may_be)

  pub does_cancel : (trip : ℕ) → length fields ≡ 1 → is_utf8 (field fields 0) ≡ true → find_name (λ trip. trip.name) day.trips (field fields 0) ≡ Some trip
      → has trip others ≡ false → MayBeCancelled day minute trip → Cancels day minute others fields trip
  does_cancel trip one text at new may = record {
    name = field fields 0;
    one_field = one_field fields one;
    is_text = text;
    named = number_found (λ trip. trip.name) day.trips (field fields 0) trip at;
    other = new;
    may_be = may;
  }

-- ---- trips

none_passes : (p : ℕ → Bool) (ts : List ℕ) (a : ℕ) → list_any p ts ≡ false → 1 ≤ count_of a ts → p a ≡ false
none_passes p [] a none there = absurd (omega (arith, there))
none_passes p (x ∷ ts) a none there =
    let parts = or_parts (p x) (list_any p ts) none in
    elim (cases_eq x a) [
      | inl e ↦ ap p (sym e) ∙ parts.0
      | inr ne ↦ let other = one_other x a ne in none_passes p ts a parts.1 (omega (arith, there, other))
    ]

module _ (day : Day) (links : AreLinks day) (minute t : ℕ) (known : t < length day.trips) where
  abbrev left : ℕ → Bool
  left c = nat_lt (leaves day c) minute

  waits : (c : ℕ) → left c ≡ false → minute ≤ leaves day c
  waits c stays = ltb-false (leaves day c) minute stays

  -- a trip that leaves by no link
  pub alone_may : link_into day t ≡ None → left t ≡ false → MayBeCancelled day minute t
  alone_may none stays = record {
    known = known;
    waits = waits t stays;
    beside = λ l c link at goes_t goes_c. elim (named_or_not departing_in day.links t) [
      | inl some ↦ let is : link_into day t ≡ Some some.0 = into_is day t some.0 some.1 in absurd cc
      | inr never ↦
          let there : 1 ≤ count_of t (departing_in link.kind) = leb-true 1 (count_of t (departing_in link.kind)) goes_t in
          let zero_times : count_of t (departing_in link.kind) ≡ 0 = never.1 l link at in
          absurd (omega (arith, there, zero_times))
    ];
  }

  pub left_may_not : left t ≡ true → MayBeCancelled day minute t → ⊥
  left_may_not gone may = let before : leaves day t < minute = ltb-true (leaves day t) minute gone in omega (arith, before, may.waits)

  -- the link by which a trip leaves is the only one
  only_link : (link : Link) → link_into day t ≡ Some link → IsNamed departing_in day.links t link
  unfolding incoming
  only_link link into = elim (named_or_not departing_in day.links t) [
    | inl some ↦
        let is : link_into day t ≡ Some some.0 = into_is day t some.0 some.1 in
        let both : Some some.0 ≡ Some link = sym is ∙ into in
        let same : some.0 ≡ link = cc in
        subst (IsNamed departing_in day.links t) same some.1
    | inr never ↦
        let is : link_into day t ≡ None = ap (option_and_then (slice_get day.links)) never.0 in
        absurd cc
  ]

  same_link : (link other : Link) (l : ℕ) → IsNamed departing_in day.links t link → slice_get day.links l ≡ Some other → 1 ≤ count_of t (departing_in other.kind)
      → link ≡ other
  same_link link other l named at there =
      let numbers : Some named.number ≡ Some l = sym named.found ∙ place_is departing_in day.links t l other (links.departing_once t) at there in
      let number : named.number ≡ l = cc in
      let both : Some link ≡ Some other = sym named.at ∙ ap (λ (n : ℕ). slice_get day.links n) number ∙ at in
      cc

  pub beside_may : (link : Link) → link_into day t ≡ Some link → list_any left (departing_in link.kind) ≡ false → MayBeCancelled day minute t
  beside_may link into none =
      let named : IsNamed departing_in day.links t link = only_link link into in
      record {
        known = known;
        waits = waits t (none_passes left (departing_in link.kind) t none named.named);
        beside = λ l c other at goes_t goes_c.
            let same : link ≡ other = same_link link other l named at (leb-true 1 (count_of t (departing_in other.kind)) goes_t) in
            let there : 1 ≤ count_of c (departing_in link.kind) =
            subst (λ (by : Link). 1 ≤ count_of c (departing_in by.kind)) (sym same) (leb-true 1 (count_of c (departing_in other.kind)) goes_c) in
            waits c (none_passes left (departing_in link.kind) c none there);
      }

  pub beside_may_not : (link : Link) → link_into day t ≡ Some link → list_any left (departing_in link.kind) ≡ true → MayBeCancelled day minute t → ⊥
  beside_may_not link into some may =
      let named : IsNamed departing_in day.links t link = only_link link into in
      let one = has_any left (departing_in link.kind) some in
      let before : leaves day one.0 < minute = ltb-true (leaves day one.0) minute one.2 in
      let after : minute ≤ leaves day one.0 =
      may.beside named.number one.0 link named.at (le-leb 1 (count_of t (departing_in link.kind)) named.named) (le-leb 1 (count_of one.0 (departing_in link.kind)) one.1) in
      omega (arith, before, after)

  -- the tests tell it, by the link that leads into the trip, or where none does
  pub by_link : (link : Link) (any : Bool) → link_into day t ≡ Some link → any ≡ list_any left (departing_in link.kind) → IsTrue (not any) ↔ MayBeCancelled day minute t
  by_link link false into is = (λ _. beside_may link into (sym is), λ _. refl)
  by_link link true into is = (λ denied. absurd cc, λ may. absurd (beside_may_not link into (sym is) may))

  pub by_none : (gone : Bool) → link_into day t ≡ None → gone ≡ left t → IsTrue (not gone) ↔ MayBeCancelled day minute t
  by_none false none is = (λ _. alone_may none (sym is), λ _. refl)
  by_none true none is = (λ denied. absurd cc, λ may. absurd (left_may_not (sym is) may))
