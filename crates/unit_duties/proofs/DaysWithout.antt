-- The day without trips that have not left yet is a later day.
use Rattle.std.proofs.Common.{◌≡◌, ℕ, zero, suc, ◌+◌, ◌<◌, ◌≤◌, List, [], ◌∷◌, Bool, true, false, Option, Some}
use Rattle.std.proofs.Common.{refl, sym, ap, ◌∙◌, arith, inl, inr}
use Rattle.std.specs.Prelude.{◌||◌, not, option_map, unwrap_or, slice_get}
use Rattle.std.specs.List.{list_any}
use Rattle.std.proofs.lemmas.Bool.{cases_Bool, cases_eq, cases_lt, or_parts, leb-true, le-leb}
use Rattle.std.proofs.lemmas.List.Folds.{list_any-append}
use Rattle.rules.specs.declared.records.Link.{Link}
use Rattle.rules.specs.declared.records.LinkKind.{LinkKind}
use Rattle.rules.specs.declared.records.LinkKind.TheVariants.{Turn, Join, Split}
use Rattle.rules.specs.declared.records.Trip.{Trip}
use Rattle.timetable.specs.Accepted.{IsTimetable, AreLinks}
use Rattle.timetable.specs.Day.{Day, leaves, arrives, from_of, to_of, reallocation_of, units_of, type_of, home_of}
use Rattle.timetable.specs.DerivedDays.{new_number, old_number, kind_with, link_with, names_gone, links_left, without_trips}
use Rattle.timetable.specs.DerivedDays.{StaysTrip, AreTripsLeft}
use Rattle.timetable.specs.Links.{arriving_in, departing_in}
use Rattle.timetable.specs.Lists.{count_of, has, count_below}
use Rattle.timetable.proofs.LeftLinks.{WasLink, was_link, link_step, arriving_stay, departing_stay}
use Rattle.timetable.proofs.Ones.{one_same, one_other}
use Rattle.timetable.proofs.TripsLeft.{trips_that_are_left}
use Rattle.unit_duties.specs.LaterDays.{HasSameUnits, HasTripsOf, HasPastOf, IsPastSpared, DaysWithoutAreLater}

-- more numbers are below a greater bound
counts_less : (p : ℕ → Bool) (a b : ℕ) → a ≤ b → count_below p a ≤ count_below p b
counts_less p a zero le = let e : a ≡ 0 = omega arith in let same = ap (λ (n : ℕ). count_below p n) e in omega arith
counts_less p a (suc b) le = elim (cases_eq a (suc b)) [
  | inl e ↦ let same = ap (λ (n : ℕ). count_below p n) e in omega arith
  | inr ne ↦ let rest = counts_less p a b (omega arith) in omega arith
]

-- ---- links

-- the numbers of before are told back
kind_back : (old new : ℕ → ℕ) (kind : LinkKind) → ((t : ℕ) → 1 ≤ count_of t (arriving_in kind) → old (new t) ≡ t) → ((t : ℕ) → 1 ≤ count_of t (departing_in kind) → old (new t) ≡ t)
    → kind_with old (kind_with new kind) ≡ kind
kind_back old new (Turn a b uncouple couple exchange) before after =
    ap (λ (x : ℕ). Turn x (old (new b)) uncouple couple exchange) (before a (let one = one_same a a refl in omega arith))
    ∙ ap (λ (y : ℕ). Turn a y uncouple couple exchange) (after b (let one = one_same b b refl in omega arith))
kind_back old new (Join a1 a2 b) before after =
    ap (λ (x : ℕ). Join x (old (new a2)) (old (new b))) (before a1 (let one = one_same a1 a1 refl in omega arith))
    ∙ ap (λ (x : ℕ). Join a1 x (old (new b))) (before a2 (let one = one_same a2 a2 refl in omega arith))
    ∙ ap (λ (y : ℕ). Join a1 a2 y) (after b (let one = one_same b b refl in omega arith))
kind_back old new (Split a b1 b2) before after =
    ap (λ (x : ℕ). Split x (old (new b1)) (old (new b2))) (before a (let one = one_same a a refl in omega arith))
    ∙ ap (λ (y : ℕ). Split a y (old (new b2))) (after b1 (let one = one_same b1 b1 refl in omega arith))
    ∙ ap (λ (y : ℕ). Split a b1 y) (after b2 (let one = one_same b2 b2 refl in omega arith))

link_back : (old new : ℕ → ℕ) (link : Link) → kind_with old (kind_with new link.kind) ≡ link.kind → link_with old (link_with new link) ≡ link
link_back old new link back = let made : LinkKind → Link = λ kind. record { kind = kind; reverse = link.reverse } in ap made back

module _ (gone : List ℕ) where
  -- a trip of a list of which none is gone
  stays_among : (ts : List ℕ) (t : ℕ) → list_any (λ t. has t gone) ts ≡ false → 1 ≤ count_of t ts → has t gone ≡ false
  stays_among [] t none c = absurd (omega arith)
  stays_among (x ∷ ts) t none c =
      let both = or_parts (has x gone) (list_any (λ t. has t gone) ts) none in
      elim (cases_eq x t) [
        | inl e ↦ ap (λ (y : ℕ). has y gone) (sym e) ∙ both.0
        | inr ne ↦ let other = one_other x t ne in stays_among ts t both.1 (omega arith)
      ]

  none_gone : (ts : List ℕ) → ((t : ℕ) → 1 ≤ count_of t ts → has t gone ≡ false) → list_any (λ t. has t gone) ts ≡ false
  none_gone [] stay = refl
  none_gone (x ∷ ts) stay =
      ap (λ (b : Bool). b || list_any (λ t. has t gone) ts) (stay x (let one = one_same x x refl in omega arith))
      ∙ none_gone ts (λ t c. stay t (omega arith))

  names_none : (kind : LinkKind) → ((t : ℕ) → 1 ≤ count_of t (arriving_in kind) → has t gone ≡ false) → ((t : ℕ) → 1 ≤ count_of t (departing_in kind) → has t gone ≡ false) → names_gone gone kind ≡ false
  names_none kind before after =
      list_any-append (λ t. has t gone) (arriving_in kind) (departing_in kind)
      ∙ ap (λ (b : Bool). b || list_any (λ t. has t gone) (departing_in kind)) (none_gone (arriving_in kind) before)
      ∙ none_gone (departing_in kind) after

  -- a link that names no trip that is gone is left
  is_left : (links : List Link) (l : ℕ) (link : Link) → slice_get links l ≡ Some link → names_gone gone link.kind ≡ false
      → (k : ℕ) × (slice_get (links_left gone links) k ≡ Some (link_with (new_number gone) link))
  is_left [] l link at stays = absurd (cc)
  is_left (x ∷ rest) zero link at stays =
      let same : x ≡ link = cc in (
        0,
        ap (λ (ls : List Link). slice_get ls 0) (link_step gone false x rest (ap (λ (y : Link). names_gone gone y.kind) same ∙ stays))
            ∙ ap (λ (y : Link). Some (link_with (new_number gone) y)) same,
      )
  is_left (x ∷ rest) (suc l) link at stays =
      let later = is_left rest l link at stays in
      elim (cases_Bool (names_gone gone x.kind)) [
        | inl is ↦ (later.0, ap (λ (ls : List Link). slice_get ls later.0) (link_step gone true x rest is) ∙ later.1)
        | inr isnt ↦ (suc later.0, ap (λ (ls : List Link). slice_get ls (suc later.0)) (link_step gone false x rest isnt) ∙ later.1)
      ]

-- ---- the day

module _ (day : Day) (gone : List ℕ) where
  abbrev later : Day
  later = without_trips gone day

  abbrev old : ℕ → ℕ
  old = old_number day gone

  are_left : AreTripsLeft day gone
  are_left = trips_that_are_left day gone

  same_units : HasSameUnits day later
  unfolding units_of type_of home_of
  same_units = record { count = refl; unit_type = λ u. refl; home = λ u. refl }

  has_trips : HasTripsOf day later old
  unfolding leaves arrives from_of to_of reallocation_of
  has_trips = record {
    known = λ t lt. (are_left.each t lt).before;
    rise = λ s t before lt. elim (cases_lt (old s) (old t)) [
      | inl less ↦ less
      | inr le ↦
          let first : new_number gone (old s) ≡ s = (are_left.each s (omega arith)).number in
          let second : new_number gone (old t) ≡ t = (are_left.each t lt).number in
          let fewer : new_number gone (old t) ≤ new_number gone (old s) = counts_less (λ k. not (has k gone)) (old t) (old s) le in
          absurd (omega arith)
    ];
    leaving = λ t lt. ap (λ (o : Option Trip). unwrap_or (option_map (λ trip. trip.departure) o) 0) (are_left.each t lt).same;
    arriving = λ t lt. ap (λ (o : Option Trip). unwrap_or (option_map (λ trip. trip.arrival) o) 1) (are_left.each t lt).same;
    origin = λ t lt. ap (λ (o : Option Trip). unwrap_or (option_map (λ trip. trip.from) o) 0) (are_left.each t lt).same;
    goal = λ t lt. ap (λ (o : Option Trip). unwrap_or (option_map (λ trip. trip.to) o) 0) (are_left.each t lt).same;
    ready = λ t lt.
        ap (λ (o : Option Trip). unwrap_or (option_map (λ trip. trip.arrival) o) 1 + reallocation_of day (unwrap_or (option_map (λ trip. trip.to) o) 0)) (are_left.each t lt).same;
  }

  module _ (timetable : IsTimetable day) (links : AreLinks day) where
    -- a link that is left was a link, by the numbers of before
    was_before : (k : ℕ) (link : Link) → slice_get later.links k ≡ Some link → (l : ℕ) × (slice_get day.links l ≡ Some (link_with old link))
    was_before k link at =
        let was : WasLink gone day.links link = was_link gone day.links k link at in
        let back : link_with old (link_with (new_number gone) was.before) ≡ was.before =
        link_back old (new_number gone) was.before
        (kind_back old (new_number gone) (was.before).kind
        (λ t named. (are_left.all t (links.arriving was.place t was.before was.at (le-leb 1 (count_of t (arriving_in (was.before).kind)) named))
        (stays_among gone (arriving_in (was.before).kind) t (arriving_stay gone (was.before).kind was.stays) named)).number)
        (λ t named. (are_left.all t (links.departing was.place t was.before was.at (le-leb 1 (count_of t (departing_in (was.before).kind)) named))
        (stays_among gone (departing_in (was.before).kind) t (departing_stay gone (was.before).kind was.stays) named)).number)) in
        (was.place, was.at ∙ ap Some (sym back ∙ ap (link_with old) was.is))

    module _ (minute : ℕ) (spared : IsPastSpared day gone minute) where
      -- a link by which a trip leaves before the minute names no trip that is gone
      stays_whole : (l b : ℕ) (link : Link) → slice_get day.links l ≡ Some link → 1 ≤ count_of b (departing_in link.kind) → leaves day b < minute → names_gone gone link.kind ≡ false
      stays_whole l b link at named departed =
          names_none gone link.kind
          (λ a comes.
          let there = links.arriving l a link at (le-leb 1 (count_of a (arriving_in link.kind)) comes) in
          let in_time = links.in_time l a b link at (le-leb 1 (count_of a (arriving_in link.kind)) comes) (le-leb 1 (count_of b (departing_in link.kind)) named) in
          let takes = timetable.time a there in
          spared.trips a there (omega arith))
          (λ c goes. spared.beside l b c link at (le-leb 1 (count_of b (departing_in link.kind)) named) (le-leb 1 (count_of c (departing_in link.kind)) goes) departed)

      has_past : HasPastOf day later old minute
      has_past = record {
        trips = λ t lt departed.
            let stays : StaysTrip day gone t = are_left.all t lt (spared.trips t lt departed) in
            (new_number gone t, stays.after, stays.number);
        links = λ l b link at named departed.
            let whole = stays_whole l b link at (leb-true 1 (count_of b (departing_in link.kind)) named) departed in
            let there = is_left gone day.links l link at whole in (
              there.0,
              link_with (new_number gone) link,
              there.1,
              link_back old (new_number gone) link
                  (kind_back old (new_number gone) link.kind
                  (λ t comes. (are_left.all t (links.arriving l t link at (le-leb 1 (count_of t (arriving_in link.kind)) comes)) (stays_among gone (arriving_in link.kind) t (arriving_stay gone link.kind whole) comes)).number)
                  (λ t goes. (are_left.all t (links.departing l t link at (le-leb 1 (count_of t (departing_in link.kind)) goes)) (stays_among gone (departing_in link.kind) t (departing_stay gone link.kind whole) goes)).number)),
            );
      }

pub days_without_are_later : DaysWithoutAreLater
days_without_are_later day gone minute timetable links spared = record {
  units = same_units day gone;
  trips = has_trips day gone;
  links = was_before day gone timetable links;
  past = has_past day gone timetable links minute spared;
}
