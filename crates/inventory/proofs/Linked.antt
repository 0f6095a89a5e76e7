-- The places of each trip of a day with links: what goes on from a trip, what comes with the trains that lead into it.
use Rattle.std.proofs.Common.{◌≡◌, ℕ, ◌+◌, ◌<◌, ◌≤◌, List, [], ◌∷◌, ◌++◌, length, map, Bool, true, eqb, Option, Some}
use Rattle.std.proofs.Common.{None, refl, sym, ap, ◌∙◌, subst, arith, ◌≢◌, inl, inr}
use Rattle.std.specs.Prelude.{option_map, option_and_then, unwrap_or, slice_get, position}
use Rattle.std.specs.List.{flat_map}
use Rattle.std.proofs.lemmas.Bool.{cases_eq, cases_lt, ne_eqb, le-leb, cond-false}
use Rattle.std.proofs.lemmas.List.{map-append}
use Rattle.rules.specs.declared.records.Link.{Link}
use Rattle.rules.specs.declared.records.LinkKind.{LinkKind}
use Rattle.rules.specs.declared.records.LinkKind.TheVariants.{Turn, Join, Split}
use Rattle.timetable.specs.Accepted.{AreLinks}
use Rattle.timetable.specs.Day.{Day, leaves, arrives}
use Rattle.timetable.specs.Links.{list_of, itself, turned, link_holds, kind_holds, arriving_in, departing_in, incoming}
use Rattle.timetable.specs.Links.{outgoing, link_out, link_into, kept_by, given_by, taken_by, kept_with, given_with}
use Rattle.timetable.specs.Links.{taken_with, trips_into}
use Rattle.timetable.specs.Lists.{count_of, has}
use Rattle.timetable.specs.Turns.{kept_count, staying}
use Rattle.timetable.proofs.NamedTrips.{IsNamed, named_or_not, named_here, place_is}
use Rattle.timetable.proofs.Shares.{count_of-append}
use Rattle.inventory.specs.Places.{going_by, left_by, come_by, fetched_by, coupled_by, going_on, given_places}
use Rattle.inventory.specs.Places.{kept_places, taken_places, put_together, coming}
use Rattle.inventory.proofs.Sums.{one_same}
use Rattle.inventory.proofs.Order.{in_list}
use Rattle.inventory.proofs.ByKind.{kind_given, kind_taken, kind_kept, kind_come, kind_back, kind_within}
use Rattle.inventory.proofs.PlacesByKind.{kind_goes, kind_shares, going-map, left-map, fetched-map, IsPutTogether}
use Rattle.inventory.proofs.PlacesByKind.{put_together_is}

-- what goes on from a trip goes on in one of two, and the rest is given
pub record Goes (day : Day) (types : List (List ℕ)) (a : ℕ) : Type 0 where
  pub first : ℕ
  pub second : ℕ
  pub apart : first ≢ second
  pub total : (u : ℕ) (us : List ℕ) → count_of u us ≡ count_of u (given_places day types a us) + count_of u (going_on day types a first us) + count_of u (going_on day types a second us)
  pub others : (u b : ℕ) (us : List ℕ) → b ≢ first → b ≢ second → count_of u (going_on day types a b us) ≡ 0

-- a trip that leads into another
pub record LeadsInto (day : Day) (a b : ℕ) : Type 0 where
  pub from : a < length day.trips
  pub to : b < length day.trips
  pub in_time : arrives day a ≤ leaves day b

-- a list for a trip that has its types, and its places where they should be
pub record IsListFor (f : ℕ → ℕ) (day : Day) (types : List (List ℕ)) (b : ℕ) (come fetched us : List ℕ) : Type 0 where
  pub types_are : map f us ≡ list_of types b
  pub kept_is : kept_places day types b us ≡ come
  pub taken_is : taken_places day types b us ≡ fetched

-- each link's rule holds over lists, with the types that a function tells
pub record AllHold (f : ℕ → ℕ) (day : Day) (lists : List (List ℕ)) : Type 0 where
  pub holds : (l : ℕ) (link : Link) → slice_get day.links l ≡ Some link → link_holds f link lists ≡ true

by_kind : (f : ℕ → ℕ) (link : Link) (plan : List (List ℕ)) → link_holds f link plan ≡ true → kind_holds f link.kind link.reverse plan ≡ true
unfolding link_holds
by_kind f link plan h = h

from_kind : (f : ℕ → ℕ) (link : Link) (plan : List (List ℕ)) → kind_holds f link.kind link.reverse plan ≡ true → link_holds f link plan ≡ true
unfolding link_holds
from_kind f link plan h = h

-- where something goes on, it goes on in a trip that departs by the link
going_named : (u : ℕ) (kind : LinkKind) (r : Bool) (types : List (List ℕ)) (b : ℕ) (us : List ℕ) → 1 ≤ count_of u (going_by kind r types b us) → 1 ≤ count_of b (departing_in kind)
going_named u (Turn x y uncouple couple exchange) r types b us c = elim (cases_eq b y) [
  | inl e ↦ let o = one_same y b (sym e) in omega arith
  | inr ne ↦ let none = ap (count_of u) (cond-false (eqb b y) (staying uncouple (turned r us) (kept_count uncouple couple (turned r (list_of types x)) (list_of types y))) [] (ne_eqb b y ne)) in absurd (omega arith)
]
going_named u (Join x1 x2 y) r types b us c = elim (cases_eq b y) [
  | inl e ↦ let o = one_same y b (sym e) in omega arith
  | inr ne ↦ let none = ap (count_of u) (cond-false (eqb b y) (turned r us) [] (ne_eqb b y ne)) in absurd (omega arith)
]
going_named u (Split x y1 y2) r types b us c = elim (cases_eq b y1) [
  | inl e ↦ let o = one_same y1 b (sym e) in omega arith
  | inr ne ↦ elim (cases_eq b y2) [
    | inl e ↦ let o = one_same y2 b (sym e) in omega arith
    | inr ne' ↦ let none : count_of u (going_by (Split x y1 y2) r types b us) ≡ 0 = ap (count_of u) (cond-false (eqb b y1) _ _ (ne_eqb b y1 ne) ∙ cond-false (eqb b y2) _ _ (ne_eqb b y2 ne')) in absurd (omega arith)
  ]
]

-- a member of a flat_map
in_flat : (u : ℕ) (f : ℕ → List ℕ) (xs : List ℕ) → 1 ≤ count_of u (flat_map f xs) → (a : ℕ) × (1 ≤ count_of a xs) × (1 ≤ count_of u (f a))
in_flat u f [] c = absurd (omega arith)
in_flat u f (x ∷ xs) c = let both = count_of-append u (f x) (flat_map f xs) in elim (cases_lt 0 (count_of u (f x))) [
  | inl here ↦ let o = one_same x x refl in (x, omega arith, omega arith)
  | inr none ↦ let rest = in_flat u f xs (omega arith) in let there = rest.1 in (rest.0, omega arith, rest.2)
]

of_flat : (u a : ℕ) (f : ℕ → List ℕ) (xs : List ℕ) → 1 ≤ count_of a xs → count_of u (f a) ≤ count_of u (flat_map f xs)
of_flat u a f [] c = absurd (omega arith)
of_flat u a f (x ∷ xs) c = let both = count_of-append u (f x) (flat_map f xs) in elim (in_list a x xs c) [
  | inl e ↦ let same = ap (λ y. count_of u (f y)) e in omega arith
  | inr later ↦ let rest = of_flat u a f xs later in omega arith
]

flat_once : (u : ℕ) (f : ℕ → List ℕ) (xs : List ℕ) → ((a : ℕ) → count_of u (f a) ≤ 1) → ((a c : ℕ) → a ≢ c → 1 ≤ count_of u (f a) → 1 ≤ count_of u (f c) → ⊥)
    → ((a : ℕ) → count_of a xs ≤ 1) → count_of u (flat_map f xs) ≤ 1
flat_once u f [] once apart distinct = omega arith
flat_once u f (x ∷ xs) once apart distinct =
    let both = count_of-append u (f x) (flat_map f xs) in
    let few = once x in
    let rest = flat_once u f xs once apart (λ a. let few = distinct a in omega arith) in
    elim (cases_lt 0 (count_of u (f x))) [
      | inl here ↦ elim (cases_lt 0 (count_of u (flat_map f xs))) [
        | inl there ↦
            let other = in_flat u f xs (omega arith) in
            let o = one_same x x refl in
            let alone = distinct x in
            let later = other.1 in
            absurd (apart x other.0 (λ e. (let c = ap (λ y. count_of y xs) e in absurd (omega arith))) (omega arith) other.2)
        | inr none ↦ omega arith
      ]
      | inr none ↦ omega arith
    ]

pub flat_same : (f g : ℕ → List ℕ) (xs : List ℕ) → ((a : ℕ) → 1 ≤ count_of a xs → f a ≡ g a) → flat_map f xs ≡ flat_map g xs
flat_same f g [] h = refl
flat_same f g (x ∷ xs) h =
    let o = one_same x x refl in
    ap (λ (l : List ℕ). l ++ flat_map f xs) (h x (omega arith)) ∙ ap (λ (l : List ℕ). g x ++ l) (flat_same f g xs (λ a c. h a (omega arith)))

flat-map : (h : ℕ → ℕ) (f : ℕ → List ℕ) (xs : List ℕ) → map h (flat_map f xs) ≡ flat_map (λ a. map h (f a)) xs
flat-map h f [] = refl
flat-map h f (x ∷ xs) = map-append h (f x) (flat_map f xs) ∙ ap (λ (l : List ℕ). map h (f x) ++ l) (flat-map h f xs)

module _ (day : Day) (types : List (List ℕ)) where
  going_at : (a b : ℕ) (us : List ℕ) (o : Option Link) → link_out day a ≡ o → going_on day types a b us ≡ unwrap_or (option_map (λ link. going_by link.kind link.reverse types b us) o) []
  unfolding going_on
  going_at a b us o e = ap (λ o. unwrap_or (option_map (λ link. going_by link.kind link.reverse types b us) o) []) e

  given_at : (a : ℕ) (us : List ℕ) (o : Option Link) → link_out day a ≡ o → given_places day types a us ≡ unwrap_or (option_map (λ link. left_by link.kind link.reverse types us) o) us
  unfolding given_places
  given_at a us o e = ap (λ o. unwrap_or (option_map (λ link. left_by link.kind link.reverse types us) o) us) e

  kept_at : (b : ℕ) (us : List ℕ) (o : Option Link) → link_into day b ≡ o → kept_places day types b us ≡ unwrap_or (option_map (λ link. come_by link.kind link.reverse types us) o) []
  unfolding kept_places
  kept_at b us o e = ap (λ o. unwrap_or (option_map (λ link. come_by link.kind link.reverse types us) o) []) e

  taken_at : (b : ℕ) (us : List ℕ) (o : Option Link) → link_into day b ≡ o → taken_places day types b us ≡ unwrap_or (option_map (λ link. fetched_by link.kind link.reverse types us) o) us
  unfolding taken_places
  taken_at b us o e = ap (λ o. unwrap_or (option_map (λ link. fetched_by link.kind link.reverse types us) o) us) e

  put_at : (b : ℕ) (come fetched : List ℕ) (o : Option Link) → link_into day b ≡ o → put_together day b come fetched ≡ unwrap_or (option_map (λ link. coupled_by link.kind come fetched) o) fetched
  unfolding put_together
  put_at b come fetched o e = ap (λ o. unwrap_or (option_map (λ link. coupled_by link.kind come fetched) o) fetched) e

  trips_into_at : (b : ℕ) (o : Option Link) → link_into day b ≡ o → trips_into day b ≡ unwrap_or (option_map (λ link. arriving_in link.kind) o) []
  trips_into_at b o e = ap (λ o. unwrap_or (option_map (λ link. arriving_in link.kind) o) []) e

  out_is : (t : ℕ) (link : Link) → IsNamed arriving_in day.links t link → link_out day t ≡ Some link
  unfolding outgoing
  out_is t link n = ap (option_and_then (slice_get day.links)) n.found ∙ n.at

  into_is : (t : ℕ) (link : Link) → IsNamed departing_in day.links t link → link_into day t ≡ Some link
  unfolding incoming
  into_is t link n = ap (option_and_then (slice_get day.links)) n.found ∙ n.at

  out_none : (t : ℕ) → position (λ (link : Link). has t (arriving_in link.kind)) day.links ≡ None → link_out day t ≡ None
  unfolding outgoing
  out_none t e = ap (option_and_then (slice_get day.links)) e

  into_none : (t : ℕ) → position (λ (link : Link). has t (departing_in link.kind)) day.links ≡ None → link_into day t ≡ None
  unfolding incoming
  into_none t e = ap (option_and_then (slice_get day.links)) e

  -- ---- what comes with trains

  pub coming_from : (lists : ℕ → List ℕ) (u b : ℕ) → 1 ≤ count_of u (coming day types lists b) → (a : ℕ) × (1 ≤ count_of a (trips_into day b)) × (1 ≤ count_of u (going_on day types a b (lists a)))
  unfolding coming
  coming_from lists u b c = in_flat u (λ a. going_on day types a b (lists a)) (trips_into day b) c

  pub coming_has : (lists : ℕ → List ℕ) (u a b : ℕ) → 1 ≤ count_of a (trips_into day b) → count_of u (going_on day types a b (lists a)) ≤ count_of u (coming day types lists b)
  unfolding coming
  coming_has lists u a b c = of_flat u a (λ a. going_on day types a b (lists a)) (trips_into day b) c

  pub coming_same : (lists others : ℕ → List ℕ) (b : ℕ) → ((a : ℕ) → 1 ≤ count_of a (trips_into day b) → lists a ≡ others a) → coming day types lists b ≡ coming day types others b
  unfolding coming
  coming_same lists others b h = flat_same (λ a. going_on day types a b (lists a)) (λ a. going_on day types a b (others a)) (trips_into day b) (λ a c. ap (going_on day types a b) (h a c))

  going_on-map : (f : ℕ → ℕ) (a b : ℕ) (us : List ℕ) → map f (going_on day types a b us) ≡ going_on day types a b (map f us)
  going_on-map f a b us = ap (map f) (going_at a b us (link_out day a) refl) ∙ on (link_out day a) ∙ sym (going_at a b (map f us) (link_out day a) refl)
    where
      on : (o : Option Link) → map f (unwrap_or (option_map (λ link. going_by link.kind link.reverse types b us) o) []) ≡ unwrap_or (option_map (λ link. going_by link.kind link.reverse types b (map f us)) o) []
      on None = refl
      on (Some link) = going-map f link.kind link.reverse types b us

  pub coming-map : (f : ℕ → ℕ) (lists : ℕ → List ℕ) (b : ℕ) → map f (coming day types lists b) ≡ coming day types (λ a. map f (lists a)) b
  unfolding coming
  coming-map f lists b = flat-map f (λ a. going_on day types a b (lists a)) (trips_into day b)
      ∙ flat_same (λ a. map f (going_on day types a b (lists a))) (λ a. going_on day types a b (map f (lists a))) (trips_into day b) (λ a c. going_on-map f a b (lists a))

  pub taken_places-map : (f : ℕ → ℕ) (b : ℕ) (us : List ℕ) → map f (taken_places day types b us) ≡ taken_places day types b (map f us)
  taken_places-map f b us = ap (map f) (taken_at b us (link_into day b) refl) ∙ on (link_into day b) ∙ sym (taken_at b (map f us) (link_into day b) refl)
    where
      on : (o : Option Link) → map f (unwrap_or (option_map (λ link. fetched_by link.kind link.reverse types us) o) us) ≡ unwrap_or (option_map (λ link. fetched_by link.kind link.reverse types (map f us)) o) (map f us)
      on None = refl
      on (Some link) = fetched-map f link.kind link.reverse types us

  pub given_places-map : (f : ℕ → ℕ) (a : ℕ) (us : List ℕ) → map f (given_places day types a us) ≡ given_places day types a (map f us)
  given_places-map f a us = ap (map f) (given_at a us (link_out day a) refl) ∙ on (link_out day a) ∙ sym (given_at a (map f us) (link_out day a) refl)
    where
      on : (o : Option Link) → map f (unwrap_or (option_map (λ link. left_by link.kind link.reverse types us) o) us) ≡ unwrap_or (option_map (λ link. left_by link.kind link.reverse types (map f us)) o) (map f us)
      on None = refl
      on (Some link) = left-map f link.kind link.reverse types us

  -- ---- each unit of a trip

  pub places_share : (b u : ℕ) (us : List ℕ) → count_of u us ≡ count_of u (kept_places day types b us) + count_of u (taken_places day types b us)
  places_share b u us =
      let k = ap (count_of u) (kept_at b us (link_into day b) refl) in
      let t = ap (count_of u) (taken_at b us (link_into day b) refl) in
      let both = on (link_into day b) in
      omega arith
    where
      on : (o : Option Link) → count_of u us ≡ count_of u (unwrap_or (option_map (λ link. come_by link.kind link.reverse types us) o) []) + count_of u (unwrap_or (option_map (λ link. fetched_by link.kind link.reverse types us) o) us)
      on None = omega arith
      on (Some link) = kind_shares link.kind link.reverse types u us

  module _ (links : AreLinks day) where
    departing_few : (t l : ℕ) (link : Link) → slice_get day.links l ≡ Some link → count_of t (departing_in link.kind) ≤ 1
    departing_few t l link at = let few = links.departing_once t in let here = named_here departing_in day.links t l link at in omega arith

    pub goes : (a : ℕ) → Goes day types a
    goes a = elim (named_or_not arriving_in day.links a) [
      | inl named ↦ by_link named.0 named.1
      | inr none ↦ by_none (out_none a none.0)
    ]
      where
        by_link : (link : Link) → IsNamed arriving_in day.links a link → Goes day types a
        by_link link n =
            let k = kind_goes link.kind link.reverse types (λ t. departing_few t n.number link n.at) in
            let is = out_is a link n in
            record {
              first = k.first;
              second = k.second;
              apart = k.apart;
              total = λ u us.
                  let g = ap (count_of u) (given_at a us (Some link) is) in
                  let x = ap (count_of u) (going_at a k.first us (Some link) is) in
                  let y = ap (count_of u) (going_at a k.second us (Some link) is) in
                  let all = k.total u us in
                  omega arith;
              others = λ u b us ne ne'. ap (count_of u) (going_at a b us (Some link) is) ∙ k.others u b us ne ne';
            }

        by_none : link_out day a ≡ None → Goes day types a
        by_none is = record {
          first = 0;
          second = 1;
          apart = λ e. absurd (omega arith);
          total = λ u us.
              let g = ap (count_of u) (given_at a us None is) in
              let x = ap (count_of u) (going_at a 0 us None is) in
              let y = ap (count_of u) (going_at a 1 us None is) in
              omega arith;
          others = λ u b us ne ne'. ap (count_of u) (going_at a b us None is);
        }

    -- what goes on to a trip goes on in a train that leads into it
    pub going_leads_into : (u a b : ℕ) (us : List ℕ) → 1 ≤ count_of u (going_on day types a b us) → 1 ≤ count_of a (trips_into day b)
    going_leads_into u a b us c = elim (named_or_not arriving_in day.links a) [
      | inl named ↦ by_link named.0 named.1
      | inr none ↦ let e = ap (count_of u) (going_at a b us None (out_none a none.0)) in absurd (omega arith)
    ]
      where
        by_link : (link : Link) → IsNamed arriving_in day.links a link → 1 ≤ count_of a (trips_into day b)
        by_link link n =
            let e = ap (count_of u) (going_at a b us (Some link) (out_is a link n)) in
            let there = going_named u link.kind link.reverse types b us (omega arith) in
            let into : IsNamed departing_in day.links b link = record { number = n.number; found = place_is departing_in day.links b n.number link (links.departing_once b) n.at there; at = n.at; named = there } in
            let f = ap (count_of a) (trips_into_at b (Some link) (into_is b link into)) in
            let arriving = n.named in
            omega arith

    pub leads_into : (a b : ℕ) → 1 ≤ count_of a (trips_into day b) → LeadsInto day a b
    leads_into a b c = elim (named_or_not departing_in day.links b) [
      | inl named ↦ by_link named.0 named.1
      | inr none ↦ let e = ap (count_of a) (trips_into_at b None (into_none b none.0)) in absurd (omega arith)
    ]
      where
        by_link : (link : Link) → IsNamed departing_in day.links b link → LeadsInto day a b
        by_link link n =
            let e = ap (count_of a) (trips_into_at b (Some link) (into_is b link n)) in
            let arriving = le-leb 1 (count_of a (arriving_in link.kind)) (omega arith) in
            let departing = le-leb 1 (count_of b (departing_in link.kind)) n.named in
            record {
              from = links.arriving n.number a link n.at arriving;
              to = links.departing n.number b link n.at departing;
              in_time = links.in_time n.number a b link n.at arriving departing;
            }

    -- no trip leads into another twice
    pub trips_into_once : (a b : ℕ) → count_of a (trips_into day b) ≤ 1
    trips_into_once a b = elim (named_or_not departing_in day.links b) [
      | inl named ↦ by_link named.0 named.1
      | inr none ↦ let e = ap (count_of a) (trips_into_at b None (into_none b none.0)) in omega arith
    ]
      where
        by_link : (link : Link) → IsNamed departing_in day.links b link → count_of a (trips_into day b) ≤ 1
        by_link link n =
            let e = ap (count_of a) (trips_into_at b (Some link) (into_is b link n)) in
            let few = links.arriving_once a in
            let here = named_here arriving_in day.links a n.number link n.at in
            omega arith

    -- what comes comes once, where no two trains bring it
    pub coming_once : (lists : ℕ → List ℕ) (u b : ℕ) → ((a : ℕ) → count_of u (going_on day types a b (lists a)) ≤ 1)
        → ((a c : ℕ) → a ≢ c → 1 ≤ count_of u (going_on day types a b (lists a)) → 1 ≤ count_of u (going_on day types c b (lists c)) → ⊥) → count_of u (coming day types lists b) ≤ 1
    unfolding coming
    coming_once lists u b once apart = flat_once u (λ a. going_on day types a b (lists a)) (trips_into day b) once apart (λ a. trips_into_once a b)

    -- the trains that lead into a trip, by the link
    coming_at : (lists : ℕ → List ℕ) (b : ℕ) (link : Link) → IsNamed departing_in day.links b link → coming day types lists b ≡ flat_map (λ a. going_by link.kind link.reverse types b (lists a)) (arriving_in link.kind)
    unfolding coming
    coming_at lists b link n =
        ap (flat_map (λ a. going_on day types a b (lists a))) (trips_into_at b (Some link) (into_is b link n))
        ∙ flat_same (λ a. going_on day types a b (lists a)) (λ a. going_by link.kind link.reverse types b (lists a)) (arriving_in link.kind)
        (λ a c. going_at a b (lists a) (Some link) (out_is a link (record { number = n.number; found = place_is arriving_in day.links a n.number link (links.arriving_once a) n.at c; at = n.at; named = c })))

    coming_none : (lists : ℕ → List ℕ) (b : ℕ) → link_into day b ≡ None → coming day types lists b ≡ []
    unfolding coming
    coming_none lists b is = ap (flat_map (λ a. going_on day types a b (lists a))) (trips_into_at b None is)

    -- ---- where the rule holds over lists that have the types

    module _ (f : ℕ → ℕ) (plan : List (List ℕ)) (types_are : (t : ℕ) → map f (list_of plan t) ≡ list_of types t) where
      pub come_is : AllHold f day plan → (b : ℕ) → kept_places day types b (list_of plan b) ≡ coming day types (list_of plan) b
      come_is all b = elim (named_or_not departing_in day.links b) [
        | inl named ↦ by_link named.0 named.1
        | inr none ↦ kept_at b (list_of plan b) None (into_none b none.0) ∙ sym (coming_none (list_of plan) b (into_none b none.0))
      ]
        where
          by_link : (link : Link) → IsNamed departing_in day.links b link → kept_places day types b (list_of plan b) ≡ coming day types (list_of plan) b
          by_link link n =
              kept_at b (list_of plan b) (Some link) (into_is b link n)
              ∙ kind_come f types plan types_are link.kind link.reverse b (by_kind f link plan (all.holds n.number link n.at)) (λ t. departing_few t n.number link n.at) n.named
              ∙ sym (coming_at (list_of plan) b link n)

      pub taken_is : AllHold f day plan → (b : ℕ) → taken_with f day plan b ≡ taken_places day types b (list_of plan b)
      unfolding taken_with
      taken_is all b = elim (named_or_not departing_in day.links b) [
        | inl named ↦ by_link named.0 named.1
        | inr none ↦ ap (λ o. unwrap_or (option_map (λ link. taken_by f link.kind link.reverse plan) o) (list_of plan b)) (into_none b none.0) ∙ sym (taken_at b (list_of plan b) None (into_none b none.0))
      ]
        where
          by_link : (link : Link) → IsNamed departing_in day.links b link → taken_with f day plan b ≡ taken_places day types b (list_of plan b)
          by_link link n =
              ap (λ o. unwrap_or (option_map (λ link. taken_by f link.kind link.reverse plan) o) (list_of plan b)) (into_is b link n)
              ∙ kind_taken f types plan types_are link.kind link.reverse b (by_kind f link plan (all.holds n.number link n.at)) n.named
              ∙ sym (taken_at b (list_of plan b) (Some link) (into_is b link n))

      pub given_is : AllHold f day plan → (a : ℕ) → given_with f day plan a ≡ given_places day types a (list_of plan a)
      unfolding given_with
      given_is all a = elim (named_or_not arriving_in day.links a) [
        | inl named ↦ by_link named.0 named.1
        | inr none ↦ ap (λ o. unwrap_or (option_map (λ link. given_by f link.kind link.reverse plan) o) (list_of plan a)) (out_none a none.0) ∙ sym (given_at a (list_of plan a) None (out_none a none.0))
      ]
        where
          by_link : (link : Link) → IsNamed arriving_in day.links a link → given_with f day plan a ≡ given_places day types a (list_of plan a)
          by_link link n =
              ap (λ o. unwrap_or (option_map (λ link. given_by f link.kind link.reverse plan) o) (list_of plan a)) (out_is a link n)
              ∙ kind_given f types plan types_are link.kind link.reverse a (by_kind f link plan (all.holds n.number link n.at)) n.named
              ∙ sym (given_at a (list_of plan a) (Some link) (out_is a link n))

      pub kept_is : AllHold f day plan → (a b : ℕ) → kept_with f day plan a b ≡ going_on day types a b (list_of plan a)
      unfolding kept_with
      kept_is all a b = elim (named_or_not arriving_in day.links a) [
        | inl named ↦ by_link named.0 named.1
        | inr none ↦ ap (λ o. unwrap_or (option_map (λ link. kept_by f link.kind link.reverse plan a b) o) []) (out_none a none.0) ∙ sym (going_at a b (list_of plan a) None (out_none a none.0))
      ]
        where
          by_link : (link : Link) → IsNamed arriving_in day.links a link → kept_with f day plan a b ≡ going_on day types a b (list_of plan a)
          by_link link n =
              ap (λ o. unwrap_or (option_map (λ link. kept_by f link.kind link.reverse plan a b) o) []) (out_is a link n)
              ∙ kind_kept f types plan types_are link.kind link.reverse a b (by_kind f link plan (all.holds n.number link n.at)) n.named
              ∙ sym (going_at a b (list_of plan a) (Some link) (out_is a link n))

      -- where the rule holds over types, and what came is what goes on, it holds over units
      pub rule_back : AllHold itself day types → ((b : ℕ) → b < length day.trips → kept_places day types b (list_of plan b) ≡ coming day types (list_of plan) b) → AllHold f day plan
      rule_back all come = record {
        holds = λ l link at. from_kind f link plan (kind_back f types plan types_are link.kind link.reverse (by_kind itself link types (all.holds l link at))
            (λ b c.
            let n : IsNamed departing_in day.links b link = record { number = l; found = place_is departing_in day.links b l link (links.departing_once b) at c; at = at; named = c } in
            sym (kept_at b (list_of plan b) (Some link) (into_is b link n)) ∙ come b (links.departing l b link at (le-leb 1 (count_of b (departing_in link.kind)) c)) ∙ coming_at (list_of plan) b link n)
            (λ t. departing_few t l link at));
      }

    -- ---- a list put together for a trip, where the rule holds over types

    pub put_is : AllHold itself day types → (f : ℕ → ℕ) (b : ℕ) (come fetched : List ℕ) → map f come ≡ kept_places day types b (list_of types b) → map f fetched ≡ taken_places day types b (list_of types b)
        → IsListFor f day types b come fetched (put_together day b come fetched)
    put_is all f b come fetched come_are fetched_are = elim (named_or_not departing_in day.links b) [
      | inl named ↦ by_link named.0 named.1
      | inr none ↦ by_none (into_none b none.0)
    ]
      where
        by_none : link_into day b ≡ None → IsListFor f day types b come fetched (put_together day b come fetched)
        by_none is = subst (IsListFor f day types b come fetched) (sym (put_at b come fetched None is)) (record {
          types_are = fetched_are ∙ taken_at b (list_of types b) None is;
          kept_is = kept_at b fetched None is ∙ sym (no_units come (come_are ∙ kept_at b (list_of types b) None is));
          taken_is = taken_at b fetched None is;
        })
          where
            no_units : (us : List ℕ) → map f us ≡ [] → us ≡ []
            no_units [] e = refl
            no_units (x ∷ us) e = absurd (cc)

        by_link : (link : Link) → IsNamed departing_in day.links b link → IsListFor f day types b come fetched (put_together day b come fetched)
        by_link link n =
            let is = into_is b link n in
            let put : IsPutTogether f link.kind link.reverse types (list_of types b) come fetched =
            put_together_is f link.kind link.reverse types (list_of types b) come fetched
            (λ x y uncouple couple exchange e. kind_within types link.kind link.reverse b x y uncouple couple exchange (by_kind itself link types (all.holds n.number link n.at)) n.named e)
            (come_are ∙ kept_at b (list_of types b) (Some link) is) (fetched_are ∙ taken_at b (list_of types b) (Some link) is) in
            subst (IsListFor f day types b come fetched) (sym (put_at b come fetched (Some link) is)) (record {
              types_are = put.types_are;
              kept_is = kept_at b (coupled_by link.kind come fetched) (Some link) is ∙ put.come_is;
              taken_is = taken_at b (coupled_by link.kind come fetched) (Some link) is ∙ put.fetched_is;
            })
