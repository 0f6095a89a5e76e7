-- What is named before a minute stays named as it is asked where the types change on no frozen trip.
use Rattle.std.proofs.Common.{◌≡◌, ℕ, ◌<◌, ◌≤◌, List, [], ◌∷◌, length, Option, Some, refl, sym, ap, ◌∙◌, subst}
use Rattle.std.proofs.Common.{arith, inl, inr, cond, Bool}
use Rattle.std.specs.Prelude.{option_map, option_and_then, unwrap_or, slice_get, IsTrue, filter, nat_lt, ◌==◌, take}
use Rattle.std.specs.Prelude.{drop, map}
use Rattle.std.proofs.lemmas.Bool.{cases_Bool, cases_lt, leb-true, le-leb, ltb-true}
use Rattle.rules.specs.declared.records.End.{End}
use Rattle.rules.specs.declared.records.Link.{Link}
use Rattle.rules.specs.declared.records.LinkKind.{LinkKind}
use Rattle.rules.specs.declared.records.LinkKind.TheVariants.{Turn, Join, Split}
use Rattle.timetable.specs.Accepted.{IsDay, AreLinks}
use Rattle.timetable.specs.Day.{Day, leaves, arrives, types_of}
use Rattle.timetable.specs.Duties.{duty}
use Rattle.timetable.specs.Links.{list_of, turned, arriving_in, departing_in, incoming, outgoing, link_out, link_into}
use Rattle.timetable.specs.Links.{trips_into}
use Rattle.timetable.specs.Lists.{count_of, has, below}
use Rattle.timetable.specs.Running.{EachFollows}
use Rattle.timetable.specs.Turns.{kept_count, staying, beyond}
use Rattle.timetable.proofs.LinkKinds.{same_alone}
use Rattle.timetable.proofs.ListedUnits.{list_of-types}
use Rattle.timetable.proofs.NamedTrips.{IsNamed, named_or_not, place_is}
use Rattle.inventory.specs.NamedBefore.{IsListOf, MayFollowByPlaces, duty_before, IsNamedBefore, IsFrozen}
use Rattle.inventory.specs.NamingLaws.{NamesStay, PlansNameTheirPast}
use Rattle.inventory.specs.Places.{going_by, left_by, come_by, fetched_by, going_on, given_places, kept_places}
use Rattle.inventory.specs.Places.{taken_places, coming}
use Rattle.inventory.proofs.Earlier.{running_plans_are_named}
use Rattle.inventory.proofs.Linked.{flat_same, going_leads_into}
use Rattle.inventory.proofs.OnDuty.{filter_in, filter_out}
use Rattle.inventory.proofs.Order.{count_of-in_order, count_below_out}
use Rattle.inventory.proofs.Sums.{one_same}

-- ---- the trips of a duty that leave before a minute

pub in_duty : (day : Day) (plan : List (List ℕ)) (minute u t : ℕ) → 1 ≤ count_of t (duty_before day plan minute u) → (t < length day.trips) × (leaves day t < minute)
unfolding duty
in_duty day plan minute u t c = elim (cases_Bool (nat_lt (leaves day t) minute)) [
  | inr late ↦ let none = filter_out (λ t. nat_lt (leaves day t) minute) t (duty day plan u) late in absurd (omega arith)
  | inl early ↦
      let on = filter_in (λ t. nat_lt (leaves day t) minute) t (duty day plan u) early in
      let listed = count_of-in_order day t (filter (λ t. has u (list_of plan t)) (below (length day.trips))) in
      elim (cases_lt t (length day.trips)) [
        | inl lt ↦ (lt, ltb-true (leaves day t) minute early)
        | inr past ↦
            let none = count_below_out t (length day.trips) past in
            elim (cases_Bool (has u (list_of plan t))) [
              | inl is ↦ let all = filter_in (λ t. has u (list_of plan t)) t (below (length day.trips)) is in absurd (omega arith)
              | inr isnt ↦ let all = filter_out (λ t. has u (list_of plan t)) t (below (length day.trips)) isnt in absurd (omega arith)
            ]
      ]
]

-- ---- by the kind of a link

module _ (some types : List (List ℕ)) where
  -- the types are the same on a trip
  abbrev IsSame : ℕ → Type 0
  IsSame t = list_of types t ≡ list_of some t

  itself_there : (x : ℕ) → 1 ≤ count_of x (x ∷ [])
  itself_there x = let one = one_same x x refl in omega arith

  turn_same : (uncouple couple : End) (r : Bool) (x y : ℕ) → IsSame x → IsSame y
      → kept_count uncouple couple (turned r (list_of types x)) (list_of types y) ≡ kept_count uncouple couple (turned r (list_of some x)) (list_of some y)
  turn_same uncouple couple r x y first second =
      ap (λ (ms : List ℕ). kept_count uncouple couple (turned r ms) (list_of types y)) first
      ∙ ap (λ (ms : List ℕ). kept_count uncouple couple (turned r (list_of some x)) ms) second

  module _ (kind : LinkKind) where
    abbrev AreArriving : Type 0
    AreArriving = (a : ℕ) → 1 ≤ count_of a (arriving_in kind) → IsSame a

    abbrev AreDeparting : Type 0
    AreDeparting = (b : ℕ) → 1 ≤ count_of b (departing_in kind) → IsSame b

  come_same : (kind : LinkKind) (r : Bool) (us : List ℕ) → AreArriving kind → AreDeparting kind → come_by kind r types us ≡ come_by kind r some us
  come_same (Turn x y uncouple couple exchange) r us before after = ap (staying couple us) (turn_same uncouple couple r x y (before x (itself_there x)) (after y (itself_there y)))
  come_same (Join x1 x2 y) r us before after = refl
  come_same (Split x y1 y2) r us before after = refl

  fetched_same : (kind : LinkKind) (r : Bool) (us : List ℕ) → AreArriving kind → AreDeparting kind → fetched_by kind r types us ≡ fetched_by kind r some us
  fetched_same (Turn x y uncouple couple exchange) r us before after = ap (beyond couple us) (turn_same uncouple couple r x y (before x (itself_there x)) (after y (itself_there y)))
  fetched_same (Join x1 x2 y) r us before after = refl
  fetched_same (Split x y1 y2) r us before after = refl

  going_same : (kind : LinkKind) (r : Bool) (b : ℕ) (us : List ℕ) → AreArriving kind → AreDeparting kind → going_by kind r types b us ≡ going_by kind r some b us
  going_same (Turn x y uncouple couple exchange) r b us before after =
      ap (λ (n : ℕ). cond (b == y) (staying uncouple (turned r us) n) []) (turn_same uncouple couple r x y (before x (itself_there x)) (after y (itself_there y)))
  going_same (Join x1 x2 y) r b us before after = refl
  going_same (Split x y1 y2) r b us before after =
      ap (λ (ms : List ℕ). cond (b == y1) (take (length ms) (turned r us)) (cond (b == y2) (drop (length ms) (turned r us)) []))
      (after y1 (let one = one_same y1 y1 refl in omega arith))

  -- of what is given, one arriving trip tells
  left_same : (kind : LinkKind) (r : Bool) (us : List ℕ) (a : ℕ) → 1 ≤ count_of a (arriving_in kind) → IsSame a → AreDeparting kind → left_by kind r types us ≡ left_by kind r some us
  left_same (Turn x y uncouple couple exchange) r us a named same after =
      ap (beyond uncouple (turned r us)) (turn_same uncouple couple r x y (subst IsSame (sym (same_alone a x named)) same) (after y (itself_there y)))
  left_same (Join x1 x2 y) r us a named same after = refl
  left_same (Split x y1 y2) r us a named same after = refl

-- ---- of a trip

module _ (day : Day) (some types : List (List ℕ)) (minute : ℕ) (is_day : IsDay day) (links : AreLinks day)
    (agree : (t : ℕ) → t < length day.trips → IsFrozen day minute t → list_of types t ≡ list_of some t) where
  -- a trip that arrived before the minute left before it
  arrived : (a : ℕ) → a < length day.trips → arrives day a ≤ minute → list_of types a ≡ list_of some a
  arrived a lt by = agree a lt (inl (let time = is_day.timetable.time a lt in omega arith))

  into_of : (t : ℕ) (link : Link) → IsNamed departing_in day.links t link → link_into day t ≡ Some link
  unfolding incoming
  into_of t link n = ap (option_and_then (slice_get day.links)) n.found ∙ n.at

  out_of : (t : ℕ) (link : Link) → IsNamed arriving_in day.links t link → link_out day t ≡ Some link
  unfolding outgoing
  out_of t link n = ap (option_and_then (slice_get day.links)) n.found ∙ n.at

  into_trips : (t : ℕ) (link : Link) → IsNamed departing_in day.links t link → trips_into day t ≡ arriving_in link.kind
  into_trips t link n = ap (λ (o : Option Link). unwrap_or (option_map (λ link. arriving_in link.kind) o) []) (into_of t link n)

  -- the departing trips of a link of which one trip arrived before the minute
  led_to : (l : ℕ) (link : Link) → slice_get day.links l ≡ Some link → (a : ℕ) → 1 ≤ count_of a (arriving_in link.kind) → arrives day a < minute → AreDeparting some types link.kind
  led_to l link at a named by b named' =
      let n : IsNamed departing_in day.links b link = record { number = l; found = place_is departing_in day.links b l link (links.departing_once b) at named'; at = at; named = named' } in
      agree b (links.departing l b link at (le-leb 1 (count_of b (departing_in link.kind)) named'))
      (inr (a, subst (λ (ts : List ℕ). IsTrue (has a ts)) (sym (into_trips b link n)) (le-leb 1 (count_of a (arriving_in link.kind)) named), by))

  module _ (t : ℕ) (departed : leaves day t < minute) where
    -- all trips of the link into a trip that has departed
    before_it : (link : Link) → IsNamed departing_in day.links t link → AreArriving some types link.kind
    before_it link n a named =
        let in_time = links.in_time n.number a t link n.at (le-leb 1 (count_of a (arriving_in link.kind)) named) (le-leb 1 (count_of t (departing_in link.kind)) n.named) in
        arrived a (links.arriving n.number a link n.at (le-leb 1 (count_of a (arriving_in link.kind)) named)) (omega arith)

    with_it : (link : Link) → IsNamed departing_in day.links t link → (a : ℕ) → 1 ≤ count_of a (arriving_in link.kind) → AreDeparting some types link.kind
    with_it link n a named =
        let in_time = links.in_time n.number a t link n.at (le-leb 1 (count_of a (arriving_in link.kind)) named) (le-leb 1 (count_of t (departing_in link.kind)) n.named) in
        led_to n.number link n.at a named (omega arith)

    all_with_it : (link : Link) → IsNamed departing_in day.links t link → AreDeparting some types link.kind
    all_with_it link n = with_it link n (first link.kind) (is_first link.kind)
      where
        first : LinkKind → ℕ
        first (Turn x y uncouple couple exchange) = x
        first (Join x1 x2 y) = x1
        first (Split x y1 y2) = x

        is_first : (kind : LinkKind) → 1 ≤ count_of (first kind) (arriving_in kind)
        is_first (Turn x y uncouple couple exchange) = let one = one_same x x refl in omega arith
        is_first (Join x1 x2 y) = let one = one_same x1 x1 refl in omega arith
        is_first (Split x y1 y2) = let one = one_same x x refl in omega arith

    kept_same : (us : List ℕ) → kept_places day types t us ≡ kept_places day some t us
    unfolding kept_places incoming
    kept_same us = elim (named_or_not departing_in day.links t) [
      | inl n ↦
          ap (λ (o : Option Link). unwrap_or (option_map (λ link. come_by link.kind link.reverse types us) o) []) (into_of t n.0 n.1)
          ∙ come_same some types (n.0).kind (n.0).reverse us (before_it n.0 n.1) (all_with_it n.0 n.1)
          ∙ sym (ap (λ (o : Option Link). unwrap_or (option_map (λ link. come_by link.kind link.reverse some us) o) []) (into_of t n.0 n.1))
      | inr none ↦
          ap (λ (o : Option Link). unwrap_or (option_map (λ link. come_by link.kind link.reverse types us) o) []) (ap (option_and_then (slice_get day.links)) none.0)
          ∙ sym (ap (λ (o : Option Link). unwrap_or (option_map (λ link. come_by link.kind link.reverse some us) o) []) (ap (option_and_then (slice_get day.links)) none.0))
    ]

    taken_same : (us : List ℕ) → taken_places day types t us ≡ taken_places day some t us
    unfolding taken_places incoming
    taken_same us = elim (named_or_not departing_in day.links t) [
      | inl n ↦
          ap (λ (o : Option Link). unwrap_or (option_map (λ link. fetched_by link.kind link.reverse types us) o) us) (into_of t n.0 n.1)
          ∙ fetched_same some types (n.0).kind (n.0).reverse us (before_it n.0 n.1) (all_with_it n.0 n.1)
          ∙ sym (ap (λ (o : Option Link). unwrap_or (option_map (λ link. fetched_by link.kind link.reverse some us) o) us) (into_of t n.0 n.1))
      | inr none ↦
          ap (λ (o : Option Link). unwrap_or (option_map (λ link. fetched_by link.kind link.reverse types us) o) us) (ap (option_and_then (slice_get day.links)) none.0)
          ∙ sym (ap (λ (o : Option Link). unwrap_or (option_map (λ link. fetched_by link.kind link.reverse some us) o) us) (ap (option_and_then (slice_get day.links)) none.0))
    ]

    -- what goes on in it of a trip that leads into it
    goes_same : (a : ℕ) → 1 ≤ count_of a (trips_into day t) → (us : List ℕ) → going_on day types a t us ≡ going_on day some a t us
    unfolding going_on incoming
    goes_same a leads us = elim (named_or_not departing_in day.links t) [
      | inl n ↦
          let named : 1 ≤ count_of a (arriving_in (n.0).kind) = subst (λ (ts : List ℕ). 1 ≤ count_of a ts) (into_trips t n.0 n.1) leads in
          let out : IsNamed arriving_in day.links a n.0 = record { number = (n.1).number; found = place_is arriving_in day.links a (n.1).number n.0 (links.arriving_once a) (n.1).at named; at = (n.1).at; named = named } in
          ap (λ (o : Option Link). unwrap_or (option_map (λ link. going_by link.kind link.reverse types t us) o) []) (out_of a n.0 out)
          ∙ going_same some types (n.0).kind (n.0).reverse t us (before_it n.0 n.1) (all_with_it n.0 n.1)
          ∙ sym (ap (λ (o : Option Link). unwrap_or (option_map (λ link. going_by link.kind link.reverse some t us) o) []) (out_of a n.0 out))
      | inr none ↦
          let nothing : 1 ≤ count_of a [] =
          subst (λ (o : Option Link). 1 ≤ count_of a (unwrap_or (option_map (λ link. arriving_in link.kind) o) [])) (ap (option_and_then (slice_get day.links)) none.0) leads in
          absurd (omega arith)
    ]

    comes_same : (lists : ℕ → List ℕ) → coming day types lists t ≡ coming day some lists t
    unfolding coming
    comes_same lists = flat_same (λ a. going_on day types a t (lists a)) (λ a. going_on day some a t (lists a)) (trips_into day t) (λ a leads. goes_same a leads (lists a))

  -- what is given by a trip that arrives before the minute
  gives_same : (a : ℕ) → a < length day.trips → arrives day a < minute → (us : List ℕ) → given_places day types a us ≡ given_places day some a us
  unfolding given_places outgoing
  gives_same a lt by us = elim (named_or_not arriving_in day.links a) [
    | inl n ↦
        ap (λ (o : Option Link). unwrap_or (option_map (λ link. left_by link.kind link.reverse types us) o) us) (out_of a n.0 n.1)
        ∙ left_same some types (n.0).kind (n.0).reverse us a (n.1).named (arrived a lt (omega arith)) (led_to (n.1).number n.0 (n.1).at a (n.1).named by)
        ∙ sym (ap (λ (o : Option Link). unwrap_or (option_map (λ link. left_by link.kind link.reverse some us) o) us) (out_of a n.0 n.1))
    | inr none ↦
        ap (λ (o : Option Link). unwrap_or (option_map (λ link. left_by link.kind link.reverse types us) o) us) (ap (option_and_then (slice_get day.links)) none.0)
        ∙ sym (ap (λ (o : Option Link). unwrap_or (option_map (λ link. left_by link.kind link.reverse some us) o) us) (ap (option_and_then (slice_get day.links)) none.0))
  ]

  -- ---- the duties before the minute

  may_follow : (plan : List (List ℕ)) (u a b : ℕ) → a < length day.trips → leaves day b < minute → MayFollowByPlaces day some plan u a b → MayFollowByPlaces day types plan u a b
  may_follow plan u a b lt departed (inl stays) =
      let leads = going_leads_into day some links u a b (list_of plan a) (leb-true 1 (count_of u (going_on day some a b (list_of plan a))) stays) in
      inl (subst (λ (us : List ℕ). IsTrue (has u us)) (sym (goes_same b departed a leads (list_of plan a))) stays)
  may_follow plan u a b lt departed (inr yard) =
      let ready = yard.ready in
      inr (record {
        given = subst (λ (us : List ℕ). IsTrue (has u us)) (sym (gives_same a lt (omega arith) (list_of plan a))) yard.given;
        taken = subst (λ (us : List ℕ). IsTrue (has u us)) (sym (taken_same b departed (list_of plan b))) yard.taken;
        station = yard.station;
        ready = yard.ready;
      })

  each_may : (plan : List (List ℕ)) (u : ℕ) (ts : List ℕ) → ((t : ℕ) → 1 ≤ count_of t ts → (t < length day.trips) × (leaves day t < minute))
      → EachFollows (MayFollowByPlaces day some plan u) ts → EachFollows (MayFollowByPlaces day types plan u) ts
  each_may plan u [] early follows = tt
  each_may plan u (a ∷ []) early follows = tt
  each_may plan u (a ∷ b ∷ ts) early follows =
      let first = one_same a a refl in
      let second = one_same b b refl in (
        may_follow plan u a b (early a (omega arith)).0 (early b (omega arith)).1 follows.0,
        each_may plan u (b ∷ ts) (λ t c. early t (omega arith)) follows.1,
      )

  names_stay : (plan : List (List ℕ)) → IsNamedBefore day some minute plan → IsNamedBefore day types minute plan
  names_stay plan named = record {
    lists = λ t lt departed. subst (λ (ms : List ℕ). IsListOf day ms (list_of plan t)) (sym (agree t lt (inl departed))) (named.lists t lt departed);
    links = λ t lt departed. kept_same t departed (list_of plan t) ∙ named.links t lt departed ∙ sym (comes_same t departed (list_of plan));
    homes = named.homes;
    follows = λ u lt. each_may plan u (duty_before day plan minute u) (in_duty day plan minute u) (named.follows u lt);
  }

pub names_stay_so : NamesStay
names_stay_so day some types minute plan is_day links agree named = names_stay day some types minute is_day links agree plan named

pub plans_name_their_past : PlansNameTheirPast
plans_name_their_past day plan types minute is_day links agree runs =
    names_stay day (map (types_of day) plan) types minute is_day links (λ t lt frozen. agree t lt frozen ∙ sym (list_of-types day plan t)) plan
    (running_plans_are_named day plan minute links runs)
