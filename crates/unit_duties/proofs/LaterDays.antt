-- The past of a plan that runs, in a later day.
use Rattle.std.proofs.Common.{◌≡◌, ℕ, zero, suc, ◌+◌, ◌<◌, ◌≤◌, List, [], ◌∷◌, ◌++◌, length, map, Bool, true, false, cond, Option, Some}
use Rattle.std.proofs.Common.{None, IsTrue, refl, sym, ap, ◌∙◌, subst, arith, inl, inr}
use Rattle.std.specs.Prelude.{filter, nat_lt, ◌==◌, ◌&&◌, ◌||◌, option_map, option_and_then, unwrap_or, slice_get, take, drop}
use Rattle.std.specs.List.{flat_map}
use Rattle.std.proofs.lemmas.Bool.{cases_Bool, cases_eq, cases_lt, cond-true, cond-false, lt-ltb, le-ltb, ltb-true, eq-eqb, ne_eqb}
use Rattle.std.proofs.lemmas.Bool.{leb-true, le-leb, and_parts}
use Rattle.std.proofs.lemmas.List.{append-nil, map-append}
use Rattle.std.proofs.lemmas.List.Elements.{filter-append}
use Rattle.std.proofs.lemmas.List.Folds.{flat_map-map}
use Rattle.rules.specs.declared.records.End.{End}
use Rattle.rules.specs.declared.records.Link.{Link}
use Rattle.rules.specs.declared.records.LinkKind.{LinkKind}
use Rattle.rules.specs.declared.records.LinkKind.TheVariants.{Turn, Join, Split}
use Rattle.timetable.specs.Accepted.{AreLinks}
use Rattle.timetable.specs.Day.{Day, leaves, type_of, types_of, home_of}
use Rattle.timetable.specs.DerivedDays.{kind_with, link_with}
use Rattle.timetable.specs.Duties.{is_before, insert_trip, in_order, duty}
use Rattle.timetable.specs.LinkRows.{NamesBelow}
use Rattle.timetable.specs.Links.{list_of, turned, arriving_in, departing_in, incoming, outgoing, link_out, link_into}
use Rattle.timetable.specs.Lists.{count_of, has, below}
use Rattle.timetable.specs.Running.{BeginsAt, EachFollows, Runs}
use Rattle.timetable.specs.Turns.{kept_count, staying, beyond}
use Rattle.timetable.proofs.LeftLinks.{arriving_then, departing_then}
use Rattle.timetable.proofs.Linked.{into_is, out_is}
use Rattle.timetable.proofs.ListedUnits.{list_of-types}
use Rattle.timetable.proofs.NamedTrips.{IsNamed, named_or_not, place_is}
use Rattle.timetable.proofs.Ones.{one_same}
use Rattle.timetable.proofs.Renumbered.{has_map, came_from}
use Rattle.inventory.specs.NamedBefore.{IsListOf, MayFollowByPlaces, duty_before, IsNamedBefore}
use Rattle.inventory.specs.Places.{going_by, left_by, come_by, fetched_by, going_on, given_places, kept_places, taken_places, coming}
use Rattle.inventory.proofs.Earlier.{running_plans_are_named}
use Rattle.inventory.proofs.Frozen.{names_stay_so, in_duty}
use Rattle.inventory.proofs.Linked.{Goes, goes, flat_same, going_leads_into}
use Rattle.inventory.proofs.Named.{at_below}
use Rattle.inventory.proofs.Order.{count_of-in_order, filter_in_order, count_below_out}
use Rattle.unit_duties.specs.LaterDays.{IsLaterDay, plan_for, PlansNameTheirPastLater}

-- ---- filters

filter_few : (p : ℕ → Bool) (x : ℕ) (ys : List ℕ) → count_of x (filter p ys) ≤ count_of x ys
filter_few p x [] = omega arith
filter_few p x (y ∷ ys) = let rest = filter_few p x ys in elim (cases_Bool (p y)) [
  | inl passes ↦ let e = ap (count_of x) (cond-true (p y) (y ∷ filter p ys) (filter p ys) passes) in omega arith
  | inr fails ↦ let e = ap (count_of x) (cond-false (p y) (y ∷ filter p ys) (filter p ys) fails) in omega arith
]

both_pass : (p q : ℕ → Bool) (xs : List ℕ) → filter p (filter q xs) ≡ filter (λ x. q x && p x) xs
both_pass p q [] = refl
both_pass p q (x ∷ xs) = elim (cases_Bool (q x)) [
  | inl is ↦
      ap (filter p) (cond-true (q x) (x ∷ filter q xs) (filter q xs) is)
      ∙ ap (λ (rest : List ℕ). cond (p x) (x ∷ rest) rest) (both_pass p q xs)
      ∙ sym (ap (λ (b : Bool). cond (b && p x) (x ∷ filter (λ x. q x && p x) xs) (filter (λ x. q x && p x) xs)) is)
  | inr isnt ↦
      ap (filter p) (cond-false (q x) (x ∷ filter q xs) (filter q xs) isnt)
      ∙ both_pass p q xs
      ∙ sym (ap (λ (b : Bool). cond (b && p x) (x ∷ filter (λ x. q x && p x) xs) (filter (λ x. q x && p x) xs)) isnt)
]

-- Numbers that pass a test, where each that does is the old number of one below a bound.
module _ (old : ℕ → ℕ) (p q : ℕ → Bool) where
  without_last : (n : ℕ) → p n ≡ false → filter p (below n ++ n ∷ []) ≡ filter p (below n)
  without_last n isnt =
      filter-append p (below n) (n ∷ [])
      ∙ ap (λ (rest : List ℕ). filter p (below n) ++ rest) (cond-false (p n) (n ∷ []) [] isnt)
      ∙ append-nil (filter p (below n))

  last_alike : (m n : ℕ) → old m ≡ n → q m ≡ p (old m) → filter p (n ∷ []) ≡ map old (filter q (m ∷ []))
  last_alike m n is same = elim (cases_Bool (p n)) [
    | inl passes ↦
        cond-true (p n) (n ∷ []) [] passes ∙ ap (λ (x : ℕ). x ∷ []) (sym is)
        ∙ ap (map old) (sym (cond-true (q m) (m ∷ []) [] (same ∙ ap p is ∙ passes)))
    | inr fails ↦ cond-false (p n) (n ∷ []) [] fails ∙ ap (map old) (sym (cond-false (q m) (m ∷ []) [] (same ∙ ap p is ∙ fails)))
  ]

  passing : (n m : ℕ) → ((s t : ℕ) → s < t → t < m → old s < old t) → ((s : ℕ) → s < m → old s < n) → ((s : ℕ) → s < m → q s ≡ p (old s))
      → ((x : ℕ) → x < n → p x ≡ true → (s : ℕ) × (s < m) × (old s ≡ x)) → filter p (below n) ≡ map old (filter q (below m))
  passing zero zero rise within same all = refl
  passing zero (suc m) rise within same all = let lt = within m (omega arith) in absurd (omega arith)
  passing (suc n) zero rise within same all = elim (cases_Bool (p n)) [
    | inl passes ↦ let from = all n (omega arith) passes in let lt = from.1 in absurd (omega arith)
    | inr fails ↦ without_last n fails ∙ passing n zero rise (λ s lt. absurd (omega arith)) same (λ x lt passes. all x (omega arith) passes)
  ]
  passing (suc n) (suc m) rise within same all = elim (cases_eq (old m) n) [
    | inl is ↦
        filter-append p (below n) (n ∷ [])
        ∙ ap (λ (front : List ℕ). front ++ filter p (n ∷ [])) (passing n m (λ s t before lt. rise s t before (omega arith))
        (λ s lt. let up = rise s m lt (omega arith) in omega arith) (λ s lt. same s (omega arith))
        (λ x lt passes.
        let from = all x (omega arith) passes in
        let known = from.1 in
        let old_is = from.2 in (
          from.0,
          elim (cases_eq from.0 m) [
            | inl e ↦ let last = ap old e in absurd (omega arith)
            | inr ne ↦ omega arith
          ],
          from.2,
        )))
        ∙ ap (λ (rest : List ℕ). map old (filter q (below m)) ++ rest) (last_alike m n is (same m (omega arith)))
        ∙ sym (ap (map old) (filter-append q (below m) (m ∷ [])) ∙ map-append old (filter q (below m)) (filter q (m ∷ [])))
    | inr ne ↦
        let most = within m (omega arith) in
        without_last n (elim (cases_Bool (p n)) [
          | inr fails ↦ fails
          | inl passes ↦
              let from = all n (omega arith) passes in
              let known = from.1 in
              let old_is = from.2 in
              elim (cases_eq from.0 m) [
                | inl e ↦ absurd (ne (ap old (sym e) ∙ from.2))
                | inr other ↦ let up = rise from.0 m (omega arith) (omega arith) in absurd (omega arith)
              ]
        ])
        ∙ passing n (suc m) rise
        (λ s lt. elim (cases_eq s m) [
          | inl e ↦ let last = ap old e in omega arith
          | inr other ↦ let up = rise s m (omega arith) (omega arith) in omega arith
        ]) same (λ x lt passes. all x (omega arith) passes)
  ]

map_choice : (f : ℕ → ℕ) (b : Bool) (xs ys : List ℕ) → cond b (map f xs) (map f ys) ≡ map f (cond b xs ys)
map_choice f true xs ys = refl
map_choice f false xs ys = refl

-- ---- the trips of a link

first_of : (x : ℕ) (ys : List ℕ) → 1 ≤ count_of x (x ∷ ys)
first_of x ys = let one = one_same x x refl in omega arith

second_of : (x y : ℕ) → 1 ≤ count_of y (x ∷ y ∷ [])
second_of x y = let one = one_same y y refl in omega arith

names_below : (n : ℕ) (kind : LinkKind) → ((t : ℕ) → 1 ≤ count_of t (arriving_in kind) → t < n) → ((t : ℕ) → 1 ≤ count_of t (departing_in kind) → t < n) → NamesBelow n kind
names_below n (Turn a b uncouple couple exchange) before after = (before a (first_of a []), after b (first_of b []))
names_below n (Join a1 a2 b) before after = (before a1 (first_of a1 (a2 ∷ [])), before a2 (second_of a1 a2), after b (first_of b []))
names_below n (Split a b1 b2) before after = (before a (first_of a []), after b1 (first_of b1 (b2 ∷ [])), after b2 (second_of b1 b2))

module _ (day later : Day) (old : ℕ → ℕ) (minute : ℕ) (plan : List (List ℕ)) (links : AreLinks day) (later_links : AreLinks later)
    (is : IsLaterDay day later old minute) (runs : Runs day plan) where
  abbrev trips : ℕ
  trips = length later.trips

  abbrev new_plan : List (List ℕ)
  new_plan = plan_for later old plan

  -- the types of the plan, of the day and of the later day
  abbrev some : List (List ℕ)
  some = map (types_of day) plan

  abbrev types : List (List ℕ)
  types = map (types_of later) new_plan

  -- ---- numbers

  old_once : (a b : ℕ) → a < trips → b < trips → old a ≡ old b → a ≡ b
  old_once a b la lb e = elim (cases_lt a b) [
    | inl lt ↦ let up = is.trips.rise a b lt lb in absurd (omega arith)
    | inr ge ↦ elim (cases_lt b a) [
      | inl lt ↦ let up = is.trips.rise b a lt la in absurd (omega arith)
      | inr le ↦ omega arith
    ]
  ]

  old_equal : (a b : ℕ) → a < trips → b < trips → (old a == old b) ≡ (a == b)
  old_equal a b la lb = elim (cases_eq a b) [
    | inl e ↦ eq-eqb (old a) (old b) (ap old e) ∙ sym (eq-eqb a b e)
    | inr ne ↦ ne_eqb (old a) (old b) (λ e. ne (old_once a b la lb e)) ∙ sym (ne_eqb a b ne)
  ]

  old_less : (a b : ℕ) → a < trips → b < trips → nat_lt (old a) (old b) ≡ nat_lt a b
  old_less a b la lb = elim (cases_lt a b) [
    | inl lt ↦ lt-ltb (old a) (old b) (is.trips.rise a b lt lb) ∙ sym (lt-ltb a b lt)
    | inr ge ↦ le-ltb (old a) (old b) (elim (cases_lt b a) [
      | inl lt ↦ let up = is.trips.rise b a lt la in omega arith
      | inr le ↦ let same : a ≡ b = omega arith in let olds = ap old same in omega arith
    ]) ∙ sym (le-ltb a b ge)
  ]

  before_old : (a b : ℕ) → a < trips → b < trips → is_before day (old a) (old b) ≡ is_before later a b
  before_old a b la lb =
      ap (λ (x : ℕ). nat_lt x (leaves day (old b)) || ((x == leaves day (old b)) && nat_lt (old a) (old b))) (sym (is.trips.leaving a la))
      ∙ ap (λ (x : ℕ). nat_lt (leaves later a) x || ((leaves later a == x) && nat_lt (old a) (old b))) (sym (is.trips.leaving b lb))
      ∙ ap (λ (less : Bool). nat_lt (leaves later a) (leaves later b) || ((leaves later a == leaves later b) && less)) (old_less a b la lb)

  -- ---- lists

  abbrev AreThere : List ℕ → Type 0
  AreThere ts = (t : ℕ) → 1 ≤ count_of t ts → t < trips

  new_list : (t : ℕ) → t < trips → list_of new_plan t ≡ list_of plan (old t)
  unfolding list_of
  new_list t lt = ap (λ (o : Option (List ℕ)). unwrap_or o []) (at_below (λ t. list_of plan (old t)) trips t lt)

  same_types : (us : List ℕ) → types_of later us ≡ types_of day us
  same_types [] = refl
  same_types (u ∷ us) = ap (λ (m : ℕ). m ∷ types_of later us) (is.units.unit_type u) ∙ ap (λ (ms : List ℕ). type_of day u ∷ ms) (same_types us)

  agree : (t : ℕ) → t < trips → list_of some (old t) ≡ list_of types t
  agree t lt =
      list_of-types day plan (old t) ∙ sym (same_types (list_of plan (old t))) ∙ ap (types_of later) (sym (new_list t lt)) ∙ sym (list_of-types later new_plan t)

  -- ---- by the kind of a link

  turn_old : (uncouple couple : End) (r : Bool) (x y : ℕ) → x < trips → y < trips
      → kept_count uncouple couple (turned r (list_of some (old x))) (list_of some (old y)) ≡ kept_count uncouple couple (turned r (list_of types x)) (list_of types y)
  turn_old uncouple couple r x y lx ly =
      ap (λ (ms : List ℕ). kept_count uncouple couple (turned r ms) (list_of some (old y))) (agree x lx)
      ∙ ap (λ (ms : List ℕ). kept_count uncouple couple (turned r (list_of types x)) ms) (agree y ly)

  come_old : (kind : LinkKind) (r : Bool) (us : List ℕ) → NamesBelow trips kind → come_by (kind_with old kind) r some us ≡ come_by kind r types us
  come_old (Turn x y uncouple couple exchange) r us there = ap (staying couple us) (turn_old uncouple couple r x y there.0 there.1)
  come_old (Join x1 x2 y) r us there = refl
  come_old (Split x y1 y2) r us there = refl

  fetched_old : (kind : LinkKind) (r : Bool) (us : List ℕ) → NamesBelow trips kind → fetched_by (kind_with old kind) r some us ≡ fetched_by kind r types us
  fetched_old (Turn x y uncouple couple exchange) r us there = ap (beyond couple us) (turn_old uncouple couple r x y there.0 there.1)
  fetched_old (Join x1 x2 y) r us there = refl
  fetched_old (Split x y1 y2) r us there = refl

  left_old : (kind : LinkKind) (r : Bool) (us : List ℕ) → NamesBelow trips kind → left_by (kind_with old kind) r some us ≡ left_by kind r types us
  left_old (Turn x y uncouple couple exchange) r us there = ap (beyond uncouple (turned r us)) (turn_old uncouple couple r x y there.0 there.1)
  left_old (Join x1 x2 y) r us there = refl
  left_old (Split x y1 y2) r us there = refl

  going_old : (kind : LinkKind) (r : Bool) (b : ℕ) (us : List ℕ) → b < trips → NamesBelow trips kind → going_by (kind_with old kind) r some (old b) us ≡ going_by kind r types b us
  going_old (Turn x y uncouple couple exchange) r b us lb there =
      ap (λ (t : Bool). cond t (staying uncouple (turned r us) (kept_count uncouple couple (turned r (list_of some (old x))) (list_of some (old y)))) []) (old_equal b y lb there.1)
      ∙ ap (λ (n : ℕ). cond (b == y) (staying uncouple (turned r us) n) []) (turn_old uncouple couple r x y there.0 there.1)
  going_old (Join x1 x2 y) r b us lb there = ap (λ (t : Bool). cond t (turned r us) []) (old_equal b y lb there.2)
  going_old (Split x y1 y2) r b us lb there =
      ap (λ (t : Bool). cond t (take (length (list_of some (old y1))) (turned r us)) (cond (old b == old y2) (drop (length (list_of some (old y1))) (turned r us)) [])) (old_equal b y1 lb there.1)
      ∙ ap (λ (t : Bool). cond (b == y1) (take (length (list_of some (old y1))) (turned r us)) (cond t (drop (length (list_of some (old y1))) (turned r us)) [])) (old_equal b y2 lb there.2)
      ∙ ap (λ (ms : List ℕ). cond (b == y1) (take (length ms) (turned r us)) (cond (b == y2) (drop (length ms) (turned r us)) [])) (agree y1 there.1)

  -- ---- the links of a trip

  link_there : (k : ℕ) (link : Link) → slice_get later.links k ≡ Some link → NamesBelow trips link.kind
  link_there k link at =
      names_below trips link.kind
      (λ t named. later_links.arriving k t link at (le-leb 1 (count_of t (arriving_in link.kind)) named))
      (λ t named. later_links.departing k t link at (le-leb 1 (count_of t (departing_in link.kind)) named))

  -- the link of before, found by the old number of a trip
  into_old : (t : ℕ) (link : Link) → IsNamed departing_in later.links t link → link_into day (old t) ≡ Some (link_with old link)
  into_old t link n =
      let of = is.links n.number link n.at in
      let named : 1 ≤ count_of (old t) (departing_in (kind_with old link.kind)) =
      subst (λ (ts : List ℕ). 1 ≤ count_of (old t) ts) (sym (departing_then old link.kind)) (has_map old (departing_in link.kind) t n.named) in
      into_is day (old t) (link_with old link)
      (record { number = of.0; found = place_is departing_in day.links (old t) of.0 (link_with old link) (links.departing_once (old t)) of.1 named; at = of.1; named = named })

  out_old : (t : ℕ) (link : Link) → IsNamed arriving_in later.links t link → link_out day (old t) ≡ Some (link_with old link)
  out_old t link n =
      let of = is.links n.number link n.at in
      let named : 1 ≤ count_of (old t) (arriving_in (kind_with old link.kind)) =
      subst (λ (ts : List ℕ). 1 ≤ count_of (old t) ts) (sym (arriving_then old link.kind)) (has_map old (arriving_in link.kind) t n.named) in
      out_is day (old t) (link_with old link)
      (record { number = of.0; found = place_is arriving_in day.links (old t) of.0 (link_with old link) (links.arriving_once (old t)) of.1 named; at = of.1; named = named })

  -- where no link leads into a trip that has departed, none did
  none_old : (t : ℕ) → t < trips → leaves later t < minute → ((l : ℕ) (link : Link) → slice_get later.links l ≡ Some link → count_of t (departing_in link.kind) ≡ 0) → link_into day (old t) ≡ None
  unfolding incoming
  none_old t lt departed none = elim (named_or_not departing_in day.links (old t)) [
    | inr no_link ↦ ap (option_and_then (slice_get day.links)) no_link.0
    | inl n ↦
        let leaving = is.trips.leaving t lt in
        let stays = is.past.links (n.1).number (old t) n.0 (n.1).at (le-leb 1 (count_of (old t) (departing_in (n.0).kind)) (n.1).named) (omega arith) in
        let named : 1 ≤ count_of (old t) (departing_in (kind_with old (stays.1).kind)) =
        subst (λ (link : Link). 1 ≤ count_of (old t) (departing_in link.kind)) (sym stays.3) (n.1).named in
        let from = came_from old (departing_in (stays.1).kind) (old t) (subst (λ (ts : List ℕ). 1 ≤ count_of (old t) ts) (departing_then old (stays.1).kind) named) in
        let there = later_links.departing stays.0 from.0 stays.1 stays.2 (le-leb 1 (count_of from.0 (departing_in (stays.1).kind)) from.1) in
        let same : from.0 ≡ t = old_once from.0 t there lt from.2 in
        let no_time = none stays.0 stays.1 stays.2 in
        let some_time : 1 ≤ count_of t (departing_in (stays.1).kind) = subst (λ (x : ℕ). 1 ≤ count_of x (departing_in (stays.1).kind)) same from.1 in
        absurd (omega arith)
  ]

  -- ---- the places of a trip that has departed

  module _ (t : ℕ) (lt : t < trips) (departed : leaves later t < minute) where
    kept_old : (us : List ℕ) → kept_places later types t us ≡ kept_places day some (old t) us
    unfolding kept_places incoming
    kept_old us = elim (named_or_not departing_in later.links t) [
      | inl n ↦
          ap (λ (o : Option Link). unwrap_or (option_map (λ link. come_by link.kind link.reverse types us) o) []) (into_is later t n.0 n.1)
          ∙ sym (come_old (n.0).kind (n.0).reverse us (link_there (n.1).number n.0 (n.1).at))
          ∙ sym (ap (λ (o : Option Link). unwrap_or (option_map (λ link. come_by link.kind link.reverse some us) o) []) (into_old t n.0 n.1))
      | inr none ↦
          ap (λ (o : Option Link). unwrap_or (option_map (λ link. come_by link.kind link.reverse types us) o) []) (ap (option_and_then (slice_get later.links)) none.0)
          ∙ sym (ap (λ (o : Option Link). unwrap_or (option_map (λ link. come_by link.kind link.reverse some us) o) []) (none_old t lt departed none.1))
    ]

    taken_old : (us : List ℕ) → taken_places later types t us ≡ taken_places day some (old t) us
    unfolding taken_places incoming
    taken_old us = elim (named_or_not departing_in later.links t) [
      | inl n ↦
          ap (λ (o : Option Link). unwrap_or (option_map (λ link. fetched_by link.kind link.reverse types us) o) us) (into_is later t n.0 n.1)
          ∙ sym (fetched_old (n.0).kind (n.0).reverse us (link_there (n.1).number n.0 (n.1).at))
          ∙ sym (ap (λ (o : Option Link). unwrap_or (option_map (λ link. fetched_by link.kind link.reverse some us) o) us) (into_old t n.0 n.1))
      | inr none ↦
          ap (λ (o : Option Link). unwrap_or (option_map (λ link. fetched_by link.kind link.reverse types us) o) us) (ap (option_and_then (slice_get later.links)) none.0)
          ∙ sym (ap (λ (o : Option Link). unwrap_or (option_map (λ link. fetched_by link.kind link.reverse some us) o) us) (none_old t lt departed none.1))
    ]

    -- what goes on in it, of a trip of its link
    goes_old : (link : Link) → IsNamed departing_in later.links t link → (a : ℕ) → 1 ≤ count_of a (arriving_in link.kind) → (us : List ℕ) → going_on later types a t us ≡ going_on day some (old a) (old t) us
    unfolding going_on
    goes_old link n a named us =
        let out : IsNamed arriving_in later.links a link =
        record { number = n.number; found = place_is arriving_in later.links a n.number link (later_links.arriving_once a) n.at named; at = n.at; named = named } in
        ap (λ (o : Option Link). unwrap_or (option_map (λ link. going_by link.kind link.reverse types t us) o) []) (out_is later a link out)
        ∙ sym (going_old link.kind link.reverse t us lt (link_there n.number link n.at))
        ∙ sym (ap (λ (o : Option Link). unwrap_or (option_map (λ link. going_by link.kind link.reverse some (old t) us) o) []) (out_old a link out))

    comes_old : coming later types (list_of new_plan) t ≡ coming day some (list_of plan) (old t)
    unfolding coming incoming
    comes_old = elim (named_or_not departing_in later.links t) [
      | inl n ↦
          ap (λ (o : Option Link). flat_map (λ a. going_on later types a t (list_of new_plan a)) (unwrap_or (option_map (λ link. arriving_in link.kind) o) [])) (into_is later t n.0 n.1)
          ∙ flat_same (λ a. going_on later types a t (list_of new_plan a)) (λ a. going_on day some (old a) (old t) (list_of plan (old a))) (arriving_in (n.0).kind)
          (λ a named.
          ap (going_on later types a t) (new_list a (later_links.arriving (n.1).number a n.0 (n.1).at (le-leb 1 (count_of a (arriving_in (n.0).kind)) named)))
          ∙ goes_old n.0 n.1 a named (list_of plan (old a)))
          ∙ sym (ap (λ (o : Option Link). flat_map (λ a. going_on day some a (old t) (list_of plan a)) (unwrap_or (option_map (λ link. arriving_in link.kind) o) [])) (into_old t n.0 n.1)
          ∙ ap (flat_map (λ a. going_on day some a (old t) (list_of plan a))) (arriving_then old (n.0).kind)
          ∙ flat_map-map (λ a. going_on day some a (old t) (list_of plan a)) old (arriving_in (n.0).kind))
      | inr none ↦
          ap (λ (o : Option Link). flat_map (λ a. going_on later types a t (list_of new_plan a)) (unwrap_or (option_map (λ link. arriving_in link.kind) o) [])) (ap (option_and_then (slice_get later.links)) none.0)
          ∙ sym (ap (λ (o : Option Link). flat_map (λ a. going_on day some a (old t) (list_of plan a)) (unwrap_or (option_map (λ link. arriving_in link.kind) o) [])) (none_old t lt departed none.1))
    ]

    -- what stays in the train for it, stayed
    stays_old : (u a : ℕ) → a < trips → (us : List ℕ) → IsTrue (has u (going_on day some (old a) (old t) us)) → IsTrue (has u (going_on later types a t us))
    unfolding incoming
    stays_old u a la us stays =
        let leads = going_leads_into day some links u (old a) (old t) us (leb-true 1 (count_of u (going_on day some (old a) (old t) us)) stays) in
        elim (named_or_not departing_in later.links t) [
          | inl n ↦
              let there : 1 ≤ count_of (old a) (arriving_in (kind_with old (n.0).kind)) =
              subst (λ (o : Option Link). 1 ≤ count_of (old a) (unwrap_or (option_map (λ link. arriving_in link.kind) o) [])) (into_old t n.0 n.1) leads in
              let from = came_from old (arriving_in (n.0).kind) (old a) (subst (λ (ts : List ℕ). 1 ≤ count_of (old a) ts) (arriving_then old (n.0).kind) there) in
              let known = later_links.arriving (n.1).number from.0 n.0 (n.1).at (le-leb 1 (count_of from.0 (arriving_in (n.0).kind)) from.1) in
              let named : 1 ≤ count_of a (arriving_in (n.0).kind) = subst (λ (x : ℕ). 1 ≤ count_of x (arriving_in (n.0).kind)) (old_once from.0 a known la from.2) from.1 in
              subst (λ (vs : List ℕ). IsTrue (has u vs)) (sym (goes_old n.0 n.1 a named us)) stays
          | inr none ↦
              let nothing : 1 ≤ count_of (old a) [] =
              subst (λ (o : Option Link). 1 ≤ count_of (old a) (unwrap_or (option_map (λ link. arriving_in link.kind) o) [])) (none_old t lt departed none.1) leads in
              absurd (omega arith)
        ]

  -- what a trip gave to the yard, it gives; where its link is gone, it gives all
  gives_old : (u a : ℕ) (us : List ℕ) → IsTrue (has u (given_places day some (old a) us)) → IsTrue (has u (given_places later types a us))
  unfolding given_places outgoing
  gives_old u a us gives = elim (named_or_not arriving_in later.links a) [
    | inl n ↦
        subst (λ (vs : List ℕ). IsTrue (has u vs))
        (sym (ap (λ (o : Option Link). unwrap_or (option_map (λ link. left_by link.kind link.reverse types us) o) us) (out_is later a n.0 n.1)
        ∙ sym (left_old (n.0).kind (n.0).reverse us (link_there (n.1).number n.0 (n.1).at))
        ∙ sym (ap (λ (o : Option Link). unwrap_or (option_map (λ link. left_by link.kind link.reverse some us) o) us) (out_old a n.0 n.1))))
        gives
    | inr none ↦
        let all : Goes day some (old a) = goes day some links (old a) in
        let total = all.total u us in
        let some_given = leb-true 1 (count_of u (given_places day some (old a) us)) gives in
        subst (λ (o : Option Link). IsTrue (has u (unwrap_or (option_map (λ link. left_by link.kind link.reverse types us) o) us))) (sym (ap (option_and_then (slice_get later.links)) none.0))
        (le-leb 1 (count_of u us) (omega arith))
  ]

  -- ---- the duties before the minute

  insert_old : (t : ℕ) (ss : List ℕ) → t < trips → AreThere ss → insert_trip day (old t) (map old ss) ≡ map old (insert_trip later t ss)
  insert_old t [] lt there = refl
  insert_old t (s ∷ ss) lt there =
      ap (λ (b : Bool). cond b (old t ∷ old s ∷ map old ss) (old s ∷ insert_trip day (old t) (map old ss))) (before_old t s lt (there s (first_of s ss)))
      ∙ ap (λ (rest : List ℕ). cond (is_before later t s) (old t ∷ old s ∷ map old ss) (old s ∷ rest)) (insert_old t ss lt (λ x c. there x (omega arith)))
      ∙ map_choice old (is_before later t s) (t ∷ s ∷ ss) (s ∷ insert_trip later t ss)

  in_order_old : (ts : List ℕ) → AreThere ts → in_order day (map old ts) ≡ map old (in_order later ts)
  in_order_old [] there = refl
  in_order_old (t ∷ ts) there =
      ap (insert_trip day (old t)) (in_order_old ts (λ x c. there x (omega arith)))
      ∙ insert_old t (in_order later ts) (there t (first_of t ts)) (λ x c. there x (let same = count_of-in_order later x ts in omega arith))

  duty_old : (u : ℕ) → duty_before day plan minute u ≡ map old (duty_before later new_plan minute u)
  unfolding duty
  duty_old u =
      sym (filter_in_order day (λ t. nat_lt (leaves day t) minute) (filter (λ t. has u (list_of plan t)) (below (length day.trips))))
      ∙ ap (in_order day)
      (both_pass (λ t. nat_lt (leaves day t) minute) (λ t. has u (list_of plan t)) (below (length day.trips))
      ∙ passing old (λ t. has u (list_of plan t) && nat_lt (leaves day t) minute) (λ t. has u (list_of new_plan t) && nat_lt (leaves later t) minute)
      (length day.trips) trips is.trips.rise is.trips.known
      (λ s lt.
      ap (λ (us : List ℕ). has u us && nat_lt (leaves later s) minute) (new_list s lt)
      ∙ ap (λ (x : ℕ). has u (list_of plan (old s)) && nat_lt x minute) (is.trips.leaving s lt))
      (λ x lt passes. is.past.trips x lt (ltb-true (leaves day x) minute (and_parts (has u (list_of plan x)) (nat_lt (leaves day x) minute) passes).1))
      ∙ sym (ap (map old) (both_pass (λ t. nat_lt (leaves later t) minute) (λ t. has u (list_of new_plan t)) (below trips))))
      ∙ in_order_old (filter (λ t. nat_lt (leaves later t) minute) (filter (λ t. has u (list_of new_plan t)) (below trips))) there
      ∙ ap (map old) (filter_in_order later (λ t. nat_lt (leaves later t) minute) (filter (λ t. has u (list_of new_plan t)) (below trips)))
    where
      there : (t : ℕ) → 1 ≤ count_of t (filter (λ t. nat_lt (leaves later t) minute) (filter (λ t. has u (list_of new_plan t)) (below trips))) → t < trips
      there t c = elim (cases_lt t trips) [
        | inl lt ↦ lt
        | inr past ↦
            let none = count_below_out t trips past in
            let first = filter_few (λ t. has u (list_of new_plan t)) t (below trips) in
            let second = filter_few (λ t. nat_lt (leaves later t) minute) t (filter (λ t. has u (list_of new_plan t)) (below trips)) in
            absurd (omega arith)
      ]

  begins_old : (s : ℕ) (ts : List ℕ) → AreThere ts → BeginsAt day s (map old ts) → BeginsAt later s ts
  begins_old s [] there begins = tt
  begins_old s (t ∷ ts) there begins = is.trips.origin t (there t (first_of t ts)) ∙ begins

  follows_old : (u : ℕ) (ts : List ℕ) → ((t : ℕ) → 1 ≤ count_of t ts → (t < trips) × (leaves later t < minute))
      → EachFollows (MayFollowByPlaces day some plan u) (map old ts) → EachFollows (MayFollowByPlaces later types new_plan u) ts
  follows_old u [] early follows = tt
  follows_old u (a ∷ []) early follows = tt
  follows_old u (a ∷ b ∷ ts) early follows =
      let first = early a (first_of a (b ∷ ts)) in
      let second = early b (let one = first_of b ts in omega arith) in (
        may_old first.0 second.0 second.1 follows.0,
        follows_old u (b ∷ ts) (λ t c. early t (omega arith)) follows.1,
      )
    where
      may_old : a < trips → b < trips → leaves later b < minute → MayFollowByPlaces day some plan u (old a) (old b) → MayFollowByPlaces later types new_plan u a b
      may_old la lb departed (inl stays) = inl (subst (λ (us : List ℕ). IsTrue (has u (going_on later types a b us))) (sym (new_list a la)) (stays_old b lb departed u a la (list_of plan (old a)) stays))
      may_old la lb departed (inr yard) = inr (record {
        given = subst (λ (us : List ℕ). IsTrue (has u (given_places later types a us))) (sym (new_list a la)) (gives_old u a (list_of plan (old a)) yard.given);
        taken = subst (λ (us : List ℕ). IsTrue (has u (taken_places later types b us))) (sym (new_list b lb))
            (subst (λ (us : List ℕ). IsTrue (has u us)) (sym (taken_old b lb departed (list_of plan (old b)))) yard.taken);
        station = is.trips.goal a la ∙ yard.station ∙ sym (is.trips.origin b lb);
        ready = (let ready = yard.ready in let at = is.trips.ready a la in let leaving = is.trips.leaving b lb in omega arith);
      })

  named_later : IsNamedBefore later types minute new_plan
  named_later =
      let named : IsNamedBefore day some minute plan = running_plans_are_named day plan minute links runs in
      record {
        lists = λ t lt departed.
            let leaving = is.trips.leaving t lt in
            let list : IsListOf day (list_of some (old t)) (list_of plan (old t)) = named.lists (old t) (is.trips.known t lt) (omega arith) in
            subst (IsListOf later (list_of types t)) (sym (new_list t lt))
            (record {
              distinct = list.distinct;
              known = λ u there. let few = list.known u there in let count = is.units.count in omega arith;
              types_are = same_types (list_of plan (old t)) ∙ list.types_are ∙ agree t lt;
            });
        links = λ t lt departed.
            let leaving = is.trips.leaving t lt in
            ap (kept_places later types t) (new_list t lt) ∙ kept_old t lt departed (list_of plan (old t))
            ∙ named.links (old t) (is.trips.known t lt) (omega arith) ∙ sym (comes_old t lt departed);
        homes = λ u lt.
            subst (λ (s : ℕ). BeginsAt later s (duty_before later new_plan minute u)) (sym (is.units.home u))
            (begins_old (home_of day u) (duty_before later new_plan minute u) (λ t c. (in_duty later new_plan minute u t c).0)
            (subst (BeginsAt day (home_of day u)) (duty_old u) (named.homes u (let count = is.units.count in omega arith))));
        follows = λ u lt.
            follows_old u (duty_before later new_plan minute u) (in_duty later new_plan minute u)
            (subst (EachFollows (MayFollowByPlaces day some plan u)) (duty_old u) (named.follows u (let count = is.units.count in omega arith)));
      }

pub plans_name_their_past_later : PlansNameTheirPastLater
plans_name_their_past_later day later old minute plan types is_day links later_links is agree_frozen runs =
    names_stay_so later (map (types_of later) (plan_for later old plan)) types minute (plan_for later old plan) is_day later_links
    (λ t lt frozen. agree_frozen t lt frozen ∙ sym (list_of-types day plan (old t)) ∙ agree day later old minute plan links later_links is runs t lt)
    (named_later day later old minute plan links later_links is runs)
