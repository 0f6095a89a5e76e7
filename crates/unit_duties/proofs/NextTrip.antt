-- One more trip is named: its units are found in the yards, its list is that of the rule, and the yards hold what
-- stands in them then.
use Rattle.std.proofs.Common.{◌≡◌, ◌∙◌, ℕ, zero, suc, ◌+◌, ◌<◌, ◌≤◌, inl, inr, List, [], ◌∷◌, length, take, reverse}
use Rattle.std.proofs.Common.{set, replicate, get_or, true, false, leb, eqb, Option, Some, None, refl, sym, ap, subst, arith}
use Rattle.std.specs.BTreeSet.{BTreeSet}
use Rattle.std.specs.Prelude.{nat_lt, ◌↔◌}
use Rattle.std.specs.List.{Contains}
use Rattle.std.proofs.lemmas.Bool.{cases_eq, cases_lt, cases_Bool, false≢true, and_parts, and_from, leb-true, le-leb}
use Rattle.std.proofs.lemmas.Bool.{cond-true, cond-false, eq-eqb, ltb-true, ltb-false}
use Rattle.std.proofs.lemmas.List.{map-id, length-map, length-set, length-replicate, get_or-set_same, get_or-set_other}
use Rattle.std.proofs.lemmas.Option.{unwrap_or-slice_get}
use Rattle.rail_base.specs.declared.limits.TheConstants.{MAX_COMPOSITION_UNITS}
use Rattle.timetable.specs.Accepted.{IsDay, AreLinks, IsStocked, IsSoundDay}
use Rattle.timetable.specs.Admissible.{is_admissible}
use Rattle.timetable.specs.Day.{Day, leaves, from_of, to_of, type_of, types_of, unit_count, ready_at}
use Rattle.timetable.specs.Links.{list_of, itself, taken_with}
use Rattle.timetable.specs.Lists.{count_of, has, below}
use Rattle.timetable.specs.Duties.{in_order}
use Rattle.timetable.specs.Picks.{picked}
use Rattle.timetable.specs.Running.{AreUnits}
use Rattle.timetable.proofs.Shares.{count_of-turned}
use Rattle.inventory.specs.Counts.{AreServed}
use Rattle.inventory.specs.NamedBefore.{IsNamedBefore}
use Rattle.inventory.specs.NamedUnits.{InYard, standing, may_be_taken, fetched, named_list, naming, latest_first}
use Rattle.inventory.specs.NamedUnits.{named_from}
use Rattle.inventory.specs.Places.{given_places, kept_places, taken_places, put_together, coming}
use Rattle.inventory.proofs.Order.{AreInTurn}
use Rattle.inventory.proofs.Fetching.{AreFetched}
use Rattle.inventory.proofs.Linked.{Goes, goes, IsListFor, coming_from, coming_same, coming-map, places_share, come_is}
use Rattle.inventory.proofs.Linked.{taken_is, put_is}
use Rattle.inventory.proofs.Standing.{IsRight, AreRight, le_has, none_has, right_of, go_on, not_in_yard, leads_before}
use Rattle.inventory.proofs.Enough.{all_hold}
use Rattle.inventory.proofs.Righting.{types_right}
use Rattle.inventory.proofs.Following.{led_before}
use Rattle.inventory.proofs.OneMore.{reverse_more, turns_so_far, so_far, named_here, given_here, named_elsewhere}
use Rattle.inventory.proofs.OneMore.{stands_here, stands_elsewhere, AreAllLed, led_so_far, right_so_far, fetched_next}
use Rattle.unit_duties.specs.declared.yards.Waiting.{Waiting}
use Rattle.unit_duties.specs.FetchedUnits.{HasFetched}
use Rattle.unit_duties.specs.Naming.{CanBeNamed, IsNext}
use Rattle.unit_duties.specs.Yards.{AreStanding, AreAtHome, AllFound, ArePutIn, AreLeft}
use Rattle.unit_duties.proofs.Found.{all_found}
use Rattle.unit_duties.proofs.Stopping.{lists_known}

-- ---- at the start

pub standing_home : (day : Day) (types : List (List ℕ)) (minute : ℕ) (plan : List (List ℕ)) (yards : BTreeSet Waiting) → AreAtHome day yards → AreStanding day (standing day types (so_far day types minute plan []) []) [] yards
unfolding standing
standing_home day types minute plan yards home = record {
  each = λ w. (
    λ there. let (below, at, unit_type, ready) = (home.each w).0 there in (below, unit_type, ap (λ (s : ℕ). Some (record { station = s; ready = 0 })) at ∙ ap (λ (r : ℕ). Some (record { station = w.station; ready = r })) (sym ready), refl),
    λ known. (home.each w).1 (known.0, ap (λ (p : InYard). p.station) (inside known.2), known.1, sym (ap (λ (p : InYard). p.ready) (inside known.2))),
  );
}
  where
    inside : {a b : InYard} → Some a ≡ Some b → a ≡ b
    inside e = cc

-- ---- one more trip

module _ (day : Day) (types : List (List ℕ)) (links : AreLinks day) (is_day : IsDay day) (stocked : IsStocked day) (served : AreServed day types)
    (minute : ℕ) (plan : List (List ℕ)) (named : IsNamedBefore day types minute plan)
    (b : ℕ) (before : List ℕ) (turns : AreInTurn day (b ∷ before)) (led : AreAllLed day types minute plan (b ∷ before)) where
  abbrev lists : ℕ → List ℕ
  lists = so_far day types minute plan (b ∷ before)

  abbrev earlier : ℕ → List ℕ
  earlier = so_far day types minute plan before

  abbrev stands : ℕ → Option InYard
  stands = standing day types (so_far day types minute plan before) before

  abbrev units : List ℕ
  units = fetched day (standing day types (so_far day types minute plan before) before) (from_of day b) (leaves day b) [] (taken_with itself day types b)

  led_earlier : AreAllLed day types minute plan before
  led_earlier u lt = led_before day types minute plan u b before (led u lt)

  right : IsRight day types lists b before
  right = (right_so_far day types minute plan links is_day stocked served named (b ∷ before) turns led).0

  rights : AreRight day types earlier before
  rights = right_so_far day types minute plan links is_day stocked served named before turns.1 led_earlier

  are_units : AreFetched day stands (from_of day b) (leaves day b) [] (taken_with itself day types b) units
  are_units = fetched_next day types minute plan links is_day stocked served named b before turns led_earlier

  -- a unit is ready for each place
  pub found_next : AllFound day stands (from_of day b) (leaves day b) [] (taken_with itself day types b)
  found_next = all_found day stands (from_of day b) (leaves day b) [] (taken_with itself day types b) are_units

  -- ---- the list of the trip

  came_before : coming day types lists b ≡ coming day types earlier b
  came_before = coming_same day types lists earlier b (λ a c. named_elsewhere day types minute plan b a before
      (λ e. let ran = leads_before day types earlier links is_day a b before turns.0 c in let fresh = turns.0.fresh in let same = ap (λ x. count_of x before) e in absurd (omega arith)))

  come_types : types_of day (coming day types earlier b) ≡ kept_places day types b (list_of types b)
  come_types =
      coming-map day types (type_of day) earlier b
      ∙ coming_same day types (λ a. types_of day (earlier a)) (list_of types) b
      (λ a c. types_right day types minute plan earlier links is_day stocked served named before rights a (leads_before day types earlier links is_day a b before turns.0 c))
      ∙ sym (come_is day types links itself types (λ t. map-id (list_of types t)) (all_hold day types served) b)

  module _ (late : nat_lt (leaves day b) minute ≡ false) where
    list_is : lists b ≡ put_together day b (coming day types earlier b) units
    unfolding named_list
    list_is = named_here day types minute plan b before late

    taken_are : taken_places day types b (lists b) ≡ units
    taken_are =
        let put : IsListFor (type_of day) day types b (coming day types earlier b) units (put_together day b (coming day types earlier b) units) =
        put_is day types links (all_hold day types served) (type_of day) b (coming day types earlier b) units come_types
        (are_units.types_are ∙ taken_is day types links itself types (λ t. map-id (list_of types t)) (all_hold day types served) b) in
        ap (taken_places day types b) list_is ∙ put.taken_is

    -- each unit of the trip came with a train or was fetched
    shares : (u : ℕ) → count_of u (lists b) ≡ count_of u (coming day types earlier b) + count_of u units
    shares u =
        let all = places_share day types b u (lists b) in
        let come = ap (count_of u) (right.kept_are ∙ came_before) in
        let taken = ap (count_of u) taken_are in
        omega arith

    -- a list put together of what comes, and of the units by the rule, is that of the trip
    pub put_next : (now : List (List ℕ)) (us : List ℕ) → ((t : ℕ) → list_of now t ≡ earlier t) → us ≡ units → put_together day b (coming day types (list_of now) b) us ≡ lists b
    put_next now us same is =
        ap (λ (come : List ℕ). put_together day b come us) (coming_same day types (list_of now) earlier b (λ a c. same a))
        ∙ ap (put_together day b (coming day types earlier b)) is ∙ sym list_is

  pub few_next : length (lists b) ≤ MAX_COMPOSITION_UNITS
  unfolding is_admissible
  few_next =
      let fits = served.admissible b turns.0.here in
      let few : leb (length (list_of types b)) MAX_COMPOSITION_UNITS ≡ true = (and_parts _ _ (and_parts _ _ (and_parts _ _ (and_parts _ _ fits).0).0).0).1 in
      let le : length (list_of types b) ≤ MAX_COMPOSITION_UNITS = leb-true (length (list_of types b)) MAX_COMPOSITION_UNITS few in
      let long : length (list_of types b) ≡ length (lists b) = ap length (sym right.types_are) ∙ length-map (lists b) (type_of day) in
      subst (λ (n : ℕ). n ≤ MAX_COMPOSITION_UNITS) long le

  -- ---- what it gives

  given_less : (u : ℕ) → count_of u (given_places day types b (lists b)) ≤ count_of u (lists b)
  given_less u = let g : Goes day types b = goes day types links b in let all = g.total u (lists b) in omega arith

  pub given_known : AreUnits day (given_places day types b (lists b))
  given_known u h = let some = leb-true 1 (count_of u (given_places day types b (lists b))) h in let less = given_less u in right.known u (omega arith)

  -- ---- the yards

  -- a unit that stands in a yard does not come with a train
  not_come : (u : ℕ) (place : InYard) → stands u ≡ Some place → count_of u (coming day types earlier b) ≡ 0
  not_come u place at = elim (cases_lt 0 (count_of u (coming day types earlier b))) [
    | inl some ↦
        let from = coming_from day types earlier u b (omega arith) in
        let ran = leads_before day types earlier links is_day from.0 b before turns.0 from.1 in
        let is = go_on day types earlier links is_day before turns.1 rights from.0 b u ran turns.0.fresh from.2 in
        let out = not_in_yard day types earlier links is_day before from.0 b u place.station place.ready (right_of day types earlier before rights from.0 u ran) is from.2 in
        absurd (false≢true (sym out ∙ ap (may_be_taken place.station place.ready) at
        ∙ and_from (eqb place.station place.station) (leb place.ready place.ready) (eq-eqb place.station place.station refl) (le-leb place.ready place.ready (omega arith))))
    | inr none ↦ omega arith
  ]

  abbrev next : ℕ → Option InYard
  next = standing day types (so_far day types minute plan (b ∷ before)) (b ∷ before)

  -- where the units of the trip stand then
  next_given : (u : ℕ) → 1 ≤ count_of u (given_places day types b (lists b)) → next u ≡ Some (record { station = to_of day b; ready = ready_at day b })
  next_given u c = let less = given_less u in
      stands_here day types minute plan b u before (omega arith) ∙ cond-true (has u (given_places day types b (lists b))) _ None (le_has u (given_places day types b (lists b)) c)

  next_train : (u : ℕ) → 1 ≤ count_of u (lists b) → count_of u (given_places day types b (lists b)) ≡ 0 → next u ≡ None
  next_train u c none =
      stands_here day types minute plan b u before c ∙ cond-false (has u (given_places day types b (lists b))) _ None (none_has u (given_places day types b (lists b)) none)

  next_other : (u : ℕ) → count_of u (lists b) ≡ 0 → next u ≡ stands u
  next_other u none = stands_elsewhere day types minute plan b u before turns.0.fresh none

  -- the yards hold the units that stand in them and are not on the trip
  pub record AreOthers (yards : BTreeSet Waiting) : Type 0 where
    pub each : (w : Waiting) → Contains yards.keys w
        ↔ ((w.unit < unit_count day) × (type_of day w.unit ≡ w.unit_type)
        × (stands w.unit ≡ Some (record { station = w.station; ready = w.ready })) × (count_of w.unit (lists b) ≡ 0))

  -- where the rule names the trip, they are those that were not fetched
  pub others_fetched : nat_lt (leaves day b) minute ≡ false → (us : List ℕ) (yards : BTreeSet Waiting) → us ≡ units → AreStanding day stands (reverse us) yards → AreOthers yards
  others_fetched late us yards is others = record {
    each = λ w. (
      λ there.
          let (known, unit_type, at, new) = (others.each w).0 there in
          let come = not_come w.unit (record { station = w.station; ready = w.ready }) at in
          let all = shares late w.unit in
          let taken = unchosen w.unit in
          (known, unit_type, at, omega arith),
      λ known.
          let all = shares late w.unit in
          let taken = unchosen w.unit in
          let none = known.3 in
          (others.each w).1 (known.0, known.1, known.2, omega arith),
    );
  }
    where
      unchosen : (u : ℕ) → count_of u (reverse us) ≡ count_of u units
      unchosen u = count_of-turned u true us ∙ ap (count_of u) is

  -- where it has its list of before, they are those that are left once the units of the list are out
  pub others_left : (us : List ℕ) (yards left : BTreeSet Waiting) → us ≡ lists b → AreStanding day stands [] yards → AreLeft us yards left → AreOthers left
  others_left us yards left is standing out = record {
    each = λ w. (
      λ there.
          let (was, none) = (out.each w).0 there in
          let (known, unit_type, at, new) = (standing.each w).0 was in
          (known, unit_type, at, sym (ap (count_of w.unit) is) ∙ none),
      λ known. (out.each w).1 ((standing.each w).1 (known.0, known.1, known.2, refl), ap (count_of w.unit) is ∙ known.3),
    );
  }

  pub standing_next : (yards after : BTreeSet Waiting) → AreOthers yards
      → ArePutIn day (to_of day b) (ready_at day b) (given_places day types b (lists b)) yards after → AreStanding day next [] after
  standing_next yards after others put = record { each = λ w. (out w, back w) }
    where
      out : (w : Waiting) → Contains after.keys w → (w.unit < unit_count day) × (type_of day w.unit ≡ w.unit_type) × (next w.unit ≡ Some (record { station = w.station; ready = w.ready })) × (count_of w.unit [] ≡ 0)
      out w there = elim ((put.each w).0 there) [
        | inl given ↦
            let (some, station, unit_type, ready) = given in
            let less = given_less w.unit in (
              right.known w.unit (omega arith),
              sym unit_type,
              next_given w.unit some ∙ ap (λ (s : ℕ). Some (record { station = s; ready = ready_at day b })) (sym station) ∙ ap (λ (r : ℕ). Some (record { station = w.station; ready = r })) (sym ready),
              refl,
            )
        | inr old ↦
            let (known, unit_type, at, none) = (others.each w).0 old in
            (known, unit_type, next_other w.unit none ∙ at, refl)
      ]

      back : (w : Waiting) → (w.unit < unit_count day) × (type_of day w.unit ≡ w.unit_type) × (next w.unit ≡ Some (record { station = w.station; ready = w.ready })) × (count_of w.unit [] ≡ 0) → Contains after.keys w
      back w known = elim (cases_lt 0 (count_of w.unit (lists b))) [
        | inl here ↦ elim (cases_lt 0 (count_of w.unit (given_places day types b (lists b)))) [
          | inl given ↦
              let places : (record { station = to_of day b; ready = ready_at day b }) ≡ record { station = w.station; ready = w.ready } = inside (sym (next_given w.unit given) ∙ known.2) in
              (put.each w).1 (inl (given, sym (ap (λ (p : InYard). p.station) places), sym known.1, sym (ap (λ (p : InYard). p.ready) places)))
          | inr kept ↦ absurd (never (record { station = w.station; ready = w.ready }) (sym (next_train w.unit here (omega arith)) ∙ known.2))
        ]
        | inr none ↦ (put.each w).1 (inr ((others.each w).1 (known.0, known.1, sym (next_other w.unit (omega arith)) ∙ known.2, omega arith)))
      ]
        where
          inside : {x y : InYard} → Some x ≡ Some y → x ≡ y
          inside e = cc

          never : (x : InYard) → None ≡ Some x → ⊥
          never x e = cc

-- ---- the trips that were named so far, the latest first

pub record NamedSoFar (day : Day) (types : List (List ℕ)) (minute : ℕ) (plan : List (List ℕ)) (done : List ℕ) (now : List (List ℕ)) (yards : BTreeSet Waiting) : Type 0 where
  pub long : length now ≡ length day.trips
  pub lists : (t : ℕ) → list_of now t ≡ so_far day types minute plan done t
  pub standing : AreStanding day (standing day types (so_far day types minute plan done) done) [] yards

list_of-replicate : (n t : ℕ) → list_of (replicate n []) t ≡ []
unfolding list_of
list_of-replicate zero t = refl
list_of-replicate (suc n) zero = refl
list_of-replicate (suc n) (suc t) = list_of-replicate n t

pub named_none : (day : Day) (types : List (List ℕ)) (minute : ℕ) (plan : List (List ℕ)) (yards : BTreeSet Waiting) → AreAtHome day yards → NamedSoFar day types minute plan [] (replicate (length day.trips) []) yards
unfolding naming
named_none day types minute plan yards home = record {
  long = length-replicate (length day.trips) [];
  lists = λ t. list_of-replicate (length day.trips) t;
  standing = standing_home day types minute plan yards home;
}

list_of-get_or : (lists : List (List ℕ)) (t : ℕ) → list_of lists t ≡ get_or lists t []
unfolding list_of
list_of-get_or lists t = unwrap_or-slice_get lists t []

-- one list more
pub named_more : (day : Day) (types : List (List ℕ)) (minute : ℕ) (plan : List (List ℕ)) (b : ℕ) (before : List ℕ) (now : List (List ℕ)) (us : List ℕ) (yards after : BTreeSet Waiting) → b < length day.trips
    → NamedSoFar day types minute plan before now yards → us ≡ so_far day types minute plan (b ∷ before) b
    → AreStanding day (standing day types (so_far day types minute plan (b ∷ before)) (b ∷ before)) [] after → NamedSoFar day types minute plan (b ∷ before) (set now b us) after
named_more day types minute plan b before now us yards after lt named is stand = record {
  long = length-set now b us ∙ named.long;
  lists = λ t. list_of-get_or (set now b us) t ∙ elim (cases_eq t b) [
    | inl e ↦ let long = named.long in ap (λ k. get_or (set now b us) k []) e ∙ get_or-set_same now b us [] (omega arith) ∙ is ∙ ap (so_far day types minute plan (b ∷ before)) (sym e)
    | inr ne ↦ get_or-set_other now b t us [] ne ∙ sym (list_of-get_or now t) ∙ named.lists t ∙ sym (named_elsewhere day types minute plan b t before ne)
  ];
  standing = stand;
}

-- ---- the trips in their order

abbrev pub trips_in_order : Day → List ℕ
trips_in_order day = in_order day (below (length day.trips))

pub named_all : (day : Day) (types : List (List ℕ)) (minute : ℕ) (plan : List (List ℕ)) (now : List (List ℕ)) (yards : BTreeSet Waiting) → NamedSoFar day types minute plan (reverse (trips_in_order day)) now yards → now ≡ named_from day types minute plan
unfolding named_from latest_first
named_all day types minute plan now yards named =
    lists_known (so_far day types minute plan (latest_first day)) (length day.trips) now named.long (λ t lt. sym (list_of-get_or now t) ∙ named.lists t)

pub one_turn_more : (day : Day) (order : List ℕ) (i b : ℕ) → order ≡ trips_in_order day → i < length order → b ≡ get_or order i b
    → reverse (take (i + 1) (trips_in_order day)) ≡ b ∷ reverse (take i (trips_in_order day))
one_turn_more day order i b is lt at =
    reverse_more (trips_in_order day) i b (subst (λ (l : List ℕ). i < length l) is lt)
    ∙ ap (λ (x : ℕ). x ∷ reverse (take i (trips_in_order day))) (sym (at ∙ ap (λ (l : List ℕ). get_or l i b) is))

-- once one trip more was made: its units are few enough and known, and when it has given its units to the yards, one trip
-- more is named
pub record IsMade (day : Day) (types : List (List ℕ)) (minute : ℕ) (plan : List (List ℕ)) (i b : ℕ) (now : List (List ℕ)) (us : List ℕ) (yards : BTreeSet Waiting) : Type 0 where
  pub few : length us ≤ MAX_COMPOSITION_UNITS
  pub known : AreUnits day (given_places day types b us)
  pub next : (after : BTreeSet Waiting) → ArePutIn day (to_of day b) (ready_at day b) (given_places day types b us) yards after
      → NamedSoFar day types minute plan (reverse (take (i + 1) (trips_in_order day))) (set now b us) after

module _ (day : Day) (picks : List ℕ) (minute : ℕ) (plan : List (List ℕ)) (sound : IsSoundDay day) (can : CanBeNamed day picks minute plan)
    (order : List ℕ) (i b : ℕ) (is : order ≡ trips_in_order day) (lt : i < length order) (at : b ≡ get_or order i b)
    (now : List (List ℕ)) (us : List ℕ) (yards after : BTreeSet Waiting)
    (so_far_named : NamedSoFar day (picked day picks) minute plan (reverse (take i (trips_in_order day))) now yards) where
  abbrev types : List (List ℕ)
  types = picked day picks

  abbrev before : List ℕ
  before = reverse (take i (trips_in_order day))

  more_is : reverse (take (i + 1) (trips_in_order day)) ≡ b ∷ reverse (take i (trips_in_order day))
  more_is = one_turn_more day order i b is lt at

  turns : AreInTurn day (b ∷ reverse (take i (trips_in_order day)))
  turns = subst (AreInTurn day) more_is (turns_so_far day (i + 1))

  led : AreAllLed day (picked day picks) minute plan (b ∷ reverse (take i (trips_in_order day)))
  led = subst (AreAllLed day (picked day picks) minute plan) more_is (led_so_far day (picked day picks) minute plan can.named (i + 1))

  made_of : us ≡ so_far day types minute plan (b ∷ before) b → AreOthers day types sound.links sound.limits sound.stock can.served minute plan can.named b before turns led after
      → IsMade day types minute plan i b now us after
  made_of list others = record {
    few = subst (λ (l : List ℕ). length l ≤ MAX_COMPOSITION_UNITS) (sym list) (few_next day types sound.links sound.limits sound.stock can.served minute plan can.named b before turns led);
    known = subst (λ (l : List ℕ). AreUnits day (given_places day types b l)) (sym list) (given_known day types sound.links sound.limits sound.stock can.served minute plan can.named b before turns led);
    next = λ later put.
        let put_in = subst (λ (l : List ℕ). ArePutIn day (to_of day b) (ready_at day b) (given_places day types b l) after later) list put in
        let stand = standing_next day types sound.links sound.limits sound.stock can.served minute plan can.named b before turns led after later others put_in in
        subst (λ (ts : List ℕ). NamedSoFar day types minute plan ts (set now b us) later) (sym more_is)
        (named_more day types minute plan b before now us yards later turns.0.here so_far_named list stand);
  }

  -- what the units of the next trip are
  pub is_made : (seen : List (List ℕ)) → seen ≡ now → IsNext day picks minute plan seen b yards after us → IsMade day (picked day picks) minute plan i b now us after
  is_made seen seen_is next = elim (cases_Bool (nat_lt (leaves day b) minute)) [
    | inl early ↦
        let given = next.given (ltb-true (leaves day b) minute early) in
        let list = given.0 ∙ sym (given_here day types minute plan b before early) in
        made_of list (others_left day types sound.links sound.limits sound.stock can.served minute plan can.named b before turns led us yards after list so_far_named.standing given.1)
    | inr late ↦
        let by_rule = next.named (ltb-false (leaves day b) minute late) in
        let got : HasFetched day picks b (standing day types (so_far day types minute plan before) before) after by_rule.taken =
        by_rule.by_rule (standing day types (so_far day types minute plan before) before)
        (record { standing = so_far_named.standing; found = found_next day types sound.links sound.limits sound.stock can.served minute plan can.named b before turns led }) in
        let list = by_rule.list ∙ put_next day types sound.links sound.limits sound.stock can.served minute plan can.named b before turns led late seen by_rule.taken
        (λ t. ap (λ (l : List (List ℕ)). list_of l t) seen_is ∙ so_far_named.lists t) got.units in
        made_of list (others_fetched day types sound.links sound.limits sound.stock can.served minute plan can.named b before turns led late by_rule.taken after got.units got.others)
  ]
