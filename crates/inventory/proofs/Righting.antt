-- Each trip is right, one after another: those that were named before the minute by what is asked of them, and those
-- that the rule names, since the yard has enough.
use Rattle.std.proofs.Common.{◌≡◌, ℕ, ◌+◌, ◌<◌, ◌≤◌, List, [], ◌∷◌, true, false, Option, Some, None, refl, sym, ap, ◌∙◌}
use Rattle.std.proofs.Common.{subst, arith, inl, inr}
use Rattle.std.specs.Prelude.{◌==◌, nat_le, nat_lt}
use Rattle.std.proofs.lemmas.Bool.{cases_lt, cases_Bool, cond-true, cond-false, false≢true, and_from, leb-true, le-leb}
use Rattle.std.proofs.lemmas.Bool.{lt-ltb, ltb-true, eq-eqb}
use Rattle.std.proofs.lemmas.List.{map-id}
use Rattle.timetable.specs.Accepted.{IsDay, AreLinks, IsStocked}
use Rattle.timetable.specs.Day.{Day, leaves, arrives, from_of, to_of, home_of, type_of, types_of, unit_count}
use Rattle.timetable.specs.Day.{reallocation_of}
use Rattle.timetable.specs.Links.{list_of, itself, taken_with}
use Rattle.timetable.specs.Lists.{count_of, has}
use Rattle.inventory.specs.Counts.{AreServed}
use Rattle.inventory.specs.NamedBefore.{IsListOf, MayFollowByPlaces, IsNamedBefore}
use Rattle.inventory.specs.NamedUnits.{after_trip, standing, may_be_taken, fetched, named_list, list_from}
use Rattle.inventory.specs.Places.{going_on, given_places, kept_places, taken_places, coming}
use Rattle.inventory.proofs.Order.{in_list, AreInTurn, before_leaves}
use Rattle.inventory.proofs.Fetching.{AreFetched, are_fetched}
use Rattle.inventory.proofs.Linked.{IsListFor, going_leads_into, coming_from, coming_has, coming_same, coming-map}
use Rattle.inventory.proofs.Linked.{coming_once, places_share, come_is, taken_is, put_is}
use Rattle.inventory.proofs.Standing.{IsRight, AreRight, latest, latest_some, stands_after, after_none, after_some}
use Rattle.inventory.proofs.Standing.{standing_is, right_of, go_on, going_less, not_in_yard, leads_before, le_has}
use Rattle.inventory.proofs.Enough.{all_hold, enough}
use Rattle.inventory.proofs.Following.{last_in, given_trips, AreLed, IsLed, led_here, led_before, last_given}

-- each trip of the list has its units by the rule, or those of the plan
pub record IsNamedBy (day : Day) (types : List (List ℕ)) (minute : ℕ) (plan : List (List ℕ)) (lists : ℕ → List ℕ) (b : ℕ) (before : List ℕ) : Type 0 where
  pub named : lists b ≡ list_from day types minute plan lists before b

abbrev pub AreNamedBy : Day → List (List ℕ) → ℕ → List (List ℕ) → (ℕ → List ℕ) → List ℕ → Type 0
AreNamedBy day types minute plan lists [] = Unit {0}
AreNamedBy day types minute plan lists (b ∷ before) = IsNamedBy day types minute plan lists b before × AreNamedBy day types minute plan lists before

module _ (day : Day) (types : List (List ℕ)) (minute : ℕ) (plan : List (List ℕ)) (lists : ℕ → List ℕ)
    (links : AreLinks day) (is_day : IsDay day) (stocked : IsStocked day) (served : AreServed day types) (named : IsNamedBefore day types minute plan) where
  -- a trip that leaves before the minute has the list of the plan
  given_list : (b : ℕ) (before : List ℕ) → IsNamedBy day types minute plan lists b before → leaves day b < minute → lists b ≡ list_of plan b
  unfolding list_from
  given_list b before by early = by.named ∙ cond-true (nat_lt (leaves day b) minute) (list_of plan b) (named_list day types lists before b) (lt-ltb (leaves day b) minute early)

  rule_list : (b : ℕ) (before : List ℕ) → IsNamedBy day types minute plan lists b before → nat_lt (leaves day b) minute ≡ false → lists b ≡ named_list day types lists before b
  unfolding list_from
  rule_list b before by late = by.named ∙ cond-false (nat_lt (leaves day b) minute) (list_of plan b) (named_list day types lists before b) late

  pub given_lists : (done : List ℕ) → AreNamedBy day types minute plan lists done → (t : ℕ) → 1 ≤ count_of t done → leaves day t < minute → lists t ≡ list_of plan t
  given_lists [] by t c early = absurd (omega arith)
  given_lists (b ∷ before) by t c early = elim (in_list t b before c) [
    | inl e ↦ subst (λ x. lists x ≡ list_of plan x) e (given_list b before by.0 (let same = ap (leaves day) e in omega arith))
    | inr later ↦ given_lists before by.1 t later early
  ]

  pub types_right : (done : List ℕ) → AreRight day types lists done → (a : ℕ) → 1 ≤ count_of a done → types_of day (lists a) ≡ list_of types a
  types_right [] rights a c = absurd (omega arith)
  types_right (b ∷ before) rights a c = elim (in_list a b before c) [
    | inl e ↦ subst (λ x. types_of day (lists x) ≡ list_of types x) e rights.0.types_are
    | inr later ↦ types_right before rights.1 a later
  ]

  known_right : (done : List ℕ) → AreRight day types lists done → (a u : ℕ) → 1 ≤ count_of a done → 1 ≤ count_of u (lists a) → u < unit_count day
  known_right [] rights a u c here = absurd (omega arith)
  known_right (b ∷ before) rights a u c here = elim (in_list a b before c) [
    | inl e ↦ let same = ap (λ x. count_of u (lists x)) e in rights.0.known u (omega arith)
    | inr later ↦ known_right before rights.1 a u later here
  ]

  module _ (b : ℕ) (before : List ℕ) (turns : AreInTurn day (b ∷ before)) (rights : AreRight day types lists before) (by : AreNamedBy day types minute plan lists (b ∷ before)) where
    -- ---- a trip that the rule names

    come_types : types_of day (coming day types lists b) ≡ kept_places day types b (list_of types b)
    come_types =
        coming-map day types (type_of day) lists b
        ∙ coming_same day types (λ a. types_of day (lists a)) (list_of types) b (λ a c. types_right before rights a (leads_before day types lists links is_day a b before turns.0 c))
        ∙ sym (come_is day types links itself types (λ t. map-id (list_of types t)) (all_hold day types served) b)

    units : List ℕ
    units = fetched day (standing day types lists before) (from_of day b) (leaves day b) [] (taken_with itself day types b)

    are_units : AreFetched day (standing day types lists before) (from_of day b) (leaves day b) [] (taken_with itself day types b) units
    unfolding units
    are_units = are_fetched day (standing day types lists before) (from_of day b) (leaves day b) [] (taken_with itself day types b)
        (enough day types lists links is_day stocked served b before turns rights)

    list_for : nat_lt (leaves day b) minute ≡ false → IsListFor (type_of day) day types b (coming day types lists b) units (lists b)
    unfolding units named_list
    list_for late = subst (IsListFor (type_of day) day types b (coming day types lists b) units) (sym (rule_list b before by.0 late))
        (put_is day types links (all_hold day types served) (type_of day) b (coming day types lists b) units come_types
        (are_units.types_are ∙ taken_is day types links itself types (λ t. map-id (list_of types t)) (all_hold day types served) b))

    -- a unit that comes with a train has that for its latest trip
    came_from : (u a : ℕ) → 1 ≤ count_of u (going_on day types a b (lists a)) → latest day types lists before u ≡ Some a
    came_from u a c =
        go_on day types lists links is_day before turns.1 rights a b u (leads_before day types lists links is_day a b before turns.0 (going_leads_into day types links u a b (lists a) c)) turns.0.fresh c

    ran_before : (u a : ℕ) → 1 ≤ count_of u (going_on day types a b (lists a)) → 1 ≤ count_of a before
    ran_before u a c = leads_before day types lists links is_day a b before turns.0 (going_leads_into day types links u a b (lists a) c)

    come_once : (u : ℕ) → count_of u (coming day types lists b) ≤ 1
    come_once u = coming_once day types links lists u b
        (λ a. elim (cases_lt 0 (count_of u (going_on day types a b (lists a)))) [
          | inl some ↦ let less = going_less day types lists links is_day a b u (lists a) in let few = right_of day types lists before rights a u (ran_before u a (omega arith)) in omega arith
          | inr none ↦ omega arith
        ])
        (λ a c ne h k. let x = came_from u a h in let y = came_from u c k in let same : Some a ≡ Some c = sym x ∙ y in ne (cc))

    not_both : (u : ℕ) → 1 ≤ count_of u (coming day types lists b) → 1 ≤ count_of u units → ⊥
    not_both u come taken =
        let from = coming_from day types lists u b come in
        let is = came_from u from.0 from.2 in
        let out = not_in_yard day types lists links is_day before from.0 b u (from_of day b) (leaves day b) (right_of day types lists before rights from.0 u (ran_before u from.0 from.2)) is from.2 in
        false≢true (sym out ∙ are_units.there u taken)

    right_by_rule : nat_lt (leaves day b) minute ≡ false → IsRight day types lists b before
    right_by_rule late =
        let for = list_for late in
        let kept : (u : ℕ) → count_of u (kept_places day types b (lists b)) ≡ count_of u (coming day types lists b) = λ u. ap (count_of u) for.kept_is in
        let taken : (u : ℕ) → count_of u (taken_places day types b (lists b)) ≡ count_of u units = λ u. ap (count_of u) for.taken_is in
        record {
          types_are = for.types_are;
          known = λ u c. let shares = places_share day types b u (lists b) in let k = kept u in let t = taken u in elim (cases_lt 0 (count_of u units)) [
            | inl there ↦ are_units.known u (omega arith)
            | inr none ↦
                let from = coming_from day types lists u b (omega arith) in
                let less = going_less day types lists links is_day from.0 b u (lists from.0) in
                let some = from.2 in
                known_right before rights from.0 u (ran_before u from.0 from.2) (omega arith)
          ];
          distinct = λ u. let shares = places_share day types b u (lists b) in let k = kept u in let t = taken u in let few = come_once u in let few' = are_units.distinct u in
              elim (cases_lt 0 (count_of u units)) [
                | inl there ↦ elim (cases_lt 0 (count_of u (coming day types lists b))) [
                  | inl come ↦ absurd (not_both u (omega arith) (omega arith))
                  | inr none ↦ omega arith
                ]
                | inr none ↦ omega arith
              ];
          kept_are = for.kept_is;
          taken_are = λ u c. are_units.there u (let t = taken u in omega arith);
        }

    -- ---- a trip that was named before

    module _ (early : leaves day b < minute) (led : (u : ℕ) → u < unit_count day → AreLed day types minute plan u (b ∷ before)) where
      here : lists b ≡ list_of plan b
      here = given_list b before by.0 early

      early_before : (t : ℕ) → 1 ≤ count_of t before → leaves day t < minute
      early_before t c = let le = before_leaves day t b (turns.0.earlier t c) in omega arith

      list_before : (t : ℕ) → 1 ≤ count_of t before → lists t ≡ list_of plan t
      list_before t c = given_lists before by.1 t c (early_before t c)

      was : IsListOf day (list_of types b) (list_of plan b)
      was = named.lists b turns.0.here early

      few_here : (u : ℕ) → count_of u (lists b) ≤ 1
      few_here u = let few = was.distinct u in let same = ap (count_of u) here in omega arith

      known_here : (u : ℕ) → 1 ≤ count_of u (lists b) → u < unit_count day
      known_here u c = let same = ap (count_of u) here in was.known u (le_has u (list_of plan b) (omega arith))

      kept_here : kept_places day types b (lists b) ≡ coming day types lists b
      kept_here =
          ap (kept_places day types b) here ∙ named.links b turns.0.here early
          ∙ coming_same day types (list_of plan) lists b (λ a c. sym (list_before a (leads_before day types lists links is_day a b before turns.0 c)))

      -- what it takes was given in time by the trip before, or is at home
      taken_here : (u : ℕ) → 1 ≤ count_of u (taken_places day types b (lists b)) → may_be_taken (from_of day b) (leaves day b) (standing day types lists before u) ≡ true
      taken_here u c = on (latest day types lists before u) refl
        where
          some : 1 ≤ count_of u (lists b)
          some = let shares = places_share day types b u (lists b) in omega arith

          is_led : IsLed day types minute plan u b before
          is_led = led_here day types minute plan u b before (le_has u (list_of plan b) (let same = ap (count_of u) here in let s = some in omega arith)) early (led u (known_here u some))

          last_is : last_in (given_trips day types minute plan u before) ≡ latest day types lists before u
          last_is = last_given day types minute plan lists before u (λ t k. (early_before t k, list_before t k))

          follows : (a : ℕ) → latest day types lists before u ≡ Some a → MayFollowByPlaces day types plan u a b → may_be_taken (from_of day b) (leaves day b) (after_trip day types lists a u) ≡ true
          follows a is (inl stays) =
              let ran = latest_some day types lists before u a is in
              let same = ap (λ (l : List ℕ). count_of u (going_on day types a b l)) (list_before a ran.0) in
              let goes_on = leb-true 1 (count_of u (going_on day types a b (list_of plan a))) stays in
              let has = coming_has day types lists u a b (going_leads_into day types links u a b (lists a) (omega arith)) in
              let kept = ap (count_of u) kept_here in
              let shares = places_share day types b u (lists b) in
              let few = few_here u in
              absurd (omega arith)
          follows a is (inr by_yard) =
              let ran = latest_some day types lists before u a is in
              let same = ap (λ (l : List ℕ). count_of u (given_places day types a l)) (list_before a ran.0) in
              let given = leb-true 1 (count_of u (given_places day types a (list_of plan a))) by_yard.given in
              ap (may_be_taken (from_of day b) (leaves day b)) (cond-true (has u (given_places day types a (lists a))) _ None (le_has u (given_places day types a (lists a)) (omega arith)))
              ∙ and_from (to_of day a == from_of day b) (nat_le (arrives day a + reallocation_of day (to_of day a)) (leaves day b)) (eq-eqb (to_of day a) (from_of day b) by_yard.station)
              (le-leb (arrives day a + reallocation_of day (to_of day a)) (leaves day b) by_yard.ready)

          on : (o : Option ℕ) → latest day types lists before u ≡ o → may_be_taken (from_of day b) (leaves day b) (standing day types lists before u) ≡ true
          on None is =
              ap (may_be_taken (from_of day b) (leaves day b)) (standing_is day types lists before u ∙ ap (stands_after day types lists u) is ∙ after_none day types lists u)
              ∙ and_from (home_of day u == from_of day b) (nat_le 0 (leaves day b)) (eq-eqb (home_of day u) (from_of day b) (sym (is_led.first (last_is ∙ is)))) (le-leb 0 (leaves day b) (omega arith))
          on (Some a) is =
              ap (may_be_taken (from_of day b) (leaves day b)) (standing_is day types lists before u ∙ ap (stands_after day types lists u) is ∙ after_some day types lists u a)
              ∙ follows a is (is_led.next a (last_is ∙ is))

      right_before : IsRight day types lists b before
      right_before = record {
        types_are = ap (types_of day) here ∙ was.types_are;
        known = known_here;
        distinct = few_here;
        kept_are = kept_here;
        taken_are = taken_here;
      }

  pub all_right : (done : List ℕ) → AreInTurn day done → AreNamedBy day types minute plan lists done → ((u : ℕ) → u < unit_count day → AreLed day types minute plan u done) → AreRight day types lists done
  all_right [] turns by led = tt
  all_right (b ∷ before) turns by led =
      let rest : AreRight day types lists before = all_right before turns.1 by.1 (λ u lt. led_before day types minute plan u b before (led u lt)) in (
        elim (cases_Bool (nat_lt (leaves day b) minute)) [
          | inl early ↦ right_before b before turns rest by (ltb-true (leaves day b) minute early) led
          | inr late ↦ right_by_rule b before turns rest by late
        ],
        rest,
      )
