-- The trips of a plan that runs, up to a minute, are named as it is asked of them.
use Rattle.std.proofs.Common.{◌≡◌, ℕ, ◌≤◌, List, [], ◌∷◌, map, false, refl, sym, ◌∙◌, subst, arith, inl, inr}
use Rattle.std.specs.Prelude.{filter, nat_lt, IsTrue}
use Rattle.std.proofs.lemmas.Bool.{cases_Bool, cond-true, cond-false, ltb-false, le-ltb}
use Rattle.timetable.specs.Accepted.{AreLinks}
use Rattle.timetable.specs.Day.{Day, leaves, home_of, type_of, types_of}
use Rattle.timetable.specs.Duties.{duty}
use Rattle.timetable.specs.Links.{list_of}
use Rattle.timetable.specs.Lists.{count_of, has}
use Rattle.rules.proofs.OfTheStock.{MayFollow}
use Rattle.timetable.specs.Running.{EachFollows, BeginsAt, Runs}
use Rattle.timetable.proofs.ListedUnits.{list_of-types}
use Rattle.inventory.specs.NamedBefore.{MayFollowByPlaces, IsNamedBefore}
use Rattle.inventory.specs.NamingLaws.{RunningPlansAreNamed}
use Rattle.inventory.proofs.Sums.{one_same}
use Rattle.inventory.proofs.Order.{InLine, duty_in_line, leaves_least}
use Rattle.inventory.proofs.Linked.{AllHold, come_is, kept_is, given_is, taken_is}

-- ---- the trips of a list in order that leave before a minute

module _ (day : Day) (minute : ℕ) where
  none_early : (ts : List ℕ) → ((b : ℕ) → 1 ≤ count_of b ts → minute ≤ leaves day b) → filter (λ t. nat_lt (leaves day t) minute) ts ≡ []
  none_early [] late = refl
  none_early (t ∷ ts) late =
      let o = one_same t t refl in
      cond-false (nat_lt (leaves day t) minute) (t ∷ filter (λ t. nat_lt (leaves day t) minute) ts) (filter (λ t. nat_lt (leaves day t) minute) ts) (le-ltb (leaves day t) minute (late t (omega arith)))
      ∙ none_early ts (λ b c. late b (omega arith))

  -- after a trip that leaves later, all do
  pub all_late : (t : ℕ) (ts : List ℕ) → InLine day (t ∷ ts) → nat_lt (leaves day t) minute ≡ false → filter (λ t. nat_lt (leaves day t) minute) (t ∷ ts) ≡ []
  all_late t ts line late =
      let le = ltb-false (leaves day t) minute late in
      cond-false (nat_lt (leaves day t) minute) (t ∷ filter (λ t. nat_lt (leaves day t) minute) ts) (filter (λ t. nat_lt (leaves day t) minute) ts) late
      ∙ none_early ts (λ b c. let later = leaves_least day b t (line.0 b c) in omega arith)

  pub early_begins : (home : ℕ) (ts : List ℕ) → InLine day ts → BeginsAt day home ts → BeginsAt day home (filter (λ t. nat_lt (leaves day t) minute) ts)
  early_begins home [] line h = tt
  early_begins home (t ∷ ts) line h = elim (cases_Bool (nat_lt (leaves day t) minute)) [
    | inl is_early ↦ subst (BeginsAt day home) (sym (cond-true (nat_lt (leaves day t) minute) (t ∷ filter (λ t. nat_lt (leaves day t) minute) ts) (filter (λ t. nat_lt (leaves day t) minute) ts) is_early)) h
    | inr late ↦ subst (BeginsAt day home) (sym (all_late t ts line late)) tt
  ]

  pub early_follows : (R : ℕ → ℕ → Type 0) (ts : List ℕ) → InLine day ts → EachFollows R ts → EachFollows R (filter (λ t. nat_lt (leaves day t) minute) ts)
  early_follows R [] line h = tt
  early_follows R (t ∷ []) line h = elim (cases_Bool (nat_lt (leaves day t) minute)) [
    | inl is_early ↦ subst (EachFollows R) (sym (cond-true (nat_lt (leaves day t) minute) (t ∷ []) [] is_early)) tt
    | inr late ↦ subst (EachFollows R) (sym (all_late t [] line late)) tt
  ]
  early_follows R (t ∷ s ∷ ts) line h = elim (cases_Bool (nat_lt (leaves day t) minute)) [
    | inl is_early ↦
        let rest = early_follows R (s ∷ ts) line.1 h.1 in
        subst (EachFollows R) (sym (cond-true (nat_lt (leaves day t) minute) (t ∷ filter (λ t. nat_lt (leaves day t) minute) (s ∷ ts)) (filter (λ t. nat_lt (leaves day t) minute) (s ∷ ts)) is_early))
        (elim (cases_Bool (nat_lt (leaves day s) minute)) [
          | inl too ↦
              let e = cond-true (nat_lt (leaves day s) minute) (s ∷ filter (λ t. nat_lt (leaves day t) minute) ts) (filter (λ t. nat_lt (leaves day t) minute) ts) too in
              subst (λ l. EachFollows R (t ∷ l)) (sym e) ((h.0, subst (EachFollows R) e rest))
          | inr late ↦ subst (λ l. EachFollows R (t ∷ l)) (sym (all_late s ts line.1 late)) tt
        ])
    | inr late ↦ subst (EachFollows R) (sym (all_late t (s ∷ ts) line late)) tt
  ]

each_so : (R S : ℕ → ℕ → Type 0) (ts : List ℕ) → ((a b : ℕ) → R a b → S a b) → EachFollows R ts → EachFollows S ts
each_so R S [] so h = tt
each_so R S (a ∷ []) so h = tt
each_so R S (a ∷ b ∷ ts) so h = (so a b h.0, each_so R S (b ∷ ts) so h.1)

-- ---- the plan

module _ (day : Day) (plan : List (List ℕ)) (links : AreLinks day) (runs : Runs day plan) where
  types_are : (t : ℕ) → map (type_of day) (list_of plan t) ≡ list_of (map (types_of day) plan) t
  types_are t = sym (list_of-types day plan t)

  all_links : AllHold (type_of day) day plan
  all_links = record { holds = runs.links }

  by_places : (u a b : ℕ) → MayFollow day plan u a b → MayFollowByPlaces day (map (types_of day) plan) plan u a b
  by_places u a b (inl stays) = inl (subst (λ l. IsTrue (has u l)) (kept_is day (map (types_of day) plan) links (type_of day) plan types_are all_links a b) stays)
  by_places u a b (inr by_yard) = inr (record {
    given = subst (λ l. IsTrue (has u l)) (given_is day (map (types_of day) plan) links (type_of day) plan types_are all_links a) by_yard.given;
    taken = subst (λ l. IsTrue (has u l)) (taken_is day (map (types_of day) plan) links (type_of day) plan types_are all_links b) by_yard.taken;
    station = by_yard.station;
    ready = by_yard.ready;
  })

  pub named_before : (minute : ℕ) → IsNamedBefore day (map (types_of day) plan) minute plan
  named_before minute = record {
    lists = λ t lt is_early. record { distinct = (runs.lists t lt).distinct; known = λ u is. runs.is_plan.units t u is; types_are = types_are t };
    links = λ t lt is_early. come_is day (map (types_of day) plan) links (type_of day) plan types_are all_links t;
    homes = λ u lt. early_begins day minute (home_of day u) (duty day plan u) (duty_in_line day plan u) (runs.homes u lt);
    follows = λ u lt. each_so (MayFollow day plan u) (MayFollowByPlaces day (map (types_of day) plan) plan u) (filter (λ t. nat_lt (leaves day t) minute) (duty day plan u)) (by_places u)
        (early_follows day minute (MayFollow day plan u) (duty day plan u) (duty_in_line day plan u) (runs.follows u lt));
  }

pub running_plans_are_named : RunningPlansAreNamed
running_plans_are_named day plan minute links runs = named_before day plan links runs minute
