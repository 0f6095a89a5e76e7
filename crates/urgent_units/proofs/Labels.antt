-- The legs of a plan that runs depend on its types alone: each place of a trip's list is labelled with where its leg
-- began, and the labels of a trip are read off the types and off the labels of the trips that lead into it.
use Rattle.std.proofs.Common.{◌≡◌, ℕ, zero, suc, ◌-◌, ◌≤◌, ◌<◌, Bool, true, false, List, [], ◌∷◌, ◌++◌, length, map, take, drop, refl, sym, ap, ◌∙◌, subst, arith, inl, inr, ◌⊎◌}
use Rattle.std.proofs.Common.{Option, Some, None, unwrap_or}
use Rattle.std.specs.Prelude.{if◌then◌else◌, ◌==◌, option_map}
use Rattle.std.specs.List.{flat_map}
use Rattle.std.proofs.lemmas.Bool.{cases_Bool, cases_eq, cond-false, leb-true, le-leb}
use Rattle.std.proofs.lemmas.List.{map-append, take-append-drop}
use Rattle.rules.specs.declared.records.End.{End}
use Rattle.rules.specs.declared.records.End.TheVariants as at
use Rattle.rules.specs.declared.records.Link.{Link}
use Rattle.rules.specs.declared.records.LinkKind.{LinkKind}
use Rattle.rules.specs.declared.records.LinkKind.TheVariants.{Turn, Join, Split}
use Rattle.timetable.specs.Accepted.{IsDay, AreLinks}
use Rattle.timetable.specs.Day.{Day, type_of, types_of, unit_count}
use Rattle.timetable.specs.Duties.{duty}
use Rattle.timetable.specs.Links.{list_of, kept, given, taken, turned, link_out, link_into, trips_into}
use Rattle.timetable.specs.Lists.{count_of, has, sum_below}
use Rattle.timetable.specs.Running.{Runs, EachFollows}
use Rattle.timetable.specs.Turns.{staying, beyond, kept_count}
use Rattle.timetable.proofs.ListedUnits.{list_of-types}
use Rattle.timetable.proofs.Ones.{one_same}
use Rattle.rules.proofs.Turning.{staying-map}
use Rattle.rules.proofs.OfTheStock.{MayFollow}
use Rattle.inventory.specs.Places.{going_by, come_by, fetched_by, going_on, kept_places, taken_places, coming}
use Rattle.inventory.proofs.Linked.{AllHold, Goes, LeadsInto, goes, leads_into, flat_same, taken_places-map, come_is, taken_is, kept_is, places_share}
use Rattle.inventory.proofs.OnDuty.{once, stays as kept_apart, last_gives, last_of_duty as last_trip, duty_once, on_duty, given_less, of_duty}
use Rattle.inventory.proofs.PlacesByKind.{going-map}
use Rattle.inventory.proofs.Yards.{list_sum}
use Rattle.urgent_units.specs.Legs.{stays}
use Rattle.urgent_units.specs.Runs.{runs_of}
use Rattle.urgent_units.proofs.Begun.{Along, Ends, begun, of_runs, sum_of_runs, kept_began, taken_begins, sum_of_given}
use Rattle.urgent_units.proofs.ListSums.{over}

pub list_sum_is : (f : ℕ → ℕ) (xs : List ℕ) → list_sum f xs ≡ over f xs
unfolding list_sum
list_sum_is f [] = refl
list_sum_is f (x ∷ xs) = omega (arith, list_sum_is f xs)

-- ---- lists and their places

pub map_same : (f g : ℕ → ℕ) (xs : List ℕ) → ((x : ℕ) → 1 ≤ count_of x xs → f x ≡ g x) → map f xs ≡ map g xs
map_same f g [] same = refl
map_same f g (x ∷ xs) same =
    ap (λ (y : ℕ). y ∷ map f xs) (same x (let one = one_same x x refl in omega (arith, one))) ∙ ap (λ (ys : List ℕ). g x ∷ ys) (map_same f g xs (λ y c. same y (omega (arith, c))))

pub map_twice : (f g : ℕ → ℕ) (xs : List ℕ) → map (λ x. f (g x)) xs ≡ map f (map g xs)
map_twice f g [] = refl
map_twice f g (x ∷ xs) = ap (λ (ys : List ℕ). f (g x) ∷ ys) (map_twice f g xs)

part_same : (end : End) (n : ℕ) (xs ys : List ℕ) → length xs ≡ length ys → staying end xs n ≡ staying end ys n → beyond end xs n ≡ beyond end ys n → xs ≡ ys
part_same at.None n xs ys long stay go = stay
part_same at.Rear n xs ys long stay go = sym (take-append-drop n xs) ∙ ap (λ (l : List ℕ). l ++ drop n xs) stay ∙ ap (λ (l : List ℕ). take n ys ++ l) go ∙ take-append-drop n ys
part_same at.Front n xs ys long stay go =
    sym (take-append-drop (length xs - n) xs) ∙ ap (λ (l : List ℕ). l ++ drop (length xs - n) xs) go ∙ ap (λ (l : List ℕ). take (length ys - n) ys ++ l) stay
    ∙ take-append-drop (length ys - n) ys

kind_same : (kind : LinkKind) (r : Bool) (types : List (List ℕ)) (xs ys : List ℕ) → length xs ≡ length ys → come_by kind r types xs ≡ come_by kind r types ys → fetched_by kind r types xs ≡ fetched_by kind r types ys → xs ≡ ys
kind_same (Turn a y uncouple couple exchange) r types xs ys long come fetched = part_same couple (kept_count uncouple couple (turned r (list_of types a)) (list_of types y)) xs ys long come fetched
kind_same (Join a1 a2 y) r types xs ys long come fetched = come
kind_same (Split a y1 y2) r types xs ys long come fetched = come

come-map : (f : ℕ → ℕ) (kind : LinkKind) (r : Bool) (types : List (List ℕ)) (us : List ℕ) → come_by kind r types (map f us) ≡ map f (come_by kind r types us)
come-map f (Turn a y uncouple couple exchange) r types us = staying-map f couple us (kept_count uncouple couple (turned r (list_of types a)) (list_of types y))
come-map f (Join a1 a2 y) r types us = refl
come-map f (Split a y1 y2) r types us = refl

module _ (day : Day) (types : List (List ℕ)) where
  -- a list is known by what came with its trains and what is taken for it
  pub places_same : (t : ℕ) (xs ys : List ℕ) → length xs ≡ length ys → kept_places day types t xs ≡ kept_places day types t ys → taken_places day types t xs ≡ taken_places day types t ys → xs ≡ ys
  unfolding kept_places taken_places
  places_same t xs ys long come fetched = on (link_into day t) come fetched
    where
      on : (o : Option Link) → unwrap_or (option_map (λ link. come_by link.kind link.reverse types xs) o) [] ≡ unwrap_or (option_map (λ link. come_by link.kind link.reverse types ys) o) []
          → unwrap_or (option_map (λ link. fetched_by link.kind link.reverse types xs) o) xs ≡ unwrap_or (option_map (λ link. fetched_by link.kind link.reverse types ys) o) ys → xs ≡ ys
      on None come fetched = fetched
      on (Some link) come fetched = kind_same link.kind link.reverse types xs ys long come fetched

  pub kept-map : (f : ℕ → ℕ) (t : ℕ) (us : List ℕ) → kept_places day types t (map f us) ≡ map f (kept_places day types t us)
  unfolding kept_places
  kept-map f t us = on (link_into day t)
    where
      on : (o : Option Link) → unwrap_or (option_map (λ link. come_by link.kind link.reverse types (map f us)) o) [] ≡ map f (unwrap_or (option_map (λ link. come_by link.kind link.reverse types us) o) [])
      on None = refl
      on (Some link) = come-map f link.kind link.reverse types us

  pub goes-map : (f : ℕ → ℕ) (a t : ℕ) (us : List ℕ) → map f (going_on day types a t us) ≡ going_on day types a t (map f us)
  unfolding going_on
  goes-map f a t us = on (link_out day a)
    where
      on : (o : Option Link) → map f (unwrap_or (option_map (λ link. going_by link.kind link.reverse types t us) o) []) ≡ unwrap_or (option_map (λ link. going_by link.kind link.reverse types t (map f us)) o) []
      on None = refl
      on (Some link) = going-map f link.kind link.reverse types t us

  -- what comes is renamed as what goes on from each trip is
  pub coming_renamed : (f : ℕ → ℕ) (names : ℕ → ℕ → ℕ) (lists : ℕ → List ℕ) (t : ℕ)
      → ((a x : ℕ) → 1 ≤ count_of a (trips_into day t) → 1 ≤ count_of x (going_on day types a t (lists a)) → f x ≡ names a x)
      → map f (coming day types lists t) ≡ coming day types (λ a. map (names a) (lists a)) t
  unfolding coming
  coming_renamed f names lists t same =
      flat_renamed (trips_into day t)
      ∙ flat_same (λ a. map f (going_on day types a t (lists a))) (λ a. going_on day types a t (map (names a) (lists a))) (trips_into day t)
      (λ a c. map_same f (names a) (going_on day types a t (lists a)) (λ x there. same a x c there) ∙ goes-map (names a) a t (lists a))
    where
      flat_renamed : (xs : List ℕ) → map f (flat_map (λ a. going_on day types a t (lists a)) xs) ≡ flat_map (λ a. map f (going_on day types a t (lists a))) xs
      flat_renamed [] = refl
      flat_renamed (x ∷ xs) = map-append f (going_on day types x t (lists x)) (flat_map (λ a. going_on day types a t (lists a)) xs)
          ∙ ap (λ (l : List ℕ). map f (going_on day types x t (lists x)) ++ l) (flat_renamed xs)

-- ---- the labels of a plan that runs

module _ (day : Day) (plan : List (List ℕ)) (is_day : IsDay day) (links : AreLinks day) (runs : Runs day plan) (m : ℕ) where
  abbrev types : List (List ℕ)
  types = map (types_of day) plan

  pub types_are : (t : ℕ) → map (type_of day) (list_of plan t) ≡ list_of types t
  types_are t = sym (list_of-types day plan t)

  pub holds : AllHold (type_of day) day plan
  holds = record { holds = runs.links }

  abbrev pub Keeps : ℕ → ℕ → ℕ → Type 0
  Keeps u a b = 1 ≤ count_of u (kept day plan a b)

  abbrev Takes : ℕ → ℕ → Type 0
  Takes u t = 1 ≤ count_of u (taken day plan t)

  abbrev Gives : ℕ → ℕ → Type 0
  Gives u t = 1 ≤ count_of u (given day plan t)

  keeps_places : (u a b : ℕ) → count_of u (kept day plan a b) ≡ count_of u (going_on day types a b (list_of plan a))
  keeps_places u a b = ap (count_of u) (kept_is day types links (type_of day) plan types_are holds a b)

  pub one_way : (u a b c : ℕ) → Keeps u a b → Keeps u a c → b ≡ c
  one_way u a b c kb kc =
      let us = list_of plan a in
      let g : Goes day types a = goes day types links a in
      let total = g.total u us in
      let few = once day plan is_day links runs a u in
      let atb = keeps_places u a b in
      let atc = keeps_places u a c in
      elim (cases_eq b c) [
        | inl same ↦ same
        | inr differ ↦ absurd (elim (cases_eq b g.first) [
          | inl b1 ↦ (let eb = ap (λ (x : ℕ). count_of u (going_on day types a x us)) b1 in elim (cases_eq c g.second) [
            | inl c2 ↦ (let ec = ap (λ (x : ℕ). count_of u (going_on day types a x us)) c2 in omega (arith, total, few, atb, atc, eb, ec, kb, kc))
            | inr not2 ↦ (let none = g.others u c us (λ c1. differ (b1 ∙ sym c1)) not2 in omega (arith, none, atc, kc))
          ])
          | inr not1 ↦ elim (cases_eq b g.second) [
            | inl b2 ↦ (let eb = ap (λ (x : ℕ). count_of u (going_on day types a x us)) b2 in elim (cases_eq c g.first) [
              | inl c1 ↦ (let ec = ap (λ (x : ℕ). count_of u (going_on day types a x us)) c1 in omega (arith, total, few, atb, atc, eb, ec, kb, kc))
              | inr not1' ↦ (let none = g.others u c us not1' (λ c2. differ (b2 ∙ sym c2)) in omega (arith, none, atc, kc))
            ])
            | inr not2 ↦ (let none = g.others u b us not1 not2 in omega (arith, none, atb, kb))
          ]
        ])
      ]

  -- a unit that is kept from a trip is on it
  pub kept_on_trip : (a b u : ℕ) → Keeps u a b → 1 ≤ count_of u (list_of plan a)
  kept_on_trip a b u kept =
      let at = keeps_places u a b in
      let g : Goes day types a = goes day types links a in
      let total = g.total u (list_of plan a) in
      elim (cases_eq b g.first) [
        | inl first ↦ (let e = ap (λ (x : ℕ). count_of u (going_on day types a x (list_of plan a))) first in omega (arith, total, e, at, kept))
        | inr not1 ↦ elim (cases_eq b g.second) [
          | inl second ↦ (let e = ap (λ (x : ℕ). count_of u (going_on day types a x (list_of plan a))) second in omega (arith, total, e, at, kept))
          | inr not2 ↦ absurd (let none = g.others u b (list_of plan a) not1 not2 in omega (arith, none, at, kept))
        ]
      ]

  along : (u p : ℕ) (ts : List ℕ) → duty day plan u ≡ p ∷ ts → Along (stays day plan u) (Keeps u) (Takes u) (Gives u) p ts
  along u p ts is = record {
    once = λ x. subst (λ (xs : List ℕ). count_of x xs ≤ 1) is (duty_once day plan is_day links runs u x);
    goes_on = λ a b h. leb-true 1 (count_of u (kept day plan a b)) h;
    kept_not_given = λ a b k g. (let none = (kept_apart day plan is_day links runs a b u k).0 in absurd (omega (arith, none, g)));
    kept_not_taken = λ a b k t. (let none = (kept_apart day plan is_day links runs a b u k).1 in absurd (omega (arith, none, t)));
    one_way = one_way u;
  }

  ends : (u p : ℕ) (ts : List ℕ) → EachFollows (MayFollow day plan u) (p ∷ ts) → Gives u (last_trip p ts) → Ends (stays day plan u) (Gives u) p ts
  ends u p [] follows last = last
  ends u p (b ∷ ts) follows last = (next follows.0, ends u b ts follows.1 last)
    where
      next : MayFollow day plan u p b → (stays day plan u p b ≡ true) ⊎ Gives u p
      next (inl stay) = inl stay
      next (inr yard) = inr (leb-true 1 (count_of u (given day plan p)) yard.given)

  duty_ends : (u p : ℕ) (ts : List ℕ) → u < unit_count day → duty day plan u ≡ p ∷ ts → Ends (stays day plan u) (Gives u) p ts
  duty_ends u p ts known is =
      let last = last_gives day plan is_day links runs u p ts is in
      ends u p ts (subst (EachFollows (MayFollow day plan u)) is (runs.follows u known)) (omega (arith, last))

  -- where the leg began that a unit is on
  abbrev pub began : ℕ → ℕ → ℕ
  began u t = begun (stays day plan u) (duty day plan u) t

  kept_on : (u a x : ℕ) → u < unit_count day → 1 ≤ count_of a (duty day plan u) → Keeps u a x → began u x ≡ began u a
  kept_on u a x known there kept = on (duty day plan u) refl
    where
      on : (ts : List ℕ) → duty day plan u ≡ ts → begun (stays day plan u) ts x ≡ begun (stays day plan u) ts a
      on [] is = absurd (let none = ap (count_of a) is in omega (arith, there, none))
      on (p ∷ ts) is = (kept_began (stays day plan u) (Keeps u) (Takes u) (Gives u) ts p p (along u p ts is) (duty_ends u p ts known is) a x (subst (λ (xs : List ℕ). 1 ≤ count_of a xs) is there) kept).1

  taken_on : (u x : ℕ) → 1 ≤ count_of x (duty day plan u) → Takes u x → began u x ≡ x
  taken_on u x there taken = on (duty day plan u) refl
    where
      on : (ts : List ℕ) → duty day plan u ≡ ts → begun (stays day plan u) ts x ≡ x
      on [] is = refl
      on (p ∷ ts) is = taken_begins (stays day plan u) (Keeps u) (Takes u) (Gives u) ts p p (along u p ts is) (λ _. refl) x (subst (λ (xs : List ℕ). 1 ≤ count_of x xs) is there) taken

  -- ---- labels

  -- of a unit of the type, one more than the first trip of its leg; nothing of another unit
  abbrev pub label : ℕ → ℕ → ℕ
  label t u = if type_of day u == m then suc (began u t) else 0

  abbrev pub labels : ℕ → List ℕ
  labels t = map (label t) (list_of plan t)

  -- what is taken begins a leg
  abbrev pub first_label : ℕ → ℕ → ℕ
  first_label t k = if k == m then suc t else 0

  known : (t u : ℕ) → 1 ≤ count_of u (list_of plan t) → u < unit_count day
  known t u there = runs.is_plan.units t u (le-leb 1 (count_of u (list_of plan t)) there)

  pub labels_come : (t : ℕ) → t < length day.trips → kept_places day types t (labels t) ≡ coming day types labels t
  labels_come t in_day =
      kept-map day types (label t) t (list_of plan t)
      ∙ ap (map (label t)) (come_is day types links (type_of day) plan types_are holds t)
      ∙ coming_renamed day types (label t) label (list_of plan) t
      (λ a u leads there.
      let into : LeadsInto day a t = leads_into day types links a t leads in
      let k = keeps_places u a t in
      let g : Goes day types a = goes day types links a in
      let total = g.total u (list_of plan a) in
      let some : 1 ≤ count_of u (list_of plan a) = on_it u a t there in
      let same = kept_on u a t (known a u some) (on_duty day plan is_day links runs u a into.from some) (omega (arith, k, there)) in
      ap (λ (n : ℕ). if type_of day u == m then suc n else 0) same)
    where
      on_it : (u a t : ℕ) → 1 ≤ count_of u (going_on day types a t (list_of plan a)) → 1 ≤ count_of u (list_of plan a)
      on_it u a t there =
          let g : Goes day types a = goes day types links a in
          let total = g.total u (list_of plan a) in
          elim (cases_eq t g.first) [
            | inl first ↦ (let e = ap (λ (x : ℕ). count_of u (going_on day types a x (list_of plan a))) first in omega (arith, total, e, there))
            | inr not1 ↦ elim (cases_eq t g.second) [
              | inl second ↦ (let e = ap (λ (x : ℕ). count_of u (going_on day types a x (list_of plan a))) second in omega (arith, total, e, there))
              | inr not2 ↦ absurd (let none = g.others u t (list_of plan a) not1 not2 in omega (arith, none, there))
            ]
          ]

  pub labels_taken : (t : ℕ) → t < length day.trips → taken_places day types t (labels t) ≡ map (first_label t) (taken_places day types t (list_of types t))
  labels_taken t in_day =
      let us = taken_places day types t (list_of plan t) in
      sym (taken_places-map day types (label t) t (list_of plan t))
      ∙ map_same (label t) (λ u. first_label t (type_of day u)) us
      (λ u there.
      let is = ap (count_of u) (taken_is day types links (type_of day) plan types_are holds t) in
      let less = taken_less' t u there in
      ap (λ (n : ℕ). if type_of day u == m then suc n else 0) (taken_on u t (on_duty day plan is_day links runs u t in_day less) (omega (arith, is, there))))
      ∙ map_twice (first_label t) (type_of day) us
      ∙ ap (map (first_label t)) (taken_places-map day types (type_of day) t (list_of plan t) ∙ ap (taken_places day types t) (types_are t))
    where
      taken_less' : (t u : ℕ) → 1 ≤ count_of u (taken_places day types t (list_of plan t)) → 1 ≤ count_of u (list_of plan t)
      taken_less' t u there = (let share = places_share day types t u (list_of plan t) in omega (arith, share, there))

  -- ---- what legs come to

  -- of a label, what g gives of the first trip of the leg and this one
  abbrev pub of_label : (ℕ → ℕ → ℕ) → ℕ → ℕ → ℕ
  of_label g t zero = 0
  of_label g t (suc d) = g d t

  abbrev pub out : ℕ → ℕ → Bool
  out u t = has u (given day plan t)

  abbrev pub given_sum : (ℕ → ℕ → ℕ) → ℕ → ℕ → ℕ
  given_sum g u t = if out u t then g (began u t) t else 0

  -- of a unit
  pub unit_legs_sum : (g : ℕ → ℕ → ℕ) (u : ℕ) → u < unit_count day → of_runs g (runs_of (stays day plan u) (duty day plan u)) ≡ sum_below (given_sum g u) (length day.trips)
  unit_legs_sum g u known =
      on (duty day plan u) refl
      ∙ of_duty day plan is_day links runs u (given_sum g u)
      (λ t in_day none. cond-false {A = ℕ} (out u t) (g (began u t) t) 0 (not_out t none))
    where
      not_out : (t : ℕ) → count_of u (list_of plan t) ≡ 0 → out u t ≡ false
      not_out t none = elim (cases_Bool (out u t)) [
        | inl is ↦ absurd (let less = given_less day plan is_day links runs t u in let some = leb-true 1 (count_of u (given day plan t)) is in omega (arith, less, some, none))
        | inr isnt ↦ isnt
      ]

      on : (ts : List ℕ) → duty day plan u ≡ ts → of_runs g (runs_of (stays day plan u) (duty day plan u)) ≡ list_sum (given_sum g u) (duty day plan u)
      on [] is =
          ap (λ (ts : List ℕ). of_runs g (runs_of (stays day plan u) ts)) is ∙ sym (list_sum_is (given_sum g u) []) ∙ ap (list_sum (given_sum g u)) (sym is)
      on (p ∷ ts) is =
          ap (λ (ts : List ℕ). of_runs g (runs_of (stays day plan u) ts)) is
          ∙ sum_of_runs (stays day plan u) g p ts
          ∙ sum_of_given (stays day plan u) (Keeps u) (Takes u) (Gives u) (out u) (λ x some. le-leb 1 (count_of u (given day plan x)) some) (λ x some. leb-true 1 (count_of u (given day plan x)) some) g ts p p (along u p ts is) (duty_ends u p ts known is)
          ∙ ap (λ (xs : List ℕ). over (λ x. if out u x then g (begun (stays day plan u) xs x) x else 0) (p ∷ ts)) (sym is)
          ∙ sym (list_sum_is (given_sum g u) (p ∷ ts))
          ∙ ap (list_sum (given_sum g u)) (sym is)
