-- The trips of a duty that leave before a minute, and those that leave then or later.
use Rattle.std.proofs.Common.{◌≡◌, ℕ, ◌≤◌, ◌<◌, Bool, true, false, List, [], ◌∷◌, ◌++◌, length, refl, sym, ap, ◌∙◌, arith, inl, inr}
use Rattle.std.specs.Prelude.{if◌then◌else◌, filter, nat_lt, not}
use Rattle.std.proofs.lemmas.Bool.{cases_Bool, cases_lt, cond-true, cond-false, false≢true, ltb-false, le-ltb}
use Rattle.std.proofs.lemmas.List.Elements.{filter-append}
use Rattle.timetable.specs.Day.{Day, leaves}
use Rattle.timetable.specs.Duties.{duty, in_order}
use Rattle.timetable.specs.Links.{list_of}
use Rattle.timetable.specs.Lists.{count_of, has, below}
use Rattle.timetable.specs.Running.{EachFollows}
use Rattle.timetable.proofs.Ones.{one_same, count_below_out}
use Rattle.timetable.proofs.Shares.{count_of-append}
use Rattle.inventory.proofs.OnDuty.{filter_in, filter_out}
use Rattle.inventory.proofs.Order.{InLine, count_of-in_order, filter_in_order, in_order_in_line, leaves_least}
use Rattle.urgent_units.specs.Runs.{last_from}

pub filter_same : (p q : ℕ → Bool) (ts : List ℕ) → ((t : ℕ) → 1 ≤ count_of t ts → p t ≡ q t) → filter p ts ≡ filter q ts
filter_same p q [] same = refl
filter_same p q (t ∷ ts) same =
    let rest = filter_same p q ts (λ x there. same x (omega (arith, there))) in
    ap (λ (b : Bool). if b then t ∷ filter p ts else filter p ts) (same t (let one = one_same t t refl in omega (arith, one)))
    ∙ ap (λ (xs : List ℕ). if q t then t ∷ xs else xs) rest

filter_fewer : (p : ℕ → Bool) (x : ℕ) (ys : List ℕ) → count_of x (filter p ys) ≤ count_of x ys
filter_fewer p x ys = elim (cases_Bool (p x)) [
  | inl passes ↦ (let same = filter_in p x ys passes in omega (arith, same))
  | inr fails ↦ (let none = filter_out p x ys fails in omega (arith, none))
]

passes : (p : ℕ → Bool) (x : ℕ) (ys : List ℕ) → 1 ≤ count_of x (filter p ys) → p x ≡ true
passes p x ys there = elim (cases_Bool (p x)) [
  | inl is ↦ is
  | inr fails ↦ absurd (let none = filter_out p x ys fails in omega (arith, none, there))
]

not_true : (b : Bool) → not b ≡ true → b ≡ false
not_true true h = absurd (false≢true h)
not_true false h = refl

module _ (day : Day) (minute : ℕ) where
  abbrev pub is_early : ℕ → Bool
  is_early t = nat_lt (leaves day t) minute

  abbrev pub is_late : ℕ → Bool
  is_late t = not (is_early t)

  -- all trips of the day in order, up to the minute and from then on
  abbrev pub early_trips : List ℕ
  early_trips = filter is_early (in_order day (below (length day.trips)))

  abbrev pub late_trips : List ℕ
  late_trips = filter is_late (in_order day (below (length day.trips)))

  none_early : (b : ℕ) (ts : List ℕ) → is_early b ≡ false → ((x : ℕ) → 1 ≤ count_of x ts → leaves day b ≤ leaves day x) → filter is_early ts ≡ []
  none_early b [] late later = refl
  none_early b (t ∷ ts) late later =
      let after = later t (let one = one_same t t refl in omega (arith, one)) in
      let past = ltb-false (leaves day b) minute late in
      cond-false (is_early t) (t ∷ filter is_early ts) (filter is_early ts) (le-ltb (leaves day t) minute (omega (arith, after, past)))
      ∙ none_early b ts late (λ x there. later x (omega (arith, there)))

  in_parts : (ts : List ℕ) → InLine day ts → ts ≡ filter is_early ts ++ filter is_late ts
  in_parts [] line = refl
  in_parts (t ∷ ts) line =
      let rest = in_parts ts line.1 in
      elim (cases_Bool (is_early t)) [
        | inl early ↦
            let first = cond-true (is_early t) (t ∷ filter is_early ts) (filter is_early ts) early in
            let second = cond-false (is_late t) (t ∷ filter is_late ts) (filter is_late ts) (ap not early) in
            ap (λ (xs : List ℕ). t ∷ xs) rest
            ∙ ap (λ (xs : List ℕ). xs ++ filter is_late ts) (sym first)
            ∙ ap (λ (xs : List ℕ). filter is_early (t ∷ ts) ++ xs) (sym second)
        | inr late ↦
            let none = none_early t ts late (λ x there. leaves_least day x t (line.0 x there)) in
            let first = cond-false (is_early t) (t ∷ filter is_early ts) (filter is_early ts) late in
            let second = cond-true (is_late t) (t ∷ filter is_late ts) (filter is_late ts) (ap not late) in
            ap (λ (xs : List ℕ). t ∷ xs) (rest ∙ ap (λ (xs : List ℕ). xs ++ filter is_late ts) none)
            ∙ sym second
            ∙ ap (λ (xs : List ℕ). xs ++ filter is_late (t ∷ ts)) (sym (first ∙ none))
      ]

  -- the trips of a unit among them
  abbrev pub before_of : List (List ℕ) → ℕ → List ℕ
  before_of plan u = filter (λ t. has u (list_of plan t)) early_trips

  abbrev pub after_of : List (List ℕ) → ℕ → List ℕ
  after_of plan u = filter (λ t. has u (list_of plan t)) late_trips

  pub duty_parts : (plan : List (List ℕ)) (u : ℕ) → duty day plan u ≡ before_of plan u ++ after_of plan u
  unfolding duty
  duty_parts plan u =
      let p : ℕ → Bool = λ t. has u (list_of plan t) in
      let all = in_order day (below (length day.trips)) in
      filter_in_order day p (below (length day.trips))
      ∙ ap (filter p) (in_parts all (in_order_in_line day (below (length day.trips))))
      ∙ filter-append p early_trips late_trips

  known : (x : ℕ) → 1 ≤ count_of x (in_order day (below (length day.trips))) → x < length day.trips
  known x there = elim (cases_lt x (length day.trips)) [
    | inl under ↦ under
    | inr past ↦ absurd (let none = count_below_out x (length day.trips) past in let same = count_of-in_order day x (below (length day.trips)) in omega (arith, none, same, there))
  ]

  pub early_known : (x : ℕ) → 1 ≤ count_of x early_trips → (x < length day.trips) × (is_early x ≡ true)
  early_known x there =
      let less = filter_fewer is_early x (in_order day (below (length day.trips))) in
      (known x (omega (arith, less, there)), passes is_early x (in_order day (below (length day.trips))) there)

  pub late_known : (x : ℕ) → 1 ≤ count_of x late_trips → (x < length day.trips) × (is_early x ≡ false)
  late_known x there =
      let less = filter_fewer is_late x (in_order day (below (length day.trips))) in
      (known x (omega (arith, less, there)), not_true (is_early x) (passes is_late x (in_order day (below (length day.trips))) there))

  pub before_known : (plan : List (List ℕ)) (u x : ℕ) → 1 ≤ count_of x (before_of plan u) → (x < length day.trips) × (is_early x ≡ true)
  before_known plan u x there = (let less = filter_fewer (λ t. has u (list_of plan t)) x early_trips in early_known x (omega (arith, less, there)))

  pub after_known : (plan : List (List ℕ)) (u x : ℕ) → 1 ≤ count_of x (after_of plan u) → (x < length day.trips) × (is_early x ≡ false)
  after_known plan u x there = (let less = filter_fewer (λ t. has u (list_of plan t)) x late_trips in late_known x (omega (arith, less, there)))

  pub before_has : (plan : List (List ℕ)) (u x : ℕ) → 1 ≤ count_of x (duty day plan u) → is_early x ≡ true → 1 ≤ count_of x (before_of plan u)
  before_has plan u x there early =
      let whole = ap (count_of x) (duty_parts plan u) in
      let parts = count_of-append x (before_of plan u) (after_of plan u) in
      elim (cases_lt 0 (count_of x (after_of plan u))) [
        | inl some ↦ absurd (false≢true (sym (after_known plan u x some).1 ∙ early))
        | inr none ↦ omega (arith, whole, parts, none, there)
      ]

-- ---- trips that follow one another, in parts

module _ (R : ℕ → ℕ → Type 0) where
  pub follows_first : (ts : List ℕ) (bs : List ℕ) → EachFollows R (ts ++ bs) → EachFollows R ts
  follows_first [] bs each = tt
  follows_first (t ∷ []) bs each = tt
  follows_first (t ∷ c ∷ ts) bs each = (each.0, follows_first (c ∷ ts) bs each.1)

  pub follows_second : (ts : List ℕ) (bs : List ℕ) → EachFollows R (ts ++ bs) → EachFollows R bs
  follows_second [] bs each = each
  follows_second (t ∷ []) [] each = tt
  follows_second (t ∷ []) (b ∷ bs) each = each.1
  follows_second (t ∷ c ∷ ts) bs each = follows_second (c ∷ ts) bs each.1

  pub follows_there : (ts : List ℕ) (t b : ℕ) (bs : List ℕ) → EachFollows R ((t ∷ ts) ++ b ∷ bs) → R (last_from t ts) b
  follows_there [] t b bs each = each.0
  follows_there (c ∷ ts) t b bs each = follows_there ts c b bs each.1

  pub follows_joined : (ts : List ℕ) (t b : ℕ) (bs : List ℕ) → EachFollows R (t ∷ ts) → R (last_from t ts) b → EachFollows R (b ∷ bs) → EachFollows R ((t ∷ ts) ++ b ∷ bs)
  follows_joined [] t b bs first there second = (there, second)
  follows_joined (c ∷ ts) t b bs first there second = (first.0, follows_joined ts c b bs first.1 there second)

pub follows_so : (R S : ℕ → ℕ → Type 0) (ts : List ℕ) → ((a b : ℕ) → 1 ≤ count_of a ts → 1 ≤ count_of b ts → R a b → S a b) → EachFollows R ts → EachFollows S ts
follows_so R S [] so each = tt
follows_so R S (a ∷ []) so each = tt
follows_so R S (a ∷ b ∷ ts) so each = (
  so a b (let one = one_same a a refl in omega (arith, one)) (let one = one_same b b refl in omega (arith, one)) each.0,
  follows_so R S (b ∷ ts) (λ x y in_x in_y. so x y (omega (arith, in_x)) (omega (arith, in_y))) each.1,
)
