-- Trips one after another, and one more at the end.
use Rattle.std.proofs.Common.{◌≡◌, ℕ, ◌<◌, ◌≤◌, List, [], ◌∷◌, ◌++◌, reverse, Bool, true, false, cond, Option, Some}
use Rattle.std.proofs.Common.{None, refl, sym, ap, ◌∙◌, subst, arith, inl, inr}
use Rattle.std.specs.Prelude.{filter, nat_lt}
use Rattle.std.proofs.lemmas.Bool.{cases_Bool, cond-true, cond-false, lt-ltb}
use Rattle.std.proofs.lemmas.List.{reverse-append, append-nil}
use Rattle.std.proofs.lemmas.List.Elements.{filter-append}
use Rattle.timetable.specs.Day.{Day, leaves, from_of, home_of}
use Rattle.timetable.specs.Links.{list_of}
use Rattle.timetable.specs.Lists.{count_of, has}
use Rattle.timetable.specs.Running.{BeginsAt, EachFollows}
use Rattle.inventory.specs.NamedBefore.{MayFollowByPlaces}
use Rattle.inventory.proofs.Sums.{one_same}
use Rattle.inventory.proofs.Standing.{latest}

unfoldable pub last_in : List ℕ → Option ℕ
last_in [] = None
last_in (x ∷ []) = Some x
last_in (x ∷ y ∷ ys) = last_in (y ∷ ys)

pub last_more : (ys : List ℕ) (b : ℕ) → last_in (ys ++ b ∷ []) ≡ Some b
unfolding last_in
last_more [] b = refl
last_more (x ∷ []) b = refl
last_more (x ∷ y ∷ ys) b = last_more (y ∷ ys) b

pub last_some : (x : ℕ) (xs : List ℕ) → last_in (x ∷ xs) ≡ None → ⊥
unfolding last_in
last_some x [] e = cc
last_some x (y ∷ ys) e = last_some y ys e

module _ (R : ℕ → ℕ → Type 0) where
  pub follows_less : (ys : List ℕ) (b : ℕ) → EachFollows R (ys ++ b ∷ []) → EachFollows R ys × ((a : ℕ) → last_in ys ≡ Some a → R a b)
  unfolding last_in
  follows_less [] b h = (tt, λ a e. absurd (cc))
  follows_less (x ∷ []) b h = (tt, λ a e. let same : x ≡ a = cc in subst (λ z. R z b) same h.0)
  follows_less (x ∷ y ∷ ys) b h = let rest = follows_less (y ∷ ys) b h.1 in ((h.0, rest.0), rest.1)

  pub follows_more : (ys : List ℕ) (b : ℕ) → EachFollows R ys → ((a : ℕ) → last_in ys ≡ Some a → R a b) → EachFollows R (ys ++ b ∷ [])
  unfolding last_in
  follows_more [] b h next = tt
  follows_more (x ∷ []) b h next = (next x refl, tt)
  follows_more (x ∷ y ∷ ys) b h next = (h.0, follows_more (y ∷ ys) b h.1 next)

module _ (day : Day) (home : ℕ) where
  pub begins_less : (ys : List ℕ) (b : ℕ) → BeginsAt day home (ys ++ b ∷ []) → BeginsAt day home ys × (last_in ys ≡ None → from_of day b ≡ home)
  begins_less [] b h = (tt, λ e. h)
  begins_less (x ∷ xs) b h = (h, λ e. absurd (last_some x xs e))

  pub begins_more : (ys : List ℕ) (b : ℕ) → BeginsAt day home ys → (last_in ys ≡ None → from_of day b ≡ home) → BeginsAt day home (ys ++ b ∷ [])
  unfolding last_in
  begins_more [] b h first = first refl
  begins_more (x ∷ xs) b h first = h

pub reverse_twice : (xs : List ℕ) → reverse (reverse xs) ≡ xs
reverse_twice [] = refl
reverse_twice (x ∷ xs) = ap reverse (reverse-append (x ∷ []) xs) ∙ reverse-append (reverse xs) (x ∷ []) ∙ ap (λ (l : List ℕ). x ∷ l) (reverse_twice xs)

-- trips that pass, the latest first, in order of departure
pub passing_more : (p : ℕ → Bool) (b : ℕ) (before : List ℕ) → filter p (reverse (b ∷ before)) ≡ filter p (reverse before) ++ cond (p b) (b ∷ []) []
passing_more p b before = ap (filter p) (reverse-append (b ∷ []) before) ∙ filter-append p (reverse before) (b ∷ [])

pub passing_here : (p : ℕ → Bool) (b : ℕ) (before : List ℕ) → p b ≡ true → filter p (reverse (b ∷ before)) ≡ filter p (reverse before) ++ b ∷ []
passing_here p b before is = passing_more p b before ∙ ap (λ (l : List ℕ). filter p (reverse before) ++ l) (cond-true (p b) (b ∷ []) [] is)

pub passing_not : (p : ℕ → Bool) (b : ℕ) (before : List ℕ) → p b ≡ false → filter p (reverse (b ∷ before)) ≡ filter p (reverse before)
passing_not p b before isnt = passing_more p b before ∙ ap (λ (l : List ℕ). filter p (reverse before) ++ l) (cond-false (p b) (b ∷ []) [] isnt) ∙ append-nil (filter p (reverse before))

-- the latest trip that a unit ran on is the last of its trips
pub latest_is_last : (day : Day) (types : List (List ℕ)) (lists : ℕ → List ℕ) (done : List ℕ) (u : ℕ) → last_in (filter (λ t. has u (lists t)) (reverse done)) ≡ latest day types lists done u
unfolding latest last_in
latest_is_last day types lists [] u = refl
latest_is_last day types lists (b ∷ before) u = elim (cases_Bool (has u (lists b))) [
  | inl here ↦
      ap last_in (passing_here (λ t. has u (lists t)) b before here) ∙ last_more (filter (λ t. has u (lists t)) (reverse before)) b
      ∙ sym (cond-true (has u (lists b)) (Some b) (latest day types lists before u) here)
  | inr none ↦
      ap last_in (passing_not (λ t. has u (lists t)) b before none) ∙ latest_is_last day types lists before u
      ∙ sym (cond-false (has u (lists b)) (Some b) (latest day types lists before u) none)
]

-- ---- trips that leave before a minute, and have a unit in a plan

module _ (day : Day) (types : List (List ℕ)) (minute : ℕ) (plan : List (List ℕ)) where
  unfoldable pub given_trips : ℕ → List ℕ → List ℕ
  given_trips u done = filter (λ t. nat_lt (leaves day t) minute) (filter (λ t. has u (list_of plan t)) (reverse done))

  -- one more trip
  more_given : (u b : ℕ) (before : List ℕ) → has u (list_of plan b) ≡ true → nat_lt (leaves day b) minute ≡ true → given_trips u (b ∷ before) ≡ given_trips u before ++ b ∷ []
  unfolding given_trips
  more_given u b before here early =
      ap (filter (λ t. nat_lt (leaves day t) minute)) (passing_here (λ t. has u (list_of plan t)) b before here)
      ∙ filter-append (λ t. nat_lt (leaves day t) minute) (filter (λ t. has u (list_of plan t)) (reverse before)) (b ∷ [])
      ∙ ap (λ (l : List ℕ). given_trips u before ++ l) (cond-true (nat_lt (leaves day b) minute) (b ∷ []) [] early)

  late_given : (u b : ℕ) (before : List ℕ) → has u (list_of plan b) ≡ true → nat_lt (leaves day b) minute ≡ false → given_trips u (b ∷ before) ≡ given_trips u before
  unfolding given_trips
  late_given u b before here late =
      ap (filter (λ t. nat_lt (leaves day t) minute)) (passing_here (λ t. has u (list_of plan t)) b before here)
      ∙ filter-append (λ t. nat_lt (leaves day t) minute) (filter (λ t. has u (list_of plan t)) (reverse before)) (b ∷ [])
      ∙ ap (λ (l : List ℕ). given_trips u before ++ l) (cond-false (nat_lt (leaves day b) minute) (b ∷ []) [] late)
      ∙ append-nil (given_trips u before)

  other_given : (u b : ℕ) (before : List ℕ) → has u (list_of plan b) ≡ false → given_trips u (b ∷ before) ≡ given_trips u before
  unfolding given_trips
  other_given u b before none = ap (filter (λ t. nat_lt (leaves day t) minute)) (passing_not (λ t. has u (list_of plan t)) b before none)

  -- a unit's trips follow one another, and begin at home
  pub record AreLed (u : ℕ) (done : List ℕ) : Type 0 where
    pub begins : BeginsAt day (home_of day u) (given_trips u done)
    pub follows : EachFollows (MayFollowByPlaces day types plan u) (given_trips u done)

  -- what is so of the last of them
  pub record IsLed (u b : ℕ) (before : List ℕ) : Type 0 where
    pub earlier : AreLed u before
    pub first : last_in (given_trips u before) ≡ None → from_of day b ≡ home_of day u
    pub next : (a : ℕ) → last_in (given_trips u before) ≡ Some a → MayFollowByPlaces day types plan u a b

  pub led_here : (u b : ℕ) (before : List ℕ) → has u (list_of plan b) ≡ true → leaves day b < minute → AreLed u (b ∷ before) → IsLed u b before
  led_here u b before here early led =
      let e = more_given u b before here (lt-ltb (leaves day b) minute early) in
      let begins = begins_less day (home_of day u) (given_trips u before) b (subst (BeginsAt day (home_of day u)) e led.begins) in
      let follows = follows_less (MayFollowByPlaces day types plan u) (given_trips u before) b (subst (EachFollows (MayFollowByPlaces day types plan u)) e led.follows) in
      record { earlier = record { begins = begins.0; follows = follows.0 }; first = begins.1; next = follows.1 }

  same_led : (u b : ℕ) (before : List ℕ) → given_trips u (b ∷ before) ≡ given_trips u before → AreLed u (b ∷ before) → AreLed u before
  same_led u b before e led = record {
    begins = subst (BeginsAt day (home_of day u)) e led.begins;
    follows = subst (EachFollows (MayFollowByPlaces day types plan u)) e led.follows;
  }

  pub led_before : (u b : ℕ) (before : List ℕ) → AreLed u (b ∷ before) → AreLed u before
  led_before u b before led = elim (cases_Bool (has u (list_of plan b))) [
    | inl here ↦ elim (cases_Bool (nat_lt (leaves day b) minute)) [
      | inl early ↦
          let e = more_given u b before here early in
          record {
            begins = (begins_less day (home_of day u) (given_trips u before) b (subst (BeginsAt day (home_of day u)) e led.begins)).0;
            follows = (follows_less (MayFollowByPlaces day types plan u) (given_trips u before) b (subst (EachFollows (MayFollowByPlaces day types plan u)) e led.follows)).0;
          }
      | inr late ↦ same_led u b before (late_given u b before here late) led
    ]
    | inr none ↦ same_led u b before (other_given u b before none) led
  ]

  -- where all trips that ran are such, the last is the latest
  pub last_given : (lists : ℕ → List ℕ) (done : List ℕ) (u : ℕ) → ((t : ℕ) → 1 ≤ count_of t done → (leaves day t < minute) × (lists t ≡ list_of plan t))
      → last_in (given_trips u done) ≡ latest day types lists done u
  unfolding latest last_in given_trips
  last_given lists [] u all = refl
  last_given lists (b ∷ before) u all =
      let o = one_same b b refl in
      let at_b = all b (omega arith) in
      let same : has u (lists b) ≡ has u (list_of plan b) = ap (λ (l : List ℕ). has u l) at_b.1 in
      let rest = last_given lists before u (λ t c. all t (omega arith)) in
      elim (cases_Bool (has u (list_of plan b))) [
        | inl here ↦
            ap last_in (more_given u b before here (lt-ltb (leaves day b) minute at_b.0)) ∙ last_more (given_trips u before) b
            ∙ sym (cond-true (has u (lists b)) (Some b) (latest day types lists before u) (same ∙ here))
        | inr none ↦
            ap last_in (other_given u b before none) ∙ rest
            ∙ sym (cond-false (has u (lists b)) (Some b) (latest day types lists before u) (same ∙ none))
      ]
