-- The order in which trips leave: by minute, and then by number. The latest first, each trip comes after all that leave
-- before it.
use Rattle.std.proofs.Common.{◌≡◌, ℕ, zero, suc, ◌+◌, ◌<◌, ◌≤◌, List, [], ◌∷◌, ◌++◌, length, reverse, Bool, true, false}
use Rattle.std.proofs.Common.{cond, refl, sym, ap, ◌∙◌, subst, arith, ◌≢◌, ◌⊎◌, inl, inr}
use Rattle.std.specs.Prelude.{if◌then◌else◌, ◌==◌, filter}
use Rattle.std.proofs.lemmas.Bool.{cases_eq, cases_lt, cases_Bool, cond-true, cond-false, false≢true}
use Rattle.std.proofs.lemmas.Bool.Decides.{nat_tests}
use Rattle.std.proofs.lemmas.List.{reverse-append, append-nil}
use Rattle.std.proofs.lemmas.List.Elements.{filter-append}
use Rattle.timetable.specs.Day.{Day, leaves}
use Rattle.timetable.specs.Links.{list_of}
use Rattle.timetable.specs.Lists.{count_of, has, below}
use Rattle.timetable.specs.Duties.{duty, is_before, insert_trip, in_order}
use Rattle.inventory.specs.NamedUnits.{latest_first}
use Rattle.timetable.proofs.Shares.{count_of-append, count_of-turned}
use Rattle.inventory.proofs.Sums.{one_same, one_other}

-- ---- of two trips

pub is_strict : (day : Day) (a b : ℕ) → is_before day a b ≡ true → is_before day b a ≡ false
is_strict day a b h = grind (arith, nat_tests)

pub is_total : (day : Day) (a b : ℕ) → is_before day a b ≡ false → a ≢ b → is_before day b a ≡ true
is_total day a b h ne = grind (arith, nat_tests)

pub before_leaves : (day : Day) (a b : ℕ) → is_before day a b ≡ true → leaves day a ≤ leaves day b
before_leaves day a b h = grind (arith, nat_tests)

pub leaves_before : (day : Day) (a b : ℕ) → leaves day a < leaves day b → is_before day a b ≡ true
leaves_before day a b h = grind (arith, nat_tests)

pub leaves_least : (day : Day) (b t : ℕ) → is_before day b t ≡ false → leaves day t ≤ leaves day b
leaves_least day b t h = grind (arith, nat_tests)

pub not_itself : (day : Day) (a : ℕ) → is_before day a a ≡ false
not_itself day a = grind (arith, nat_tests)

-- ---- trips in line

-- isnt trip of the list leaves before an earlier one of it
abbrev pub InLine : Day → List ℕ → Type 0
InLine day [] = Unit {0}
InLine day (t ∷ ts) = ((b : ℕ) → 1 ≤ count_of b ts → is_before day b t ≡ false) × InLine day ts

count_of-insert : (day : Day) (x t : ℕ) (ss : List ℕ) → count_of x (insert_trip day t ss) ≡ count_of x (t ∷ ss)
count_of-insert day x t [] = refl
count_of-insert day x t (s ∷ ss) = elim (cases_Bool (is_before day t s)) [
  | inl is_so ↦ ap (count_of x) (cond-true (is_before day t s) (t ∷ s ∷ ss) (s ∷ insert_trip day t ss) is_so)
  | inr isnt ↦
      let rest = count_of-insert day x t ss in
      ap (count_of x) (cond-false (is_before day t s) (t ∷ s ∷ ss) (s ∷ insert_trip day t ss) isnt) ∙ (omega arith)
]

pub count_of-in_order : (day : Day) (x : ℕ) (ts : List ℕ) → count_of x (in_order day ts) ≡ count_of x ts
count_of-in_order day x [] = refl
count_of-in_order day x (t ∷ ts) = let rest = count_of-in_order day x ts in let here = count_of-insert day x t (in_order day ts) in omega arith

not_before_later : (day : Day) (a b c : ℕ) → is_before day a b ≡ true → is_before day c b ≡ false → is_before day c a ≡ false
not_before_later day a b c h k = grind (arith, nat_tests)

pub in_list : (x y : ℕ) (ys : List ℕ) → 1 ≤ count_of x (y ∷ ys) → (y ≡ x) ⊎ (1 ≤ count_of x ys)
in_list x y ys c = elim (cases_eq y x) [
  | inl e ↦ inl e
  | inr ne ↦ let o = one_other y x ne in inr (omega arith)
]

insert_in_line : (day : Day) (t : ℕ) (ss : List ℕ) → InLine day ss → InLine day (insert_trip day t ss)
insert_in_line day t [] h = (λ b c. absurd (omega arith), tt)
insert_in_line day t (s ∷ ss) h = elim (cases_Bool (is_before day t s)) [
  | inl is_so ↦ subst (InLine day) (sym (cond-true (is_before day t s) (t ∷ s ∷ ss) (s ∷ insert_trip day t ss) is_so))
      ((
        λ b c. elim (in_list b s ss c) [
          | inl e ↦ subst (λ x. is_before day x t ≡ false) e (is_strict day t s is_so)
          | inr later ↦ not_before_later day t s b is_so (h.0 b later)
        ],
        h,
      ))
  | inr isnt ↦ subst (InLine day) (sym (cond-false (is_before day t s) (t ∷ s ∷ ss) (s ∷ insert_trip day t ss) isnt))
      ((
        λ b c. elim (in_list b t ss (let same = count_of-insert day b t ss in omega arith)) [
          | inl e ↦ subst (λ x. is_before day x s ≡ false) e isnt
          | inr later ↦ h.0 b later
        ],
        insert_in_line day t ss h.1,
      ))
]

pub in_order_in_line : (day : Day) (ts : List ℕ) → InLine day (in_order day ts)
in_order_in_line day [] = tt
in_order_in_line day (t ∷ ts) = insert_in_line day t (in_order day ts) (in_order_in_line day ts)

-- the trips of a duty are in order
pub duty_in_line : (day : Day) (plan : List (List ℕ)) (u : ℕ) → InLine day (duty day plan u)
unfolding duty
duty_in_line day plan u = in_order_in_line day (filter (λ t. has u (list_of plan t)) (below (length day.trips)))

-- ---- trips that pass a test

module _ (day : Day) (p : ℕ → Bool) where
  insert_first : (t : ℕ) (ss : List ℕ) → ((b : ℕ) → 1 ≤ count_of b ss → is_before day t b ≡ true) → insert_trip day t ss ≡ t ∷ ss
  insert_first t [] h = refl
  insert_first t (s ∷ ss) h = cond-true (is_before day t s) (t ∷ s ∷ ss) (s ∷ insert_trip day t ss) (h s (let o = one_same s s refl in omega arith))

  filter_less : (x : ℕ) (ss : List ℕ) → count_of x (filter p ss) ≤ count_of x ss
  filter_less x [] = omega arith
  filter_less x (s ∷ ss) = let rest = filter_less x ss in elim (cases_Bool (p s)) [
    | inl is_so ↦ let e : count_of x (filter p (s ∷ ss)) ≡ (if s == x then 1 else 0) + count_of x (filter p ss) = ap (count_of x) (cond-true (p s) (s ∷ filter p ss) (filter p ss) is_so) in omega arith
    | inr isnt ↦ let e : count_of x (filter p (s ∷ ss)) ≡ count_of x (filter p ss) = ap (count_of x) (cond-false (p s) (s ∷ filter p ss) (filter p ss) isnt) in omega arith
  ]

  later_all : (t s : ℕ) (ss : List ℕ) → InLine day (s ∷ ss) → is_before day t s ≡ true → (b : ℕ) → 1 ≤ count_of b (s ∷ ss) → is_before day t b ≡ true
  later_all t s ss h is_so b c = elim (in_list b s ss c) [
    | inl e ↦ subst (λ x. is_before day t x ≡ true) e is_so
    | inr later ↦ stays t s b is_so (h.0 b later)
  ]
    where
      stays : (t s b : ℕ) → is_before day t s ≡ true → is_before day b s ≡ false → is_before day t b ≡ true
      stays t s b h k = grind (arith, nat_tests)

  filter_insert : (t : ℕ) (ss : List ℕ) → p t ≡ true → InLine day ss → filter p (insert_trip day t ss) ≡ insert_trip day t (filter p ss)
  filter_insert t [] is h = cond-true (p t) (t ∷ []) [] is
  filter_insert t (s ∷ ss) is h = elim (cases_Bool (is_before day t s)) [
    | inl is_so ↦
        ap (filter p) (cond-true (is_before day t s) (t ∷ s ∷ ss) (s ∷ insert_trip day t ss) is_so)
        ∙ cond-true (p t) (t ∷ filter p (s ∷ ss)) (filter p (s ∷ ss)) is
        ∙ sym (insert_first t (filter p (s ∷ ss)) (λ b c. later_all t s ss h is_so b (let less = filter_less b (s ∷ ss) in omega arith)))
    | inr isnt ↦
        ap (filter p) (cond-false (is_before day t s) (t ∷ s ∷ ss) (s ∷ insert_trip day t ss) isnt)
        ∙ elim (cases_Bool (p s)) [
          | inl passes ↦
              cond-true (p s) (s ∷ filter p (insert_trip day t ss)) (filter p (insert_trip day t ss)) passes
              ∙ ap (λ (l : List ℕ). s ∷ l) (filter_insert t ss is h.1)
              ∙ sym (cond-false (is_before day t s) (t ∷ s ∷ filter p ss) (s ∷ insert_trip day t (filter p ss)) isnt)
              ∙ ap (insert_trip day t) (sym (cond-true (p s) (s ∷ filter p ss) (filter p ss) passes))
          | inr fails ↦
              cond-false (p s) (s ∷ filter p (insert_trip day t ss)) (filter p (insert_trip day t ss)) fails
              ∙ filter_insert t ss is h.1
              ∙ ap (insert_trip day t) (sym (cond-false (p s) (s ∷ filter p ss) (filter p ss) fails))
        ]
  ]

  filter_insert_not : (t : ℕ) (ss : List ℕ) → p t ≡ false → filter p (insert_trip day t ss) ≡ filter p ss
  filter_insert_not t [] is = cond-false (p t) (t ∷ []) [] is
  filter_insert_not t (s ∷ ss) is = elim (cases_Bool (is_before day t s)) [
    | inl is_so ↦ ap (filter p) (cond-true (is_before day t s) (t ∷ s ∷ ss) (s ∷ insert_trip day t ss) is_so) ∙ cond-false (p t) (t ∷ filter p (s ∷ ss)) (filter p (s ∷ ss)) is
    | inr isnt ↦ ap (filter p) (cond-false (is_before day t s) (t ∷ s ∷ ss) (s ∷ insert_trip day t ss) isnt)
        ∙ ap (λ (l : List ℕ). cond (p s) (s ∷ l) l) (filter_insert_not t ss is)
  ]

  -- the trips that pass, in order, are those of the ordered trips that pass
  pub filter_in_order : (ts : List ℕ) → in_order day (filter p ts) ≡ filter p (in_order day ts)
  filter_in_order [] = refl
  filter_in_order (t ∷ ts) = elim (cases_Bool (p t)) [
    | inl is_so ↦
        ap (in_order day) (cond-true (p t) (t ∷ filter p ts) (filter p ts) is_so) ∙ ap (insert_trip day t) (filter_in_order ts)
        ∙ sym (filter_insert t (in_order day ts) is_so (in_order_in_line day ts))
    | inr isnt ↦ ap (in_order day) (cond-false (p t) (t ∷ filter p ts) (filter p ts) isnt) ∙ filter_in_order ts ∙ sym (filter_insert_not t (in_order day ts) isnt)
  ]

pub filter-reverse : (p : ℕ → Bool) (ts : List ℕ) → filter p (reverse ts) ≡ reverse (filter p ts)
filter-reverse p [] = refl
filter-reverse p (t ∷ ts) =
    ap (filter p) (reverse-append (t ∷ []) ts) ∙ filter-append p (reverse ts) (t ∷ []) ∙ ap (λ (l : List ℕ). l ++ filter p (t ∷ [])) (filter-reverse p ts)
    ∙ last (p t)
  where
    last : (b : Bool) → reverse (filter p ts) ++ cond b (t ∷ []) [] ≡ reverse (cond b (t ∷ filter p ts) (filter p ts))
    last true = sym (reverse-append (t ∷ []) (filter p ts))
    last false = append-nil (reverse (filter p ts))

-- ---- the latest first

-- each trip leaves after all the later ones of the list
abbrev pub Falls : Day → List ℕ → Type 0
Falls day [] = Unit {0}
Falls day (b ∷ before) = ((t : ℕ) → 1 ≤ count_of t before → is_before day t b ≡ true) × Falls day before

falls_more : (day : Day) (x : ℕ) (ts : List ℕ) → Falls day ts → ((t : ℕ) → 1 ≤ count_of t ts → is_before day x t ≡ true) → Falls day (ts ++ x ∷ [])
falls_more day x [] h first = (λ t c. absurd (omega arith), tt)
falls_more day x (b ∷ before) h first = (
  λ t c. (let same = count_of-append t before (x ∷ []) in elim (cases_lt 0 (count_of t before)) [
    | inl there ↦ h.0 t (omega arith)
    | inr none ↦ elim (in_list t x [] (omega arith)) [
      | inl e ↦ subst (λ y. is_before day y b ≡ true) e (first b (let o = one_same b b refl in omega arith))
      | inr nowhere ↦ absurd (omega arith)
    ]
  ]),
  falls_more day x before h.1 (λ t c. first t (omega arith)),
)

falls_reverse : (day : Day) (ts : List ℕ) → InLine day ts → ((x : ℕ) → count_of x ts ≤ 1) → Falls day (reverse ts)
falls_reverse day [] h once = tt
falls_reverse day (x ∷ ts) h once = subst (Falls day) (sym (reverse-append (x ∷ []) ts))
    (falls_more day x (reverse ts) (falls_reverse day ts h.1 (λ y. let c = once y in omega arith))
    (λ t c. let same = count_of-turned t true ts in is_total day t x (h.0 t (omega arith)) (λ e. let o = one_same x t (sym e) in let two = once t in absurd (omega arith))))

-- a trip that leaves next, once the trips of a list have left: the list has all those that leave before it, and no
-- other
pub record IsTurn (day : Day) (b : ℕ) (before : List ℕ) : Type 0 where
  pub here : b < length day.trips
  pub fresh : count_of b before ≡ 0
  pub earlier : (t : ℕ) → 1 ≤ count_of t before → is_before day t b ≡ true
  pub all : (t : ℕ) → t < length day.trips → is_before day t b ≡ true → 1 ≤ count_of t before

abbrev pub AreInTurn : Day → List ℕ → Type 0
AreInTurn day [] = Unit {0}
AreInTurn day (b ∷ before) = IsTurn day b before × AreInTurn day before

in_turn : (day : Day) (ts : List ℕ) → Falls day ts → ((t : ℕ) → 1 ≤ count_of t ts → t < length day.trips)
    → ((t : ℕ) → t < length day.trips → (1 ≤ count_of t ts) ⊎ ((x : ℕ) → 1 ≤ count_of x ts → is_before day x t ≡ true)) → AreInTurn day ts
in_turn day [] falls known closed = tt
in_turn day (b ∷ before) falls known closed = (
  record {
    here = known b (let o = one_same b b refl in omega arith);
    fresh = elim (cases_lt 0 (count_of b before)) [
      | inl there ↦ absurd (false≢true (sym (not_itself day b) ∙ falls.0 b (omega arith)))
      | inr none ↦ omega arith
    ];
    earlier = falls.0;
    all = λ t lt h. elim (closed t lt) [
      | inl there ↦ elim (in_list t b before there) [
        | inl e ↦ absurd (false≢true (sym (not_itself day b) ∙ subst (λ x. is_before day x b ≡ true) (sym e) h))
        | inr later ↦ later
      ]
      | inr after ↦ absurd (false≢true (sym (is_strict day b t (after b (let o = one_same b b refl in omega arith))) ∙ h))
    ];
  },
  in_turn day before falls.1 (λ t c. known t (omega arith)) (λ t lt. elim (closed t lt) [
    | inl there ↦ elim (in_list t b before there) [
      | inl e ↦ inr (λ x c. subst (λ y. is_before day x y ≡ true) e (falls.0 x c))
      | inr later ↦ inl later
    ]
    | inr after ↦ inr (λ x c. after x (omega arith))
  ]),
)

-- each number below the bound is there once, and no other is
pub count_below_out : (t n : ℕ) → n ≤ t → count_of t (below n) ≡ 0
count_below_out t zero h = refl
count_below_out t (suc n) h =
    let ih = count_below_out t n (omega arith) in
    let a = count_of-append t (below n) (n ∷ []) in
    let other = one_other n t (λ e. absurd (omega arith)) in
    omega arith

pub count_below_in : (t n : ℕ) → t < n → count_of t (below n) ≡ 1
count_below_in t zero h = absurd (omega arith)
count_below_in t (suc n) h = let a = count_of-append t (below n) (n ∷ []) in elim (cases_eq n t) [
  | inl e ↦ let out = count_below_out t n (omega arith) in let o = one_same n t e in omega arith
  | inr ne ↦ let ih = count_below_in t n (omega arith) in let o = one_other n t ne in omega arith
]

count_of-latest_first : (day : Day) (t : ℕ) → count_of t (latest_first day) ≡ count_of t (below (length day.trips))
unfolding latest_first
count_of-latest_first day t = count_of-turned t true (in_order day (below (length day.trips))) ∙ count_of-in_order day t (below (length day.trips))

pub is_there : (day : Day) (t : ℕ) → t < length day.trips → 1 ≤ count_of t (latest_first day)
is_there day t lt = let a = count_of-latest_first day t in let b = count_below_in t (length day.trips) lt in omega arith

pub is_trip : (day : Day) (t : ℕ) → 1 ≤ count_of t (latest_first day) → t < length day.trips
is_trip day t c = let a = count_of-latest_first day t in elim (cases_lt t (length day.trips)) [
  | inl lt ↦ lt
  | inr ge ↦ let b = count_below_out t (length day.trips) ge in absurd (omega arith)
]

pub latest_in_turn : (day : Day) → AreInTurn day (latest_first day)
unfolding latest_first
latest_in_turn day = in_turn day (latest_first day)
    (falls_reverse day (in_order day (below (length day.trips))) (in_order_in_line day (below (length day.trips)))
    (λ x. let same = count_of-in_order day x (below (length day.trips)) in elim (cases_lt x (length day.trips)) [
      | inl lt ↦ let b = count_below_in x (length day.trips) lt in omega arith
      | inr ge ↦ let b = count_below_out x (length day.trips) ge in omega arith
    ]))
    (is_trip day) (λ t lt. inl (is_there day t lt))
