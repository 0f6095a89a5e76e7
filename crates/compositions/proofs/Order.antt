-- The order of the catalogue is strict and total, and a list in order is known by its members.
use Rattle.std.proofs.Common.{◌≡◌, ℕ, zero, suc, ◌+◌, ◌<◌, ◌≤◌, Bool, true, false, ◌&&◌, ◌||◌, eqb, ltb, ◌⊎◌, inl, inr}
use Rattle.std.proofs.Common.{List, [], ◌∷◌, ◌++◌, get_or, length, refl, ap, ◌∙◌, Some, sym, subst, arith, All}
use Rattle.std.proofs.Common.{AllPairs, Contains, length-append}
use Rattle.std.proofs.lemmas.Bool.{ltb-true, lt-ltb, le-ltb, eqb-true, eq-eqb, or_cases, or_left, or_right, and_parts}
use Rattle.std.proofs.lemmas.Bool.{and_from, false≢true}
use Rattle.std.proofs.lemmas.Bool.Decides.{nat_tests}
use Rattle.std.proofs.lemmas.Cmp.{same_from_slice_cmp_tested}
use Rattle.std.specs.Cmp.Lexicographic.{slice_partial_cmp}
use Rattle.std.specs.Ordering.{nat_cmp, is_lt, is_some_and}
use Rattle.std.proofs.lemmas.List.Elements.{All-append, All-contains, Contains-get_or}
use Rattle.std.proofs.lemmas.List.Kept.{AllPairs-cons}
use Rattle.compositions.specs.Catalogue.{is_lower, comes_before}

-- what it means to be lower
lower_cases : (m n : ℕ) (ms ns : List ℕ) → is_lower (m ∷ ms) (n ∷ ns) ≡ true → (m < n) ⊎ ((m ≡ n) × (is_lower ms ns ≡ true))
lower_cases m n ms ns h = elim (or_cases (ltb m n) (eqb m n && is_lower ms ns) h) [
  | inl l ↦ inl (ltb-true m n l)
  | inr r ↦ inr (eqb-true m n (and_parts _ _ r).0, (and_parts _ _ r).1)
]

lower_head : (m n : ℕ) (ms ns : List ℕ) → m < n → is_lower (m ∷ ms) (n ∷ ns) ≡ true
lower_head m n ms ns h = or_left _ _ (lt-ltb m n h)

lower_tail : (m n : ℕ) (ms ns : List ℕ) → m ≡ n → is_lower ms ns ≡ true → is_lower (m ∷ ms) (n ∷ ns) ≡ true
lower_tail m n ms ns e h = or_right _ _ (and_from _ _ (eq-eqb m n e) h)

lower_irreflexive : (ms : List ℕ) → is_lower ms ms ≡ true → ⊥
lower_irreflexive [] h = false≢true h
lower_irreflexive (m ∷ ms) h = elim (lower_cases m m ms ms h) [ inl l ↦ absurd (omega arith) | inr r ↦ lower_irreflexive ms r.1 ]

lower_transitive : (us vs ws : List ℕ) → is_lower us vs ≡ true → is_lower vs ws ≡ true → is_lower us ws ≡ true
lower_transitive [] vs ws h k = absurd (false≢true h)
lower_transitive (u ∷ us) [] ws h k = absurd (false≢true h)
lower_transitive (u ∷ us) (v ∷ vs) [] h k = absurd (false≢true k)
lower_transitive (u ∷ us) (v ∷ vs) (w ∷ ws) h k =
    elim (lower_cases u v us vs h) [
      | inl l ↦ elim (lower_cases v w vs ws k) [
        | inl m ↦ lower_head u w us ws (omega arith)
        | inr m ↦ lower_head u w us ws (omega arith)
      ]
      | inr l ↦ elim (lower_cases v w vs ws k) [
        | inl m ↦ lower_head u w us ws (omega arith)
        | inr m ↦ lower_tail u w us ws (l.0 ∙ m.0) (lower_transitive us vs ws l.1 m.1)
      ]
    ]

-- a lower list stays lower, whatever stands behind both
lower_append : (us vs xs ys : List ℕ) → is_lower us vs ≡ true → is_lower (us ++ xs) (vs ++ ys) ≡ true
lower_append [] vs xs ys h = absurd (false≢true h)
lower_append (u ∷ us) [] xs ys h = absurd (false≢true h)
lower_append (u ∷ us) (v ∷ vs) xs ys h = elim (lower_cases u v us vs h) [
  | inl l ↦ lower_head u v (us ++ xs) (vs ++ ys) l
  | inr r ↦ lower_tail u v (us ++ xs) (vs ++ ys) r.0 (lower_append us vs xs ys r.1)
]

lower_last : (us : List ℕ) (m n : ℕ) → m < n → is_lower (us ++ m ∷ []) (us ++ n ∷ []) ≡ true
lower_last [] m n h = lower_head m n [] [] h
lower_last (u ∷ us) m n h = lower_tail u u (us ++ m ∷ []) (us ++ n ∷ []) refl (lower_last us m n h)

-- the order of slices is that of lists of one length
abbrev is_below : List ℕ → List ℕ → Bool
is_below [] [] = false
is_below [] (n ∷ ns) = true
is_below (m ∷ ms) [] = false
is_below (m ∷ ms) (n ∷ ns) = ltb m n || (eqb m n && is_below ms ns)

below_is_lower : (ms ns : List ℕ) → length ms ≡ length ns → is_below ms ns ≡ is_lower ms ns
below_is_lower [] [] e = refl
below_is_lower [] (n ∷ ns) e = absurd (omega arith)
below_is_lower (m ∷ ms) [] e = absurd (omega arith)
below_is_lower (m ∷ ms) (n ∷ ns) e = ap (λ (b : Bool). ltb m n || (eqb m n && b)) (below_is_lower ms ns (omega arith))

slices_below : (ms ns : List ℕ) (r : Bool) → r ≡ is_some_and is_lt (slice_partial_cmp (λ m n. Some (nat_cmp m n)) ms ns) → r ≡ is_below ms ns
slices_below = same_from_slice_cmp_tested nat_cmp is_lt is_below refl (λ _ _. refl) (λ _ _. refl) (λ x y xs ys o h. grind (arith, nat_tests))

-- what it means to come before
before_cases : (us vs : List ℕ) → comes_before us vs ≡ true → (length us < length vs) ⊎ ((length us ≡ length vs) × (is_lower us vs ≡ true))
before_cases us vs h = elim (or_cases (ltb (length us) (length vs)) (eqb (length us) (length vs) && is_lower us vs) h) [
  | inl l ↦ inl (ltb-true _ _ l)
  | inr r ↦ inr (eqb-true _ _ (and_parts _ _ r).0, (and_parts _ _ r).1)
]

pub before_shorter : (us vs : List ℕ) → length us < length vs → comes_before us vs ≡ true
before_shorter us vs h = or_left _ _ (lt-ltb _ _ h)

before_lower : (us vs : List ℕ) → length us ≡ length vs → is_lower us vs ≡ true → comes_before us vs ≡ true
before_lower us vs e h = or_right _ _ (and_from _ _ (eq-eqb _ _ e) h)

-- for lists of one length, the order of the catalogue is that of slices
pub before_by_slices : (ms ns : List ℕ) (r : Bool) → length ms ≡ length ns → r ≡ is_some_and is_lt (slice_partial_cmp (λ m n. Some (nat_cmp m n)) ms ns) → r ≡ comes_before ms ns
before_by_slices ms ns r e h =
    let lower : r ≡ is_lower ms ns = slices_below ms ns r h ∙ below_is_lower ms ns e in
    lower ∙ sym (ap (λ (b : Bool). b || (eqb (length ms) (length ns) && is_lower ms ns)) (le-ltb (length ms) (length ns) (omega arith))
    ∙ ap (λ (b : Bool). b && is_lower ms ns) (eq-eqb (length ms) (length ns) e))

pub before_irreflexive : (us : List ℕ) → comes_before us us ≡ true → ⊥
before_irreflexive us h = elim (before_cases us us h) [ inl l ↦ absurd (omega arith) | inr r ↦ lower_irreflexive us r.1 ]

pub before_transitive : (us vs ws : List ℕ) → comes_before us vs ≡ true → comes_before vs ws ≡ true → comes_before us ws ≡ true
before_transitive us vs ws h k =
    elim (before_cases us vs h) [
      | inl l ↦ elim (before_cases vs ws k) [
        | inl m ↦ before_shorter us ws (omega arith)
        | inr m ↦ before_shorter us ws (omega arith)
      ]
      | inr l ↦ elim (before_cases vs ws k) [
        | inl m ↦ before_shorter us ws (omega arith)
        | inr m ↦ before_lower us ws (l.0 ∙ m.0) (lower_transitive us vs ws l.1 m.1)
      ]
    ]

-- with one unit more at the rear of each, the one that comes before still does
pub before_push : (us vs : List ℕ) (m n : ℕ) → comes_before us vs ≡ true → comes_before (us ++ m ∷ []) (vs ++ n ∷ []) ≡ true
before_push us vs m n h =
    let e : length (us ++ m ∷ []) ≡ length us + 1 = length-append us (m ∷ []) in
    let f : length (vs ++ n ∷ []) ≡ length vs + 1 = length-append vs (n ∷ []) in
    elim (before_cases us vs h) [
      | inl l ↦ before_shorter (us ++ m ∷ []) (vs ++ n ∷ []) (omega arith)
      | inr r ↦ before_lower (us ++ m ∷ []) (vs ++ n ∷ []) (omega arith) (lower_append us vs (m ∷ []) (n ∷ []) r.1)
    ]

pub before_last : (us : List ℕ) (m n : ℕ) → m < n → comes_before (us ++ m ∷ []) (us ++ n ∷ []) ≡ true
before_last us m n h =
    before_lower (us ++ m ∷ []) (us ++ n ∷ []) (length-append us (m ∷ []) ∙ sym (length-append us (n ∷ []))) (lower_last us m n h)

-- a list in order, from its head on
abbrev pub Ordered : List (List ℕ) → Type 0
Ordered [] = Unit {0}
Ordered (x ∷ xs) = All (λ y. comes_before x y ≡ true) xs × Ordered xs

pub pairs-from_Ordered : (xs : List (List ℕ)) → Ordered xs → AllPairs (λ x y. comes_before x y ≡ true) xs
pairs-from_Ordered [] h = λ i j d below within. absurd (omega arith)
pairs-from_Ordered (x ∷ xs) h = AllPairs-cons (λ x y. comes_before x y ≡ true) x xs h.0 (pairs-from_Ordered xs h.1)

pub Ordered-from_pairs : (xs : List (List ℕ)) → AllPairs (λ x y. comes_before x y ≡ true) xs → Ordered xs
Ordered-from_pairs [] h = tt
Ordered-from_pairs (x ∷ xs) h = (
  λ k d below. h 0 (suc k) d (omega arith) (omega arith),
  Ordered-from_pairs xs (λ i j d below within. h (suc i) (suc j) d (omega arith) (omega arith)),
)

pub contains_cons : (x : List ℕ) (xs : List (List ℕ)) (y : List ℕ) → Contains (x ∷ xs) y → (x ≡ y) ⊎ Contains xs y
contains_cons x xs y (zero, below, is) = inl is
contains_cons x xs y (suc k, below, is) = inr (k, omega arith, is)

-- a member that is not the head is in the tail
other_than_head : (x : List ℕ) (xs : List (List ℕ)) (y : List ℕ) → (x ≡ y → ⊥) → Contains (x ∷ xs) y → Contains xs y
other_than_head x xs y differs h = elim (contains_cons x xs y h) [ inl e ↦ absurd (differs e) | inr t ↦ t ]

pub contains_head : (x : List ℕ) (xs : List (List ℕ)) → Contains (x ∷ xs) x
contains_head x xs = (zero, omega arith, refl)

pub contains_tail : (x : List ℕ) (xs : List (List ℕ)) (y : List ℕ) → Contains xs y → Contains (x ∷ xs) y
contains_tail x xs y h = (suc h.0, omega (arith, h.1), h.2)

pub contains_none : (y : List ℕ) → Contains [] y → ⊥
contains_none y h = absurd (omega (arith, h.1))

-- what comes before a list is not that list
before_differs : (us vs : List ℕ) → comes_before us vs ≡ true → us ≡ vs → ⊥
before_differs us vs h e = before_irreflexive us (subst (λ (ws : List ℕ). comes_before us ws ≡ true) (sym e) h)

-- of two lists in order, the one whose members are all in the other is no longer
pub length_within : (xs ys : List (List ℕ)) → Ordered xs → Ordered ys → ((z : List ℕ) → Contains xs z → Contains ys z) → length xs ≤ length ys
length_within [] ys p q within = omega arith
length_within (x ∷ xs) [] p q within = absurd (contains_none x (within x (contains_head x xs)))
length_within (x ∷ xs) (y ∷ ys) p q within =
    elim (contains_cons y ys x (within x (contains_head x xs))) [
      | inl same ↦
          let rest : (z : List ℕ) → Contains xs z → Contains ys z = λ z h.
          other_than_head y ys z (λ e. before_differs x z (All-contains (λ z. comes_before x z ≡ true) xs z p.0 h) (sym same ∙ e)) (within z (contains_tail x xs z h)) in
          omega (arith, length_within xs ys p.1 q.1 rest)
      | inr later ↦
          let y_first : comes_before y x ≡ true = All-contains (λ z. comes_before y z ≡ true) ys x q.0 later in
          let rest : (z : List ℕ) → Contains (x ∷ xs) z → Contains ys z = λ z h.
          elim (contains_cons x xs z h) [
            | inl e ↦ subst (λ (w : List ℕ). Contains ys w) e later
            | inr t ↦ other_than_head y ys z (before_differs y z (before_transitive y x z y_first (All-contains (λ z. comes_before x z ≡ true) xs z p.0 t))) (within z h)
          ] in
          omega (arith, length_within (x ∷ xs) ys p q.1 rest)
    ]

-- two lists in order with the same members are the same list
pub same_from_members : (xs ys : List (List ℕ)) → Ordered xs → Ordered ys → ((z : List ℕ) → Contains xs z → Contains ys z) → ((z : List ℕ) → Contains ys z → Contains xs z) → xs ≡ ys
same_from_members [] [] p q there back = refl
same_from_members [] (y ∷ ys) p q there back = absurd (contains_none y (back y (contains_head y ys)))
same_from_members (x ∷ xs) [] p q there back = absurd (contains_none x (there x (contains_head x xs)))
same_from_members (x ∷ xs) (y ∷ ys) p q there back =
    elim (contains_cons y ys x (there x (contains_head x xs))) [
      | inl same ↦
          let rest : (z : List ℕ) → Contains xs z → Contains ys z = λ z h.
          other_than_head y ys z (λ e. before_differs x z (All-contains (λ z. comes_before x z ≡ true) xs z p.0 h) (sym same ∙ e)) (there z (contains_tail x xs z h)) in
          let rest_back : (z : List ℕ) → Contains ys z → Contains xs z = λ z h.
          other_than_head x xs z (λ e. before_differs y z (All-contains (λ z. comes_before y z ≡ true) ys z q.0 h) (same ∙ e)) (back z (contains_tail y ys z h)) in
          let tails : xs ≡ ys = same_from_members xs ys p.1 q.1 rest rest_back in
          cc
      | inr later ↦
          let y_first : comes_before y x ≡ true = All-contains (λ z. comes_before y z ≡ true) ys x q.0 later in
          elim (contains_cons x xs y (back y (contains_head y ys))) [
            | inl e ↦ absurd (before_differs y x y_first (sym e))
            | inr t ↦ absurd (before_irreflexive y (before_transitive y x y y_first (All-contains (λ z. comes_before x z ≡ true) xs y p.0 t)))
          ]
    ]

-- a list in order goes on with another, where all of the first come before all of the second
pub Ordered-append : (xs ys : List (List ℕ)) → Ordered xs → Ordered ys → ((x y : List ℕ) → Contains xs x → Contains ys y → comes_before x y ≡ true) → Ordered (xs ++ ys)
Ordered-append [] ys p q across = q
Ordered-append (x ∷ xs) ys p q across = (
  All-append (λ z. comes_before x z ≡ true) xs ys p.0 (λ k d below. across x (get_or ys k d) (contains_head x xs) (Contains-get_or ys k d below)),
  Ordered-append xs ys p.1 q (λ z y h k. across z y (contains_tail x xs z h) k),
)
