-- The least values over a tree of numbers, by two passes. One from the lowest number on finds for each the least over
-- those that it is made of; one from the highest down finds the least over those that are made of it.
use Rattle.std.proofs.Common.{◌≡◌, ◌≢◌, ℕ, zero, suc, ◌<◌, ◌≤◌, ◌⊎◌, Bool, true, false, refl, sym, ap, ◌∙◌, subst, arith}
use Rattle.std.proofs.Common.{ℤ, ◌+ℤ◌, ◌≤ℤ◌, inl, inr, int_lt}
use Rattle.std.specs.Prelude.{if◌then◌else◌}
use Rattle.std.proofs.lemmas.Bool.{cases_eq}
use Rattle.std.proofs.lemmas.Int.{ints, by_lt_z}
use Rattle.price_bound.specs.LeastOverTrees.{IsLeastOver, IsOver, lower}

-- Each number below n has a rest, which is lower, or the root, which is n. A number is made of another (Of) where it is
-- itself, or its rest is made of that one.
pub record IsTree (Of : ℕ → ℕ → Type 0) (rest : ℕ → ℕ) (n : ℕ) : Type 0 where
  pub falls : (c : ℕ) → c < n → (rest c < c) ⊎ (rest c ≡ n)
  pub itself : (c : ℕ) → c < n → Of c c
  pub more : (c a : ℕ) → c < n → Of (rest c) a → Of c a
  pub parts : (c a : ℕ) → c < n → Of c a → (c ≡ a) ⊎ Of (rest c) a
  pub root : (a : ℕ) → Of n a → ⊥
  pub join : (c q p : ℕ) → q < n → p < n → rest q ≡ p → Of c q → Of c p
  pub along : (c p : ℕ) → Of c p → (c ≡ p) ⊎ ((q : ℕ) × (q < n) × (rest q ≡ p) × Of c q)

-- no number is made of a higher one
pub made_of_lower : (Of : ℕ → ℕ → Type 0) (rest : ℕ → ℕ) (n : ℕ) → IsTree Of rest n → (c a : ℕ) → c < n → Of c a → a ≤ c
made_of_lower Of rest n tree c a below of = below_all (suc c) c (omega arith) below of
  where
    below_all : (k c : ℕ) → c < k → c < n → Of c a → a ≤ c
    below_all zero c under below of = absurd (omega (arith, under))
    below_all (suc k) c under below of = elim (tree.parts c a below of) [
      | inl same ↦ omega (arith, same)
      | inr rests ↦ elim (tree.falls c below) [
        | inl down ↦
            let fewer : a ≤ rest c = below_all k (rest c) (omega (arith, under, down)) (omega (arith, down, below)) rests in
            omega (arith, down, fewer)
        | inr top ↦ absurd (tree.root a (subst (λ (p : ℕ). Of p a) top rests))
      ]
    ]

-- ---- the lower of two

pub data LowerCase (a b : ℤ) : Type 0 where
  first : lower a b ≡ a → a ≤ℤ b → LowerCase a b
  second : lower a b ≡ b → b ≤ℤ a → LowerCase a b

pub lower_case : (a b : ℤ) → LowerCase a b
lower_case a b = on (int_lt b a) refl
  where
    less : (x y : ℤ) → int_lt x y ≡ true → x ≤ℤ y
    less x y e = by_lt_z x y (λ p. omega (arith, ints, p)) (λ q. absurd (omega (arith, ints, e, q)))

    most : (x y : ℤ) → int_lt x y ≡ false → y ≤ℤ x
    most x y e = by_lt_z x y (λ p. absurd (omega (arith, ints, e, p))) (λ q. q)

    on : (t : Bool) → int_lt b a ≡ t → LowerCase a b
    on true e = second (ap (λ (t : Bool). if t then b else a) e) (less b a e)
    on false e = first (ap (λ (t : Bool). if t then b else a) e) (most b a e)

-- the least over some, and over others, is the lower of both
pub least_of_both : (Over More All : ℕ → Type 0) (value : ℕ → ℤ) (none a b : ℤ) → ((c : ℕ) → All c → Over c ⊎ More c)
    → ((c : ℕ) → Over c → All c) → ((c : ℕ) → More c → All c) → IsLeastOver Over value none a → IsLeastOver More value none b
    → IsLeastOver All value none (lower a b)
least_of_both Over More All value none a b part one two p q = on (lower_case a b)
  where
    less : (x y z : ℤ) → x ≤ℤ y → y ≤ℤ z → x ≤ℤ z
    less x y z e f = omega (arith, ints, e, f)

    of : (least : ℤ) → least ≤ℤ a → least ≤ℤ b → ((none ≤ℤ least) ⊎ ((c : ℕ) × All c × (value c ≡ least))) → IsLeastOver All value none least
    of least under_a under_b reached = record {
      reached = reached;
      below = λ c all. elim (part c all) [
        | inl over ↦ less least a (value c) under_a (p.below c over)
        | inr more ↦ less least b (value c) under_b (q.below c more)
      ];
    }

    on : LowerCase a b → IsLeastOver All value none (lower a b)
    on (first same under) = subst (IsLeastOver All value none) (sym same) (of a (omega (arith, ints)) under (elim p.reached [
      | inl is ↦ inl is
      | inr there ↦ inr (there.0, one there.0 there.1, there.2)
    ]))
    on (second same under) = subst (IsLeastOver All value none) (sym same) (of b under (omega (arith, ints)) (elim q.reached [
      | inl is ↦ inl is
      | inr there ↦ inr (there.0, two there.0 there.1, there.2)
    ]))

pub least_of_one : (value : ℕ → ℤ) (none : ℤ) (c : ℕ) → IsLeastOver (λ a. c ≡ a) value none (value c)
least_of_one value none c = record {
  reached = inr (c, refl, refl);
  below = λ a same. subst (λ (k : ℕ). value c ≤ℤ value k) same (level (value c));
}
  where
    level : (x : ℤ) → x ≤ℤ x
    level x = omega (arith, ints)

pub least_of_none : (Over : ℕ → Type 0) (value : ℕ → ℤ) (none least : ℤ) → none ≤ℤ least → ((a : ℕ) → Over a → ⊥) → IsLeastOver Over value none least
least_of_none Over value none least high never = record {
  reached = inl high;
  below = λ a over. absurd (never a over);
}

-- the same over what is the same
pub least_same : (Over Other : ℕ → Type 0) (value : ℕ → ℤ) (none least : ℤ) → ((a : ℕ) → Over a → Other a) → ((a : ℕ) → Other a → Over a)
    → IsLeastOver Over value none least → IsLeastOver Other value none least
least_same Over Other value none least to back p = record {
  reached = elim p.reached [ inl is ↦ inl is | inr there ↦ inr (there.0, to there.0 there.1, there.2) ];
  below = λ a other. p.below a (back a other);
}

-- all values, none and the least by the same more
pub least_more : (Over : ℕ → Type 0) (value other : ℕ → ℤ) (none least by : ℤ) → ((a : ℕ) → Over a → other a ≡ (value a +ℤ by))
    → IsLeastOver Over value none least → IsLeastOver Over other (none +ℤ by) (least +ℤ by)
least_more Over value other none least by each p = record {
  reached = elim p.reached [
    | inl high ↦ inl (more none least high)
    | inr there ↦ inr (there.0, there.1, each there.0 there.1 ∙ ap (λ (x : ℤ). x +ℤ by) there.2)
  ];
  below = λ a over. subst (λ (x : ℤ). (least +ℤ by) ≤ℤ x) (sym (each a over)) (more least (value a) (p.below a over));
}
  where
    more : (x y : ℤ) → x ≤ℤ y → (x +ℤ by) ≤ℤ (y +ℤ by)
    more x y e = omega (arith, ints, e)

-- ---- from the lowest number on

module _ (Of : ℕ → ℕ → Type 0) (rest : ℕ → ℕ) (n : ℕ) (tree : IsTree Of rest n) (value : ℕ → ℤ) (none : ℤ) where
  -- with the least over what the rest is made of, the least over what the number is made of
  pub up_more : (c : ℕ) → c < n → (fewer : ℤ) → IsLeastOver (Of (rest c)) value none fewer → IsLeastOver (Of c) value none (lower fewer (value c))
  up_more c below fewer least =
      least_of_both (Of (rest c)) (λ a. c ≡ a) (Of c) value none fewer (value c)
      (λ a of. elim (tree.parts c a below of) [ inl same ↦ inr same | inr rests ↦ inl rests ])
      (λ a rests. tree.more c a below rests)
      (λ a same. subst (Of c) same (tree.itself c below))
      least (least_of_one value none c)

  pub up_root : (least : ℤ) → none ≤ℤ least → IsLeastOver (Of n) value none least
  up_root least high = least_of_none (Of n) value none least high tree.root

  -- the values at the root and at each number below a place, which the pass has come to
  pub record AreUp (at : ℕ) (shorter : ℕ → ℤ) : Type 0 where
    pub root : none ≤ℤ shorter n
    pub each : (c : ℕ) → c < at → IsLeastOver (Of c) value none (shorter c)

  -- the least over what the rest of a number is made of, and the number is not
  pub up_rest : (at : ℕ) → at < n → (shorter : ℕ → ℤ) → AreUp at shorter → IsLeastOver (Of (rest at)) value none (shorter (rest at))
  up_rest at below shorter done = elim (tree.falls at below) [
    | inl down ↦ done.each (rest at) down
    | inr top ↦ subst (λ (k : ℕ). IsLeastOver (Of k) value none (shorter k)) (sym top) (up_root (shorter n) done.root)
  ]

  pub up_none : (shorter : ℕ → ℤ) → none ≤ℤ shorter n → AreUp 0 shorter
  up_none shorter high = record { root = high; each = λ c under. absurd (omega (arith, under)) }

  pub up_one : (at : ℕ) → at < n → (shorter new : ℕ → ℤ) → AreUp at shorter → new at ≡ lower (shorter (rest at)) (value at)
      → ((c : ℕ) → c ≢ at → new c ≡ shorter c) → AreUp (suc at) new
  up_one at below shorter new done here others = record {
    root = subst (λ (x : ℤ). none ≤ℤ x) (sym (others n (λ same. absurd (omega (arith, same, below))))) done.root;
    each = λ c under. elim (cases_eq c at) [
      | inl same ↦ subst (λ (k : ℕ). IsLeastOver (Of k) value none (new k)) (sym same)
          (subst (IsLeastOver (Of at) value none) (sym here) (up_more at below (shorter (rest at)) (up_rest at below shorter done)))
      | inr differ ↦ subst (IsLeastOver (Of c) value none) (sym (others c differ)) (done.each c (omega (arith, under, differ)))
    ];
  }

  -- ---- from the highest number down: each lowers the value at its rest alone

  -- the values while numbers from a place on are done
  pub record AreDown (from : ℕ) (longer : ℕ → ℤ) : Type 0 where
    pub each : (p : ℕ) → p ≤ n → IsLeastOver (IsOver Of rest n from p) value none (longer p)

  module _ (at : ℕ) (below : at < n) where
    rest_within : rest at ≤ n
    rest_within = elim (tree.falls at below) [
      | inl down ↦ omega (arith, below, down)
      | inr top ↦ omega (arith, top)
    ]

    wider : (p c : ℕ) → IsOver Of rest n (suc at) p c → IsOver Of rest n at p c
    wider p c over = (over.0, omega (arith, over.1), over.2, over.3, over.4)

    -- what is made of the number at the place is itself, or is made of a later one
    made_of : (c : ℕ) → Of c at → (at ≡ c) ⊎ IsOver Of rest n (suc at) at c
    made_of c of = elim (tree.along c at of) [
      | inl same ↦ inl (sym same)
      | inr there ↦ inr (there.0, above there.0 there.1 there.2, there.1, there.2, there.3)
    ]
      where
        above : (q : ℕ) → q < n → rest q ≡ at → suc at ≤ q
        above q within same = elim (tree.falls q within) [
          | inl down ↦ omega (arith, same, down)
          | inr top ↦ absurd (omega (arith, same, top, below))
        ]

    over_of : (c : ℕ) → IsOver Of rest n (suc at) at c → Of c at
    over_of c over = tree.join c over.0 at over.2 below over.3 over.4

    by_place : (p c : ℕ) → IsOver Of rest n at p c → IsOver Of rest n (suc at) p c ⊎ ((rest at ≡ p) × Of c at)
    by_place p c over = elim (cases_eq over.0 at) [
      | inl here ↦ inr (ap rest (sym here) ∙ over.3, subst (Of c) here over.4)
      | inr differ ↦ inl (over.0, omega (arith, over.1, differ), over.2, over.3, over.4)
    ]

    -- the least over what is made of the number at the place
    down_here : (longer : ℕ → ℤ) → AreDown (suc at) longer → IsLeastOver (λ c. Of c at) value none (lower (longer at) (value at))
    down_here longer done =
        least_of_both (IsOver Of rest n (suc at) at) (λ c. at ≡ c) (λ c. Of c at) value none (longer at) (value at)
        (λ c of. elim (made_of c of) [ inl same ↦ inr same | inr over ↦ inl over ])
        (λ c over. over_of c over)
        (λ c same. subst (λ (k : ℕ). Of k at) same (tree.itself at below))
        (done.each at (omega (arith, below))) (least_of_one value none at)

    -- one number more, whose rest's value is lowered
    pub down_one : (longer new : ℕ → ℤ) → AreDown (suc at) longer
        → new (rest at) ≡ lower (longer (rest at)) (lower (longer at) (value at))
        → ((p : ℕ) → p ≢ rest at → new p ≡ longer p) → AreDown at new
    down_one longer new done here others = record {
      each = λ p within. elim (cases_eq p (rest at)) [
        | inl same ↦ subst (λ (k : ℕ). IsLeastOver (IsOver Of rest n at k) value none (new k)) (sym same)
            (subst (IsLeastOver (IsOver Of rest n at (rest at)) value none) (sym here)
            (least_of_both (IsOver Of rest n (suc at) (rest at)) (λ c. Of c at) (IsOver Of rest n at (rest at))
            value none (longer (rest at)) (lower (longer at) (value at))
            (λ c over. elim (by_place (rest at) c over) [ inl old ↦ inl old | inr new_one ↦ inr new_one.1 ])
            (λ c over. wider (rest at) c over)
            (λ c of. (at, omega arith, below, refl, of))
            (done.each (rest at) rest_within) (down_here longer done)))
        | inr differ ↦ subst (IsLeastOver (IsOver Of rest n at p) value none) (sym (others p differ))
            (least_same (IsOver Of rest n (suc at) p) (IsOver Of rest n at p) value none (longer p)
            (λ c over. wider p c over)
            (λ c over. elim (by_place p c over) [
              | inl old ↦ old
              | inr new_one ↦ absurd (differ (sym new_one.0))
            ])
            (done.each p within))
      ];
    }
