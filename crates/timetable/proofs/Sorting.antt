-- A list that is sorted by a number, with ties in a given order, is the only one.
use Rattle.std.proofs.Common.{◌≡◌, ℕ, suc, ◌<◌, ◌≤◌, List, [], ◌∷◌, length, get_or, filter, Bool, true, false, cond}
use Rattle.std.proofs.Common.{not, ◌&&◌, eqb, ltb, Less, Equal, Greater, refl, sym, ap, ◌∙◌, arith, eq-eqb, ne_eqb}
use Rattle.std.proofs.Common.{⊎_elim, ◌≢◌, ◌⊎◌, inl, inr}
use Rattle.std.specs.List.Sorted.{IsNonDecreasingBy, IsSortedByKey, IsStableByKey, ties}
use Rattle.std.specs.Prelude.{◌==◌}
use Rattle.std.specs.Ordering.{nat_cmp, is_lt}
use Rattle.std.specs.Borrow.{Bor}
use Rattle.std.specs.Fn.{ComputesKey, Called}
use denote.Param.Members.{Mut}
use Rattle.std.proofs.lemmas.Bool.{cases_lt}
use Rattle.std.proofs.lemmas.Bool.Decides.{nat_tests}
use Rattle.std.proofs.lemmas.Fn.{always_returns_same}
use Rattle.std.proofs.lemmas.List.Sorted.{IsNonDecreasingBy-from_sort_by_key}

-- each number of the list is at least m
abbrev pub From : {X : Type 0} → (X → ℕ) → ℕ → List X → Type 0
From n m [] = Unit {0}
From n m (x ∷ xs) = (m ≤ n x) × From n m xs

-- the numbers never fall
abbrev pub Rises : {X : Type 0} → (X → ℕ) → List X → Type 0
Rises n [] = Unit {0}
Rises n (x ∷ xs) = From n (n x) xs × Rises n xs

-- the elements with the number k
abbrev pub with_number : {X : Type 0} → (X → ℕ) → ℕ → List X → List X
with_number n k xs = filter (λ x. n x == k) xs

from_places : {X : Type 0} (n : X → ℕ) (m : ℕ) (xs : List X) → ((j : ℕ) (d : X) → j < length xs → m ≤ n (get_or xs j d)) → From n m xs
from_places n m [] h = tt
from_places n m (x ∷ xs) h = (h 0 x (omega arith), from_places n m xs (λ j d l. h (suc j) d (omega arith)))

rises_from_places : {X : Type 0} (n : X → ℕ) (xs : List X) → IsNonDecreasingBy n xs → Rises n xs
rises_from_places n [] h = tt
rises_from_places n (x ∷ xs) h =
    (from_places n (n x) xs (λ j d l. h 0 (suc j) d (omega arith) (omega arith)), rises_from_places n xs (λ i j d a b. h (suc i) (suc j) d (omega arith) (omega arith)))

-- no element has a smaller number
none_below : {X : Type 0} (n : X → ℕ) (k m : ℕ) (xs : List X) → From n m xs → k < m → with_number n k xs ≡ []
none_below n k m [] h l = refl
none_below n k m (x ∷ xs) h l =
    let other : n x ≢ k = λ e. absurd (omega (arith, h.0)) in
    ap (λ (b : Bool). cond b (x ∷ with_number n k xs) (with_number n k xs)) (ne_eqb (n x) k other) ∙ none_below n k m xs h.1 l

first_with : {X : Type 0} (n : X → ℕ) (k : ℕ) (x : X) (xs : List X) → n x ≡ k → with_number n k (x ∷ xs) ≡ x ∷ with_number n k xs
first_with n k x xs e = ap (λ (b : Bool). cond b (x ∷ with_number n k xs) (with_number n k xs)) (eq-eqb (n x) k e)

not_empty : {X : Type 0} (n : X → ℕ) (k : ℕ) (x : X) (xs : List X) → n x ≡ k → with_number n k (x ∷ xs) ≡ [] → ⊥
not_empty n k x xs e h = let full : x ∷ with_number n k xs ≡ [] = sym (first_with n k x xs e) ∙ h in cc

heads : {X : Type 0} (x y : X) (xs ys : List X) → x ∷ xs ≡ y ∷ ys → x ≡ y
heads x y xs ys h = cc

tails : {X : Type 0} (b : Bool) (x y : X) (xs ys : List X) → cond b (x ∷ xs) xs ≡ cond b (y ∷ ys) ys → xs ≡ ys
tails true x y xs ys h = cc
tails false x y xs ys h = h

-- two lists that never fall are one where they have the same elements of each number, in the same order
pub same_sorted : {X : Type 0} (n : X → ℕ) (xs ys : List X) → Rises n xs → Rises n ys → ((z : X) → with_number n (n z) xs ≡ with_number n (n z) ys) → xs ≡ ys
same_sorted n [] [] rx ry h = refl
same_sorted n [] (y ∷ ys) rx ry h = absurd (not_empty n (n y) y ys refl (sym (h y)))
same_sorted n (x ∷ xs) [] rx ry h = absurd (not_empty n (n x) x xs refl (h x))
same_sorted n (x ∷ xs) (y ∷ ys) rx ry h =
    ⊎_elim first_below (λ le. ⊎_elim second_below (together (λ r s k. same_sorted n xs ys r s k)) (cases_eq_or_below le)) (cases_lt (n x) (n y))
  where
    cases_eq_or_below : n y ≤ n x → (n y < n x) ⊎ (n x ≡ n y)
    cases_eq_or_below le = ⊎_elim (λ l. inl l) (λ ge. inr (omega arith)) (cases_lt (n y) (n x))

    first_below : n x < n y → x ∷ xs ≡ y ∷ ys
    first_below l = absurd (not_empty n (n x) x xs refl (h x ∙ none_below n (n x) (n y) (y ∷ ys) (omega arith, ry.0) l))

    second_below : n y < n x → x ∷ xs ≡ y ∷ ys
    second_below l = absurd (not_empty n (n y) y ys refl (sym (h y) ∙ none_below n (n y) (n x) (x ∷ xs) (omega arith, rx.0) l))

    together : (Rises n xs → Rises n ys → ((z : _) → with_number n (n z) xs ≡ with_number n (n z) ys) → xs ≡ ys) → n x ≡ n y → x ∷ xs ≡ y ∷ ys
    together later e =
        let same : x ≡ y = heads x y _ _ (sym (first_with n (n x) x xs refl) ∙ h x ∙ first_with n (n x) y ys (sym e)) in
        let rest : xs ≡ ys = later rx.1 ry.1 (λ z. tails (n x == n z) x y _ _ (h z ∙ ap (λ (k : ℕ). cond (k == n z) (y ∷ with_number n (n z) ys) (with_number n (n z) ys)) (sym e))) in
        cc

-- ---- what a stable sort by a number leaves

by_less : (x y : Bool) → is_lt (cond x Less (cond y Equal Greater)) ≡ x
by_less true y = refl
by_less false true = refl
by_less false false = refl

nat_cmp-ltb : (a b : ℕ) → is_lt (nat_cmp a b) ≡ ltb a b
nat_cmp-ltb a b = by_less (ltb a b) (eqb a b)

neither : (a b : ℕ) → not (ltb a b) && not (ltb b a) ≡ (b == a)
neither a b = grind (arith, nat_tests)

-- two numbers tie where they are one
numbers_tie : (a b : ℕ) → not (is_lt (nat_cmp a b)) && not (is_lt (nat_cmp b a)) ≡ (b == a)
numbers_tie a b = ap (λ (p : Bool). not p && not (is_lt (nat_cmp b a))) (nat_cmp-ltb a b) ∙ ap (λ (q : Bool). not (ltb a b) && not q) (nat_cmp-ltb b a) ∙ neither a b

ties_filter : {X : Type 0} (n : X → ℕ) (x : X) (xs : List X) → filter (ties (λ a b. is_lt (nat_cmp (n a) (n b))) x) xs ≡ with_number n (n x) xs
ties_filter n x [] = refl
ties_filter n x (y ∷ xs) =
    ap (λ (l : List _). cond (ties (λ a b. is_lt (nat_cmp (n a) (n b))) x y) (y ∷ l) l) (ties_filter n x xs)
    ∙ ap (λ (b : Bool). cond b (y ∷ with_number n (n x) xs) (with_number n (n x) xs)) (numbers_tie (n x) (n y))

-- A stable sort by a number, which each call of its closure gives, leaves the list whose numbers never fall and that
-- has the elements of each number in the order in which they were.
pub stable_sort_is : {X F : Type 0} (n : X → ℕ) {g : Mut F (Bor X × Unit {0}) ℕ} {f : F} (xs sorted goal : List X)
    → ((key : X → ℕ) → ComputesKey g key f → IsSortedByKey key nat_cmp sorted)
    → ((key : X → ℕ) → ComputesKey g key f → IsStableByKey key nat_cmp xs sorted)
    → ((a : Bor X × Unit {0}) (r : ℕ) (f' : F) → Called g f a r f' → (r ≡ n a.0.now) × (f' ≡ f))
    → Rises n goal → ((k : ℕ) → with_number n k goal ≡ with_number n k xs) → sorted ≡ goal
stable_sort_is n {g = g} {f = f} xs sorted goal up stable each rises same =
    same_sorted n sorted goal (rises_from_places n sorted (IsNonDecreasingBy-from_sort_by_key n sorted up each)) rises
    (λ x. sym (ties_filter n x sorted) ∙ stable n (always_returns_same g (λ a r. r ≡ n a.0.now) f each) x ∙ ties_filter n x xs ∙ sym (same (n x)))
