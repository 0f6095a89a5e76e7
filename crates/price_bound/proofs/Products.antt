-- Chains do not depend on one another: picks that are the first path of least value along each chain are the first of
-- all picks that are paths along each chain, in the order of the chains.
use Rattle.std.proofs.Common.{◌≡◌, ℕ, suc, ◌⊎◌, List, [], ◌∷◌, ◌++◌, length, true, false, eqb, ltb, ◌&&◌, refl, sym, ap}
use Rattle.std.proofs.Common.{◌∙◌, subst, arith, ℤ, pos, ◌+ℤ◌, ◌<ℤ◌, ◌≤ℤ◌, inl, inr}
use Rattle.std.proofs.lemmas.Bool.{and_from, and_parts, eq-eqb, or_cases, or_left, or_right}
use Rattle.std.proofs.lemmas.Int.{ints, by_lt_z}
use Rattle.compositions.specs.Catalogue.{is_lower}
use Rattle.price_bound.specs.ChainStages.{Priced, along, AreFirstPaths, stages_of}
use Rattle.price_bound.specs.DayMeanings.{one_after_another}
use Rattle.price_bound.specs.FollowingPicks.{pick_of}
use Rattle.price_bound.specs.Paths.{IsNoLaterPath}
use Rattle.price_bound.specs.Paths.{IsPath}

-- along each chain the picks are a path, and the values of all of them add up
abbrev pub ArePaths : Priced → List (List ℕ) → List ℕ → ℤ → Type 0
ArePaths priced [] picks value = value ≡ pos 0
ArePaths priced (chain ∷ chains) picks value =
    (here rest : ℤ) × IsPath (stages_of priced chain) (along picks chain) here × ArePaths priced chains picks rest
    × (value ≡ here +ℤ rest)

-- ---- lists in order, one after another

lower_front : (a b x y : List ℕ) → length a ≡ length b → is_lower a b ≡ true → is_lower (a ++ x) (b ++ y) ≡ true
lower_front [] b x y same lower = absurd (let no : false ≡ true = lower in cc)
lower_front (m ∷ a) [] x y same lower = absurd (let no : false ≡ true = lower in cc)
lower_front (m ∷ a) (n ∷ b) x y same lower = elim (or_cases (ltb m n) (eqb m n && is_lower a b) lower) [
  | inl less ↦ or_left (ltb m n) (eqb m n && is_lower (a ++ x) (b ++ y)) less
  | inr tie ↦
      let both = and_parts (eqb m n) (is_lower a b) tie in
      or_right (ltb m n) (eqb m n && is_lower (a ++ x) (b ++ y)) (and_from (eqb m n) (is_lower (a ++ x) (b ++ y)) both.0 (lower_front a b x y (omega (arith, same)) both.1))
]

lower_rest : (a x y : List ℕ) → is_lower x y ≡ true → is_lower (a ++ x) (a ++ y) ≡ true
lower_rest [] x y lower = lower
lower_rest (m ∷ a) x y lower = or_right (ltb m m) (eqb m m && is_lower (a ++ x) (a ++ y)) (and_from (eqb m m) (is_lower (a ++ x) (a ++ y)) (eq-eqb m m refl) (lower_rest a x y lower))

length-along : (picks : List ℕ) (chain : List ℕ) → length (along picks chain) ≡ length chain
length-along picks [] = refl
length-along picks (t ∷ chain) = ap suc (length-along picks chain)

pub along_append : (picks : List ℕ) (chain rest : List ℕ) → along picks (chain ++ rest) ≡ along picks chain ++ along picks rest
along_append picks [] rest = refl
along_append picks (t ∷ chain) rest = ap (λ (ms : List ℕ). pick_of picks t ∷ ms) (along_append picks chain rest)

-- ---- one chain and the rest

module _ (v w v' w' total total' : ℤ) (a b x y : List ℕ) (long : length a ≡ length b) (sum : total ≡ v +ℤ w) (sum' : total' ≡ v' +ℤ w') where
  both_less : (p q r s t u : ℤ) → t ≡ p +ℤ q → u ≡ r +ℤ s → p <ℤ r → q ≤ℤ s → t <ℤ u
  both_less p q r s t u e f g h = omega (arith, ints, e, f, g, h)

  rest_less : (p q r s t u : ℤ) → t ≡ p +ℤ q → u ≡ r +ℤ s → p ≤ℤ r → q <ℤ s → t <ℤ u
  rest_less p q r s t u e f g h = omega (arith, ints, e, f, g, h)

  both_most : (p q r s t u : ℤ) → t ≡ p +ℤ q → u ≡ r +ℤ s → p ≤ℤ r → q ≤ℤ s → t ≤ℤ u
  both_most p q r s t u e f g h = omega (arith, ints, e, f, g, h)

  less_or_level : (p q : ℤ) → p ≤ℤ q → (p <ℤ q) ⊎ (p ≡ q)
  less_or_level p q most = by_lt_z p q (λ less. inl less) (λ least. inr (level p q most least))
    where
      level : (p q : ℤ) → p ≤ℤ q → q ≤ℤ p → p ≡ q
      level p q g h = omega (arith, ints, g, h)

  at_most : (p q : ℤ) (ms ns : List ℕ) → IsNoLaterPath p ms q ns → p ≤ℤ q
  at_most p q ms ns (inl same) = same.1
  at_most p q ms ns (inr (inl less)) = less_most p q less
    where
      less_most : (p q : ℤ) → p <ℤ q → p ≤ℤ q
      less_most p q g = omega (arith, ints, g)
  at_most p q ms ns (inr (inr level)) = equal_most p q level.0
    where
      equal_most : (p q : ℤ) → p ≡ q → p ≤ℤ q
      equal_most p q g = omega (arith, ints, g)

  -- the lists of the chain are one: what is later decides
  same_front : b ≡ a → v ≤ℤ v' → IsNoLaterPath w x w' y → IsNoLaterPath total (a ++ x) total' (b ++ y)
  same_front same most (inl rest) = inl (ap (λ (ms : List ℕ). ms ++ y) same ∙ ap (λ (ms : List ℕ). a ++ ms) rest.0, both_most v w v' w' total total' sum sum' most rest.1)
  same_front same most (inr (inl less)) = inr (inl (rest_less v w v' w' total total' sum sum' most less))
  same_front same most (inr (inr level)) =
      elim (less_or_level total total' (both_most v w v' w' total total' sum sum' most (at_most w w' x y (inr (inr level))))) [
        | inl less ↦ inr (inl less)
        | inr equal ↦ inr (inr (equal, subst (λ (ms : List ℕ). is_lower (a ++ x) (ms ++ y) ≡ true) (sym same) (lower_rest a x y level.1)))
      ]

  pub joined : IsNoLaterPath v a v' b → IsNoLaterPath w x w' y → IsNoLaterPath total (a ++ x) total' (b ++ y)
  joined (inl same) rest = same_front same.0 same.1 rest
  joined (inr (inl less)) rest = inr (inl (both_less v w v' w' total total' sum sum' less (at_most w w' x y rest)))
  joined (inr (inr level)) rest =
      elim (less_or_level total total' (both_most v w v' w' total total' sum sum' (at_most v v' a b (inr (inr level))) (at_most w w' x y rest))) [
        | inl less ↦ inr (inl less)
        | inr equal ↦ inr (inr (equal, lower_front a b x y long level.1))
      ]

-- ---- all chains

pub first_of_all : (priced : Priced) (chains : List (List ℕ)) (best others : List ℕ) (value other : ℤ) → AreFirstPaths priced chains best value → ArePaths priced chains others other
    → IsNoLaterPath value (along best (one_after_another chains)) other (along others (one_after_another chains))
first_of_all priced [] best others value other none none' = inl (refl, zeros value other none none')
  where
    zeros : (a b : ℤ) → a ≡ pos 0 → b ≡ pos 0 → a ≤ℤ b
    zeros a b e f = omega (arith, ints, e, f)
first_of_all priced (chain ∷ chains) best others value other (v, w, first, rest, sum) (v', w', path, rest', sum') =
    subst (λ (ms : List ℕ). IsNoLaterPath value ms other (along others (chain ++ one_after_another chains))) (sym (along_append best chain (one_after_another chains)))
    (subst (λ (ms : List ℕ). IsNoLaterPath value (along best chain ++ along best (one_after_another chains)) other ms) (sym (along_append others chain (one_after_another chains)))
    (joined v w v' w' value other (along best chain) (along others chain) (along best (one_after_another chains)) (along others (one_after_another chains))
    (length-along best chain ∙ sym (length-along others chain)) sum sum'
    (first.first (along others chain) v' path) (first_of_all priced chains best others w w' rest rest')))

-- the picks that are first are paths
pub first_are_paths : (priced : Priced) (chains : List (List ℕ)) (picks : List ℕ) (value : ℤ) → AreFirstPaths priced chains picks value → ArePaths priced chains picks value
first_are_paths priced [] picks value none = none
first_are_paths priced (chain ∷ chains) picks value (v, w, first, rest, sum) = (v, w, first.is, first_are_paths priced chains picks w rest, sum)
