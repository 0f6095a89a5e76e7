-- Picks that are the first path of least value along each chain are the choice for a region, and where a chain has no
-- path nothing is near it.
use Rattle.std.proofs.Common.{◌≡◌, ℕ, zero, suc, ◌<◌, ◌≤◌, ◌⊎◌, List, [], ◌∷◌, length, get_or, map, true, Some, refl}
use Rattle.std.proofs.Common.{sym, ap, ◌∙◌, subst, arith, ℤ, ◌+ℤ◌, ◌<ℤ◌, inl, inr, slice_get}
use Rattle.std.proofs.lemmas.Bool.{cases_eq}
use Rattle.std.proofs.lemmas.Int.{ints}
use Rattle.compositions.specs.Catalogue.{is_lower}
use Rattle.timetable.specs.Accepted.{AreLinks}
use Rattle.timetable.specs.Chains.{AreChains, chains_of}
use Rattle.timetable.specs.Lists.{count_of}
use Rattle.timetable.proofs.Ones.{one_other}
use Rattle.transitions.specs.Edges.{AreGraphs}
use Rattle.branch_tree.specs.Bounds.{IsChoice, IsEmpty, Precedes, in_order}
use Rattle.branch_tree.specs.Meanings as meanings
use Rattle.price_bound.specs.ChainStages.{Priced, along, AreFirstPaths, stages_of}
use Rattle.price_bound.specs.DayMeanings.{one_after_another, trips_by_chain}
use Rattle.price_bound.specs.FollowingPicks.{pick_of}
use Rattle.price_bound.specs.Paths.{IsNoLaterPath, IsPath}
use Rattle.price_bound.specs.Regrouped.{constant_of}
use Rattle.price_bound.proofs.NearPaths.{HavePaths, near_have_paths, paths_are_near, paths_value, regrouped_is}
use Rattle.price_bound.proofs.Ordering.{count_joined}
use Rattle.price_bound.proofs.Regrouped.{IsPricedBy}
use Rattle.price_bound.proofs.Products.{ArePaths, first_are_paths, first_of_all}

-- ---- picks that are the same along a list

heads : (m n : ℕ) (ms ns : List ℕ) → m ∷ ms ≡ n ∷ ns → m ≡ n
heads m n ms ns e = cc

tails : (m n : ℕ) (ms ns : List ℕ) → m ∷ ms ≡ n ∷ ns → ms ≡ ns
tails m n ms ns e = cc

same_at : (p q : List ℕ) (xs : List ℕ) (t : ℕ) → along p xs ≡ along q xs → 1 ≤ count_of t xs → pick_of p t ≡ pick_of q t
same_at p q [] t same there = absurd (omega (arith, there))
same_at p q (x ∷ xs) t same there = elim (cases_eq x t) [
  | inl here ↦ subst (λ (k : ℕ). pick_of p k ≡ pick_of q k) here (heads (pick_of p x) (pick_of q x) (along p xs) (along q xs) same)
  | inr differ ↦ same_at p q xs t (tails (pick_of p x) (pick_of q x) (along p xs) (along q xs) same) (omega (arith, there, one_other x t differ))
]

same_list : (xs ys : List ℕ) → length xs ≡ length ys → ((k : ℕ) → k < length xs → get_or xs k 0 ≡ get_or ys k 0) → xs ≡ ys
same_list [] [] long each = refl
same_list [] (y ∷ ys) long each = absurd (omega (arith, long))
same_list (x ∷ xs) [] long each = absurd (omega (arith, long))
same_list (x ∷ xs) (y ∷ ys) long each =
    let first : x ≡ y = each 0 (omega arith) in
    let rest : xs ≡ ys = same_list xs ys (omega (arith, long)) (λ k lt. each (suc k) (omega (arith, lt))) in
    ap (λ (m : ℕ). m ∷ xs) first ∙ ap (λ (ms : List ℕ). y ∷ ms) rest

module _ (problem : meanings.Meanings) (priced : Priced) (is : IsPricedBy problem priced) (links : AreLinks priced.day) (graphs : AreGraphs priced.day priced.graphs)
    (chains : AreChains priced.day (chains_of priced.day)) (over : length priced.region ≡ length priced.day.trips) where
  abbrev all : List ℕ
  all = one_after_another (chains_of priced.day)

  order_is : (picks : List ℕ) → in_order problem picks ≡ along picks all
  unfolding trips_by_chain
  order_is picks = ap (map (λ trip. get_or picks trip 0)) is.order

  long_of : (picks : List ℕ) → problem.AreNear picks priced.region → length picks ≡ length priced.day.trips
  long_of picks near = (is.to_day picks near).follow.trips

  abbrev value_of : List ℕ → ℤ
  value_of picks = meanings.priced problem priced.entries priced.weight picks

  module _ (best : List ℕ) (long : length best ≡ length priced.day.trips) (value : ℤ) (first : AreFirstPaths priced (chains_of priced.day) best value) where
    paths : ArePaths priced (chains_of priced.day) best value
    paths = first_are_paths priced (chains_of priced.day) best value first

    pub value_is : value_of best ≡ constant_of priced.day priced.entries +ℤ value
    value_is = is.values best long ∙ paths_value priced best links graphs long chains over value paths

    module _ (picks : List ℕ) (near : problem.AreNear picks priced.region) where
      theirs : HavePaths priced picks links graphs (long_of picks near) (chains_of priced.day)
      theirs = near_have_paths priced picks links graphs (long_of picks near) chains over (is.to_day picks near)

      their_value : value_of picks ≡ constant_of priced.day priced.entries +ℤ theirs.value
      their_value = is.values picks (long_of picks near) ∙ regrouped_is priced picks links graphs (long_of picks near) chains theirs.value theirs.total

      in_all : (t : ℕ) → t < length priced.day.trips → 1 ≤ count_of t all
      in_all t lt = let once : count_of t all ≡ 1 = count_joined t (chains_of priced.day) ∙ chains.once t lt in omega (arith, once)

      less : (c v w a b : ℤ) → a ≡ c +ℤ v → b ≡ c +ℤ w → v <ℤ w → a <ℤ b
      less c v w a b e f g = omega (arith, ints, e, f, g)

      level : (c v w a b : ℤ) → a ≡ c +ℤ v → b ≡ c +ℤ w → v ≡ w → a ≡ b
      level c v w a b e f g = omega (arith, ints, e, f, g)

      by_cases : IsNoLaterPath value (along best all) theirs.value (along picks all) → (picks ≡ best) ⊎ Precedes problem (value_of best) best (value_of picks) picks
      by_cases (inl same) = inl (same_list picks best (long_of picks near ∙ sym long)
          (λ k lt. same_at picks best all k same.0 (in_all k (omega (arith, lt, long_of picks near)))))
      by_cases (inr (inl lower)) = inr (inl (less (constant_of priced.day priced.entries) value theirs.value (value_of best) (value_of picks) value_is their_value lower))
      by_cases (inr (inr tie)) = inr (inr (
        level (constant_of priced.day priced.entries) value theirs.value (value_of best) (value_of picks) value_is their_value tie.0,
        subst (λ (ms : List ℕ). is_lower ms (in_order problem picks) ≡ true) (sym (order_is best)) (subst (λ (ms : List ℕ). is_lower (along best all) ms ≡ true) (sym (order_is picks)) tie.1),
      ))

      pub no_later : (picks ≡ best) ⊎ Precedes problem (value_of best) best (value_of picks) picks
      no_later = by_cases (first_of_all priced (chains_of priced.day) best picks value theirs.value first theirs.paths)

    pub choice : IsChoice problem priced.region priced.entries priced.weight best
    choice = record { near = is.from_day best (paths_are_near priced best links graphs long chains over value paths); first = no_later }

  -- ---- nothing is near

  path_at : (lists : List (List ℕ)) (picks : List ℕ) (value : ℤ) (i : ℕ) (chain : List ℕ) → ArePaths priced lists picks value → slice_get lists i ≡ Some chain
      → (here : ℤ) × IsPath (stages_of priced chain) (along picks chain) here
  path_at [] picks value i chain paths at = absurd cc
  path_at (list ∷ lists) picks value zero chain (here, rest, path, paths, sum) at =
      let some : Some list ≡ Some chain = at in
      let same : list ≡ chain = cc in
      (here, subst (λ (c : List ℕ). IsPath (stages_of priced c) (along picks c) here) same path)
  path_at (list ∷ lists) picks value (suc i) chain (here, rest, path, paths, sum) at = path_at lists picks rest i chain paths at

  pub empty : (i : ℕ) (chain : List ℕ) → slice_get (chains_of priced.day) i ≡ Some chain → ((path : List ℕ) (value : ℤ) → IsPath (stages_of priced chain) path value → ⊥)
      → IsEmpty problem priced.region
  empty i chain at none picks near =
      let have : HavePaths priced picks links graphs (long_of picks near) (chains_of priced.day) = near_have_paths priced picks links graphs (long_of picks near) chains over (is.to_day picks near) in
      let (here, path) = path_at (chains_of priced.day) picks have.value i chain have.paths at in
      none (along picks chain) here path
