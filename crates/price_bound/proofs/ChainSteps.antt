-- One chain more: after its path is put on its trips, the picks are first paths along it and along the chains before
-- it.
use Rattle.std.proofs.Common.{◌≡◌, ℕ, zero, suc, ◌+◌, ◌<◌, ◌≤◌, List, [], ◌∷◌, ◌++◌, length, take, Some, None, sym, ap}
use Rattle.std.proofs.Common.{subst, arith, ◌+ℤ◌, ℤ, slice_get, inl, inr}
use Rattle.std.specs.List.{All}
use Rattle.std.proofs.lemmas.Bool.{cases_lt}
use Rattle.std.proofs.lemmas.List.Elements.{All-head, All-tail}
use Rattle.timetable.specs.Chains.{AreChains, IsChain, chains_of, times_in}
use Rattle.timetable.specs.Compositions.{compositions_of}
use Rattle.timetable.specs.Lists.{count_of}
use Rattle.transitions.specs.Edges.{AreGraphs}
use Rattle.price_bound.specs.declared.cells.Cell.{Cell}
use Rattle.price_bound.specs.CellRows.{put_along}
use Rattle.price_bound.specs.ChainStages.{Priced, AreFirstPaths, stages_of}
use Rattle.price_bound.specs.FirstPaths.{LacksPath}
use Rattle.price_bound.specs.Paths.{begin_of, rows_of, path_from}
use Rattle.price_bound.proofs.PutPaths.{kept_first, no_begin, one_more_first, path_first}

-- a list up to a place and the entry there
taken_more : (lists : List (List ℕ)) (i : ℕ) (list : List ℕ) → slice_get lists i ≡ Some list → take (suc i) lists ≡ take i lists ++ list ∷ []
taken_more [] i list at = absurd cc
taken_more (x ∷ lists) zero list at =
    let some : Some x ≡ Some list = at in
    let same : x ≡ list = cc in
    ap (λ (l : List ℕ). l ∷ []) same
taken_more (x ∷ lists) (suc i) list at = ap (λ (ls : List (List ℕ)). x ∷ ls) (taken_more lists i list at)

times_split : (lists : List (List ℕ)) (i u : ℕ) (list : List ℕ) → slice_get lists i ≡ Some list → times_in (take i lists) u + count_of u list ≤ times_in lists u
times_split [] i u list at = absurd cc
times_split (x ∷ lists) zero u list at =
    let some : Some x ≡ Some list = at in
    let same : x ≡ list = cc in
    omega (arith, ap (count_of u) same)
times_split (x ∷ lists) (suc i) u list at = omega (arith, times_split lists i u list at)

chain_at : (P : List ℕ → Type 0) (lists : List (List ℕ)) (i : ℕ) (list : List ℕ) → All P lists → slice_get lists i ≡ Some list → P list
chain_at P [] i list each at = absurd cc
chain_at P (x ∷ lists) zero list each at =
    let some : Some x ≡ Some list = at in
    let same : x ≡ list = cc in
    subst P same (All-head P x lists each)
chain_at P (x ∷ lists) (suc i) list each at = chain_at P lists i list (All-tail P x lists each) at

module _ (priced : Priced) (graphs : AreGraphs priced.day priced.graphs) (chains : AreChains priced.day (chains_of priced.day)) (i : ℕ) (chain : List ℕ)
    (at : slice_get (chains_of priced.day) i ≡ Some chain) where
  once : (u : ℕ) → times_in (chains_of priced.day) u ≤ 1
  once u = elim (cases_lt u (length priced.day.trips)) [ inl lt ↦ omega (arith, chains.once u lt) | inr past ↦ omega (arith, chains.known u past) ]

  below : (u : ℕ) → 1 ≤ count_of u chain → u < length priced.day.trips
  below u there = elim (cases_lt u (length priced.day.trips)) [ inl lt ↦ lt | inr past ↦ absurd (omega (arith, there, times_split (chains_of priced.day) i u chain at, chains.known u past)) ]

  pub some_trip : (c : List ℕ) → IsChain priced.day c → 1 ≤ length c
  some_trip [] is = absurd is.begins
  some_trip (t ∷ ts) is = omega arith

  is_chain : IsChain priced.day chain
  is_chain = chain_at (IsChain priced.day) (chains_of priced.day) i chain chains.each at

  pub next_first : (picks : List ℕ) (value : ℤ) (begin : Cell) → length picks ≡ length priced.day.trips → AreFirstPaths priced (take i (chains_of priced.day)) picks value
      → begin_of (rows_of (length (compositions_of priced.day)) (stages_of priced chain)) ≡ Some begin
      → AreFirstPaths priced (take (suc i) (chains_of priced.day)) (put_along chain (path_from (rows_of (length (compositions_of priced.day)) (stages_of priced chain)) begin.next) picks) (value +ℤ begin.value)
  next_first picks value begin long done found =
      let path : List ℕ = path_from (rows_of (length (compositions_of priced.day)) (stages_of priced chain)) begin.next in
      subst (λ (lists : List (List ℕ)). AreFirstPaths priced lists (put_along chain path picks) (value +ℤ begin.value)) (sym (taken_more (chains_of priced.day) i chain at))
      (one_more_first priced (take i (chains_of priced.day)) chain (put_along chain path picks) value begin.value
      (kept_first priced (take i (chains_of priced.day)) chain path picks value (λ u there. omega (arith, there, once u, times_split (chains_of priced.day) i u chain at)) done)
      (path_first priced graphs chain picks begin (λ u. omega (arith, once u, times_split (chains_of priced.day) i u chain at)) (λ u there. omega (arith, below u there, long)) (some_trip chain is_chain) found))

  pub lacks : begin_of (rows_of (length (compositions_of priced.day)) (stages_of priced chain)) ≡ None → LacksPath priced
  lacks none = record { number = i; chain = chain; at = at; none = no_begin priced graphs chain (some_trip chain is_chain) none }
