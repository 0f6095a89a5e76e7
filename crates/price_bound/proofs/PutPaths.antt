-- Picks that get the compositions of a path along a chain: along it they are the path, and other trips keep their
-- picks.
use Rattle.std.proofs.Common.{◌≡◌, ℕ, suc, ◌<◌, ◌≤◌, List, [], ◌∷◌, ◌++◌, length, set, Option, Some, None, refl, sym}
use Rattle.std.proofs.Common.{ap, ◌∙◌, subst, arith, ℤ, pos, ◌+ℤ◌, inl, inr, slice_get, unwrap_or, length-set, Contains}
use Rattle.std.specs.Prelude.{◌&&◌, nat_lt}
use Rattle.std.specs.List.{All}
use Rattle.std.proofs.lemmas.Bool.{and_parts, cases_eq, ltb-true}
use Rattle.std.proofs.lemmas.Int.{ints}
use Rattle.std.proofs.lemmas.List.{get_or-set_same, get_or-set_other}
use Rattle.std.proofs.lemmas.List.Elements.{All-nil, All-cons}
use Rattle.std.proofs.lemmas.Option.{cond_some}
use Rattle.timetable.specs.Admissible.{is_admissible}
use Rattle.timetable.specs.Chains.{times_in}
use Rattle.timetable.specs.Compositions.{compositions_of, composition_at}
use Rattle.timetable.specs.Links.{outgoing}
use Rattle.timetable.specs.Lists.{count_of}
use Rattle.timetable.proofs.Ones.{one_same}
use Rattle.transitions.specs.declared.edge.Edge.{Edge}
use Rattle.transitions.specs.Edges.{AreEdges, AreGraphs, IsEdge}
use Rattle.branch_tree.specs.Regions.{has}
use Rattle.price_bound.specs.declared.cells.Cell.{Cell}
use Rattle.price_bound.specs.CellRows.{put_along}
use Rattle.price_bound.specs.ChainStages.{Priced, along, AreFirstPaths, edges_of, may_have, stage_of, stages_of}
use Rattle.price_bound.specs.ChainStages.{priced_cost_of}
use Rattle.price_bound.specs.FollowingPicks.{pick_of}
use Rattle.price_bound.specs.Paths.{IsFirstPath, IsOver, IsPath, begin_of, rows_of, path_from}
use Rattle.price_bound.proofs.Begins.{first_path}
use Rattle.price_bound.proofs.Solving.{AreListed, edge_listed}

-- ---- picks along a chain

pub length-put : (chain path picks : List ℕ) → length (put_along chain path picks) ≡ length picks
length-put [] path picks = refl
length-put (t ∷ ts) [] picks = refl
length-put (t ∷ ts) (comp ∷ path) picks = length-put ts path (set picks t comp) ∙ length-set picks t comp

put_other : (chain path picks : List ℕ) (u : ℕ) → count_of u chain ≡ 0 → pick_of (put_along chain path picks) u ≡ pick_of picks u
put_other [] path picks u none = refl
put_other (t ∷ ts) [] picks u none = refl
put_other (t ∷ ts) (comp ∷ path) picks u none = elim (cases_eq t u) [
  | inl same ↦ absurd (omega (arith, none, one_same t u same))
  | inr differ ↦ put_other ts path (set picks t comp) u (omega (arith, none)) ∙ get_or-set_other picks t u comp 0 (λ e. differ (sym e))
]

along_same : (p q : List ℕ) (chain : List ℕ) → ((u : ℕ) → 1 ≤ count_of u chain → pick_of p u ≡ pick_of q u) → along p chain ≡ along q chain
along_same p q [] each = refl
along_same p q (t ∷ ts) each =
    ap (λ (m : ℕ). m ∷ along p ts) (each t (omega (arith, one_same t t refl)))
    ∙ ap (λ (ms : List ℕ). pick_of q t ∷ ms) (along_same p q ts (λ u there. each u (omega (arith, there))))

pub put_path : (chain path picks : List ℕ) → length path ≡ length chain → ((u : ℕ) → count_of u chain ≤ 1) → ((u : ℕ) → 1 ≤ count_of u chain → u < length picks)
    → along (put_along chain path picks) chain ≡ path
put_path [] [] picks long once below = refl
put_path [] (comp ∷ path) picks long once below = absurd (omega (arith, long))
put_path (t ∷ ts) [] picks long once below = absurd (omega (arith, long))
put_path (t ∷ ts) (comp ∷ path) picks long once below =
    let elsewhere : count_of t ts ≡ 0 = omega (arith, once t, one_same t t refl) in
    let here : pick_of (put_along ts path (set picks t comp)) t ≡ comp =
    put_other ts path (set picks t comp) t elsewhere ∙ get_or-set_same picks t comp 0 (below t (omega (arith, one_same t t refl))) in
    ap (λ (m : ℕ). m ∷ along (put_along ts path (set picks t comp)) ts) here
    ∙ ap (λ (ms : List ℕ). comp ∷ ms) (put_path ts path (set picks t comp) (omega (arith, long)) (λ u. omega (arith, once u))
    (λ u there. omega (arith, length-set picks t comp, below u (omega (arith, there)))))

put_apart : (chain path picks other : List ℕ) → ((u : ℕ) → 1 ≤ count_of u other → count_of u chain ≡ 0) → along (put_along chain path picks) other ≡ along picks other
put_apart chain path picks other apart = along_same (put_along chain path picks) picks other (λ u there. put_other chain path picks u (apart u there))

-- ---- chains that are done

-- chains that share no trip with another keep their first paths
pub kept_first : (priced : Priced) (chains : List (List ℕ)) (chain path picks : List ℕ) (value : ℤ) → ((u : ℕ) → 1 ≤ times_in chains u → count_of u chain ≡ 0)
    → AreFirstPaths priced chains picks value → AreFirstPaths priced chains (put_along chain path picks) value
kept_first priced [] chain path picks value apart none = none
kept_first priced (first ∷ chains) chain path picks value apart (here, rest, is, others, sum) = (
  here,
  rest,
  subst (λ (ms : List ℕ). IsFirstPath (stages_of priced first) ms here) (sym (put_apart chain path picks first (λ u there. apart u (omega (arith, there))))) is,
  kept_first priced chains chain path picks rest (λ u there. apart u (omega (arith, there))) others,
  sum,
)

pub one_more_first : (priced : Priced) (chains : List (List ℕ)) (chain picks : List ℕ) (value more : ℤ) → AreFirstPaths priced chains picks value
    → IsFirstPath (stages_of priced chain) (along picks chain) more → AreFirstPaths priced (chains ++ chain ∷ []) picks (value +ℤ more)
one_more_first priced [] chain picks value more none is = (more, pos 0, is, refl, plain value more none)
  where
    plain : (a b : ℤ) → a ≡ pos 0 → a +ℤ b ≡ b +ℤ pos 0
    plain a b e = omega (arith, ints, e)
one_more_first priced (first ∷ chains) chain picks value more (here, rest, is_first, others, sum) is = (
  here,
  rest +ℤ more,
  is_first,
  one_more_first priced chains chain picks rest more others is,
  moved value more here rest sum,
)
  where
    moved : (v m h r : ℤ) → v ≡ h +ℤ r → v +ℤ m ≡ h +ℤ (r +ℤ m)
    moved v m h r e = omega (arith, ints, e)

-- ---- the stages of a day are over its compositions

no_edge : (edge : Edge) → Contains [] edge → ⊥
no_edge edge there = absurd (omega (arith, there.1))

module _ (priced : Priced) (graphs : AreGraphs priced.day priced.graphs) where
  abbrev comps : ℕ
  comps = length (compositions_of priced.day)

  priced_cost_listed : (t comp : ℕ) (value : ℤ) → priced_cost_of priced t comp ≡ Some value → comp < comps
  priced_cost_listed t comp value e =
      let both = cond_some (may_have priced.day priced.region t comp) _ value e in
      let in_region = and_parts (has priced.region t comp) (nat_lt comp comps && is_admissible priced.day t (composition_at priced.day comp)) both.0 in
      ltb-true comp comps (and_parts (nat_lt comp comps) (is_admissible priced.day t (composition_at priced.day comp)) in_region.1).0

  listed : (l : ℕ) (edge : Edge) → IsEdge priced.day l edge → (edge.from < comps) × (edge.to < comps)
  listed l edge is = let both : AreListed priced.day edge = edge_listed priced.day is.link.kind is.link.reverse edge is.kind in (both.from, both.to)

  over_list : (t l : ℕ) (o : Option (List Edge)) → slice_get priced.graphs l ≡ o → (price : Edge → Option ℤ)
      → IsOver comps (record { priced_cost = priced_cost_of priced t; edges = unwrap_or o []; price = price })
  over_list t l None at price = record { in_order = λ i j d lt below. absurd (omega (arith, below)); edges = λ edge there. absurd (no_edge edge there); priced_costs = priced_cost_listed t }
  over_list t l (Some edges) at price =
      let are : AreEdges priced.day l edges = graphs.each l edges at in
      record { in_order = are.in_order; edges = λ edge there. listed l edge ((are.exact edge).0 there); priced_costs = priced_cost_listed t }

  over_link : (t : ℕ) (o : Option ℕ) (price : Edge → Option ℤ) → IsOver comps (record { priced_cost = priced_cost_of priced t; edges = edges_of priced o; price = price })
  over_link t None price = record { in_order = λ i j d lt below. absurd (omega (arith, below)); edges = λ edge there. absurd (no_edge edge there); priced_costs = priced_cost_listed t }
  over_link t (Some l) price = over_list t l (slice_get priced.graphs l) refl price

  pub stages_over : (chain : List ℕ) → All (IsOver comps) (stages_of priced chain)
  stages_over [] = All-nil (IsOver comps)
  stages_over (t ∷ ts) = All-cons (IsOver comps) (stage_of priced t) (stages_of priced ts) (over_link t (outgoing priced.day t) (stage_of priced t).price) (stages_over ts)

  length-path : (rows : List (List (Option Cell))) (comp : ℕ) → length (path_from rows comp) ≡ length rows
  length-path [] comp = refl
  length-path (row ∷ rows) comp = ap suc (length-path rows _)

  length-rows : (chain : List ℕ) → length (rows_of comps (stages_of priced chain)) ≡ length chain
  length-rows [] = refl
  length-rows (t ∷ ts) = ap suc (length-rows ts)

  -- the path along a chain's rows, put on its trips, is its first path of least value
  pub path_first : (chain picks : List ℕ) (begin : Cell) → ((u : ℕ) → count_of u chain ≤ 1) → ((u : ℕ) → 1 ≤ count_of u chain → u < length picks) → 1 ≤ length chain
      → begin_of (rows_of comps (stages_of priced chain)) ≡ Some begin
      → IsFirstPath (stages_of priced chain) (along (put_along chain (path_from (rows_of comps (stages_of priced chain)) begin.next) picks) chain) begin.value
  path_first [] picks begin once below some found = absurd (omega (arith, some))
  path_first (t ∷ ts) picks begin once below some found =
      let rows : List (List (Option Cell)) = rows_of comps (stages_of priced (t ∷ ts)) in
      let path : List ℕ = path_from rows begin.next in
      subst (λ (ms : List ℕ). IsFirstPath (stages_of priced (t ∷ ts)) ms begin.value)
      (sym (put_path (t ∷ ts) path picks (length-path rows begin.next ∙ length-rows (t ∷ ts)) once below))
      ((first_path comps (stage_of priced t) (stages_of priced ts) (stages_over (t ∷ ts))).some begin found)

  pub no_begin : (chain : List ℕ) → 1 ≤ length chain → begin_of (rows_of comps (stages_of priced chain)) ≡ None
      → (path : List ℕ) (value : ℤ) → IsPath (stages_of priced chain) path value → ⊥
  no_begin [] some none = absurd (omega (arith, some))
  no_begin (t ∷ ts) some none = (first_path comps (stage_of priced t) (stages_of priced ts) (stages_over (t ∷ ts))).none none
