-- What leaves the source crosses from the nodes that are reached to the others, so it is at most what may go there.
use Rattle.std.proofs.Common.{◌≡◌, ◌≢◌, ℕ, zero, suc, ◌+◌, ◌≤◌, ◌<◌, Bool, true, false, List, [], ◌∷◌, get_or, map, refl, sym, ap, ◌∙◌, arith, inl, inr, ◌⊎◌}
use Rattle.std.specs.Prelude.{if◌then◌else◌, ◌==◌}
use Rattle.std.specs.List.{All, sum_by}
use Rattle.std.proofs.lemmas.Bool.{cases_Bool, cases_eq, cases_lt, cond-true, cond-false, eq-eqb, eqb-true, false≢true}
use Rattle.std.proofs.lemmas.List.Elements.{All-head, All-tail}
use Rattle.std.proofs.lemmas.List.Sums.{sum_by-cons}
use Rattle.flow_network.specs.declared.network.Arc.{Arc}
use Rattle.flow_network.specs.Flows.{Net, IsFlow, coming_to, empty, is_reached, leaving_from}
use Rattle.flow_network.specs.Laws.{FlowsFillTheirCut, FlowsOutOfReachAreLargest}

-- ---- sums over arcs

sum_add : (f g : Arc → ℕ) (arcs : List Arc) → sum_by (λ a. f a + g a) arcs ≡ sum_by f arcs + sum_by g arcs
sum_add f g [] = refl
sum_add f g (a ∷ arcs) = omega (arith, sum_by-cons (λ (a : Arc). f a + g a) a arcs, sum_by-cons f a arcs, sum_by-cons g a arcs, sum_add f g arcs)

sum_least : (f g : Arc → ℕ) (arcs : List Arc) → All (λ a. f a ≤ g a) arcs → sum_by f arcs ≤ sum_by g arcs
sum_least f g [] each = omega arith
sum_least f g (a ∷ arcs) each =
    omega (arith, sum_by-cons f a arcs, sum_by-cons g a arcs, All-head (λ (a : Arc). f a ≤ g a) a arcs each, sum_least f g arcs (All-tail (λ (a : Arc). f a ≤ g a) a arcs each))

sum_equal : (f g : Arc → ℕ) (arcs : List Arc) → All (λ a. f a ≡ g a) arcs → sum_by f arcs ≡ sum_by g arcs
sum_equal f g [] each = refl
sum_equal f g (a ∷ arcs) each =
    omega (arith, sum_by-cons f a arcs, sum_by-cons g a arcs, All-head (λ (a : Arc). f a ≡ g a) a arcs each, sum_equal f g arcs (All-tail (λ (a : Arc). f a ≡ g a) a arcs each))

sum_nothing : (f : Arc → ℕ) (arcs : List Arc) → All (λ a. f a ≡ 0) arcs → sum_by f arcs ≡ 0
sum_nothing f [] each = refl
sum_nothing f (a ∷ arcs) each = omega (arith, sum_by-cons f a arcs, All-head (λ (a : Arc). f a ≡ 0) a arcs each, sum_nothing f arcs (All-tail (λ (a : Arc). f a ≡ 0) a arcs each))

sum_mapped : (f : Arc → ℕ) (h : Arc → Arc) (arcs : List Arc) → ((a : Arc) → f (h a) ≡ f a) → sum_by f (map h arcs) ≡ sum_by f arcs
sum_mapped f h [] same = refl
sum_mapped f h (a ∷ arcs) same = omega (arith, sum_by-cons f (h a) (map h arcs), sum_by-cons f a arcs, same a, sum_mapped f h arcs same)

when_sum : (b : Bool) (f : Arc → ℕ) (arcs : List Arc) → (if b then sum_by f arcs else 0) ≡ sum_by (λ a. if b then f a else 0) arcs
when_sum true f arcs = refl
when_sum false f arcs = sym (sum_nothing (λ (a : Arc). 0) arcs (λ k d below. refl))

-- ---- sums over nodes

abbrev nodes_sum : (ℕ → ℕ) → ℕ → ℕ
nodes_sum f zero = 0
nodes_sum f (suc n) = nodes_sum f n + f n

nodes_same : (f g : ℕ → ℕ) (n : ℕ) → ((k : ℕ) → k < n → f k ≡ g k) → nodes_sum f n ≡ nodes_sum g n
nodes_same f g zero same = refl
nodes_same f g (suc n) same = omega (arith, nodes_same f g n (λ k below. same k (omega (arith, below))), same n (omega arith))

nodes_add : (f g : ℕ → ℕ) (n : ℕ) → nodes_sum (λ k. f k + g k) n ≡ nodes_sum f n + nodes_sum g n
nodes_add f g zero = refl
nodes_add f g (suc n) = omega (arith, nodes_add f g n)

nodes_none : (f : ℕ → ℕ) (n : ℕ) → ((k : ℕ) → k < n → f k ≡ 0) → nodes_sum f n ≡ 0
nodes_none f zero none = refl
nodes_none f (suc n) none = omega (arith, nodes_none f n (λ k below. none k (omega (arith, below))), none n (omega arith))

-- where one node alone counts
nodes_one : (f : ℕ → ℕ) (n k : ℕ) → k < n → ((j : ℕ) → j ≢ k → f j ≡ 0) → nodes_sum f n ≡ f k
nodes_one f zero k below none = absurd (omega (arith, below))
nodes_one f (suc n) k below none = elim (cases_eq k n) [
  | inl last ↦ (
      let rest = nodes_none f n (λ j under. none j (λ e. absurd (omega (arith, under, e, last)))) in
      let same = ap f last in
      omega (arith, rest, same))
  | inr earlier ↦ (
      let rest = nodes_one f n k (less k n below earlier) none in
      let zero_here = none n (λ e. earlier (sym e)) in
      omega (arith, rest, zero_here))
]
  where
    less : (k n : ℕ) → k < suc n → k ≢ n → k < n
    less k n below differs = elim (cases_lt k n) [
      | inl under ↦ under
      | inr past ↦ absurd (differs (omega (arith, below, past)))
    ]

-- sums over nodes of sums over arcs
nodes_of_arcs : (g : ℕ → Arc → ℕ) (arcs : List Arc) (n : ℕ) → nodes_sum (λ k. sum_by (g k) arcs) n ≡ sum_by (λ a. nodes_sum (λ k. g k a) n) arcs
nodes_of_arcs g [] n = nodes_none (λ k. sum_by (g k) []) n (λ k below. refl)
nodes_of_arcs g (a ∷ arcs) n =
    nodes_same (λ k. sum_by (g k) (a ∷ arcs)) (λ k. g k a + sum_by (g k) arcs) n (λ k below. sum_by-cons (g k) a arcs)
    ∙ nodes_add (λ k. g k a) (λ k. sum_by (g k) arcs) n
    ∙ ap (λ (m : ℕ). nodes_sum (λ k. g k a) n + m) (nodes_of_arcs g arcs n)
    ∙ sym (sum_by-cons (λ (a : Arc). nodes_sum (λ k. g k a) n) a arcs)

-- ---- over the nodes that are reached

module _ (r : ℕ → Bool) where
  -- what leaves or comes to them, arc by arc
  abbrev pub some_of : (Arc → ℕ) → List Arc → ℕ
  some_of end arcs = sum_by (λ a. if r (end a) then a.flow else 0) arcs

  at_nodes : (end : Arc → ℕ) (arcs : List Arc) (n : ℕ) → All (λ a. end a < n) arcs → nodes_sum (λ k. if r k then sum_by (λ a. if end a == k then a.flow else 0) arcs else 0) n ≡ some_of end arcs
  at_nodes end arcs n within =
      nodes_same (λ k. if r k then sum_by (λ a. if end a == k then a.flow else 0) arcs else 0) (λ k. sum_by (λ a. if r k then (if end a == k then a.flow else 0) else 0) arcs) n
      (λ k below. when_sum (r k) (λ a. if end a == k then a.flow else 0) arcs)
      ∙ nodes_of_arcs (λ k a. if r k then (if end a == k then a.flow else 0) else 0) arcs n
      ∙ sum_equal (λ a. nodes_sum (λ k. if r k then (if end a == k then a.flow else 0) else 0) n) (λ a. if r (end a) then a.flow else 0) arcs
      (λ i d below. one (get_or arcs i d) (within i d below))
    where
      other : (b c : Bool) (v : ℕ) → c ≡ false → (if b then (if c then v else 0) else 0) ≡ 0
      other true true v is = absurd (false≢true (sym is))
      other true false v is = refl
      other false c v is = refl

      here : (b c : Bool) (v : ℕ) → c ≡ true → (if b then (if c then v else 0) else 0) ≡ (if b then v else 0)
      here true true v is = refl
      here true false v is = absurd (false≢true is)
      here false c v is = refl

      not_same : (m k : ℕ) → k ≢ m → (m == k) ≡ false
      not_same m k differs = elim (cases_Bool (m == k)) [
        | inl is ↦ absurd (differs (sym (eqb-true m k is)))
        | inr isnt ↦ isnt
      ]

      one : (a : Arc) → end a < n → nodes_sum (λ k. if r k then (if end a == k then a.flow else 0) else 0) n ≡ (if r (end a) then a.flow else 0)
      one a below =
          nodes_one (λ k. if r k then (if end a == k then a.flow else 0) else 0) n (end a) below (λ j differs. other (r j) (end a == j) a.flow (not_same (end a) j differs))
          ∙ here (r (end a)) (end a == end a) a.flow (eq-eqb (end a) (end a) refl)

  module _ (net : Net) (flow : IsFlow net) (starts : r net.source ≡ true) (ends : r net.sink ≡ false) where
    abbrev value : ℕ
    value = leaving_from net.arcs net.source

    none_to_source : coming_to net.arcs net.source ≡ 0
    none_to_source = sum_nothing (λ a. if a.to == net.source then a.flow else 0) net.arcs (λ k d below. not_to (get_or net.arcs k d) (flow.arcs k d below).not_to_source)
      where
        not_to : (a : Arc) → a.to ≢ net.source → (if a.to == net.source then a.flow else 0) ≡ 0
        not_to a differs = elim (cases_Bool (a.to == net.source)) [
          | inl is ↦ absurd (differs (eqb-true a.to net.source is))
          | inr isnt ↦ cond-false {A = ℕ} (a.to == net.source) a.flow 0 isnt
        ]

    at_one : (n : ℕ) → (if r n then coming_to net.arcs n else 0) + (if n == net.source then value else 0) ≡ (if r n then leaving_from net.arcs n else 0)
    at_one n = elim (cases_eq n net.source) [
      | inl same ↦ (
          let there : r n ≡ true = ap r same ∙ starts in
          let comes = cond-true {A = ℕ} (r n) (coming_to net.arcs n) 0 there in
          let leaves = cond-true {A = ℕ} (r n) (leaving_from net.arcs n) 0 there in
          let one = cond-true {A = ℕ} (n == net.source) value 0 (eq-eqb n net.source same) in
          let none = ap (coming_to net.arcs) same in
          let all = ap (leaving_from net.arcs) same in
          omega (arith, comes, leaves, one, none, none_to_source, all))
      | inr differs ↦ elim (cases_Bool (r n)) [
        | inr outside ↦ (
            let comes = cond-false {A = ℕ} (r n) (coming_to net.arcs n) 0 outside in
            let leaves = cond-false {A = ℕ} (r n) (leaving_from net.arcs n) 0 outside in
            let none = other n differs in
            omega (arith, comes, leaves, none))
        | inl inside ↦ (
            let comes = cond-true {A = ℕ} (r n) (coming_to net.arcs n) 0 inside in
            let leaves = cond-true {A = ℕ} (r n) (leaving_from net.arcs n) 0 inside in
            let none = other n differs in
            let kept = flow.kept n differs (λ e. false≢true (sym ends ∙ ap r (sym e) ∙ inside)) in
            omega (arith, comes, leaves, none, kept))
      ]
    ]
      where
        other : (n : ℕ) → n ≢ net.source → (if n == net.source then value else 0) ≡ 0
        other n differs = elim (cases_Bool (n == net.source)) [
          | inl is ↦ absurd (differs (eqb-true n net.source is))
          | inr isnt ↦ cond-false {A = ℕ} (n == net.source) value 0 isnt
        ]

    -- what comes to the nodes that are reached, and what leaves the source, leaves them
    balance : some_of (λ a. a.to) net.arcs + value ≡ some_of (λ a. a.from) net.arcs
    balance =
        let comes = at_nodes (λ a. a.to) net.arcs net.nodes (λ k d below. (flow.arcs k d below).to) in
        let leaves = at_nodes (λ a. a.from) net.arcs net.nodes (λ k d below. (flow.arcs k d below).from) in
        let all = nodes_same (λ n. (if r n then coming_to net.arcs n else 0) + (if n == net.source then value else 0)) (λ n. if r n then leaving_from net.arcs n else 0) net.nodes (λ n below. at_one n) in
        let parts = nodes_add (λ n. if r n then coming_to net.arcs n else 0) (λ n. if n == net.source then value else 0) net.nodes in
        let source = nodes_one (λ n. if n == net.source then value else 0) net.nodes net.source flow.source (λ j differs. elim (cases_Bool (j == net.source)) [
          | inl is ↦ absurd (differs (eqb-true j net.source is))
          | inr isnt ↦ cond-false {A = ℕ} (j == net.source) value 0 isnt
        ]) in
        let here = cond-true {A = ℕ} (net.source == net.source) value 0 (eq-eqb net.source net.source refl) in
        omega (arith, comes, leaves, all, parts, source, here)

  -- nodes without the source and the sink give on what comes to them
  pub kept_in : (net : Net) → IsFlow net → r net.source ≡ false → r net.sink ≡ false → some_of (λ a. a.to) net.arcs ≡ some_of (λ a. a.from) net.arcs
  kept_in net flow starts ends =
      sym (at_nodes (λ a. a.to) net.arcs net.nodes (λ k d below. (flow.arcs k d below).to))
      ∙ nodes_same (λ n. if r n then coming_to net.arcs n else 0) (λ n. if r n then leaving_from net.arcs n else 0) net.nodes (λ n below. each n (cases_Bool (r n)))
      ∙ at_nodes (λ a. a.from) net.arcs net.nodes (λ k d below. (flow.arcs k d below).from)
    where
      each : (n : ℕ) → (r n ≡ true) ⊎ (r n ≡ false) → (if r n then coming_to net.arcs n else 0) ≡ (if r n then leaving_from net.arcs n else 0)
      each n (inl inside) = ap (λ (m : ℕ). if r n then m else 0) (flow.kept n (λ e. false≢true (sym starts ∙ ap r (sym e) ∙ inside)) (λ e. false≢true (sym ends ∙ ap r (sym e) ∙ inside)))
      each n (inr outside) = cond-false {A = ℕ} (r n) (coming_to net.arcs n) 0 outside ∙ sym (cond-false {A = ℕ} (r n) (leaving_from net.arcs n) 0 outside)

  -- what may go from the nodes that are reached to the others
  abbrev pub crossing : Arc → ℕ
  crossing a = if r a.from then (if r a.to then 0 else a.capacity) else 0

  at_most : (a : Arc) → a.flow ≤ a.capacity → (if r a.from then a.flow else 0) ≤ (if r a.to then a.flow else 0) + crossing a
  at_most a within = by (r a.from) (r a.to)
    where
      by : (b c : Bool) → (if b then a.flow else 0) ≤ (if c then a.flow else 0) + (if b then (if c then 0 else a.capacity) else 0)
      by true true = omega arith
      by true false = omega (arith, within)
      by false c = omega arith

  full : (a : Arc) → a.flow ≤ a.capacity → (r a.from ≡ true → a.flow < a.capacity → r a.to ≡ true) → (r a.to ≡ true → 0 < a.flow → r a.from ≡ true)
      → (if r a.from then a.flow else 0) ≡ (if r a.to then a.flow else 0) + crossing a
  full a within along against = by (r a.from) (r a.to) along against
    where
      by : (b c : Bool) → (b ≡ true → a.flow < a.capacity → c ≡ true) → (c ≡ true → 0 < a.flow → b ≡ true)
          → (if b then a.flow else 0) ≡ (if c then a.flow else 0) + (if b then (if c then 0 else a.capacity) else 0)
      by true true along against = omega arith
      by true false along against = elim (cases_lt a.flow a.capacity) [
        | inl less ↦ absurd (false≢true (along refl less))
        | inr whole ↦ omega (arith, within, whole)
      ]
      by false true along against = elim (cases_lt 0 a.flow) [
        | inl some ↦ absurd (false≢true (against refl some))
        | inr none ↦ omega (arith, none)
      ]
      by false false along against = omega arith

-- no flow brings more than may go from nodes with the source and without the sink to the others
pub cuts_bound_flows : (net : Net) (r : ℕ → Bool) → IsFlow net → r net.source ≡ true → r net.sink ≡ false → leaving_from net.arcs net.source ≤ sum_by (crossing r) net.arcs
cuts_bound_flows net r flow starts ends =
    let here = balance r net flow starts ends in
    let no_more = sum_least (λ a. if r a.from then a.flow else 0) (λ a. (if r a.to then a.flow else 0) + crossing r a) net.arcs
    (λ k d below. at_most r (get_or net.arcs k d) (flow.arcs k d below).within) in
    let parts = sum_add (λ a. if r a.to then a.flow else 0) (crossing r) net.arcs in
    omega (arith, here, no_more, parts)

pub flows_fill_their_cut : FlowsFillTheirCut
flows_fill_their_cut net reached flow reach =
    let r : ℕ → Bool = is_reached reached in
    let here = balance r net flow reach.source reach.sink in
    let all_full = sum_equal (λ a. if r a.from then a.flow else 0) (λ a. (if r a.to then a.flow else 0) + crossing r a) net.arcs
    (λ k d below. full r (get_or net.arcs k d) (flow.arcs k d below).within (reach.along k d below) (reach.against k d below)) in
    let parts = sum_add (λ a. if r a.to then a.flow else 0) (crossing r) net.arcs in
    let out : leaving_from net.arcs net.source ≡ sum_by (crossing r) net.arcs = omega (arith, here, all_full, parts) in
    out

pub flows_out_of_reach_are_largest : FlowsOutOfReachAreLargest
flows_out_of_reach_are_largest net reached flow reach other same other_flow =
    let r : ℕ → Bool = is_reached reached in
    let filled : leaving_from net.arcs net.source ≡ sum_by (crossing r) net.arcs = flows_fill_their_cut net reached flow reach in
    let there = cuts_bound_flows other r other_flow (ap r same.source ∙ reach.source) (ap r same.sink ∙ reach.sink) in
    let crosses : sum_by (crossing r) other.arcs ≡ sum_by (crossing r) net.arcs =
    sym (sum_mapped (crossing r) empty other.arcs (λ a. refl)) ∙ ap (sum_by (crossing r)) same.arcs ∙ sum_mapped (crossing r) empty net.arcs (λ a. refl) in
    let source : leaving_from other.arcs other.source ≡ leaving_from other.arcs net.source = ap (leaving_from other.arcs) same.source in
    omega (arith, filled, there, crosses, source)
