-- One unit more that is sent, step by step from the sink back to the source.
use Rattle.std.proofs.Common.{◌≡◌, ◌≢◌, ℕ, zero, suc, ◌+◌, ◌-◌, ◌≤◌, ◌<◌, Bool, true, false, List, [], ◌∷◌, length, get_or, set, map, refl, sym, ap, ◌∙◌, subst, arith, inl, inr}
use Rattle.std.proofs.Common.{Option, Some, None, is_some, option_map, unwrap_or, length-set}
use Rattle.std.specs.Prelude.{if◌then◌else◌, ◌==◌, ◌||◌}
use Rattle.std.specs.List.{sum_by, All}
use Rattle.std.proofs.lemmas.Bool.{cases_Bool, cases_eq, cases_lt, cond-true, cond-false, eq-eqb, eqb-true, ltb-true, lt-ltb, false≢true}
use Rattle.std.proofs.lemmas.List.{get_or-set_same, get_or-set_other}
use Rattle.std.proofs.lemmas.List.Elements.{All-set}
use Rattle.std.proofs.lemmas.List.Sums.{sum_by-set}
use Rattle.flow_network.specs.declared.network.Arc.{Arc}
use Rattle.flow_network.specs.declared.reach.Step.{Step}
use Rattle.flow_network.specs.Flows.{Net, IsFlow, IsArcOf, coming_to, leaving_from, empty}
use Rattle.flow_network.specs.Steps.{IsReachedBy, LeadsTo, has, head_of, has_residual, pushed, rank_of, room_out, step_to, tail_of}
use Rattle.flow_network.proofs.Reaching.{no_none, same_some, no_arc}

abbrev pub when_same : ℕ → ℕ → ℕ
when_same n m = if n == m then 1 else 0

-- all steps up to a rank lead to their nodes from nodes that were reached before these
abbrev pub AreTraced : List Arc → ℕ → List (Option Step) → ℕ → Type 0
AreTraced arcs source steps rank = (n : ℕ) (step : Step) → step_to steps n ≡ Some step → step.rank ≤ rank
    → LeadsTo arcs source steps n step

-- one unit more was sent to the sink from a node, and comes to it from nowhere yet
pub record IsPushed (net : Net) (steps : List (Option Step)) (node : ℕ) (arcs : List Arc) : Type 0 where
  pub each : All (IsArcOf net) arcs
  pub same : map empty arcs ≡ map empty net.arcs
  pub kept : (n : ℕ) → n ≢ net.source → n ≢ net.sink → coming_to arcs n + when_same n node ≡ leaving_from arcs n
  pub room : room_out net.source arcs + when_same node net.source ≡ room_out net.source net.arcs
  pub traced : AreTraced arcs net.source steps (rank_of net.source steps node)
  pub reached : has net.source steps node ≡ true

-- ---- numbers

pub when_other : (m n : ℕ) → m ≢ n → when_same m n ≡ 0
when_other m n differs = elim (cases_Bool (m == n)) [
  | inl is ↦ absurd (differs (eqb-true m n is))
  | inr isnt ↦ cond-false {A = ℕ} (m == n) 1 0 isnt
]

pub when_is : (m n : ℕ) → m ≡ n → when_same m n ≡ 1
when_is m n same = cond-true {A = ℕ} (m == n) 1 0 (eq-eqb m n same)

when_swapped : (m n : ℕ) → when_same m n ≡ when_same n m
when_swapped m n = elim (cases_eq m n) [
  | inl same ↦ when_is m n same ∙ sym (when_is n m (sym same))
  | inr differs ↦ when_other m n differs ∙ sym (when_other n m (λ e. differs (sym e)))
]

one_more : (b : Bool) (f g : ℕ) → g ≡ f + 1 → (if b then g else 0) ≡ (if b then f else 0) + (if b then 1 else 0)
one_more true f g is = is
one_more false f g is = refl

-- ---- lists

map_set_same : {X Y : Type 0} (f : X → Y) (xs : List X) (i : ℕ) (y d : X) → f y ≡ f (get_or xs i d) → i < length xs → map f (set xs i y) ≡ map f xs
map_set_same f [] i y d same below = refl
map_set_same f (x ∷ xs) zero y d same below = ap (λ z. z ∷ map f xs) same
map_set_same f (x ∷ xs) (suc i) y d same below = ap (λ zs. f x ∷ zs) (map_set_same f xs i y d same (omega (arith, below)))

-- ---- an arc over which one unit more is sent

head_stays : (b c : Bool) (a : Arc) → head_of b (pushed c a) ≡ head_of b a
head_stays true c a = refl
head_stays false c a = refl

tail_stays : (b c : Bool) (a : Arc) → tail_of b (pushed c a) ≡ tail_of b a
tail_stays true c a = refl
tail_stays false c a = refl

pushed_within : (net : Net) (b : Bool) (a : Arc) → has_residual b a ≡ true → IsArcOf net a → IsArcOf net (pushed b a)
pushed_within net true a opens is = record { from = is.from; to = is.to; not_to_source = is.not_to_source; within = (let less = ltb-true a.flow a.capacity opens in omega (arith, less)) }
pushed_within net false a opens is = record { from = is.from; to = is.to; not_to_source = is.not_to_source; within = (let le = is.within in omega (arith, le)) }

-- it can give a unit back that it took, and take one that it gave back
opens_back : (b c : Bool) (a : Arc) → (b ≡ c → ⊥) → has_residual c a ≡ true → a.flow ≤ a.capacity → has_residual b (pushed c a) ≡ true
opens_back true true a differs opens le = absurd (differs refl)
opens_back false false a differs opens le = absurd (differs refl)
opens_back true false a differs opens le = lt-ltb (a.flow - 1) a.capacity (let some = ltb-true 0 a.flow opens in omega (arith, some, le))
opens_back false true a differs opens le = lt-ltb 0 (a.flow + 1) (omega arith)

-- ---- the node that is reached

pub node_below : (source : ℕ) (steps : List (Option Step)) (n : ℕ) → source < length steps → has source steps n ≡ true → n < length steps
node_below source steps n below reached = elim (cases_Bool (n == source)) [
  | inl is ↦ subst (λ (k : ℕ). k < length steps) (sym (eqb-true n source is)) below
  | inr isnt ↦ elim (cases_lt n (length steps)) [
    | inl under ↦ under
    | inr past ↦ absurd (false≢true (sym (ap is_some (get_past steps n past)) ∙ sym (ap (λ (b : Bool). b || is_some (step_to steps n)) isnt) ∙ reached))
  ]
]
  where
    get_past : (xs : List (Option Step)) (i : ℕ) → length xs ≤ i → get_or xs i None ≡ None
    get_past [] i past = refl
    get_past (x ∷ xs) zero past = absurd (omega (arith, past))
    get_past (x ∷ xs) (suc i) past = get_past xs i (omega (arith, past))

-- without a step to it, it is the source
pub is_source : (source : ℕ) (steps : List (Option Step)) (n : ℕ) → has source steps n ≡ true → step_to steps n ≡ None → n ≡ source
is_source source steps n reached none = elim (cases_Bool (n == source)) [
  | inl is ↦ eqb-true n source is
  | inr isnt ↦ absurd (false≢true (sym (ap is_some none) ∙ sym (ap (λ (b : Bool). b || is_some (step_to steps n)) isnt) ∙ reached))
]

pub rank_is : (source : ℕ) (steps : List (Option Step)) (n : ℕ) (step : Step) → n ≢ source → step_to steps n ≡ Some step → rank_of source steps n ≡ step.rank
rank_is source steps n step differs to = elim (cases_Bool (n == source)) [
  | inl is ↦ absurd (differs (eqb-true n source is))
  | inr isnt ↦
      cond-false {A = ℕ} (n == source) 0 (unwrap_or (option_map (λ step. step.rank) (step_to steps n)) 0) isnt
      ∙ ap (λ (o : Option Step). unwrap_or (option_map (λ step. step.rank) o) 0) to
]

-- ---- one step

module _ (net : Net) (steps : List (Option Step)) (start : step_to steps net.source ≡ None) (node : ℕ) (step : Step) (to : step_to steps node ≡ Some step) (arcs : List Arc) (so : IsPushed net steps node arcs) where
  abbrev pub a : Arc
  a = get_or arcs step.arc no_arc

  abbrev pub more : List Arc
  more = set arcs step.arc (pushed step.is_along a)

  abbrev pub tail : ℕ
  tail = tail_of step.is_along a

  not_source : node ≢ net.source
  not_source e = no_none (sym start ∙ sym (ap (step_to steps) e) ∙ to)

  node_rank : rank_of net.source steps node ≡ step.rank
  node_rank = rank_is net.source steps node step not_source to

  pub leads : LeadsTo arcs net.source steps node step
  leads = so.traced node step to (omega (arith, node_rank))

  arc_is : IsArcOf net a
  arc_is = so.each step.arc no_arc leads.there

  changed : (f : Arc → ℕ) → sum_by f more + f a ≡ sum_by f arcs + f (pushed step.is_along a)
  changed f = sum_by-set f arcs step.arc (pushed step.is_along a) no_arc leads.there

  kept_still : (n : ℕ) → n ≢ net.source → n ≢ net.sink → coming_to more n + when_same n tail ≡ leaving_from more n
  kept_still n not_start not_end =
      by step.is_along (leads.head no_arc) (leads.passes no_arc)
      (changed (λ (arc : Arc). if arc.to == n then arc.flow else 0)) (changed (λ (arc : Arc). if arc.from == n then arc.flow else 0))
    where
      was : coming_to arcs n + when_same n node ≡ leaving_from arcs n
      was = so.kept n not_start not_end

      by : (b : Bool) → head_of b a ≡ node → has_residual b a ≡ true
          → coming_to more n + (if a.to == n then a.flow else 0) ≡ coming_to arcs n + (if (pushed b a).to == n then (pushed b a).flow else 0)
          → leaving_from more n + (if a.from == n then a.flow else 0) ≡ leaving_from arcs n + (if (pushed b a).from == n then (pushed b a).flow else 0)
          → coming_to more n + when_same n (tail_of b a) ≡ leaving_from more n
      by true head opens comes leaves =
          let one = one_more (a.to == n) a.flow (a.flow + 1) refl in
          let two = one_more (a.from == n) a.flow (a.flow + 1) refl in
          let at_head : when_same n node ≡ when_same a.to n = when_swapped n node ∙ ap (λ (k : ℕ). when_same k n) (sym head) in
          let at_tail : when_same n a.from ≡ when_same a.from n = when_swapped n a.from in
          omega (arith, one, two, at_head, at_tail, comes, leaves, was)
      by false head opens comes leaves =
          let some = ltb-true 0 a.flow opens in
          let one = one_more (a.to == n) (a.flow - 1) a.flow (omega (arith, some)) in
          let two = one_more (a.from == n) (a.flow - 1) a.flow (omega (arith, some)) in
          let at_head : when_same n node ≡ when_same a.from n = when_swapped n node ∙ ap (λ (k : ℕ). when_same k n) (sym head) in
          let at_tail : when_same n a.to ≡ when_same a.to n = when_swapped n a.to in
          omega (arith, one, two, at_head, at_tail, comes, leaves, was)

  room_less : room_out net.source more + when_same tail net.source ≡ room_out net.source net.arcs
  room_less = by step.is_along (leads.head no_arc) (leads.passes no_arc) (changed (λ (arc : Arc). if arc.from == net.source then arc.capacity - arc.flow else 0))
    where
      was : room_out net.source arcs ≡ room_out net.source net.arcs
      was = (let h = so.room in let none = when_other node net.source not_source in omega (arith, h, none))

      by : (b : Bool) → head_of b a ≡ node → has_residual b a ≡ true
          → room_out net.source more + (if a.from == net.source then a.capacity - a.flow else 0)
          ≡ room_out net.source arcs + (if (pushed b a).from == net.source then (pushed b a).capacity - (pushed b a).flow else 0)
          → room_out net.source more + when_same (tail_of b a) net.source ≡ room_out net.source net.arcs
      by true head opens changes =
          let less = ltb-true a.flow a.capacity opens in
          let one = one_more (a.from == net.source) (a.capacity - (a.flow + 1)) (a.capacity - a.flow) (omega (arith, less)) in
          omega (arith, one, changes, was)
      by false head opens changes =
          let here = not_here (a.capacity - a.flow) in
          let here' = not_here (a.capacity - (a.flow - 1)) in
          let none = when_other a.to net.source arc_is.not_to_source in
          omega (arith, changes, was, here, here', none)
        where
          not_here : (k : ℕ) → (if a.from == net.source then k else 0) ≡ 0
          not_here k = elim (cases_Bool (a.from == net.source)) [
            | inl is ↦ absurd (not_source (sym head ∙ eqb-true a.from net.source is))
            | inr isnt ↦ cond-false {A = ℕ} (a.from == net.source) k 0 isnt
          ]

  traced_still : AreTraced more net.source steps (rank_of net.source steps tail)
  traced_still n s to_n few =
      let earlier = leads.earlier no_arc in
      let was = so.traced n s to_n (omega (arith, few, earlier, node_rank)) in
      elim (cases_eq s.arc step.arc) [
        | inr differs ↦
            let at : (d : Arc) → get_or more s.arc d ≡ get_or arcs s.arc d = λ d. get_or-set_other arcs step.arc s.arc (pushed step.is_along a) d differs in
            record {
              there = subst (λ (k : ℕ). s.arc < k) (sym (length-set arcs step.arc (pushed step.is_along a))) was.there;
              head = λ d. ap (head_of s.is_along) (at d) ∙ was.head d;
              passes = λ d. ap (has_residual s.is_along) (at d) ∙ was.passes d;
              from = λ d. ap (λ (x : Arc). has net.source steps (tail_of s.is_along x)) (at d) ∙ was.from d;
              earlier = λ d. subst (λ (x : Arc). rank_of net.source steps (tail_of s.is_along x) < s.rank) (sym (at d)) (was.earlier d);
            }
        | inl same ↦
            let at : (d : Arc) → get_or more s.arc d ≡ pushed step.is_along a = λ d. ap (λ (i : ℕ). get_or more i d) same ∙ get_or-set_same arcs step.arc (pushed step.is_along a) d leads.there in
            let old : get_or arcs s.arc no_arc ≡ a = ap (λ (i : ℕ). get_or arcs i no_arc) same in
            let other_way : s.is_along ≡ step.is_along → ⊥ = λ e. (
            let heads : n ≡ node = sym (was.head no_arc) ∙ ap (head_of s.is_along) old ∙ ap (λ (b : Bool). head_of b a) e ∙ leads.head no_arc in
            let steps_same : s ≡ step = same_some (sym to_n ∙ ap (step_to steps) heads ∙ to) in
            let ranks = ap (λ (x : Step). x.rank) steps_same in
            absurd (omega (arith, few, earlier, ranks))) in
            let tails : (d : Arc) → tail_of s.is_along (get_or more s.arc d) ≡ tail_of s.is_along (get_or arcs s.arc no_arc) =
            λ d. ap (tail_of s.is_along) (at d) ∙ tail_stays s.is_along step.is_along a ∙ ap (tail_of s.is_along) (sym old) in
            record {
              there = subst (λ (k : ℕ). s.arc < k) (sym (length-set arcs step.arc (pushed step.is_along a))) was.there;
              head = λ d. ap (head_of s.is_along) (at d) ∙ head_stays s.is_along step.is_along a ∙ ap (head_of s.is_along) (sym old) ∙ was.head no_arc;
              passes = λ d. ap (has_residual s.is_along) (at d) ∙ opens_back s.is_along step.is_along a other_way (leads.passes no_arc) arc_is.within;
              from = λ d. ap (has net.source steps) (tails d) ∙ was.from no_arc;
              earlier = λ d. subst (λ (x : ℕ). rank_of net.source steps x < s.rank) (sym (tails d)) (was.earlier no_arc);
            }
      ]

  pub pushed_on : IsPushed net steps tail more
  pushed_on = record {
    each = All-set (IsArcOf net) arcs step.arc (pushed step.is_along a) (pushed_within net step.is_along a (leads.passes no_arc) arc_is) so.each;
    same = map_set_same empty arcs step.arc (pushed step.is_along a) no_arc refl leads.there ∙ so.same;
    kept = kept_still;
    room = room_less;
    traced = traced_still;
    reached = leads.from no_arc;
  }

  pub rank_falls : rank_of net.source steps tail < rank_of net.source steps node
  rank_falls = (let less = leads.earlier no_arc in omega (arith, less, node_rank))

-- ---- all steps

module _ (nodes source sink : ℕ) (steps : List (Option Step)) (arcs : List Arc) where
  abbrev net : Net
  net = record { nodes = nodes; source = source; sink = sink; arcs = arcs }

  pub first_pushed : IsFlow net → IsReachedBy net steps → has source steps sink ≡ true → IsPushed net steps sink arcs
  first_pushed flow reach reached = record {
    each = flow.arcs;
    same = refl;
    kept = λ n not_start not_end. (let is = flow.kept n not_start not_end in let none = when_other n sink not_end in omega (arith, is, none));
    room = (let none = when_other sink source flow.apart in omega (arith, none));
    traced = λ n step to few. reach.traced n step to;
    reached = reached;
  }

  pub all_pushed : IsFlow net → (node : ℕ) (more : List Arc) → IsPushed net steps node more → step_to steps node ≡ None → IsFlow (record net { arcs = more }) × (room_out source more + 1 ≡ room_out source arcs)
  all_pushed flow node more so none =
      let here : node ≡ source = is_source source steps node so.reached none in (
        record {
          few = flow.few;
          source = flow.source;
          sink = flow.sink;
          apart = flow.apart;
          arcs = λ k d below. (let is = so.each k d below in record { from = is.from; to = is.to; not_to_source = is.not_to_source; within = is.within });
          kept = λ n not_start not_end. (let is = so.kept n not_start not_end in let none = when_other n node (λ e. not_start (e ∙ here)) in omega (arith, is, none));
        },
        (let room = so.room in let one = when_is node source here in omega (arith, room, one)),
      )
