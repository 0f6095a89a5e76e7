-- What an answer to the day of a box's greatest fleet says of the box.
use Rattle.std.proofs.Common.{◌≡◌, ℕ, zero, suc, ◌+◌, ◌≤◌, List, [], ◌∷◌, All, Bool, true, false, refl, sym, ap, subst, arith}
use Rattle.std.proofs.Common.{Option, Some, None, inl, inr, if◌then◌else◌, int_lt, unwrap_or}
use Rattle.std.specs.Prelude.{ℤ, ◌≤ℤ◌, ◌<ℤ◌, MatchOption, IsSome}
use Rattle.std.proofs.lemmas.Int.{ints}
use Rattle.std.proofs.lemmas.List.Elements.{All-cons, All-head, All-nil, All-tail, All-weaker}
use Rattle.rail_base.specs.declared.numbers.Money.{Money}
use Rattle.timetable.specs.Accepted.{IsSoundDay}
use Rattle.timetable.specs.Day.{Day}
use Rattle.branch_tree.specs.declared.tree.Node.{Node}
use Rattle.branch_tree.specs.declared.tree.Node.TheVariants.{Branch, CostLeaf, RayLeaf, EmptyLeaf}
use Rattle.branch_tree.specs.Claims.{Conclusion, EndsInTime, HasOpenLeaf, IsNotEvident, IsNotEvidentAt, IsOpen, IsPlanIn, IsProved, CostedPicks, DoBound, concluded_plan}
use Rattle.branch_tree.specs.Claims.{bounded, bounded_plan, infeasible, optimal}
use Rattle.branch_tree.specs.Meanings.{IsRelaxation, Meanings}
use Rattle.branch_tree.specs.Regions.{choices_of, root_of}
use Rattle.branch_tree.specs.Trees.{IsLeast, bound_of, bounds_of, branchings_of, cut_of}
use Rattle.branch_tree.proofs.Concluding.{proved_is_concluded}
use Rattle.branch_tree.proofs.Walking.{walks_map}
use Rattle.price_bound.specs.DayMeanings.{meanings_of}
use Rattle.price_bound.proofs.Whole.{relaxes}
use Rattle.answer_text.specs.declared.answer.Answer.{Answer}
use Rattle.rules.specs.declared.heads.Head.{Head}
use Rattle.rules.specs.declared.heads.Head.TheVariants.{Optimal, Infeasible, Bounded, BoundedPlan}
use Rattle.answer_text.specs.Limits.{IsHead}
use Rattle.answer_check.specs.Headline.{IsHeadline}
use Rattle.answer_check.specs.ProvedTrees.{bound_said}
use Rattle.answer_check.specs.Validity.{conclusion_of}
use Rattle.fleets.specs.Fleets.{FitsDay, own_fleet, with_fleet}
use Rattle.fleets.proofs.OwnFleets.{own_fleet_fits}
use Rattle.fleets.proofs.Sizes.{smaller_fleets_fit}
use Rattle.fleets.proofs.SoundFleets.{days_of_fleets_are_sound}
use Rattle.fleet_boxes.specs.declared.boxes.FleetBox.{FleetBox}
use Rattle.fleet_boxes.specs.declared.nodes.BoxNode.{BoxNode}
use Rattle.fleet_boxes.specs.ProvedBoxes.{IsProvedAt}
use Rattle.fleet_size.specs.Found.{IsSearched, branchings_in}
use Rattle.fleet_size.specs.declared.offers.Best.{Best}
use Rattle.fleet_size.specs.Slots.{IsBest, IsBoxOf, IsEvaluated, IsNoDearer, IsOfKind, IsSmall, IsTaken, is_split, node_said, price_in}

pub less_is_true : (a b : ℤ) → a <ℤ b → int_lt a b ≡ true
less_is_true a b less = at (int_lt a b) refl
  where
    at : (answer : Bool) → int_lt a b ≡ answer → int_lt a b ≡ true
    at true is = is
    at false is = absurd (crossed a b less is)
      where
        crossed : (a b : ℤ) → a <ℤ b → int_lt a b ≡ false → ⊥
        crossed a b less is = omega (arith, ints, less, is)

-- ---- a day with the greatest fleet of a box

pub box_fits : (day : Day) (box : FleetBox) → IsSoundDay day → IsBoxOf day box → FitsDay day box.greatest
box_fits day box sound is = smaller_fleets_fit day box.greatest (own_fleet day) (own_fleet_fits day sound.limits.units.few) is.within

-- ---- a tree that proves a plan to be one of least cost proves its cost as a bound

record HasLeast (numbers : List ℤ) : Type 0 where
  least : ℤ
  is : IsLeast numbers least

between : (a b c : ℤ) → a ≤ℤ b → b ≤ℤ c → a ≤ℤ c
between a b c low high = omega (arith, ints)

level : (a : ℤ) → a ≤ℤ a
level a = omega (arith, ints)

both_ways : (a b : ℤ) → a ≤ℤ b → b ≤ℤ a → a ≡ b
both_ways a b low high = omega (arith, ints)

lower : (a b : ℤ) → int_lt a b ≡ true → a ≤ℤ b
lower a b is = omega (arith, ints, is)

not_lower : (a b : ℤ) → int_lt a b ≡ false → b ≤ℤ a
not_lower a b is = omega (arith, ints, is)

least_of_one : (x : ℤ) → HasLeast (x ∷ [])
least_of_one x = record { least = x; is = record { one = (zero, omega arith, refl); all = All-cons (λ n. x ≤ℤ n) x [] (level x) (All-nil (λ n. x ≤ℤ n)) } }

least_with : (x : ℤ) (xs : List ℤ) (least : ℤ) → IsLeast xs least → (b : Bool) → int_lt x least ≡ b → HasLeast (x ∷ xs)
least_with x xs least is true low = record {
  least = x;
  is = record {
    one = (zero, omega arith, refl);
    all = All-cons (λ n. x ≤ℤ n) x xs (level x) (All-weaker (λ n. least ≤ℤ n) (λ n. x ≤ℤ n) (λ n above. between x least n (lower x least low) above) xs is.all);
  };
}
least_with x xs least is false high = record {
  least = least;
  is = record {
    one = (suc is.one.0, omega (arith, is.one.1), is.one.2);
    all = All-cons (λ n. least ≤ℤ n) x xs (not_lower x least high) is.all;
  };
}

least_of : (x : ℤ) (xs : List ℤ) → HasLeast (x ∷ xs)
least_of x [] = least_of_one x
least_of x (y ∷ ys) = let rest : HasLeast (y ∷ ys) = least_of y ys in least_with x (y ∷ ys) rest.least rest.is (int_lt x rest.least) refl

concluded_else : (problem : Meanings) (root : List (List Bool)) (one other : Conclusion) (branchings : ℕ) (nodes : List Node) → IsProved problem root one branchings nodes
    → MatchOption (concluded_plan other) (Unit {0}) (IsPlanIn problem root) → DoBound (bounds_of nodes) other → IsProved problem root other branchings nodes
concluded_else problem root one other branchings nodes proved plan head = record {
  whole = proved.whole;
  proper = proved.proper;
  fitting = proved.fitting;
  bounds = proved.bounds;
  rays = proved.rays;
  empty = proved.empty;
  plan = plan;
  head = head;
}

pub optimal_is_bounded : (problem : Meanings) → IsRelaxation problem → (root : List (List Bool)) (plan : CostedPicks) (branchings : ℕ) (nodes : List Node)
    → IsProved problem root (optimal plan) branchings nodes → IsProved problem root (bounded plan.cost) branchings nodes
optimal_is_bounded problem relaxation root plan branchings nodes proved = at (bounds_of nodes) refl
  where
    at : (bounds : List ℤ) → bounds_of nodes ≡ bounds → IsProved problem root (bounded plan.cost) branchings nodes
    at [] none =
        absurd (proved_is_concluded problem relaxation root infeasible branchings nodes
        (concluded_else problem root (optimal plan) infeasible branchings nodes proved tt none) plan.picks proved.plan.solution proved.plan.inside)
    at (bound ∷ bounds) is =
        let has : HasLeast (bound ∷ bounds) = least_of bound bounds in
        let least : IsLeast (bounds_of nodes) has.least = subst (λ (numbers : List ℤ). IsLeast numbers has.least) (sym is) has.is in
        let low : has.least ≤ℤ problem.cost plan.picks =
        proved_is_concluded problem relaxation root (bounded has.least) branchings nodes
        (concluded_else problem root (optimal plan) (bounded has.least) branchings nodes proved tt least) plan.picks proved.plan.solution proved.plan.inside in
        let below : has.least ≤ℤ plan.cost = subst (λ (cost : ℤ). has.least ≤ℤ cost) proved.plan.cost low in
        let (k, lt, e) = least.one in
        let above : plan.cost ≤ℤ has.least = subst (λ (v : ℤ). plan.cost ≤ℤ v) e (proved.head k has.least lt) in
        concluded_else problem root (optimal plan) (bounded plan.cost) branchings nodes proved tt
        (subst (λ (cost : ℤ). IsLeast (bounds_of nodes) cost) (both_ways has.least plan.cost below above) least)

-- ---- the tree of an answer proves the leaf

pub node_is_proved : (day : Day) (box : FleetBox) (head : Head) (picks : List ℕ) (branchings : ℕ) (tree : List Node) → IsSoundDay (with_fleet box.greatest day)
    → IsProved (meanings_of (with_fleet box.greatest day)) (root_of (with_fleet box.greatest day)) (conclusion_of head picks) branchings tree
    → IsProvedAt day box (node_said head branchings tree)
node_is_proved day box (Optimal cost) picks branchings tree sound proved =
    optimal_is_bounded (meanings_of (with_fleet box.greatest day)) (relaxes (with_fleet box.greatest day) sound) (root_of (with_fleet box.greatest day)) (record { cost = cost.0; picks = picks }) branchings tree proved
node_is_proved day box Infeasible picks branchings tree sound proved = proved
node_is_proved day box (Bounded bound) picks branchings tree sound proved = proved
node_is_proved day box (BoundedPlan bound cost) picks branchings tree sound proved =
    concluded_else (meanings_of (with_fleet box.greatest day)) (root_of (with_fleet box.greatest day)) (bounded_plan bound.0 (record { cost = cost.0; picks = picks })) (bounded bound.0) branchings tree
    proved tt proved.head

-- ---- and is of one of the two kinds

-- the node has the bound
abbrev HasBound : ℤ → Node → Type 0
HasBound bound node = bound_of node ≡ Some (record { 0 = bound })

no_bound : (bound : Money) → None ≡ Some bound → ⊥
no_bound bound same = cc

bound_is : (value bound : Money) → Some value ≡ Some bound → value.0 ≡ bound.0
bound_is value bound same = ap (λ (some : Option Money). (unwrap_or some value).0) same

-- a cost leaf is open where there is no plan
open_with_none : (bound : ℤ) (node : Node) → HasBound bound node → IsOpen None node
open_with_none bound (Branch cut) has = absurd (no_bound (record { 0 = bound }) has)
open_with_none bound (CostLeaf value multipliers) has = refl
open_with_none bound (RayLeaf multipliers) has = absurd (no_bound (record { 0 = bound }) has)
open_with_none bound EmptyLeaf has = absurd (no_bound (record { 0 = bound }) has)

below_cost : (value bound cost : ℤ) → bound <ℤ cost → value ≡ bound → value <ℤ cost
below_cost value bound cost less same = omega (arith, ints, less, same)

-- and one of least bound where that is below the cost of the plan
open_with_plan : (bound : ℤ) (plan : CostedPicks) (node : Node) → bound <ℤ plan.cost → HasBound bound node → IsOpen (Some plan) node
open_with_plan bound plan (Branch cut) below has = absurd (no_bound (record { 0 = bound }) has)
open_with_plan bound plan (CostLeaf value multipliers) below has =
    less_is_true value.0 plan.cost (below_cost value.0 bound plan.cost below (bound_is value (record { 0 = bound }) has))
open_with_plan bound plan (RayLeaf multipliers) below has = absurd (no_bound (record { 0 = bound }) has)
open_with_plan bound plan EmptyLeaf below has = absurd (no_bound (record { 0 = bound }) has)

open_is_above : (bound : ℤ) (plan : CostedPicks) (nodes : List Node) → All (λ number. bound ≤ℤ number) (bounds_of nodes) → HasOpenLeaf (Some plan) nodes → bound <ℤ plan.cost
open_is_above bound plan [] all some = absurd (omega (arith, some))
open_is_above bound plan (Branch cut ∷ nodes) all some = open_is_above bound plan nodes all (omega (arith, some))
open_is_above bound plan (CostLeaf value multipliers ∷ nodes) all some = at (int_lt value.0 plan.cost) refl
    (λ more. open_is_above bound plan nodes (All-tail (λ number. bound ≤ℤ number) value.0 (bounds_of nodes) all) more)
  where
    here : bound ≤ℤ value.0
    here = All-head (λ number. bound ≤ℤ number) value.0 (bounds_of nodes) all

    at : (b : Bool) → int_lt value.0 plan.cost ≡ b → (HasOpenLeaf (Some plan) nodes → bound <ℤ plan.cost) → bound <ℤ plan.cost
    at true less rest = joined bound value.0 plan.cost here less
      where
        joined : (a b c : ℤ) → a ≤ℤ b → int_lt b c ≡ true → a <ℤ c
        joined a b c low is = omega (arith, ints, low, is)
    at false not_less rest =
        let none : (if int_lt value.0 plan.cost then 1 else 0) ≡ 0 = ap {B = ℕ} (λ b. if b then 1 else 0) not_less in
        rest (omega (arith, some, none))
open_is_above bound plan (RayLeaf multipliers ∷ nodes) all some = open_is_above bound plan nodes all (omega (arith, some))
open_is_above bound plan (EmptyLeaf ∷ nodes) all some = open_is_above bound plan nodes all (omega (arith, some))

never_none : {X : Type 0} (x : X) → Some x ≡ None → ⊥
never_none x is = cc

module _ (day : Day) (prices : List ℕ) (grant : ℕ) (price : Option ℤ) (box : FleetBox) where
  abbrev at_most : Day
  at_most = with_fleet box.greatest day

  searched : (bound : ℤ) (nodes : List Node) (plan : Option CostedPicks) → branchings_of nodes ≡ grant → EndsInTime (meanings_of at_most) (root_of at_most) plan nodes
      → ((node : Node) → HasBound bound node → IsOpen plan node)
      → IsSearched day grant (record { fleets = box; bound = bound; tree = nodes })
  searched bound nodes plan all ends opens = record {
    branchings = all;
    raised = ends.raised;
    not_evident = walks_map cut_of (meanings_of at_most).catalogue (IsNotEvidentAt (meanings_of at_most) plan)
        (λ region node. HasBound bound node → IsNotEvident (meanings_of at_most) region)
        (λ region node is has. is (opens node has)) (root_of at_most ∷ []) nodes ends.not_evident;
  }

  pub node_is_of_kind : (head : Head) (picks : List ℕ) (branchings : ℕ) (nodes : List Node)
      → IsProved (meanings_of at_most) (root_of at_most) (conclusion_of head picks) branchings nodes
      → (IsSome (bound_said head) → (branchings_of nodes ≡ grant) × HasOpenLeaf (concluded_plan (conclusion_of head picks)) nodes)
      → (choices_of (root_of at_most) ≤ grant + 1 → bound_said head ≡ None)
      → EndsInTime (meanings_of at_most) (root_of at_most) (concluded_plan (conclusion_of head picks)) nodes
      → IsTaken prices box.greatest head price
      → IsOfKind day prices grant price box (node_said head branchings nodes)
  node_is_of_kind (Optimal cost) picks branchings nodes proved spent enough ends taken = inl taken
  node_is_of_kind Infeasible picks branchings nodes proved spent enough ends taken = tt
  node_is_of_kind (Bounded bound) picks branchings nodes proved spent enough ends taken =
      let both = spent refl in
      inr (searched bound.0 nodes None both.0 ends (λ node has. open_with_none bound.0 node has), λ few. never_none bound.0 (enough few))
  node_is_of_kind (BoundedPlan bound cost) picks branchings nodes proved spent enough ends taken =
      let both = spent refl in
      let plan : CostedPicks = record { cost = cost.0; picks = picks } in
      let below : bound.0 <ℤ cost.0 = open_is_above bound.0 plan nodes proved.head.all both.1 in
      inr (searched bound.0 nodes (Some plan) both.0 ends (λ node has. open_with_plan bound.0 plan node below has), λ few. never_none bound.0 (enough few))

node_is_small : (head : Head) (branchings : ℕ) (tree : List Node) → IsHead head → IsSmall (node_said head branchings tree)
node_is_small (Optimal cost) branchings tree is = is
node_is_small Infeasible branchings tree is = tt
node_is_small (Bounded bound) branchings tree is = is
node_is_small (BoundedPlan bound cost) branchings tree is = is.0

-- what is known of the leaf that an answer to the day of its box's greatest fleet gives
pub record IsLeafOf (day : Day) (prices : List ℕ) (grant : ℕ) (price : Option ℤ) (box : FleetBox) (node : BoxNode) : Type 0 where
  pub proved : IsProvedAt day box node
  pub kind : IsOfKind day prices grant price box node
  pub small : IsSmall node

pub leaf_of_answer : (day : Day) (prices : List ℕ) (grant : ℕ) (price : Option ℤ) (box : FleetBox) (answer : Answer) → IsSoundDay day → IsBoxOf day box
    → IsHeadline (with_fleet box.greatest day) grant answer → IsTaken prices box.greatest answer.head price
    → IsLeafOf day prices grant price box (node_said answer.head answer.branchings answer.tree)
leaf_of_answer day prices grant price box answer sound is headline taken =
    let most : IsSoundDay (with_fleet box.greatest day) = days_of_fleets_are_sound day box.greatest sound (box_fits day box sound is) in
    let tree = headline.tree in
    record {
      proved = node_is_proved day box answer.head tree.valid.picks answer.branchings answer.tree most tree.valid.proved;
      kind = node_is_of_kind day prices grant price box answer.head tree.valid.picks answer.branchings answer.tree tree.valid.proved (λ some. tree.bounded.0 some) tree.enough tree.evident taken;
      small = node_is_small answer.head answer.branchings answer.tree tree.within.head;
    }

-- the leaf's tree has the branchings of the answer's
pub branchings_said : (head : Head) (branchings : ℕ) (tree : List Node) → branchings_in (node_said head branchings tree ∷ []) ≡ branchings
branchings_said (Optimal cost) branchings tree = omega arith
branchings_said Infeasible branchings tree = omega arith
branchings_said (Bounded bound) branchings tree = omega arith
branchings_said (BoundedPlan bound cost) branchings tree = omega arith

leaf_said : (head : Head) (branchings : ℕ) (tree : List Node) → is_split (node_said head branchings tree) ≡ false
leaf_said (Optimal cost) branchings tree = refl
leaf_said Infeasible branchings tree = refl
leaf_said (Bounded bound) branchings tree = refl
leaf_said (BoundedPlan bound cost) branchings tree = refl

pub leaf_is_evaluated : (day : Day) (prices : List ℕ) (grant : ℕ) (box : FleetBox) (before after : Option Best) (answer : Answer) (made : ℕ) (node : BoxNode) (d : Day) → IsSoundDay day → IsBoxOf day box
    → d ≡ with_fleet box.greatest day → IsHeadline d grant answer → IsTaken prices box.greatest answer.head (price_in after) → node ≡ node_said answer.head answer.branchings answer.tree
    → IsBest day prices after → IsNoDearer (price_in before) (price_in after) → IsEvaluated day prices grant box before after (record { fleets = box; made = made; node = node })
leaf_is_evaluated day prices grant box before after answer made node d sound is same headline taken said best no_dearer =
    let leaf : IsLeafOf day prices grant (price_in after) box (node_said answer.head answer.branchings answer.tree) =
    leaf_of_answer day prices grant (price_in after) box answer sound is (subst (λ (day : Day). IsHeadline day grant answer) same headline) taken in
    subst (λ (one : BoxNode). IsEvaluated day prices grant box before after (record { fleets = box; made = made; node = one })) (sym said)
    (record {
      box = refl;
      leaf = leaf_said answer.head answer.branchings answer.tree;
      placed = record { box = is; proved = leaf.proved; kind = leaf.kind; small = leaf.small };
      best = best;
      no_dearer = no_dearer;
    })
