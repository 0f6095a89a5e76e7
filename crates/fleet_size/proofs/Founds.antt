-- What a search has at its end is what is promised of a fleet that was found.
use Rattle.std.proofs.Common.{◌≡◌, ◌∙◌, ℕ, zero, suc, ◌+◌, ◌*◌, ◌≤◌, List, [], ◌∷◌, ◌++◌, length, map, All, Bool, true, false, refl, sym, ap, subst, arith}
use Rattle.std.proofs.Common.{Option, Some, None, inl, inr, if◌then◌else◌, int_lt}
use Rattle.std.specs.Prelude.{ℤ, pos, ◌+ℤ◌, ◌≤ℤ◌, ◌<ℤ◌, ◌⊎◌, ◌↔◌, MatchOption, IsSome, Any, option_map, replicate}
use Rattle.std.specs.List.{Contains}
use Rattle.std.proofs.lemmas.Int.{ints}
use Rattle.std.proofs.lemmas.List.Elements.{All-cons, All-head, All-nil, All-tail, All-weaker}
use Rattle.rail_base.specs.declared.numbers.Money.{Money}
use Rattle.timetable.specs.Accepted.{IsSoundDay}
use Rattle.timetable.specs.Admissible.{is_admissible}
use Rattle.timetable.specs.Compositions.{greatest_platform}
use Rattle.timetable.specs.Day.{Day, from_of, platform_of, to_of}
use Rattle.timetable.proofs.Listing.{length-listed}
use Rattle.branch_tree.specs.Regions.{choices_of, root_of}
use Rattle.branch_tree.specs.Trees.{IsLeastOf}
use Rattle.rules.specs.declared.heads.Head.{Head}
use Rattle.rules.specs.declared.heads.Head.TheVariants.{Optimal, BoundedPlan}
use Rattle.answer_check.specs.ProvedTrees.{bound_said}
use Rattle.fleets.specs.Fleets.{FitsDay, own_fleet, start_at, with_fleet}
use Rattle.fleets.proofs.Sizes.{smaller_fleets_fit}
use Rattle.fleet_boxes.specs.declared.boxes.FleetBox.{FleetBox}
use Rattle.fleet_boxes.specs.declared.nodes.BoxNode.{BoxNode}
use Rattle.fleet_boxes.specs.declared.nodes.BoxNode.TheVariants.{Split, Bound, Nothing}
use Rattle.fleet_boxes.specs.Boxes.{box_of}
use Rattle.fleet_boxes.specs.Prices.{fleet_cost}
use Rattle.fleet_boxes.specs.ProvedBoxes.{AreTrees, IsProvedAt, boxes_below, values_in}
use Rattle.fleet_check.specs.declared.found.Chosen.{Chosen}
use Rattle.fleet_check.specs.declared.found.Fleet.{Fleet}
use Rattle.fleet_check.specs.declared.found.TheConstants.{MAX_BOX_NODES, MAX_SPLITS}
use Rattle.fleet_check.specs.Heads.{DoesFollow, IsTrueOfFleets}
use Rattle.fleet_check.specs.Verdicts.{HasPlanSaid, IsValid, price_said, splits_in}
use Rattle.fleet_size.specs.declared.offers.Best.{Best}
use Rattle.fleet_size.specs.declared.planning.Granted.{Granted}
use Rattle.fleet_size.specs.declared.searching.Search.{Search}
use Rattle.fleet_size.specs.declared.slots.Slot.{Slot}
use Rattle.fleet_size.specs.Found.{BoundLeaf, IsFleetFound, IsOpenLeaf, IsPlanned, IsSearched, IsSpent, bound_leaves, fleets_below}
use Rattle.fleet_size.specs.Slots.{IsBest, IsBoxOf, IsOfKind, IsPlaced, IsSearch, head_found, is_cheaper, nodes_in, price_in}
use Rattle.fleet_size.specs.Values.{CanBeValued, HasEnded, IsDone, IsConclusion, value_in, values_at}
use Rattle.fleet_size.proofs.Counts.{IsCounted, all_below, each_alone, fleets_from, nodes_in_all}
use Rattle.fleet_size.proofs.Leaves.{less_is_true}
use Rattle.fleet_size.proofs.Offering.{fleet_fits, some_price}
use Rattle.fleet_size.proofs.SlotTrees.{slots_all, slots_are_trees, slots_both, slots_map, values_are}

-- ---- heads

price_of_head : (least : Option Money) (price : Option ℤ) → price_said (head_found least price) ≡ price
price_of_head None None = refl
price_of_head None (Some price) = refl
price_of_head (Some bound) None = refl
price_of_head (Some bound) (Some price) = at (int_lt bound.0 price)
  where
    at : (b : Bool) → price_said (if b then BoundedPlan bound (record { 0 = price }) else Optimal (record { 0 = price })) ≡ Some price
    at true = refl
    at false = refl

not_less : (a b : ℤ) → int_lt a b ≡ false → b ≤ℤ a
not_less a b is = omega (arith, ints, is)

less : (a b : ℤ) → int_lt a b ≡ true → a <ℤ b
less a b is = omega (arith, ints, is)

between : (a b c : ℤ) → a ≤ℤ b → b ≤ℤ c → a ≤ℤ c
between a b c low high = omega (arith, ints)

head_follows : (values : List ℤ) (least : Option Money) (price : Option ℤ) → IsLeastOf values least → DoesFollow values (head_found least price)
head_follows values None None is = is
head_follows values None (Some price) is = subst (λ (numbers : List ℤ). All (λ value. price ≤ℤ value) numbers) (sym is) (All-nil (λ value. price ≤ℤ value))
head_follows values (Some bound) None is = is
head_follows values (Some bound) (Some price) is = at (int_lt bound.0 price) refl
  where
    at : (b : Bool) → int_lt bound.0 price ≡ b → DoesFollow values (if b then BoundedPlan bound (record { 0 = price }) else Optimal (record { 0 = price }))
    at true lower = is
    at false not_lower = All-weaker (λ value. bound.0 ≤ℤ value) (λ value. price ≤ℤ value) (λ value above. between price bound.0 value (not_less bound.0 price not_lower) above) values is.all

plan_is_said : (day : Day) (prices : List ℕ) (best : Option Best) → IsBest day prices best → HasPlanSaid day prices (option_map (λ best. best.chosen) best) (price_in best)
plan_is_said day prices None is = refl
plan_is_said day prices (Some best) is = is

-- ---- leaves with a bound

-- a fact of a leaf with a bound
abbrev IfBound : (BoundLeaf → Type 0) → FleetBox → BoxNode → Type 0
IfBound Q box (Split station unit_type at) = Unit {0}
IfBound Q box (Bound bound branchings tree) = Q (record { fleets = box; bound = bound.0; tree = tree })
IfBound Q box (Nothing branchings tree) = Unit {0}

leaves_all : (Q : BoundLeaf → Type 0) (types : ℕ) (boxes : List FleetBox) (nodes : List BoxNode) → AreTrees (IfBound Q) types boxes nodes → All Q (bound_leaves types boxes nodes)
leaves_all Q types [] [] trees = All-nil Q
leaves_all Q types [] (node ∷ nodes) trees = absurd trees
leaves_all Q types (box ∷ boxes) [] trees = absurd trees
leaves_all Q types (box ∷ boxes) (Split station unit_type at ∷ nodes) trees = leaves_all Q types (boxes_below types box (Split station unit_type at) ++ boxes) nodes trees.1
leaves_all Q types (box ∷ boxes) (Bound bound branchings tree ∷ nodes) trees =
    All-cons Q (record { fleets = box; bound = bound.0; tree = tree }) (bound_leaves types boxes nodes) trees.0 (leaves_all Q types boxes nodes trees.1)
leaves_all Q types (box ∷ boxes) (Nothing branchings tree ∷ nodes) trees = leaves_all Q types boxes nodes trees.1

abbrev leaf_value : List ℕ → BoundLeaf → ℤ
leaf_value prices leaf = leaf.bound +ℤ pos (fleet_cost prices leaf.fleets.least)

values_of_leaves : (types : ℕ) (prices : List ℕ) (boxes : List FleetBox) (nodes : List BoxNode) → values_in types prices boxes nodes ≡ map (leaf_value prices) (bound_leaves types boxes nodes)
values_of_leaves types prices boxes [] = refl
values_of_leaves types prices [] (node ∷ nodes) = refl
values_of_leaves types prices (box ∷ boxes) (Split station unit_type at ∷ nodes) = values_of_leaves types prices (boxes_below types box (Split station unit_type at) ++ boxes) nodes
values_of_leaves types prices (box ∷ boxes) (Bound bound branchings tree ∷ nodes) =
    ap (λ (rest : List ℤ). (bound.0 +ℤ pos (fleet_cost prices box.least)) ∷ rest) (values_of_leaves types prices boxes nodes)
values_of_leaves types prices (box ∷ boxes) (Nothing branchings tree ∷ nodes) = values_of_leaves types prices boxes nodes

any_first : (Q : BoundLeaf → Type 0) (leaf : BoundLeaf) (leaves : List BoundLeaf) → Q leaf → Any Q (leaf ∷ leaves)
any_first Q leaf leaves is = (zero, leaf, (omega arith), refl, is)

any_later : (Q : BoundLeaf → Type 0) (leaf : BoundLeaf) (leaves : List BoundLeaf) → Any Q leaves → Any Q (leaf ∷ leaves)
any_later Q leaf leaves (k, x, lt, e, is) = (suc k, x, (omega (arith, lt)), e, is)

-- the leaf of a value
any_valued : (Q : BoundLeaf → Type 0) (V : BoundLeaf → ℤ) (value : ℤ) (leaves : List BoundLeaf) → ((leaf : BoundLeaf) → V leaf ≡ value → Q leaf) → Contains (map V leaves) value → Any Q leaves
any_valued Q V value [] gives (k, lt, e) = absurd (omega (arith, lt))
any_valued Q V value (leaf ∷ leaves) gives (zero, lt, e) = any_first Q leaf leaves (gives leaf e)
any_valued Q V value (leaf ∷ leaves) gives (suc k, lt, e) = any_later Q leaf leaves (any_valued Q V value leaves gives (k, (omega (arith, lt)), e))

-- none has what each lacks
none_any : (Q : BoundLeaf → Type 0) (leaves : List BoundLeaf) → All (λ leaf. Q leaf → ⊥) leaves → Any Q leaves → ⊥
none_any Q leaves lack (k, x, lt, e, is) = subst (λ (leaf : BoundLeaf). Q leaf → ⊥) e (lack k x lt) is

all_valued : (V : BoundLeaf → ℤ) (least : ℤ) (leaves : List BoundLeaf) → All (λ value. least ≤ℤ value) (map V leaves) → All (λ leaf. least ≤ℤ V leaf) leaves
all_valued V least [] all = All-nil (λ leaf. least ≤ℤ V leaf)
all_valued V least (leaf ∷ leaves) all =
    All-cons (λ leaf. least ≤ℤ V leaf) leaf leaves (All-head (λ value. least ≤ℤ value) (V leaf) (map V leaves) all)
    (all_valued V least leaves (All-tail (λ value. least ≤ℤ value) (V leaf) (map V leaves) all))

no_leaves : (V : BoundLeaf → ℤ) (Q : BoundLeaf → Type 0) (leaves : List BoundLeaf) → map V leaves ≡ [] → All Q leaves
no_leaves V Q [] none = All-nil Q
no_leaves V Q (leaf ∷ leaves) none = absurd cc

module _ (prices : List ℕ) (leaves : List BoundLeaf) where
  -- a leaf is open where a bound is said
  said_is_open : (least : Option Money) (price : Option ℤ) → IsLeastOf (map (leaf_value prices) leaves) least → IsSome (bound_said (head_found least price)) → Any (IsOpenLeaf prices price) leaves
  said_is_open None None is some = absurd cc
  said_is_open None (Some price) is some = absurd cc
  said_is_open (Some bound) None is some = any_valued (IsOpenLeaf prices None) (leaf_value prices) bound.0 leaves (λ leaf same. tt) is.one
  said_is_open (Some bound) (Some price) is some = at (int_lt bound.0 price) refl some
    where
      at : (b : Bool) → int_lt bound.0 price ≡ b → IsSome (bound_said (if b then BoundedPlan bound (record { 0 = price }) else Optimal (record { 0 = price }))) → Any (IsOpenLeaf prices (Some price)) leaves
      at true lower some = any_valued (IsOpenLeaf prices (Some price)) (leaf_value prices) bound.0 leaves (λ leaf same. subst (λ (value : ℤ). value <ℤ price) (sym same) (less bound.0 price lower)) is.one
      at false not_lower some = absurd cc

  -- and a bound is said where a leaf is open
  open_is_said : (least : Option Money) (price : Option ℤ) → IsLeastOf (map (leaf_value prices) leaves) least → Any (IsOpenLeaf prices price) leaves → IsSome (bound_said (head_found least price))
  open_is_said None price is some = absurd (none_any (IsOpenLeaf prices price) leaves (no_leaves (leaf_value prices) (λ leaf. IsOpenLeaf prices price leaf → ⊥) leaves is) some)
  open_is_said (Some bound) None is some = refl
  open_is_said (Some bound) (Some price) is some = at (int_lt bound.0 price) refl
    where
      at : (b : Bool) → int_lt bound.0 price ≡ b → IsSome (bound_said (if b then BoundedPlan bound (record { 0 = price }) else Optimal (record { 0 = price })))
      at true lower = refl
      at false not_lower =
          absurd (none_any (IsOpenLeaf prices (Some price)) leaves
          (All-weaker (λ leaf. bound.0 ≤ℤ leaf_value prices leaf) (λ leaf. IsOpenLeaf prices (Some price) leaf → ⊥)
          (λ leaf above below. crossed bound.0 price (leaf_value prices leaf) (not_less bound.0 price not_lower) above below) leaves (all_valued (leaf_value prices) bound.0 leaves is.all)) some)
        where
          crossed : (bound price value : ℤ) → price ≤ℤ bound → bound ≤ℤ value → value <ℤ price → ⊥
          crossed bound price value low above below = omega (arith, ints)

-- a leaf of the first kind whose box has one fleet is not open
planned_is_closed : (prices : List ℕ) (price : Option ℤ) (leaf : BoundLeaf) → leaf.fleets.least ≡ leaf.fleets.greatest → IsPlanned prices price leaf → IsOpenLeaf prices price leaf → ⊥
planned_is_closed prices None leaf alone planned leaf_open = absurd planned
planned_is_closed prices (Some price) leaf alone planned leaf_open =
    closed leaf.bound price (fleet_cost prices leaf.fleets.least) (fleet_cost prices leaf.fleets.greatest) (ap (fleet_cost prices) alone) planned leaf_open
  where
    closed : (bound price : ℤ) (least greatest : ℕ) → least ≡ greatest → price ≤ℤ (bound +ℤ pos greatest) → (bound +ℤ pos least) <ℤ price → ⊥
    closed bound price least greatest same planned below = omega (arith, ints)

-- ---- what is known of leaves

module _ (day : Day) (prices : List ℕ) (grant : ℕ) (price : Option ℤ) where
  abbrev HasKind : BoundLeaf → Type 0
  HasKind leaf = IsPlanned prices price leaf ⊎ (IsSearched day grant leaf × (choices_of (root_of (with_fleet leaf.fleets.greatest day)) ≤ grant + 1 → ⊥))

  kind_of : (box : FleetBox) (node : BoxNode) → IsOfKind day prices grant price box node → IfBound HasKind box node
  kind_of box (Split station unit_type at) kind = tt
  kind_of box (Bound bound branchings tree) kind = kind
  kind_of box (Nothing branchings tree) kind = tt

  opens_by_value : (value : ℤ) → MatchOption price (Unit {0}) (λ price. value <ℤ price) → is_cheaper value price ≡ true
  opens_by_value value opens = at price opens
    where
      at : (price : Option ℤ) → MatchOption price (Unit {0}) (λ price. value <ℤ price) → is_cheaper value price ≡ true
      at None opens = refl
      at (Some price) opens = less_is_true value price opens

  -- a leaf that is open at the end is spent
  abbrev EndsSpent : BoundLeaf → Type 0
  EndsSpent leaf = IsOpenLeaf prices price leaf → IsSpent grant leaf

  spent_leaf : (leaf : BoundLeaf) → HasKind leaf → (IsOpenLeaf prices price leaf → leaf.fleets.least ≡ leaf.fleets.greatest) → EndsSpent leaf
  spent_leaf leaf (inl planned) alone leaf_open = absurd (planned_is_closed prices price leaf (alone leaf_open) planned leaf_open)
  spent_leaf leaf (inr searched) alone leaf_open = record { alone = alone leaf_open; branchings = searched.0.branchings }

  spent_of : (fleets : FleetBox) (node : BoxNode) → IsOfKind day prices grant price fleets node
      → ((value : Money) → value_in prices fleets node ≡ Some value → is_cheaper value.0 price ≡ true → fleets.least ≡ fleets.greatest) → IfBound EndsSpent fleets node
  spent_of fleets (Split station unit_type at) kind done = tt
  spent_of fleets (Bound bound branchings tree) kind done =
      spent_leaf (record { fleets = fleets; bound = bound.0; tree = tree }) kind
      (λ leaf_open. done (record { 0 = bound.0 +ℤ pos (fleet_cost prices fleets.least) }) refl (opens_by_value (bound.0 +ℤ pos (fleet_cost prices fleets.least)) leaf_open))
  spent_of fleets (Nothing branchings tree) kind done = tt

  counted_of : (types : ℕ) (box : FleetBox) (node : BoxNode) → length day.types ≡ types → IsBoxOf day box → IsProvedAt day box node → IsCounted types box node
  counted_of types box (Split station unit_type at) same is proved = subst (λ (n : ℕ). IsCounted n box (Split station unit_type at)) same proved.parted
  counted_of types box (Bound bound branchings tree) same is proved = is.ordered
  counted_of types box (Nothing branchings tree) same is proved = is.ordered

-- as many choices on the day with another fleet
same_choices : (day : Day) (fleet : List ℕ) → choices_of (root_of (with_fleet fleet day)) ≡ choices_of (root_of day)
unfolding root_of greatest_platform is_admissible from_of to_of platform_of
same_choices day fleet = refl

none_said : (head : Head) → (IsSome (bound_said head) → ⊥) → bound_said head ≡ None
none_said head none = at (bound_said head) none
  where
    at : (said : Option ℤ) → (IsSome said → ⊥) → said ≡ None
    at None none = refl
    at (Some bound) none = absurd (none refl)

-- ---- all together

module _ (day : Day) (prices : List ℕ) (granted : Granted) (search : Search) (fleet : Fleet) (searched : IsSearch day prices granted.branchings search)
    (ended : HasEnded prices granted.splits search) (of : IsConclusion prices search fleet) where
  abbrev types : ℕ
  types = length day.types

  abbrev price : Option ℤ
  price = price_in search.best

  abbrev nodes : List BoxNode
  nodes = nodes_in search.slots.items

  abbrev leaves : List BoundLeaf
  leaves = bound_leaves types (box_of day ∷ []) nodes

  is_price : price_said fleet.head ≡ price
  is_price = ap price_said of.head ∙ price_of_head of.least price

  are_proved : AreTrees (IsProvedAt day) types (box_of day ∷ []) nodes
  are_proved = slots_are_trees (IsPlaced day prices granted.branchings price) (IsProvedAt day) (λ slot is. is.proved) types (box_of day ∷ []) search.slots.items searched.slots

  have_kinds : All (HasKind day prices granted.branchings price) leaves
  have_kinds = leaves_all (HasKind day prices granted.branchings price) types (box_of day ∷ []) nodes
      (slots_are_trees (IsPlaced day prices granted.branchings price) (IfBound (HasKind day prices granted.branchings price))
      (λ slot is. kind_of day prices granted.branchings price slot.fleets slot.node is.kind) types (box_of day ∷ []) search.slots.items searched.slots)

  are_values : values_at prices search.slots.items ≡ values_in types prices (box_of day ∷ []) nodes
  are_values = values_are (IsPlaced day prices granted.branchings price) types prices (box_of day ∷ []) search.slots.items searched.slots

  pub found_is_valid : IsValid day prices fleet
  found_is_valid = record {
    proved = subst (λ (boxes : List BoxNode). AreTrees (IsProvedAt day) types (box_of day ∷ []) boxes) (sym of.boxes) are_proved;
    splits = of.splits ∙ (searched.splits ∙ ap splits_in (sym of.boxes));
    chosen = subst (λ (chosen : Option Chosen). HasPlanSaid day prices chosen (price_said fleet.head)) (sym of.chosen)
        (subst (λ (said : Option ℤ). HasPlanSaid day prices (option_map (λ best. best.chosen) search.best) said) (sym is_price) (plan_is_said day prices search.best searched.best));
    head = subst (λ (values : List ℤ). DoesFollow values fleet.head) (are_values ∙ ap (values_in types prices (box_of day ∷ [])) (sym of.boxes))
        (subst (λ (head : Head). DoesFollow (values_at prices search.slots.items) head) (sym of.head) (head_follows (values_at prices search.slots.items) of.least price of.is_least));
  }

  least_of_leaves : IsLeastOf (map (leaf_value prices) leaves) of.least
  least_of_leaves = subst (λ (values : List ℤ). IsLeastOf values of.least) (are_values ∙ values_of_leaves types prices (box_of day ∷ []) nodes) of.is_least

  abbrev Ends : Type 0
  Ends = (fleet.splits ≡ granted.splits) ⊎ All (EndsSpent day prices granted.branchings price) leaves

  has_ended : Ends
  has_ended = at ended.1
    where
      at : ((search.splits ≡ granted.splits) ⊎ All (IsDone prices price) search.slots.items) → Ends
      at (inl all) = inl (of.splits ∙ all)
      at (inr done) = inr (leaves_all (EndsSpent day prices granted.branchings price) types (box_of day ∷ []) nodes
          (slots_are_trees (λ slot. IsPlaced day prices granted.branchings price slot × IsDone prices price slot) (IfBound (EndsSpent day prices granted.branchings price))
          (λ slot is. spent_of day prices granted.branchings price slot.fleets slot.node is.0.kind is.1) types (box_of day ∷ []) search.slots.items
          (slots_both (IsPlaced day prices granted.branchings price) (IsDone prices price) types (box_of day ∷ []) search.slots.items searched.slots done)))

  said_opens : IsSome (bound_said fleet.head) → Any (IsOpenLeaf prices price) leaves
  said_opens some = said_is_open prices leaves of.least price least_of_leaves (subst (λ (head : Head). IsSome (bound_said head)) of.head some)

  -- each leaf with a bound has one fleet alone, where there are enough splits
  all_alone : fleets_below (own_fleet day) ≤ granted.splits + 1 → fleet.splits ≡ granted.splits → All (λ leaf. leaf.fleets.least ≡ leaf.fleets.greatest) leaves
  all_alone few all =
      let places : length (own_fleet day) ≡ length day.stations * length day.types = length-listed (start_at day) (length day.stations * length day.types) in
      let count : fleets_from (replicate (length day.stations * length day.types) 0) (own_fleet day) ≡ fleets_below (own_fleet day) =
      subst (λ (n : ℕ). fleets_from (replicate n 0) (own_fleet day) ≡ fleets_below (own_fleet day)) places (all_below (own_fleet day)) in
      each_alone types (box_of day ∷ []) nodes
      (slots_are_trees (IsPlaced day prices granted.branchings price) (IsCounted types)
      (λ slot is. counted_of day prices granted.branchings price types slot.fleets slot.node refl is.box is.proved) types (box_of day ∷ []) search.slots.items searched.slots)
      (omega (arith, count, few, all, of.splits, searched.splits))

  closed_leaf : choices_of (root_of day) ≤ granted.branchings + 1 → (leaf : BoundLeaf) → HasKind day prices granted.branchings price leaf
      → (IsOpenLeaf prices price leaf → leaf.fleets.least ≡ leaf.fleets.greatest) → IsOpenLeaf prices price leaf → ⊥
  closed_leaf few leaf (inl planned) alone leaf_open = planned_is_closed prices price leaf (alone leaf_open) planned leaf_open
  closed_leaf few leaf (inr kind) alone leaf_open = kind.1 (omega (arith, few, same_choices day leaf.fleets.greatest))

  none_open : fleets_below (own_fleet day) ≤ granted.splits + 1 → choices_of (root_of day) ≤ granted.branchings + 1 → Ends → All (λ leaf. IsOpenLeaf prices price leaf → ⊥) leaves
  none_open few_fleets few (inl all) = λ k none lt. closed_leaf few _ (have_kinds k none lt) (λ leaf_open. all_alone few_fleets all k none lt)
  none_open few_fleets few (inr spent) = λ k none lt. closed_leaf few _ (have_kinds k none lt) (λ leaf_open. (spent k none lt leaf_open).alone)

  -- as few nodes as a check takes
  few_nodes : granted.splits ≤ MAX_SPLITS → length fleet.boxes ≤ MAX_BOX_NODES
  few_nodes few =
      let all : length nodes ≡ 2 * splits_in nodes + 1 = nodes_in_all (IsProvedAt day) types (box_of day ∷ []) nodes are_proved in
      subst (λ (boxes : List BoxNode). length boxes ≤ MAX_BOX_NODES) (sym of.boxes) (omega (arith, all, searched.splits, ended.0, few))

  pub found : granted.splits ≤ MAX_SPLITS → IsTrueOfFleets day prices fleet.head fleet.chosen → IsFleetFound day prices granted fleet
  found few holds = record {
    holds = holds;
    valid = found_is_valid;
    splits = subst (λ (n : ℕ). n ≤ granted.splits) (sym of.splits) ended.0;
    nodes = few_nodes few;
    ends = subst (λ (boxes : List BoxNode). IsSome (bound_said fleet.head)
        ↔ (Any (IsOpenLeaf prices (price_said fleet.head)) (bound_leaves types (box_of day ∷ []) boxes)
        × ((fleet.splits ≡ granted.splits)
        ⊎ All (λ leaf. IsOpenLeaf prices (price_said fleet.head) leaf → IsSpent granted.branchings leaf) (bound_leaves types (box_of day ∷ []) boxes)))) (sym of.boxes)
        (subst (λ (said : Option ℤ). IsSome (bound_said fleet.head)
        ↔ (Any (IsOpenLeaf prices said) leaves × ((fleet.splits ≡ granted.splits) ⊎ All (λ leaf. IsOpenLeaf prices said leaf → IsSpent granted.branchings leaf) leaves))) (sym is_price) (
          λ some. (said_opens some, has_ended),
          λ both. subst (λ (head : Head). IsSome (bound_said head)) (sym of.head) (open_is_said prices leaves of.least price least_of_leaves both.0),
        ));
    enough = λ few_fleets few. none_said fleet.head (λ some. none_any (IsOpenLeaf prices price) leaves (none_open few_fleets few has_ended) (said_opens some));
    kinds = subst (λ (boxes : List BoxNode). All (λ leaf. IsPlanned prices (price_said fleet.head) leaf ⊎ IsSearched day granted.branchings leaf) (bound_leaves types (box_of day ∷ []) boxes)) (sym of.boxes)
        (subst (λ (said : Option ℤ). All (λ leaf. IsPlanned prices said leaf ⊎ IsSearched day granted.branchings leaf) leaves) (sym is_price)
        (All-weaker (HasKind day prices granted.branchings price) (λ leaf. IsPlanned prices price leaf ⊎ IsSearched day granted.branchings leaf) (λ leaf kind. without leaf kind) leaves have_kinds));
  }
    where
      without : (leaf : BoundLeaf) → HasKind day prices granted.branchings price leaf → IsPlanned prices price leaf ⊎ IsSearched day granted.branchings leaf
      without leaf (inl planned) = inl planned
      without leaf (inr kind) = inr kind.0

-- ---- what slots are worth can be told

pub placed_can_be_valued : (day : Day) (prices : List ℕ) (grant : ℕ) (most : Option ℤ) → IsSoundDay day → length prices ≡ length day.types → (slot : Slot) → IsPlaced day prices grant most slot → CanBeValued prices slot
placed_can_be_valued day prices grant most sound same slot is =
    let fits : FitsDay day slot.fleets.least = smaller_fleets_fit day slot.fleets.least slot.fleets.greatest (fleet_fits day slot.fleets.greatest sound is.box.within) is.box.ordered in
    record { priced = some_price day prices slot.fleets.least fits same; few = fits.few; small = is.small; ordered = is.box.ordered }

pub search_can_be_valued : (day : Day) (prices : List ℕ) (grant : ℕ) (search : Search) → IsSoundDay day → length prices ≡ length day.types → IsSearch day prices grant search → All (CanBeValued prices) search.slots.items
search_can_be_valued day prices grant search sound same is =
    slots_all (CanBeValued prices) (length day.types) (box_of day ∷ []) search.slots.items
    (slots_map (IsPlaced day prices grant (price_in search.best)) (CanBeValued prices) (placed_can_be_valued day prices grant (price_in search.best) sound same) (length day.types) (box_of day ∷ []) search.slots.items is.slots)
