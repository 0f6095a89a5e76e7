-- The slots of a search: whole trees in preorder, in which a leaf is replaced by a split and two leaves.
use Rattle.std.proofs.Common.{◌≡◌, ◌∙◌, ℕ, zero, suc, ◌+◌, ◌*◌, ◌<◌, List, [], ◌∷◌, ◌++◌, length, get_or, set, All, false, refl, sym, ap, subst, arith}
use Rattle.std.proofs.Common.{Option, Some, None, inl, inr}
use Rattle.std.specs.Prelude.{ℤ, pos, ◌+ℤ◌, slice_index}
use Rattle.std.specs.List.{insert}
use Rattle.std.proofs.lemmas.Int.{ints}
use Rattle.std.proofs.lemmas.List.{get_or_default}
use Rattle.std.proofs.lemmas.List.Elements.{All-cons, All-head, All-nil, All-tail}
use Rattle.timetable.specs.Day.{Day}
use Rattle.timetable.proofs.Indices.{InRows, in_rows}
use Rattle.timetable.proofs.Listing.{length-listed}
use Rattle.fleets.specs.Fleets.{IsNowhereAbove, own_fleet, start_at}
use Rattle.fleets.proofs.Sizes.{as_long}
use Rattle.fleet_boxes.proofs.Parts.{boxes_have_all_fleets, not_above, splits_part}
use Rattle.fleet_boxes.specs.declared.boxes.FleetBox.{FleetBox}
use Rattle.fleet_boxes.specs.declared.nodes.BoxNode.{BoxNode}
use Rattle.fleet_boxes.specs.declared.nodes.BoxNode.TheVariants.{Split, Bound, Nothing}
use Rattle.fleet_boxes.specs.Boxes.{IsParted, box_of, lower_part, upper_part}
use Rattle.fleet_boxes.specs.Prices.{fleet_cost}
use Rattle.fleet_boxes.specs.ProvedBoxes.{AreTrees, IsProvedAt, boxes_below, values_in}
use Rattle.fleet_check.specs.Verdicts.{splits_in}
use Rattle.fleet_size.specs.declared.offers.Best.{Best}
use Rattle.fleet_size.specs.declared.slots.Slot.{Slot}
use Rattle.fleet_size.specs.Found.{IsPricedUpTo, branchings_in}
use Rattle.fleet_size.specs.Slots.{AreSlots, IsBest, IsBoxOf, IsEvaluated, IsNoDearer, IsOfKind, IsPlaced, is_split, nodes_in, price_in}
use Rattle.fleet_size.specs.Values.{and_values, value_in, values_at}

-- ---- facts of slots

pub slots_map : (P Q : Slot → Type 0) → ((slot : Slot) → P slot → Q slot) → (types : ℕ) (boxes : List FleetBox) (slots : List Slot) → AreSlots P types boxes slots → AreSlots Q types boxes slots
slots_map P Q follows types [] [] are = tt
slots_map P Q follows types [] (slot ∷ slots) are = absurd are
slots_map P Q follows types (box ∷ boxes) [] are = absurd are
slots_map P Q follows types (box ∷ boxes) (slot ∷ slots) are =
    (are.0, follows slot are.1, slots_map P Q follows types (boxes_below types box slot.node ++ boxes) slots are.2)

pub slots_all : (P : Slot → Type 0) (types : ℕ) (boxes : List FleetBox) (slots : List Slot) → AreSlots P types boxes slots → All P slots
slots_all P types [] [] are = All-nil P
slots_all P types [] (slot ∷ slots) are = absurd are
slots_all P types (box ∷ boxes) [] are = absurd are
slots_all P types (box ∷ boxes) (slot ∷ slots) are = All-cons P slot slots are.1 (slots_all P types (boxes_below types box slot.node ++ boxes) slots are.2)

-- the nodes of slots are trees, and a fact holds of each node in its box
pub slots_are_trees : (P : Slot → Type 0) (Q : FleetBox → BoxNode → Type 0) → ((slot : Slot) → P slot → Q slot.fleets slot.node) → (types : ℕ) (boxes : List FleetBox) (slots : List Slot)
    → AreSlots P types boxes slots → AreTrees Q types boxes (nodes_in slots)
slots_are_trees P Q follows types [] [] are = tt
slots_are_trees P Q follows types [] (slot ∷ slots) are = absurd are
slots_are_trees P Q follows types (box ∷ boxes) [] are = absurd are
slots_are_trees P Q follows types (box ∷ boxes) (slot ∷ slots) are = (
  subst (λ (b : FleetBox). Q b slot.node) are.0 (follows slot are.1),
  slots_are_trees P Q follows types (boxes_below types box slot.node ++ boxes) slots are.2,
)

-- ---- a leaf is replaced

-- slots with three in place of the one at a place
abbrev pub replaced : List Slot → ℕ → Slot → Slot → Slot → List Slot
replaced [] place split lower upper = []
replaced (slot ∷ slots) zero split lower upper = split ∷ lower ∷ upper ∷ slots
replaced (slot ∷ slots) (suc place) split lower upper = slot ∷ replaced slots place split lower upper

pub put_in : (slots : List Slot) (place : ℕ) (split lower upper : Slot) → place < length slots
    → insert (insert (set slots place split) (suc place) lower) (suc (suc place)) upper ≡ replaced slots place split lower upper
put_in [] place split lower upper within = absurd (omega (arith, within))
put_in (slot ∷ slots) zero split lower upper within = refl
put_in (slot ∷ slots) (suc place) split lower upper within = ap (λ (others : List Slot). slot ∷ others) (put_in slots place split lower upper (omega (arith, within)))

-- as they are put in one after the other
pub put_after : (slots : List Slot) (k : ℕ) (split first second : Slot) (put one_more : List Slot) → k < length slots → put ≡ insert (set slots k split) (k + 1) first → one_more ≡ insert put (k + 2) second
    → one_more ≡ replaced slots k split first second
put_after slots k split first second put one_more within one_is two_is =
    let next : k + 1 ≡ suc k = omega arith in
    let last : k + 2 ≡ suc (suc k) = omega arith in
    two_is ∙ ap (λ (list : List Slot). insert list (k + 2) second) one_is ∙ ap (λ (p : ℕ). insert (insert (set slots k split) p first) (k + 2) second) next
    ∙ ap (λ (p : ℕ). insert (insert (set slots k split) (suc k) first) p second) last ∙ put_in slots k split first second within

none_below_leaf : (types : ℕ) (box : FleetBox) (node : BoxNode) → is_split node ≡ false → boxes_below types box node ≡ []
none_below_leaf types box (Split station unit_type at) leaf = absurd cc
none_below_leaf types box (Bound bound branchings tree) leaf = refl
none_below_leaf types box (Nothing branchings tree) leaf = refl

-- a split with the leaves of its parts over the box of a leaf
pub record AreThree (P : Slot → Type 0) (types : ℕ) (whole : FleetBox) (first second third : Slot) : Type 0 where
  pub station : ℕ
  pub unit_type : ℕ
  pub at : ℕ
  pub node : first.node ≡ Split station unit_type at
  pub box : first.fleets ≡ whole
  pub split : P first
  pub lower_leaf : is_split second.node ≡ false
  pub lower_box : second.fleets ≡ lower_part (station * types + unit_type) at whole
  pub lower : P second
  pub upper_leaf : is_split third.node ≡ false
  pub upper_box : third.fleets ≡ upper_part (station * types + unit_type) at whole
  pub upper : P third

three_first : (P : Slot → Type 0) (types : ℕ) (box : FleetBox) (boxes : List FleetBox) (slots : List Slot) (split lower upper : Slot) → AreThree P types box split lower upper
    → AreSlots P types boxes slots → AreSlots P types (box ∷ boxes) (split ∷ lower ∷ upper ∷ slots)
three_first P types box boxes slots split lower upper are rest =
    let low : FleetBox = lower_part (are.station * types + are.unit_type) are.at box in
    let high : FleetBox = upper_part (are.station * types + are.unit_type) are.at box in
    let last : AreSlots P types (high ∷ boxes) (upper ∷ slots) =
    (are.upper_box, are.upper, subst (λ (some : List FleetBox). AreSlots P types (some ++ boxes) slots) (sym (none_below_leaf types high upper.node are.upper_leaf)) rest) in
    let both : AreSlots P types (low ∷ high ∷ boxes) (lower ∷ upper ∷ slots) =
    (are.lower_box, are.lower, subst (λ (some : List FleetBox). AreSlots P types (some ++ (high ∷ boxes)) (upper ∷ slots)) (sym (none_below_leaf types low lower.node are.lower_leaf)) last) in
    (are.box, are.split, subst (λ (node : BoxNode). AreSlots P types (boxes_below types box node ++ boxes) (lower ∷ upper ∷ slots)) (sym are.node) both)

pub slots_grow : (P : Slot → Type 0) (types : ℕ) (boxes : List FleetBox) (slots : List Slot) (place : ℕ) (leaf split lower upper : Slot) → place < length slots → leaf ≡ get_or slots place leaf
    → is_split leaf.node ≡ false → AreThree P types leaf.fleets split lower upper → AreSlots P types boxes slots → AreSlots P types boxes (replaced slots place split lower upper)
slots_grow P types [] [] place leaf split lower upper within is none three are = absurd (omega (arith, within))
slots_grow P types [] (slot ∷ slots) place leaf split lower upper within is none three are = absurd are
slots_grow P types (box ∷ boxes) [] place leaf split lower upper within is none three are = absurd are
slots_grow P types (box ∷ boxes) (slot ∷ slots) zero leaf split lower upper within is none three are =
    let same : leaf.fleets ≡ box = ap (λ (one : Slot). one.fleets) is ∙ are.0 in
    let is_leaf : is_split slot.node ≡ false = subst (λ (one : Slot). is_split one.node ≡ false) is none in
    let rest : AreSlots P types boxes slots = subst (λ (some : List FleetBox). AreSlots P types (some ++ boxes) slots) (none_below_leaf types box slot.node is_leaf) are.2 in
    three_first P types box boxes slots split lower upper (subst (λ (b : FleetBox). AreThree P types b split lower upper) same three) rest
slots_grow P types (box ∷ boxes) (slot ∷ slots) (suc place) leaf split lower upper within is none three are =
    (are.0, are.1, slots_grow P types (boxes_below types box slot.node ++ boxes) slots place leaf split lower upper (omega (arith, within)) is none three are.2)

-- one split more
splits_first : (node : BoxNode) (nodes : List BoxNode) → is_split node ≡ false → splits_in (node ∷ nodes) ≡ splits_in nodes
splits_first (Split station unit_type at) nodes leaf = absurd cc
splits_first (Bound bound branchings tree) nodes leaf = refl
splits_first (Nothing branchings tree) nodes leaf = refl

splits_rest : (node : BoxNode) (nodes others : List BoxNode) (more : ℕ) → splits_in others ≡ splits_in nodes + more → splits_in (node ∷ others) ≡ splits_in (node ∷ nodes) + more
splits_rest (Split station unit_type at) nodes others more is = omega (arith, is)
splits_rest (Bound bound branchings tree) nodes others more is = is
splits_rest (Nothing branchings tree) nodes others more is = is

pub one_split : (slots : List Slot) (place : ℕ) (leaf split lower upper : Slot) (station unit_type at : ℕ) → place < length slots → leaf ≡ get_or slots place leaf → is_split leaf.node ≡ false
    → split.node ≡ Split station unit_type at → is_split lower.node ≡ false → is_split upper.node ≡ false
    → splits_in (nodes_in (replaced slots place split lower upper)) ≡ splits_in (nodes_in slots) + 1
one_split [] place leaf split lower upper station unit_type at within is a b c d = absurd (omega (arith, within))
one_split (slot ∷ slots) zero leaf split lower upper station unit_type at within is a b c d =
    let is_leaf : is_split slot.node ≡ false = subst (λ (one : Slot). is_split one.node ≡ false) is a in
    let first : splits_in (split.node ∷ lower.node ∷ upper.node ∷ nodes_in slots) ≡ 1 + splits_in (lower.node ∷ upper.node ∷ nodes_in slots) = ap (λ (node : BoxNode). splits_in (node ∷ lower.node ∷ upper.node ∷ nodes_in slots)) b in
    let second : splits_in (lower.node ∷ upper.node ∷ nodes_in slots) ≡ splits_in (upper.node ∷ nodes_in slots) = splits_first lower.node (upper.node ∷ nodes_in slots) c in
    let third : splits_in (upper.node ∷ nodes_in slots) ≡ splits_in (nodes_in slots) = splits_first upper.node (nodes_in slots) d in
    let old : splits_in (slot.node ∷ nodes_in slots) ≡ splits_in (nodes_in slots) = splits_first slot.node (nodes_in slots) is_leaf in
    omega (arith, first, second, third, old)
one_split (slot ∷ slots) (suc place) leaf split lower upper station unit_type at within is a b c d =
    splits_rest slot.node (nodes_in slots) (nodes_in (replaced slots place split lower upper)) 1
    (one_split slots place leaf split lower upper station unit_type at (omega (arith, within)) is a b c d)

-- ---- how many branchings there are

branchings_first : (node : BoxNode) (nodes : List BoxNode) → branchings_in (node ∷ nodes) ≡ branchings_in (node ∷ []) + branchings_in nodes
branchings_first (Split station unit_type at) nodes = omega arith
branchings_first (Bound bound branchings tree) nodes = omega arith
branchings_first (Nothing branchings tree) nodes = omega arith

-- those of the first leaf are new, where the second one keeps the node of the leaf
pub more_branchings : (slots : List Slot) (place : ℕ) (leaf split lower upper : Slot) (station unit_type at : ℕ) → place < length slots → leaf ≡ get_or slots place leaf
    → split.node ≡ Split station unit_type at → upper.node ≡ leaf.node
    → branchings_in (nodes_in (replaced slots place split lower upper)) ≡ branchings_in (nodes_in slots) + branchings_in (lower.node ∷ [])
more_branchings [] place leaf split lower upper station unit_type at within is a b = absurd (omega (arith, within))
more_branchings (slot ∷ slots) zero leaf split lower upper station unit_type at within is a b =
    let first : branchings_in (split.node ∷ lower.node ∷ upper.node ∷ nodes_in slots) ≡ branchings_in (lower.node ∷ upper.node ∷ nodes_in slots) =
    ap (λ (node : BoxNode). branchings_in (node ∷ lower.node ∷ upper.node ∷ nodes_in slots)) a in
    let second = branchings_first lower.node (upper.node ∷ nodes_in slots) in
    let kept : upper.node ≡ slot.node = b ∙ ap (λ (one : Slot). one.node) is in
    let third : branchings_in (upper.node ∷ nodes_in slots) ≡ branchings_in (slot.node ∷ nodes_in slots) = ap (λ (node : BoxNode). branchings_in (node ∷ nodes_in slots)) kept in
    omega (arith, first, second, third)
more_branchings (slot ∷ slots) (suc place) leaf split lower upper station unit_type at within is a b =
    let rest = more_branchings slots place leaf split lower upper station unit_type at (omega (arith, within)) is a b in
    let old = branchings_first slot.node (nodes_in slots) in
    let new = branchings_first slot.node (nodes_in (replaced slots place split lower upper)) in
    omega (arith, rest, old, new)

-- ---- a better best

pub no_dearer_itself : (price : Option ℤ) → IsNoDearer price price
no_dearer_itself None = tt
no_dearer_itself (Some price) = omega (arith, ints)

pub still_priced : (before after : Option ℤ) (most : ℤ) → IsNoDearer before after → IsPricedUpTo before most → IsPricedUpTo after most
still_priced None after most no_dearer priced = absurd priced
still_priced (Some before) None most no_dearer priced = absurd no_dearer
still_priced (Some before) (Some after) most no_dearer priced = omega (arith, ints, no_dearer, priced)

still_of_kind : (day : Day) (prices : List ℕ) (grant : ℕ) (before after : Option ℤ) (box : FleetBox) (node : BoxNode) → IsNoDearer before after
    → IsOfKind day prices grant before box node → IsOfKind day prices grant after box node
still_of_kind day prices grant before after box (Split station unit_type at) no_dearer kind = tt
still_of_kind day prices grant before after box (Bound bound branchings tree) no_dearer (inl planned) =
    inl (still_priced before after (bound.0 +ℤ pos (fleet_cost prices box.greatest)) no_dearer planned)
still_of_kind day prices grant before after box (Bound bound branchings tree) no_dearer (inr searched) = inr searched
still_of_kind day prices grant before after box (Nothing branchings tree) no_dearer kind = tt

pub still_placed : (day : Day) (prices : List ℕ) (grant : ℕ) (before after : Option ℤ) (slot : Slot) → IsNoDearer before after → IsPlaced day prices grant before slot → IsPlaced day prices grant after slot
still_placed day prices grant before after slot no_dearer is =
    record { box = is.box; proved = is.proved; kind = still_of_kind day prices grant before after slot.fleets slot.node no_dearer is.kind; small = is.small }

-- ---- leaves and values

value_first : (types : ℕ) (prices : List ℕ) (fleets box : FleetBox) (boxes : List FleetBox) (node : BoxNode) (values : List ℤ) (nodes : List BoxNode) → fleets ≡ box
    → values ≡ values_in types prices (boxes_below types box node ++ boxes) nodes → and_values (value_in prices fleets node) values ≡ values_in types prices (box ∷ boxes) (node ∷ nodes)
value_first types prices fleets box boxes (Split station unit_type at) values nodes same rest = rest
value_first types prices fleets box boxes (Bound bound branchings tree) values nodes same rest = λ i. (bound.0 +ℤ pos (fleet_cost prices ((same i).least))) ∷ rest i
value_first types prices fleets box boxes (Nothing branchings tree) values nodes same rest = rest

pub values_are : (P : Slot → Type 0) (types : ℕ) (prices : List ℕ) (boxes : List FleetBox) (slots : List Slot) → AreSlots P types boxes slots → values_at prices slots ≡ values_in types prices boxes (nodes_in slots)
values_are P types prices [] [] are = refl
values_are P types prices [] (slot ∷ slots) are = absurd are
values_are P types prices (box ∷ boxes) [] are = absurd are
values_are P types prices (box ∷ boxes) (slot ∷ slots) are =
    value_first types prices slot.fleets box boxes slot.node (values_at prices slots) (nodes_in slots) are.0 (values_are P types prices (boxes_below types box slot.node ++ boxes) slots are.2)

-- a fact of all slots joins what is known of each
pub slots_both : (P Q : Slot → Type 0) (types : ℕ) (boxes : List FleetBox) (slots : List Slot) → AreSlots P types boxes slots → All Q slots → AreSlots (λ slot. P slot × Q slot) types boxes slots
slots_both P Q types [] [] are all = tt
slots_both P Q types [] (slot ∷ slots) are all = absurd are
slots_both P Q types (box ∷ boxes) [] are all = absurd are
slots_both P Q types (box ∷ boxes) (slot ∷ slots) are all =
    (are.0, (are.1, All-head Q slot slots all), slots_both P Q types (boxes_below types box slot.node ++ boxes) slots are.2 (All-tail Q slot slots all))

-- ---- boxes

itself : (xs : List ℕ) → IsNowhereAbove xs xs
itself [] = tt
itself (x ∷ xs) = ((omega arith), itself xs)

nowhere_above : (xs ys zs : List ℕ) → IsNowhereAbove xs ys → IsNowhereAbove ys zs → IsNowhereAbove xs zs
nowhere_above [] [] [] one two = tt
nowhere_above [] [] (z ∷ zs) one two = absurd two
nowhere_above [] (y ∷ ys) zs one two = absurd one
nowhere_above (x ∷ xs) [] zs one two = absurd one
nowhere_above (x ∷ xs) (y ∷ ys) [] one two = absurd two
nowhere_above (x ∷ xs) (y ∷ ys) (z ∷ zs) one two = ((omega (arith, one.0, two.0)), nowhere_above xs ys zs one.1 two.1)

pub same_box : (box other : FleetBox) → box.least ≡ other.least → box.greatest ≡ other.greatest → box ≡ other
same_box box other least greatest = λ i. record { least = least i; greatest = greatest i }

pub root_is_box : (day : Day) → IsBoxOf day (box_of day)
root_is_box day = record { ordered = ((boxes_have_all_fleets day (own_fleet day)).1 (itself (own_fleet day))).above; within = itself (own_fleet day) }

pub box_like : (day : Day) (box other : FleetBox) → box ≡ other → IsBoxOf day other → IsBoxOf day box
box_like day box other same is = subst (λ (b : FleetBox). IsBoxOf day b) (sym same) is

pub lower_is_box : (day : Day) (box : FleetBox) (place at : ℕ) → IsBoxOf day box → IsParted box place at → IsBoxOf day (lower_part place at box)
lower_is_box day box place at is parted =
    let below : at < slice_index box.greatest place = parted.below in
    record {
      ordered = ((splits_part box place at box.least parted).lower.1 (record { above = itself box.least; below = is.ordered }, parted.from)).below;
      within = nowhere_above (lower_part place at box).greatest box.greatest (own_fleet day) (not_above box.greatest place at (omega (arith, below))) is.within;
    }

pub upper_is_box : (day : Day) (box : FleetBox) (place at : ℕ) → IsBoxOf day box → IsParted box place at → IsBoxOf day (upper_part place at box)
upper_is_box day box place at is parted = record {
  ordered = ((splits_part box place at box.greatest parted).upper.1 (record { above = is.ordered; below = itself box.greatest }, parted.below)).above;
  within = is.within;
}

pub places_of : (day : Day) (box : FleetBox) → IsBoxOf day box → length box.least ≡ length day.stations * length day.types
places_of day box is =
    as_long box.least box.greatest is.ordered ∙ (as_long box.greatest (own_fleet day) is.within ∙ length-listed (start_at day) (length day.stations * length day.types))

-- ---- the upper part of a leaf's box, which has the same greatest fleet

upper_proved : (day : Day) (box : FleetBox) (place at : ℕ) (node : BoxNode) → is_split node ≡ false → IsProvedAt day box node → IsProvedAt day (upper_part place at box) node
upper_proved day box place at (Split station unit_type v) leaf is = absurd cc
upper_proved day box place at (Bound bound branchings tree) leaf is = is
upper_proved day box place at (Nothing branchings tree) leaf is = is

upper_of_kind : (day : Day) (prices : List ℕ) (grant : ℕ) (price : Option ℤ) (box : FleetBox) (place at : ℕ) (node : BoxNode) → IsOfKind day prices grant price box node
    → IsOfKind day prices grant price (upper_part place at box) node
upper_of_kind day prices grant price box place at (Split station unit_type v) is = tt
upper_of_kind day prices grant price box place at (Bound bound branchings tree) (inl planned) = inl planned
upper_of_kind day prices grant price box place at (Bound bound branchings tree) (inr searched) =
    inr (record { branchings = searched.0.branchings; raised = searched.0.raised; not_evident = searched.0.not_evident }, searched.1)
upper_of_kind day prices grant price box place at (Nothing branchings tree) is = tt

-- what is known of a leaf in its box is known of it in the upper part
pub upper_is_evaluated : (day : Day) (prices : List ℕ) (grant : ℕ) (best : Option Best) (leaf second : Slot) (place at : ℕ) → IsBest day prices best → is_split leaf.node ≡ false
    → IsParted leaf.fleets place at → IsPlaced day prices grant (price_in best) leaf → second.fleets ≡ upper_part place at leaf.fleets → second.node ≡ leaf.node
    → IsEvaluated day prices grant (upper_part place at leaf.fleets) best best second
upper_is_evaluated day prices grant best leaf second place at is_best none parted placed box node =
    let part : FleetBox = upper_part place at leaf.fleets in
    let kept : second ≡ record { fleets = part; made = second.made; node = leaf.node } = λ i. record { fleets = box i; made = second.made; node = node i } in
    subst (λ (slot : Slot). IsEvaluated day prices grant part best best slot) (sym kept) (record {
      box = refl;
      leaf = none;
      placed = record {
        box = upper_is_box day leaf.fleets place at placed.box parted;
        proved = upper_proved day leaf.fleets place at leaf.node none placed.proved;
        kind = upper_of_kind day prices grant (price_in best) leaf.fleets place at leaf.node placed.kind;
        small = placed.small;
      };
      best = is_best;
      no_dearer = no_dearer_itself (price_in best);
    })

-- ---- a search

pub one_slot : (day : Day) (prices : List ℕ) (grant : ℕ) (box : FleetBox) (after : Option Best) (slot : Slot) → IsEvaluated day prices grant box None after slot → box ≡ box_of day
    → AreSlots (IsPlaced day prices grant (price_in after)) (length day.types) (box_of day ∷ []) (slot ∷ [])
one_slot day prices grant box after slot is same =
    (is.box ∙ same, is.placed, subst (λ (some : List FleetBox). AreSlots (IsPlaced day prices grant (price_in after)) (length day.types) (some ++ []) []) (sym (none_below_leaf (length day.types) (box_of day) slot.node is.leaf)) tt)

pub no_split : (slot : Slot) → is_split slot.node ≡ false → 0 ≡ splits_in (nodes_in (slot ∷ []))
no_split slot leaf = sym (splits_first slot.node [] leaf)

no_dearer_on : (a b c : Option ℤ) → IsNoDearer a b → IsNoDearer b c → IsNoDearer a c
no_dearer_on None b c one two = tt
no_dearer_on (Some price) b c one two = still_priced b c price two one

module _ (day : Day) (prices : List ℕ) (grant : ℕ) (before middle after : Option Best) (slots : List Slot) (k : ℕ) (leaf first second : Slot) (fleets : FleetBox) (made : ℕ) (place s m at : ℕ) (here : place ≡ s * length day.types + m)
    (within : k < length slots) (is : leaf ≡ get_or slots k leaf) (none : is_split leaf.node ≡ false) (parted : IsParted leaf.fleets place at) (station : s < length day.stations) (unit_type : m < length day.types)
    (same : fleets ≡ leaf.fleets)
    (one : IsEvaluated day prices grant (lower_part place at leaf.fleets) before middle first) (two : IsEvaluated day prices grant (upper_part place at leaf.fleets) middle after second) where
  abbrev split : Slot
  split = record { fleets = fleets; made = made; node = Split s m at }

  three : IsPlaced day prices grant (price_in before) leaf → AreThree (IsPlaced day prices grant (price_in after)) (length day.types) leaf.fleets split first second
  three placed = record {
    station = s;
    unit_type = m;
    at = at;
    node = refl;
    box = same;
    split = subst (λ (f : FleetBox). IsPlaced day prices grant (price_in after) (record { fleets = f; made = made; node = Split s m at })) (sym same)
        (record { box = placed.box; proved = record { station = station; unit_type = unit_type; parted = subst (λ (p : ℕ). IsParted leaf.fleets p at) here parted }; kind = tt; small = tt });
    lower_leaf = one.leaf;
    lower_box = subst (λ (p : ℕ). first.fleets ≡ lower_part p at leaf.fleets) here one.box;
    lower = still_placed day prices grant (price_in middle) (price_in after) first two.no_dearer one.placed;
    upper_leaf = two.leaf;
    upper_box = subst (λ (p : ℕ). second.fleets ≡ upper_part p at leaf.fleets) here two.box;
    upper = two.placed;
  }

  pub slots_after : AreSlots (IsPlaced day prices grant (price_in before)) (length day.types) (box_of day ∷ []) slots
      → AreSlots (IsPlaced day prices grant (price_in after)) (length day.types) (box_of day ∷ []) (replaced slots k split first second)
  slots_after are =
      let placed : IsPlaced day prices grant (price_in before) leaf =
      subst (λ (slot : Slot). IsPlaced day prices grant (price_in before) slot) (sym is) (slots_all (IsPlaced day prices grant (price_in before)) (length day.types) (box_of day ∷ []) slots are k leaf within) in
      slots_grow (IsPlaced day prices grant (price_in after)) (length day.types) (box_of day ∷ []) slots k leaf split first second within is none (three placed)
      (slots_map (IsPlaced day prices grant (price_in before)) (IsPlaced day prices grant (price_in after))
      (λ slot known. still_placed day prices grant (price_in before) (price_in after) slot (no_dearer_on (price_in before) (price_in middle) (price_in after) one.no_dearer two.no_dearer) known)
      (length day.types) (box_of day ∷ []) slots are)

  pub splits_after : splits_in (nodes_in (replaced slots k split first second)) ≡ splits_in (nodes_in slots) + 1
  splits_after = one_split slots k leaf split first second s m at within is none refl one.leaf two.leaf

-- two slots at one place are one
pub same_slot : (slots : List Slot) (k : ℕ) (slot leaf : Slot) {other : Slot} → k < length slots → slot ≡ other → other ≡ get_or slots k other → leaf ≡ get_or slots k leaf → slot ≡ leaf
same_slot slots k slot leaf {other} within same is at = same ∙ (is ∙ (get_or_default slots k other leaf within ∙ sym at))

-- what is known of a slot of a search
pub placed_slot : (day : Day) (prices : List ℕ) (grant : ℕ) (price : Option ℤ) (slots : List Slot) (k : ℕ) (leaf : Slot) → k < length slots → leaf ≡ get_or slots k leaf
    → AreSlots (IsPlaced day prices grant price) (length day.types) (box_of day ∷ []) slots → IsPlaced day prices grant price leaf
placed_slot day prices grant price slots k leaf within is are =
    subst (λ (slot : Slot). IsPlaced day prices grant price slot) (sym is) (slots_all (IsPlaced day prices grant price) (length day.types) (box_of day ∷ []) slots are k leaf within)

-- the place of a station and a type
pub rows_of_place : (day : Day) (box : FleetBox) (place : ℕ) → IsBoxOf day box → place < length box.least → InRows place (length day.stations) (length day.types)
rows_of_place day box place is within = in_rows place (length day.stations) (length day.types) (omega (arith, places_of day box is, within))
