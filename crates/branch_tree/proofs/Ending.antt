-- Proper cuts make fewer branches than their root has picks, and one fewer leave one composition for each trip at every
-- leaf.
use Rattle.std.proofs.Common.{◌≡◌, ℕ, zero, suc, ◌+◌, ◌*◌, ◌<◌, ◌≤◌, List, [], ◌∷◌, ◌++◌, length, set, Bool, true}
use Rattle.std.proofs.Common.{false, not, ◌&&◌, Option, Some, None, MatchOption, is_some, if◌then◌else◌, refl, sym, ◌∙◌}
use Rattle.std.proofs.Common.{ap, subst, arith}
use Rattle.std.proofs.Math.Nat.{mul-le-mul_left, mul_comm}
use Rattle.std.proofs.lemmas.Grind.{get_or-set_at}
use Rattle.std.proofs.lemmas.List.Elements.{All-cons, All-nil, All-head, All-tail, All-set}
use Rattle.branch_tree.specs.declared.cuts.Cut.{Cut}
use Rattle.branch_tree.specs.declared.cuts.Side.{Side}
use Rattle.branch_tree.specs.declared.cuts.Side.TheVariants.{Left, Right}
use Rattle.branch_tree.specs.Cuts.{trip_of, is_on, is_met, side_of, IsProper}
use Rattle.branch_tree.specs.Laws.{ProperCutsEnd, SidesAreFilled}
use Rattle.branch_tree.specs.Regions.{choices_of, set_at, IsFilled, IsSingle}
use Rattle.branch_tree.specs.Sets.{HasMember, size_of, restricted_from, restricted}
use Rattle.branch_tree.specs.Trees.{Walks, cut_of, regions_below, branches_in}
use Rattle.branch_tree.proofs.Covering.{trip_inside}
use Rattle.branch_tree.proofs.Settling.{member_counts}

-- the members that pass a test and those that do not make up the set
size_of-parts : (first : ℕ) (test : ℕ → Bool) (members : List Bool) → size_of (restricted_from first test members) + size_of (restricted_from first (λ comp. not (test comp)) members) ≡ size_of members
size_of-parts first test [] = refl
size_of-parts first test (member ∷ members) = one member (test first) (size_of-parts (suc first) test members)
  where
    one : (m t : Bool) → size_of (restricted_from (suc first) test members) + size_of (restricted_from (suc first) (λ comp. not (test comp)) members) ≡ size_of members →
        ((if m && t then 1 else 0) + size_of (restricted_from (suc first) test members)) + ((if m && not t then 1 else 0) + size_of (restricted_from (suc first) (λ comp. not (test comp)) members)) ≡ (if m then 1 else 0) + size_of members
    one true true rest = omega (arith, rest)
    one true false rest = omega (arith, rest)
    one false true rest = omega (arith, rest)
    one false false rest = omega (arith, rest)

-- the picks of a region apart from a trip
choices_but : List (List Bool) → ℕ → ℕ
choices_but [] trip = 1
choices_but (members ∷ sets) zero = choices_of sets
choices_but (members ∷ sets) (suc trip) = size_of members * choices_but sets trip

swap_product : (a b c : ℕ) → a * (b * c) ≡ b * (a * c)
swap_product a b c = grind arith

distribute : (a b c : ℕ) → (a + b) * c ≡ a * c + b * c
distribute a b c = grind arith

choices_of-set : (region : List (List Bool)) (trip : ℕ) (members : List Bool) → trip < length region → choices_of (set region trip members) ≡ size_of members * choices_but region trip
unfolding choices_but
choices_of-set [] trip members inside = absurd (omega (arith, inside))
choices_of-set (old ∷ sets) zero members inside = refl
choices_of-set (old ∷ sets) (suc trip) members inside =
    ap (λ n. size_of old * n) (choices_of-set sets trip members (omega (arith, inside))) ∙ swap_product (size_of old) (size_of members) (choices_but sets trip)

choices_of-whole : (region : List (List Bool)) (trip : ℕ) → trip < length region → choices_of region ≡ size_of (set_at region trip) * choices_but region trip
unfolding choices_but
choices_of-whole [] trip inside = absurd (omega (arith, inside))
choices_of-whole (old ∷ sets) zero inside = refl
choices_of-whole (old ∷ sets) (suc trip) inside =
    ap (λ n. size_of old * n) (choices_of-whole sets trip (omega (arith, inside))) ∙ swap_product (size_of old) (size_of (set_at sets trip)) (choices_but sets trip)

-- the two sides of a cut share the picks of its region
choices_of-sides : (catalogue : List (List ℕ)) (cut : Cut) (region : List (List Bool)) → trip_of cut < length region →
    choices_of (side_of catalogue cut Left region) + choices_of (side_of catalogue cut Right region) ≡ choices_of region
choices_of-sides catalogue cut region inside =
    let old : List Bool = set_at region (trip_of cut) in
    let but : ℕ = choices_but region (trip_of cut) in
    let left : choices_of (side_of catalogue cut Left region) ≡ size_of (restricted (is_on catalogue cut Left) old) * but = choices_of-set region (trip_of cut) (restricted (is_on catalogue cut Left) old) inside in
    let right : choices_of (side_of catalogue cut Right region) ≡ size_of (restricted (is_on catalogue cut Right) old) * but = choices_of-set region (trip_of cut) (restricted (is_on catalogue cut Right) old) inside in
    let parts : size_of (restricted (is_on catalogue cut Left) old) + size_of (restricted (is_on catalogue cut Right) old) ≡ size_of old = size_of-parts 0 (is_met catalogue cut) old in
    let whole : choices_of region ≡ size_of old * but = choices_of-whole region (trip_of cut) inside in
    sums (size_of (restricted (is_on catalogue cut Left) old)) (size_of (restricted (is_on catalogue cut Right) old)) (size_of old) but _ _ _ left right whole parts
  where
    sums : (a b c k left right whole : ℕ) → left ≡ a * k → right ≡ b * k → whole ≡ c * k → a + b ≡ c → left + right ≡ whole
    sums a b c k left right whole l r w parts = l_r (ap (λ n. n * k) parts)
      where
        l_r : (a + b) * k ≡ c * k → left + right ≡ whole
        l_r product = omega (arith, l, r, w, product, distribute a b k)

-- a region with a composition for each trip has picks
some_choices : (region : List (List Bool)) → IsFilled region → 1 ≤ choices_of region
some_choices [] all = omega arith
some_choices (members ∷ sets) all =
    let here : HasMember members = All-head HasMember members sets all in
    product_some (size_of members) (choices_of sets) (member_counts members here.0 here.1) (some_choices sets (All-tail HasMember members sets all))
  where
    product_some : (a b : ℕ) → 1 ≤ a → 1 ≤ b → 1 ≤ a * b
    product_some a b p q = omega (arith, p, q, mul-le-mul_left a q)

-- where it has no more than one, each trip has one composition
single_choices : (region : List (List Bool)) → IsFilled region → choices_of region ≤ 1 → IsSingle region
single_choices [] all few = All-nil (λ members. size_of members ≡ 1)
single_choices (members ∷ sets) all few =
    let here : HasMember members = All-head HasMember members sets all in
    let size : 1 ≤ size_of members = member_counts members here.0 here.1 in
    let rest : 1 ≤ choices_of sets = some_choices sets (All-tail HasMember members sets all) in
    All-cons (λ set. size_of set ≡ 1) members sets (factor_one (size_of members) (choices_of sets) size rest few)
    (single_choices sets (All-tail HasMember members sets all) (factor_few (size_of members) (choices_of sets) size rest few))
  where
    factor_one : (a b : ℕ) → 1 ≤ a → 1 ≤ b → a * b ≤ 1 → a ≡ 1
    factor_one a b p q few = omega (arith, p, few, mul-le-mul_left a q)

    factor_few : (a b : ℕ) → 1 ≤ a → 1 ≤ b → a * b ≤ 1 → b ≤ 1
    factor_few a b p q few = omega (arith, few, mul-le-mul_left b p, mul_comm a b)

-- the picks of regions together
choices_together : List (List (List Bool)) → ℕ
choices_together [] = 0
choices_together (region ∷ regions) = choices_of region + choices_together regions

-- every region has a composition for each trip
AreFilled : List (List (List Bool)) → Type 0
AreFilled [] = Unit {0}
AreFilled (region ∷ regions) = IsFilled region × AreFilled regions

side_filled : (catalogue : List (List ℕ)) (cut : Cut) (side : Side) (region : List (List Bool)) → trip_of cut < length region → HasMember (set_at (side_of catalogue cut side region) (trip_of cut)) →
    IsFilled region → IsFilled (side_of catalogue cut side region)
side_filled catalogue cut side region inside some filled =
    All-set HasMember region (trip_of cut) (restricted (is_on catalogue cut side) (set_at region (trip_of cut)))
    (subst HasMember (get_or-set_at region (trip_of cut) (trip_of cut) (restricted (is_on catalogue cut side) (set_at region (trip_of cut))) [] refl inside) some) filled

pub sides_are_filled : SidesAreFilled
sides_are_filled catalogue cut Left region proper filled =
    side_filled catalogue cut Left region (trip_inside catalogue region cut proper.in_range) proper.left filled
sides_are_filled catalogue cut Right region proper filled =
    side_filled catalogue cut Right region (trip_inside catalogue region cut proper.in_range) proper.right filled

filled_below : (catalogue : List (List ℕ)) (region : List (List Bool)) (regions : List (List (List Bool))) (found : Option Cut) → MatchOption found (Unit {0}) (IsProper catalogue region) →
    IsFilled region → AreFilled regions → AreFilled (regions_below catalogue region found ++ regions)
unfolding AreFilled
filled_below catalogue region regions None proper filled rest = rest
filled_below catalogue region regions (Some cut) proper filled rest =
    let inside : trip_of cut < length region = trip_inside catalogue region cut proper.in_range in
    (side_filled catalogue cut Left region inside proper.left filled, (side_filled catalogue cut Right region inside proper.right filled, rest))

-- a leaf's region, where it is one, has one composition for each trip
SingleLeaf : {N : Type 0} → (N → Option Cut) → List (List Bool) → N → Type 0
SingleLeaf cut_of region node = cut_of node ≡ None → IsSingle region

-- trees over regions have no more leaves than picks, and where they have as many, each leaf's region has one
record AreSpent {N : Type 0} (cut_of : N → Option Cut) (catalogue : List (List ℕ)) (regions : List (List (List Bool))) (nodes : List N) : Type 0 where
  enough : length regions + branches_in cut_of nodes ≤ choices_together regions
  single : choices_together regions ≤ length regions + branches_in cut_of nodes → Walks cut_of catalogue (SingleLeaf cut_of) regions nodes

-- one node more
spent_more : {N : Type 0} → (cut_of : N → Option Cut) (catalogue : List (List ℕ)) (region : List (List Bool)) (regions : List (List (List Bool))) (node : N) (nodes : List N) (found : Option Cut) → cut_of node ≡ found →
    MatchOption found (Unit {0}) (IsProper catalogue region) → IsFilled region → AreSpent cut_of catalogue (regions_below catalogue region found ++ regions) nodes → AreSpent cut_of catalogue (region ∷ regions) (node ∷ nodes)
unfolding choices_together SingleLeaf
spent_more cut_of catalogue region regions node nodes None at proper filled spent =
    let counted : (if is_some (cut_of node) then 1 else 0) ≡ 0 = ap {B = ℕ} (λ found. if is_some found then 1 else 0) at in
    let some : 1 ≤ choices_of region = some_choices region filled in
    record {
      enough = omega (arith, counted, some, spent.enough);
      single = λ few. (
        (λ leaf. single_choices region filled (omega (arith, counted, few, spent.enough))),
        subst (λ found. Walks cut_of catalogue (SingleLeaf cut_of) (regions_below catalogue region found ++ regions) nodes) (sym at) (spent.single (omega (arith, counted, few, some))),
      );
    }
spent_more cut_of catalogue region regions node nodes (Some cut) at proper filled spent =
    let counted : (if is_some (cut_of node) then 1 else 0) ≡ 1 = ap {B = ℕ} (λ found. if is_some found then 1 else 0) at in
    let sides : choices_of (side_of catalogue cut Left region) + choices_of (side_of catalogue cut Right region) ≡ choices_of region = choices_of-sides catalogue cut region (trip_inside catalogue region cut proper.in_range) in
    record {
      enough = omega (arith, counted, sides, spent.enough);
      single = λ few. (
        (λ leaf. absurd (no_leaf (sym leaf ∙ at))),
        subst (λ found. Walks cut_of catalogue (SingleLeaf cut_of) (regions_below catalogue region found ++ regions) nodes) (sym at) (spent.single (omega (arith, counted, sides, few))),
      );
    }
  where
    no_leaf : None ≡ Some cut → ⊥
    no_leaf wrong = cc

are_spent : {N : Type 0} → (cut_of : N → Option Cut) (catalogue : List (List ℕ)) (regions : List (List (List Bool))) (nodes : List N) →
    Walks cut_of catalogue (λ region node. MatchOption (cut_of node) (Unit {0}) (IsProper catalogue region)) regions nodes → AreFilled regions → AreSpent cut_of catalogue regions nodes
unfolding AreFilled choices_together
are_spent cut_of catalogue [] [] walks filled = record { enough = omega arith; single = λ few. tt }
are_spent cut_of catalogue [] (node ∷ nodes) walks filled = absurd walks
are_spent cut_of catalogue (region ∷ regions) [] walks filled = absurd walks
are_spent cut_of catalogue (region ∷ regions) (node ∷ nodes) walks filled =
    spent_more cut_of catalogue region regions node nodes (cut_of node) refl walks.0 filled.0
    (are_spent cut_of catalogue (regions_below catalogue region (cut_of node) ++ regions) nodes walks.1 (filled_below catalogue region regions (cut_of node) walks.0 filled.0 filled.1))

pub proper_cuts_end : ProperCutsEnd
unfolding AreFilled choices_together SingleLeaf
proper_cuts_end catalogue root nodes covers filled =
    let spent : AreSpent cut_of catalogue (root ∷ []) nodes = are_spent cut_of catalogue (root ∷ []) nodes covers (filled, tt) in
    record { fewer = omega (arith, spent.enough); single = λ few. spent.single (omega (arith, few)) }
