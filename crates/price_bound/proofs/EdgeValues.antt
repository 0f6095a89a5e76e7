-- What an edge of a link adds is what the link adds, where the link's trips have the edge's compositions.
use Rattle.std.proofs.Common.{◌≡◌, ℕ, ◌+◌, ◌-◌, ◌<◌, List, [], ◌∷◌, length, take, drop, map, reverse, Bool, true, false}
use Rattle.std.proofs.Common.{not, ◌&&◌, Option, Some, None, refl, sym, ap, ◌∙◌, subst, arith, ℤ, pos, ◌+ℤ◌, ◌-ℤ◌, inl}
use Rattle.std.proofs.Common.{inr, unwrap_or, slice_get, length-append}
use Rattle.std.specs.Prelude.{◌==◌, if◌then◌else◌, option_map}
use Rattle.std.proofs.lemmas.Bool.{cases_Bool, cases_eq, eq-eqb, eqb-true, ne_eqb}
use Rattle.std.proofs.lemmas.Int.{ints}
use Rattle.std.proofs.lemmas.List.{map-id, reverse-append}
use Rattle.std.proofs.lemmas.Option.{get_or_from_slice_get, slice_get_within}
use Rattle.std.proofs.lemmas.Slice.Eq.{bytes_eq-Decides}
use Rattle.std.proofs.Math.Seq.{take-append_seam, drop-append_seam}
use Rattle.rules.specs.declared.records.End.{End}
use Rattle.rules.specs.declared.records.End.TheVariants as at
use Rattle.timetable.specs.declared.day.indices.Place.{Place}
use Rattle.timetable.specs.declared.day.indices.Place.TheVariants.{Lambda, Mu, Sigma}
use Rattle.timetable.specs.declared.day.records.Handover.{Handover}
use Rattle.rules.specs.declared.records.Link.{Link}
use Rattle.rules.specs.declared.records.LinkKind.{LinkKind}
use Rattle.rules.specs.declared.records.LinkKind.TheVariants.{Turn, Join, Split}
use Rattle.timetable.specs.Chains.{leads_from, leads_to}
use Rattle.timetable.specs.Compositions.{compositions_of, composition_at}
use Rattle.timetable.specs.Cost.{is_shunted, kind_cost}
use Rattle.timetable.specs.Day.{Day, from_of, leaves, to_of, ready_at}
use Rattle.timetable.specs.Handovers.{IsHandover, handovers_of, second_of}
use Rattle.timetable.specs.Indices.{IsPlace, places_of}
use Rattle.timetable.specs.Links.{given_by, itself, list_of, taken_by, turn_of, turned}
use Rattle.timetable.specs.Turns.{AreParts, Consists, Parts, kept_length, same, turn_parts}
use Rattle.timetable.proofs.Handovers.{are_handovers}
use Rattle.timetable.proofs.Indices.{have_multipliers}
use Rattle.timetable.proofs.Shares.{same_lists}
use Rattle.rules.proofs.Turning.{kept-is, turn_parts-some}
use Rattle.timetable.proofs.WholeTurns.{have_parts}
use Rattle.transitions.specs.declared.edge.Edge.{Edge}
use Rattle.transitions.specs.declared.edge.Shunt.{Shunt}
use Rattle.transitions.specs.declared.edge.Shunt.TheVariants.{Keep, Uncouple, Couple, Exchange}
use Rattle.transitions.specs.Edges.{IsKindEdge, IsTurnEdge}
use Rattle.transitions.specs.Turns.{shunt_by_units, shunt_of, turn_shunt}
use Rattle.branch_tree.specs.declared.multipliers.Entry.{Entry}
use Rattle.branch_tree.specs.declared.relaxation.Weight.{Weight}
use Rattle.branch_tree.specs.declared.relaxation.Weight.TheVariants.{Cost, NoCost}
use Rattle.branch_tree.specs.IntSums.{int_sum}
use Rattle.branch_tree.specs.Meanings.{weighted}
use Rattle.price_bound.specs.EdgeValues.{coupled, coupling_value, edge_value, part_multiplier, part_value, shunt_cost}
use Rattle.price_bound.specs.EdgeValues.{stayed, stays_by, turn_value, uncoupling_value}
use Rattle.price_bound.specs.FollowingPicks.{part_by}
use Rattle.price_bound.specs.Regrouped.{of_handover}
use Rattle.price_bound.specs.YardPrices.{by_place, giving, taking, yard_price}
use Rattle.price_bound.proofs.IntLaws.{sum_append, sum_none, sum_same}
use Rattle.price_bound.proofs.Regrouped.{part_price, value_at_link}
use Rattle.price_bound.proofs.Solving.{IsPart, part_is, same_number}

-- ---- units that stay and go

-- what a list sums up to is what stays and what goes
sum_consists : (f : ℕ → ℤ) (end : End) (whole stays goes : List ℕ) → Consists end whole stays goes → int_sum f whole ≡ int_sum f stays +ℤ int_sum f goes
sum_consists f at.None whole stays goes (all, none) = ap (int_sum f) all ∙ plain (int_sum f stays) (int_sum f goes) (ap (int_sum f) none)
  where
    plain : (a b : ℤ) → b ≡ pos 0 → a ≡ a +ℤ b
    plain a b e = omega (arith, ints, e)
sum_consists f at.Rear whole stays goes is = ap (int_sum f) is ∙ sum_append f stays goes
sum_consists f at.Front whole stays goes is = ap (int_sum f) is ∙ sum_append f goes stays ∙ swapped (int_sum f goes) (int_sum f stays)
  where
    swapped : (a b : ℤ) → a +ℤ b ≡ b +ℤ a
    swapped a b = omega (arith, ints)

length_consists : (end : End) (whole stays goes : List ℕ) → Consists end whole stays goes → length whole ≡ length stays + length goes
length_consists at.None whole stays goes (all, none) = omega (arith, ap length all, ap length none)
length_consists at.Rear whole stays goes is = ap length is ∙ length-append stays goes
length_consists at.Front whole stays goes is = omega (arith, ap length is, length-append goes stays)

-- what stayed is found by how many units were coupled
stayed_is : (end : End) (whole stays goes : List ℕ) → Consists end whole stays goes → stayed end (length goes) whole ≡ stays
stayed_is at.None whole stays goes (all, none) = all
stayed_is at.Rear whole stays goes is =
    let long : length whole - length goes ≡ length stays = omega (arith, length_consists at.Rear whole stays goes is) in
    ap (λ (n : ℕ). take n whole) long ∙ ap (take (length stays)) is ∙ take-append_seam stays goes
stayed_is at.Front whole stays goes is = ap (drop (length goes)) is ∙ drop-append_seam goes stays

sum_reverse : (f : ℕ → ℤ) (xs : List ℕ) → int_sum f (reverse xs) ≡ int_sum f xs
sum_reverse f [] = refl
sum_reverse f (x ∷ xs) = ap (int_sum f) (reverse-append (x ∷ []) xs) ∙ sum_append f (reverse xs) (x ∷ []) ∙ turn (int_sum f (reverse xs)) (f x) (int_sum f xs) (sum_reverse f xs)
  where
    turn : (r a s : ℤ) → r ≡ s → r +ℤ (a +ℤ pos 0) ≡ a +ℤ s
    turn r a s e = omega (arith, ints, e)

pub sum_turned : (f : ℕ → ℤ) (r : Bool) (xs : List ℕ) → int_sum f (turned r xs) ≡ int_sum f xs
sum_turned f true xs = sum_reverse f xs
sum_turned f false xs = refl

-- ---- shunts

coupled_by : (bg bt : Bool) (given taken : ℕ) → (bt ≡ true → taken ≡ 0)
    → coupled (if bg then (if bt then Keep else Couple taken) else (if bt then Uncouple given else Exchange given taken)) ≡ taken
coupled_by true true given taken none = sym (none refl)
coupled_by true false given taken none = refl
coupled_by false true given taken none = sym (none refl)
coupled_by false false given taken none = refl

coupled_is : (given taken : ℕ) → coupled (shunt_by_units given taken) ≡ taken
coupled_is given taken = coupled_by (given == 0) (taken == 0) given taken (λ e. eqb-true taken 0 e)

cost_by : (day : Day) (bg bt : Bool) (given taken : ℕ)
    → shunt_cost day (if bg then (if bt then Keep else Couple taken) else (if bt then Uncouple given else Exchange given taken)) ≡ (if not (bg && bt) then day.weights.shunting else 0)
cost_by day true true given taken = refl
cost_by day true false given taken = refl
cost_by day false true given taken = refl
cost_by day false false given taken = refl

none_more : (k n g : ℕ) → n ≡ k + g → (k == n) ≡ (g == 0)
none_more k n g e = elim (cases_eq g 0) [
  | inl none ↦ eq-eqb k n (omega (arith, e, none)) ∙ sym (eq-eqb g 0 none)
  | inr some ↦ ne_eqb k n (λ same. some (omega (arith, e, same))) ∙ sym (ne_eqb g 0 some)
]

pub found : {X Y : Type 0} (f : X → Y) (o : Option X) (y : Y) → option_map f o ≡ Some y → (x : X) × (o ≡ Some x) × (f x ≡ y)
found f None y e = absurd cc
found f (Some x) y e = (x, refl, cc)

weightless : (weight : Weight) → weighted weight (pos 0) ≡ pos 0
weightless Cost = refl
weightless NoCost = refl

-- ---- parts

place_known : (day : Day) (i : ℕ) (place : Place) → slice_get (places_of day) i ≡ Some place → IsPlace day place
place_known day i place at =
    let below : i < length (places_of day) = slice_get_within (places_of day) i place at in
    (have_multipliers day).each place (i, below, get_or_from_slice_get (places_of day) i place place at)

-- tests that agree on hand-overs of the day and compositions of its catalogue give the same
same_tests : (day : Day) (f g : Handover → ℕ → Bool)
    → ((h : ℕ) (handover : Handover) (c : ℕ) → slice_get (handovers_of day) h ≡ Some handover → c < length (compositions_of day) → f handover c ≡ g handover c)
    → (entry : Entry) → by_place day (of_handover day f) entry ≡ by_place day (of_handover day g) entry
same_tests day f g each entry = on (slice_get (places_of day) entry.index) refl
  where
    by_handover : (h c : ℕ) → c < length (compositions_of day) → (o : Option Handover) → slice_get (handovers_of day) h ≡ o
        → (if unwrap_or (option_map (λ handover. f handover c) o) false then entry.value else pos 0) ≡ (if unwrap_or (option_map (λ handover. g handover c) o) false then entry.value else pos 0)
    by_handover h c listed None at = refl
    by_handover h c listed (Some handover) at = ap (λ (b : Bool). if b then entry.value else pos 0) (each h handover c at listed)

    by_kind : (place : Place) → IsPlace day place → of_handover day f place entry.value ≡ of_handover day g place entry.value
    by_kind (Lambda s m k) there = refl
    by_kind (Mu s m) there = refl
    by_kind (Sigma h c) there = by_handover h c there.1 (slice_get (handovers_of day) h) refl

    on : (o : Option Place) → slice_get (places_of day) entry.index ≡ o
        → unwrap_or (option_map (λ place. of_handover day f place entry.value) o) (pos 0) ≡ unwrap_or (option_map (λ place. of_handover day g place entry.value) o) (pos 0)
    on None at = refl
    on (Some place) at = by_kind place (place_known day entry.index place at)

no_test : (day : Day) (entry : Entry) → by_place day (of_handover day (λ handover c. false)) entry ≡ pos 0
no_test day entry = on (slice_get (places_of day) entry.index)
  where
    none : (o : Option Handover) → (if unwrap_or (option_map (λ (handover : Handover). false) o) false then entry.value else pos 0) ≡ pos 0
    none None = refl
    none (Some handover) = refl

    by_kind : (place : Place) → of_handover day (λ handover c. false) place entry.value ≡ pos 0
    by_kind (Lambda s m k) = refl
    by_kind (Mu s m) = refl
    by_kind (Sigma h c) = none (slice_get (handovers_of day) h)

    on : (o : Option Place) → unwrap_or (option_map (λ place. of_handover day (λ handover c. false) place entry.value) o) (pos 0) ≡ pos 0
    on None = refl
    on (Some place) = by_kind place

handover_is : (day : Day) (h : ℕ) (handover : Handover) → slice_get (handovers_of day) h ≡ Some handover → IsHandover day.links handover
handover_is day h handover at = subst (IsHandover day.links) (get_or_from_slice_get (handovers_of day) h handover handover at)
    ((are_handovers day).each h handover (slice_get_within (handovers_of day) h handover at))

-- a link without a second trip has no part
no_part : (day : Day) (entries : List Entry) (l : ℕ) (link : Link) (types : List ℕ) → slice_get day.links l ≡ Some link → second_of link.kind ≡ None → part_price day entries l types ≡ pos 0
unfolding part_price
no_part day entries l link types at none =
    sum_same (by_place day (of_handover day (λ handover c. (handover.link == l) && same types (composition_at day c)))) (by_place day (of_handover day (λ handover c. false))) entries
    (same_tests day (λ handover c. (handover.link == l) && same types (composition_at day c)) (λ handover c. false) (λ h handover c there listed. elsewhere h handover c there))
    ∙ sum_none (by_place day (of_handover day (λ handover c. false))) entries (no_test day)
  where
    elsewhere : (h : ℕ) (handover : Handover) (c : ℕ) → slice_get (handovers_of day) h ≡ Some handover → ((handover.link == l) && same types (composition_at day c)) ≡ false
    elsewhere h handover c there = elim (cases_eq handover.link l) [
      | inl here ↦
          let is : IsHandover day.links handover = handover_is day h handover there in
          let one : Some is.link ≡ Some link = sym is.at ∙ ap (slice_get day.links) here ∙ at in
          let same_link : is.link ≡ link = cc in
          let second : None ≡ Some handover.second = sym none ∙ ap (λ (x : Link). second_of x.kind) (sym same_link) ∙ is.second in
          absurd cc
      | inr differ ↦ ap (λ (b : Bool). b && same types (composition_at day c)) (ne_eqb handover.link l differ)
    ]

-- the part of an edge
part_same : (day : Day) (entries : List Entry) (l part : ℕ) (types : List ℕ) → part < length (compositions_of day) → composition_at day part ≡ types → part_price day entries l types ≡ part_multiplier day entries l part
unfolding part_price part_multiplier
part_same day entries l part types listed are =
    sum_same (by_place day (of_handover day (λ handover c. (handover.link == l) && same types (composition_at day c)))) (by_place day (of_handover day (λ handover c. (handover.link == l) && (part == c)))) entries
    (same_tests day (λ handover c. (handover.link == l) && same types (composition_at day c)) (λ handover c. (handover.link == l) && (part == c))
    (λ h handover c there there_listed. ap (λ (b : Bool). (handover.link == l) && b) (alike c there_listed)))
  where
    alike : (c : ℕ) → c < length (compositions_of day) → same types (composition_at day c) ≡ (part == c)
    alike c c_listed = elim (cases_eq part c) [
      | inl one ↦ (bytes_eq-Decides types (composition_at day c)).1 (sym are ∙ ap (composition_at day) one) ∙ sym (eq-eqb part c one)
      | inr differ ↦ elim (cases_Bool (same types (composition_at day c))) [
        | inl is ↦ absurd (differ (same_number day part c listed c_listed (are ∙ same_lists types (composition_at day c) is)))
        | inr not ↦ not ∙ sym (ne_eqb part c differ)
      ]
    ]

-- ---- turns

module _ (day : Day) (u c : End) (x : Bool) (arriving departing : List ℕ) (parts : Parts) (found : turn_parts itself u c x arriving departing ≡ Some parts) where
  are : AreParts itself u c x arriving departing parts
  are = (have_parts itself u c x arriving departing parts).0 found

  -- the number of units that stay
  kept_number : is_shunted u c arriving departing ≡ not ((length parts.given == 0) && (length parts.taken == 0))
  kept_number =
      let of = turn_parts-some itself u c x arriving departing parts found in
      let number : kept_length u c arriving departing ≡ Some of.number =
      sym (ap (λ (xs : List ℕ). kept_length u c xs (map itself departing)) (map-id arriving) ∙ ap (kept_length u c arriving) (map-id departing)) ∙ of.kept in
      let long : length parts.kept ≡ of.number = ap (λ (p : Parts). length p.kept) of.parts_at.are ∙ (kept-is u c arriving departing of.number number).1 in
      let n : ℕ = of.number in
      ap (λ (o : Option ℕ). not ((unwrap_or o 0 == length arriving) && (unwrap_or o 0 == length departing))) number
      ∙ ap (λ (b : Bool). not (b && (n == length departing))) (none_more n (length arriving) (length parts.given) (omega (arith, length_consists u arriving parts.kept parts.given are.arrive, long)))
      ∙ ap (λ (b : Bool). not ((length parts.given == 0) && b)) (none_more n (length departing) (length parts.taken) (omega (arith, length_consists c departing parts.kept parts.taken are.depart, long)))

  shunted_cost : (shunt : Shunt) → shunt_of parts ≡ shunt → (if is_shunted u c arriving departing then day.weights.shunting else 0) ≡ shunt_cost day shunt
  shunted_cost shunt is =
      ap (λ (b : Bool). if b then day.weights.shunting else 0) kept_number
      ∙ sym (cost_by day (length parts.given == 0) (length parts.taken == 0) (length parts.given) (length parts.taken)) ∙ ap (shunt_cost day) is

  -- what stayed
  stays_are : (shunt : Shunt) → shunt_of parts ≡ shunt → stayed c (coupled shunt) departing ≡ parts.kept
  stays_are shunt is =
      ap (λ (s : Shunt). stayed c (coupled s) departing) (sym is)
      ∙ ap (λ (n : ℕ). stayed c n departing) (coupled_is (length parts.given) (length parts.taken))
      ∙ stayed_is c departing parts.kept parts.taken are.depart

  taken_sum : (f : ℕ → ℤ) → int_sum f departing ≡ int_sum f parts.kept +ℤ int_sum f parts.taken
  taken_sum f = sum_consists f c departing parts.kept parts.taken are.depart

  given_sum : (f : ℕ → ℤ) → int_sum f arriving ≡ int_sum f parts.kept +ℤ int_sum f parts.given
  given_sum f = sum_consists f u arriving parts.kept parts.given are.arrive

-- ---- edges

module _ (day : Day) (entries : List Entry) (weight : Weight) (lists : List (List ℕ)) (l : ℕ) (link : Link) (at : slice_get day.links l ≡ Some link) where
  no_units : (a b : ℕ) (part value : ℤ) → part ≡ value → weighted weight (pos 0) +ℤ taking day entries b [] -ℤ giving day entries a [] +ℤ part ≡ value
  no_units a b part value e = plain (weighted weight (pos 0)) part value (weightless weight) e
    where
      plain : (w p v : ℤ) → w ≡ pos 0 → p ≡ v → w +ℤ pos 0 -ℤ pos 0 +ℤ p ≡ v
      plain w p v e f = omega (arith, ints, e, f)

  part_of_edge : (kind : LinkKind) (r : Bool) (edge : Edge) (t : ℕ) → second_of kind ≡ Some t → IsKindEdge day kind r edge → list_of lists (leads_from kind) ≡ composition_at day edge.from
      → list_of lists (leads_to kind) ≡ composition_at day edge.to → part_price day entries l (part_by kind r lists) ≡ part_value day entries l edge.part
  part_of_edge kind r edge t second is from to =
      let part : IsPart day edge (part_by kind r lists) = part_is day kind r edge lists t second is from to in
      part_same day entries l part.part (part_by kind r lists) part.listed part.are ∙ ap (part_value day entries l) (sym part.of_edge)

  abbrev kind_value : LinkKind → Bool → ℤ
  kind_value kind r =
      weighted weight (pos (kind_cost day kind r lists))
      +ℤ taking day entries (leads_to kind) (taken_by itself kind r lists) -ℤ giving day entries (leads_from kind) (given_by itself kind r lists)
      +ℤ part_price day entries l (part_by kind r lists)

  module _ (a b : ℕ) (u c : End) (x r : Bool) (edge : Edge) (none : second_of link.kind ≡ None)
      (from : list_of lists a ≡ composition_at day edge.from) (to : list_of lists b ≡ composition_at day edge.to) (parts : Parts)
      (there : turn_parts itself u c x (turned r (composition_at day edge.from)) (composition_at day edge.to) ≡ Some parts) (shunt_is : shunt_of parts ≡ edge.shunt) where
    abbrev taking_of : List ℕ → ℤ
    taking_of = taking day entries b

    abbrev giving_of : List ℕ → ℤ
    giving_of = giving day entries a

    abbrev arriving : List ℕ
    arriving = turned r (composition_at day edge.from)

    abbrev departing : List ℕ
    departing = composition_at day edge.to

    parts_on : turn_of itself u c x (turned r (list_of lists a)) (list_of lists b) ≡ parts
    parts_on =
        ap (λ (ms : List ℕ). turn_of itself u c x (turned r ms) (list_of lists b)) from
        ∙ ap (turn_of itself u c x arriving) to
        ∙ ap (λ (o : Option Parts). unwrap_or o (record { kept = []; given = arriving; taken = departing })) there

    cost_on : kind_cost day (Turn a b u c x) r lists ≡ shunt_cost day edge.shunt
    cost_on =
        ap (λ (ms : List ℕ). if is_shunted u c (turned r ms) (list_of lists b) then day.weights.shunting else 0) from
        ∙ ap (λ (ms : List ℕ). if is_shunted u c arriving ms then day.weights.shunting else 0) to
        ∙ shunted_cost day u c x arriving departing parts there edge.shunt shunt_is

    stays : stays_by day c edge ≡ parts.kept
    stays = stays_are day u c x arriving departing parts there edge.shunt shunt_is

    turn_is : kind_value (Turn a b u c x) r ≡ turn_value day entries weight a b c edge
    turn_is =
        all (weighted weight (pos (kind_cost day (Turn a b u c x) r lists))) (weighted weight (pos (shunt_cost day edge.shunt)))
        (taking_of (taken_by itself (Turn a b u c x) r lists)) (taking_of parts.taken) (taking_of departing) (taking_of parts.kept) (taking_of (stays_by day c edge))
        (giving_of (given_by itself (Turn a b u c x) r lists)) (giving_of parts.given) (giving_of (composition_at day edge.from)) (giving_of parts.kept) (giving_of (stays_by day c edge))
        (part_price day entries l [])
        (ap (λ (n : ℕ). weighted weight (pos n)) cost_on)
        (ap (λ (p : Parts). taking_of p.taken) parts_on) (ap (λ (p : Parts). giving_of p.given) parts_on)
        (taken_sum day u c x arriving departing parts there (yard_price day entries (from_of day b) (leaves day b)))
        (sym (sum_turned (yard_price day entries (to_of day a) (ready_at day a)) r (composition_at day edge.from))
        ∙ given_sum day u c x arriving departing parts there (yard_price day entries (to_of day a) (ready_at day a)))
        (ap taking_of stays) (ap giving_of stays)
        (no_part day entries l link [] at none)
      where
        all : (w w' t t' td tk ts g g' ga gk gs p : ℤ) → w ≡ w' → t ≡ t' → g ≡ g' → td ≡ tk +ℤ t' → ga ≡ gk +ℤ g' → ts ≡ tk → gs ≡ gk → p ≡ pos 0
            → w +ℤ t -ℤ g +ℤ p ≡ w' +ℤ (td -ℤ ts) -ℤ (ga -ℤ gs)
        all w w' t t' td tk ts g g' ga gk gs p e f h i j k m n = omega (arith, ints, e, f, h, i, j, k, m, n)

  kind_is : (kind : LinkKind) (r : Bool) (edge : Edge) → link.kind ≡ kind → IsKindEdge day kind r edge → list_of lists (leads_from kind) ≡ composition_at day edge.from
      → list_of lists (leads_to kind) ≡ composition_at day edge.to → kind_value kind r ≡ edge_value day entries weight l kind edge
  unfolding turn_shunt
  kind_is (Turn a b u c x) r edge kind is from to =
      let (parts, there, shunt) = found shunt_of (turn_parts itself u c x (turned r (composition_at day edge.from)) (composition_at day edge.to)) edge.shunt is.rule in
      turn_is a b u c x r edge (ap second_of kind) from to parts there shunt
  kind_is (Join a1 a2 b) r edge kind is from to =
      no_units a1 b (part_price day entries l (part_by (Join a1 a2 b) r lists)) (part_value day entries l edge.part) (part_of_edge (Join a1 a2 b) r edge a2 refl is from to)
  kind_is (Split a b1 b2) r edge kind is from to =
      no_units a b1 (part_price day entries l (part_by (Split a b1 b2) r lists)) (part_value day entries l edge.part) (part_of_edge (Split a b1 b2) r edge b2 refl is from to)

  -- what the link adds where its trips have the compositions of an edge
  pub edge_is : (edge : Edge) → IsKindEdge day link.kind link.reverse edge → list_of lists (leads_from link.kind) ≡ composition_at day edge.from
      → list_of lists (leads_to link.kind) ≡ composition_at day edge.to → value_at_link day entries weight lists l link ≡ edge_value day entries weight l link.kind edge
  edge_is edge is from to = kind_is link.kind link.reverse edge refl is from to

-- ---- turns that keep the units, uncouple alone or couple alone

none_given : (bg bt : Bool) (given taken units : ℕ)
    → (if bg then (if bt then Keep else Couple taken) else (if bt then Uncouple given else Exchange given taken)) ≡ Couple units → bg ≡ true
none_given true bt given taken units e = refl
none_given false true given taken units e = absurd cc
none_given false false given taken units e = absurd cc

none_taken : (bg bt : Bool) (given taken units : ℕ)
    → (if bg then (if bt then Keep else Couple taken) else (if bt then Uncouple given else Exchange given taken)) ≡ Uncouple units → bt ≡ true
none_taken true true given taken units e = absurd cc
none_taken true false given taken units e = absurd cc
none_taken false true given taken units e = refl
none_taken false false given taken units e = absurd cc

none_shunted : (bg bt : Bool) (given taken : ℕ)
    → (if bg then (if bt then Keep else Couple taken) else (if bt then Uncouple given else Exchange given taken)) ≡ Keep → (bg ≡ true) × (bt ≡ true)
none_shunted true true given taken e = (refl, refl)
none_shunted true false given taken e = absurd cc
none_shunted false true given taken e = absurd cc
none_shunted false false given taken e = absurd cc

sum_of_none : (f : ℕ → ℤ) (xs : List ℕ) → length xs ≡ 0 → int_sum f xs ≡ pos 0
sum_of_none f [] none = refl
sum_of_none f (x ∷ xs) none = absurd (omega (arith, none))

-- such a turn takes what departs and had not arrived
pub coupling_is : (day : Day) (entries : List Entry) (weight : Weight) (r : Bool) (a b : ℕ) (u c : End) (x : Bool) (edge : Edge) (units : ℕ)
    → IsTurnEdge day r a b u c x edge → edge.shunt ≡ Couple units → turn_value day entries weight a b c edge ≡ coupling_value day entries weight b edge
unfolding turn_shunt
coupling_is day entries weight r a b u c x edge units is couples =
    let from : List ℕ = composition_at day edge.from in
    let to : List ℕ = composition_at day edge.to in
    let (parts, there, shunt) = found shunt_of (turn_parts itself u c x (turned r from) to) edge.shunt is.rule in
    let none : length parts.given ≡ 0 = eqb-true (length parts.given) 0
    (none_given (length parts.given == 0) (length parts.taken == 0) (length parts.given) (length parts.taken) units (shunt ∙ couples)) in
    let arrived = λ (f : ℕ → ℤ). sym (sum_turned f r from) ∙ given_sum day u c x (turned r from) to parts there f in
    let stays : stays_by day c edge ≡ parts.kept = stays_are day u c x (turned r from) to parts there edge.shunt shunt in
    let take : ℕ → ℤ = yard_price day entries (from_of day b) (leaves day b) in
    let give : ℕ → ℤ = yard_price day entries (to_of day a) (ready_at day a) in
    all (weighted weight (pos (shunt_cost day edge.shunt))) (weighted weight (pos day.weights.shunting))
    (int_sum take to) (int_sum take (stays_by day c edge)) (int_sum take from) (int_sum take parts.kept) (int_sum take parts.given)
    (int_sum give (stays_by day c edge)) (int_sum give from) (int_sum give parts.kept) (int_sum give parts.given)
    (ap (λ (s : Shunt). weighted weight (pos (shunt_cost day s))) couples)
    (arrived take) (arrived give) (ap (int_sum take) stays) (ap (int_sum give) stays)
    (sum_of_none take parts.given none) (sum_of_none give parts.given none)
  where
    all : (w w' t ts tf tk tg gs gf gk gg : ℤ) → w ≡ w' → tf ≡ tk +ℤ tg → gf ≡ gk +ℤ gg → ts ≡ tk → gs ≡ gk → tg ≡ pos 0 → gg ≡ pos 0
        → w +ℤ (t -ℤ ts) -ℤ (gf -ℤ gs) ≡ w' +ℤ (t -ℤ tf)
    all w w' t ts tf tk tg gs gf gk gg e f g h i j k = omega (arith, ints, e, f, g, h, i, j, k)

-- a turn that uncouples alone gives what arrived and does not depart
pub uncoupling_is : (day : Day) (entries : List Entry) (weight : Weight) (r : Bool) (a b : ℕ) (u c : End) (x : Bool) (edge : Edge)
    (units : ℕ) → IsTurnEdge day r a b u c x edge → edge.shunt ≡ Uncouple units
    → turn_value day entries weight a b c edge ≡ uncoupling_value day entries weight a edge
unfolding turn_shunt
uncoupling_is day entries weight r a b u c x edge units is uncouples =
    let from : List ℕ = composition_at day edge.from in
    let to : List ℕ = composition_at day edge.to in
    let (parts, there, shunt) = found shunt_of (turn_parts itself u c x (turned r from) to) edge.shunt is.rule in
    let none : length parts.taken ≡ 0 = eqb-true (length parts.taken) 0
    (none_taken (length parts.given == 0) (length parts.taken == 0) (length parts.given) (length parts.taken) units (shunt ∙ uncouples)) in
    let departs = λ (f : ℕ → ℤ). taken_sum day u c x (turned r from) to parts there f in
    let stays : stays_by day c edge ≡ parts.kept = stays_are day u c x (turned r from) to parts there edge.shunt shunt in
    let take : ℕ → ℤ = yard_price day entries (from_of day b) (leaves day b) in
    let give : ℕ → ℤ = yard_price day entries (to_of day a) (ready_at day a) in
    all (weighted weight (pos (shunt_cost day edge.shunt))) (weighted weight (pos day.weights.shunting))
    (int_sum take to) (int_sum take (stays_by day c edge)) (int_sum take parts.kept) (int_sum take parts.taken)
    (int_sum give from) (int_sum give to) (int_sum give (stays_by day c edge)) (int_sum give parts.kept) (int_sum give parts.taken)
    (ap (λ (s : Shunt). weighted weight (pos (shunt_cost day s))) uncouples)
    (departs take) (departs give) (ap (int_sum take) stays) (ap (int_sum give) stays)
    (sum_of_none take parts.taken none) (sum_of_none give parts.taken none)
  where
    all : (w w' tt ts tk tn gf gt gs gk gn : ℤ) → w ≡ w' → tt ≡ tk +ℤ tn → gt ≡ gk +ℤ gn → ts ≡ tk → gs ≡ gk → tn ≡ pos 0 → gn ≡ pos 0
        → w +ℤ (tt -ℤ ts) -ℤ (gf -ℤ gs) ≡ w' -ℤ (gf -ℤ gt)
    all w w' tt ts tk tn gf gt gs gk gn e f g h i j k = omega (arith, ints, e, f, g, h, i, j, k)

-- a turn that keeps the units adds nothing
pub keeping_is : (day : Day) (entries : List Entry) (weight : Weight) (r : Bool) (a b : ℕ) (u c : End) (x : Bool) (edge : Edge)
    → IsTurnEdge day r a b u c x edge → edge.shunt ≡ Keep → turn_value day entries weight a b c edge ≡ pos 0
unfolding turn_shunt
keeping_is day entries weight r a b u c x edge is keeps =
    let from : List ℕ = composition_at day edge.from in
    let to : List ℕ = composition_at day edge.to in
    let (parts, there, shunt) = found shunt_of (turn_parts itself u c x (turned r from) to) edge.shunt is.rule in
    let both = none_shunted (length parts.given == 0) (length parts.taken == 0) (length parts.given) (length parts.taken) (shunt ∙ keeps) in
    let given : length parts.given ≡ 0 = eqb-true (length parts.given) 0 both.0 in
    let taken : length parts.taken ≡ 0 = eqb-true (length parts.taken) 0 both.1 in
    let stays : stays_by day c edge ≡ parts.kept = stays_are day u c x (turned r from) to parts there edge.shunt shunt in
    let take : ℕ → ℤ = yard_price day entries (from_of day b) (leaves day b) in
    let give : ℕ → ℤ = yard_price day entries (to_of day a) (ready_at day a) in
    all (weighted weight (pos (shunt_cost day edge.shunt))) (int_sum take to) (int_sum take (stays_by day c edge)) (int_sum take parts.kept)
    (int_sum take parts.taken) (int_sum give from) (int_sum give (stays_by day c edge)) (int_sum give parts.kept) (int_sum give parts.given)
    (ap (λ (s : Shunt). weighted weight (pos (shunt_cost day s))) keeps ∙ weightless weight)
    (taken_sum day u c x (turned r from) to parts there take)
    (sym (sum_turned give r from) ∙ given_sum day u c x (turned r from) to parts there give)
    (ap (int_sum take) stays) (ap (int_sum give) stays) (sum_of_none take parts.taken taken) (sum_of_none give parts.given given)
  where
    all : (w tt ts tk tn gf gs gk gn : ℤ) → w ≡ pos 0 → tt ≡ tk +ℤ tn → gf ≡ gk +ℤ gn → ts ≡ tk → gs ≡ gk → tn ≡ pos 0 → gn ≡ pos 0
        → w +ℤ (tt -ℤ ts) -ℤ (gf -ℤ gs) ≡ pos 0
    all w tt ts tk tn gf gs gk gn e f g h i j k = omega (arith, ints, e, f, g, h, i, j, k)
