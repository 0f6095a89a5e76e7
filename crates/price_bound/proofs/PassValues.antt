-- The values that two passes over the compositions find are those of the cells that the edges of a turn without exchange
-- offer.
use Rattle.std.proofs.Common.{◌≡◌, ◌≢◌, ℕ, ◌+◌, ◌<◌, ◌⊎◌, List, [], length, get_or, replicate, Bool, false, Option}
use Rattle.std.proofs.Common.{Some, None, refl, sym, ap, ◌∙◌, subst, arith, ℤ, pos, ◌+ℤ◌, ◌-ℤ◌, ◌≤ℤ◌, ◌<ℤ◌, inl, inr}
use Rattle.std.proofs.Common.{Contains, unwrap_or, slice_get}
use Rattle.std.specs.Prelude.{fold, if◌then◌else◌}
use Rattle.std.proofs.lemmas.Int.{ints}
use Rattle.std.proofs.lemmas.Option.{slice_get-get_or, slice_get_within}
use Rattle.rules.specs.declared.records.End.{End}
use Rattle.rules.specs.declared.records.Link.{Link}
use Rattle.rules.specs.declared.records.LinkKind.{LinkKind}
use Rattle.timetable.specs.Compositions.{compositions_of, composition_at}
use Rattle.timetable.specs.Day.{from_of, leaves, ready_at, to_of}
use Rattle.timetable.specs.Handovers.{second_of}
use Rattle.timetable.specs.Links.{turned}
use Rattle.transitions.specs.declared.edge.Edge.{Edge}
use Rattle.transitions.specs.declared.edge.Shunt.{Shunt}
use Rattle.transitions.specs.declared.edge.Shunt.TheVariants.{Keep, Uncouple, Couple, Exchange}
use Rattle.transitions.specs.Edges.{AreEdges, IsEdge, IsKindEdge, IsTurnEdge, IsAdmittedComp}
use Rattle.branch_tree.specs.Meanings.{weighted}
use Rattle.price_bound.specs.declared.cells.Cell.{Cell}
use Rattle.price_bound.specs.CellSizes.{AreSmallCells, IsSmall}
use Rattle.price_bound.specs.ChainStages.{Priced, edges_of, part_is_in, price_by_link, price_of}
use Rattle.price_bound.specs.EdgeValues.{edge_value, turn_value}
use Rattle.price_bound.specs.Paths.{Stage, offer, offer_by, offered}
use Rattle.price_bound.specs.YardPrices.{giving, taking, yard_price}
use Rattle.price_bound.proofs.Offers.{IsLeastOffer, IsOffered, row_offered}
use Rattle.price_bound.specs.CompositionTrees.{IsMadeOf}
use Rattle.price_bound.specs.HeldValues.{HoldsCell, IsLeastOf}
use Rattle.price_bound.specs.LeastOverTrees.{IsLeastOver, lower}
use Rattle.price_bound.specs.PassValues.{AreTurnSums, IsAhead, IsPlainTurn}
use Rattle.price_bound.proofs.CompositionTrees.{made_of_listed}
use Rattle.price_bound.proofs.EdgeValues.{coupling_is, keeping_is, sum_turned, uncoupling_is}
use Rattle.price_bound.proofs.HeldValues.{held_offer, least_by, least_either, least_of_this, least_of_those}
use Rattle.price_bound.proofs.TurnEdges.{IsTurned, couple_edge, couples_some, keep_edge, keeps_all, of_edge, uncouple_edge, uncouples_some}

lost : (x : ℤ) → IsSmall 6000000000000000 x → pos 9080000000000000000 ≤ℤ (pos 9094000000000000000 +ℤ (pos 0 -ℤ x))
lost x small = let under = small.below in omega (arith, ints, under)

taken : (x y : ℤ) → (x -ℤ y) ≡ (x +ℤ (pos 0 -ℤ y))
taken x y = omega (arith, ints)

back : (x s y : ℤ) → (s -ℤ y) ≡ x → s ≡ (x -ℤ (pos 0 -ℤ y))
back x s y e = omega (arith, ints, e)

shunted : (x : ℤ) → IsSmall 1000000000000 x → pos 9050000000000000000 ≤ℤ (pos 9080000000000000000 +ℤ x)
shunted x small = let above = small.above in omega (arith, ints, above)

swapped : (x y : ℤ) → (x +ℤ y) ≡ (y +ℤ x)
swapped x y = omega (arith, ints)

less_by : (x s y : ℤ) → x ≡ (s +ℤ y) → y ≡ (x -ℤ s)
less_by x s y e = omega (arith, ints, e)

module _ (priced : Priced) (l : ℕ) (r : Bool) (a b : ℕ) (u c : End) (turn : IsPlainTurn priced l r a b u c) where
  abbrev limit : ℤ
  limit = pos 9050000000000000000

  abbrev comps : ℕ
  comps = length (compositions_of priced.day)

  abbrev stage : Stage
  stage = record { priced_cost = λ comp. None; edges = edges_of priced (Some l); price = price_of priced (Some l) }

  -- what an edge of the link is priced
  plain_price : (edge : Edge) → price_of priced (Some l) edge ≡ Some (turn_value priced.day priced.entries priced.weight a b c edge)
  plain_price edge =
      ap (λ (o : Option Link). price_by_link priced l o edge) turn.at
      ∙ ap (λ (k : LinkKind). if part_is_in priced.region (second_of k) edge.part
      then Some (edge_value priced.day priced.entries priced.weight l k edge) else None) turn.kind

  kind_edge : (edge : Edge) → IsEdge priced.day l edge → IsTurnEdge priced.day r a b u c false edge
  kind_edge edge is =
      let same : is.link ≡ turn.link = let one : Some is.link ≡ Some turn.link = sym is.at ∙ turn.at in cc in
      subst (λ (k : LinkKind). IsKindEdge priced.day k r edge) turn.kind
      (subst (λ (reverse : Bool). IsKindEdge priced.day turn.link.kind reverse edge) turn.reversed
      (subst (λ (link : Link). IsKindEdge priced.day link.kind link.reverse edge) same is.kind))

  edge_kind : (edge : Edge) → IsTurnEdge priced.day r a b u c false edge → IsEdge priced.day l edge
  edge_kind edge is = record {
    link = turn.link;
    at = turn.at;
    kind = subst (λ (reverse : Bool). IsKindEdge priced.day turn.link.kind reverse edge) (sym turn.reversed)
        (subst (λ (k : LinkKind). IsKindEdge priced.day k r edge) (sym turn.kind) is);
  }

  -- the edges of the link
  are_edges : AreEdges priced.day l (edges_of priced (Some l))
  are_edges =
      let below : l < length priced.graphs = omega (arith, turn.graphs.count, slice_get_within priced.day.links l turn.link turn.at) in
      let inside : slice_get priced.graphs l ≡ Some (get_or priced.graphs l []) = slice_get-get_or priced.graphs l [] below in
      subst (AreEdges priced.day l) (sym (ap (λ (o : Option (List Edge)). unwrap_or o []) inside)) (turn.graphs.each l (get_or priced.graphs l []) inside)

  module _ (ahead : List (Option Cell)) (row : ℕ → ℤ) (are : IsAhead priced b ahead row) (credit debit : ℕ → ℤ) (shunting : ℤ)
      (sums : AreTurnSums priced a b credit debit shunting) (from arrived : ℕ) (runs : IsAdmittedComp priced.day a from) (listed : arrived < comps)
      (is : composition_at priced.day arrived ≡ turned r (composition_at priced.day from)) where
    credit_from : giving priced.day priced.entries a (composition_at priced.day from) ≡ credit arrived
    credit_from =
        sym (sum_turned (yard_price priced.day priced.entries (to_of priced.day a) (ready_at priced.day a)) r (composition_at priced.day from))
        ∙ sym (ap (giving priced.day priced.entries a) is) ∙ sym (sums.credits arrived listed)

    debit_from : taking priced.day priced.entries b (composition_at priced.day from) ≡ debit arrived
    debit_from =
        sym (sum_turned (yard_price priced.day priced.entries (from_of priced.day b) (leaves priced.day b)) r (composition_at priced.day from))
        ∙ sym (ap (taking priced.day priced.entries b) is) ∙ sym (sums.debits arrived listed)

    -- the values of the edges: units stay, go or come
    abbrev Going : ℤ → Type 0
    Going x = (to : ℕ) × IsMadeOf priced.day u arrived to × (arrived ≢ to) × (x ≡ (shunting +ℤ ((row to +ℤ credit to) -ℤ credit arrived)))

    abbrev Coming : ℤ → Type 0
    Coming x = (to : ℕ) × IsMadeOf priced.day c to arrived × (to ≢ arrived) × (x ≡ (shunting +ℤ ((row to +ℤ debit to) -ℤ debit arrived)))

    abbrev Turning : ℤ → Type 0
    Turning x = (x ≡ row arrived) ⊎ (Going x ⊎ Coming x)

    abbrev value_of : Edge → ℤ
    value_of edge = turn_value priced.day priced.entries priced.weight a b c edge

    -- what an edge is priced
    pub data IsValue (edge : Edge) : Type 0 where
      stays : arrived ≡ edge.to → value_of edge ≡ pos 0 → IsValue edge
      goes : IsMadeOf priced.day u arrived edge.to → arrived ≢ edge.to → value_of edge ≡ (shunting +ℤ (credit edge.to -ℤ credit arrived)) → IsValue edge
      comes : IsMadeOf priced.day c edge.to arrived → edge.to ≢ arrived → value_of edge ≡ (shunting +ℤ (debit edge.to -ℤ debit arrived)) → IsValue edge

    going_value : (edge : Edge) (units : ℕ) → IsTurnEdge priced.day r a b u c false edge → edge.from ≡ from → edge.shunt ≡ Uncouple units
        → value_of edge ≡ (shunting +ℤ (credit edge.to -ℤ credit arrived))
    going_value edge units allowed origin same =
        going (value_of edge) (weighted priced.weight (pos priced.day.weights.shunting)) shunting
        (giving priced.day priced.entries a (composition_at priced.day edge.from)) (credit arrived)
        (giving priced.day priced.entries a (composition_at priced.day edge.to)) (credit edge.to)
        (uncoupling_is priced.day priced.entries priced.weight r a b u c false edge units allowed same) sums.shunting_is
        (ap (λ (k : ℕ). giving priced.day priced.entries a (composition_at priced.day k)) origin ∙ credit_from)
        (sym (sums.credits edge.to allowed.departing.listed))
      where
        going : (v w s f g t h : ℤ) → v ≡ (w -ℤ (f -ℤ t)) → s ≡ w → f ≡ g → t ≡ h → v ≡ (s +ℤ (h -ℤ g))
        going v w s f g t h e i j k = omega (arith, ints, e, i, j, k)

    coming_value : (edge : Edge) (units : ℕ) → IsTurnEdge priced.day r a b u c false edge → edge.from ≡ from → edge.shunt ≡ Couple units
        → value_of edge ≡ (shunting +ℤ (debit edge.to -ℤ debit arrived))
    coming_value edge units allowed origin same =
        coming (value_of edge) (weighted priced.weight (pos priced.day.weights.shunting)) shunting
        (taking priced.day priced.entries b (composition_at priced.day edge.from)) (debit arrived)
        (taking priced.day priced.entries b (composition_at priced.day edge.to)) (debit edge.to)
        (coupling_is priced.day priced.entries priced.weight r a b u c false edge units allowed same) sums.shunting_is
        (ap (λ (k : ℕ). taking priced.day priced.entries b (composition_at priced.day k)) origin ∙ debit_from)
        (sym (sums.debits edge.to allowed.departing.listed))
      where
        coming : (v w s f g t h : ℤ) → v ≡ (w +ℤ (t -ℤ f)) → s ≡ w → f ≡ g → t ≡ h → v ≡ (s +ℤ (h -ℤ g))
        coming v w s f g t h e i j k = omega (arith, ints, e, i, j, k)

    is_value : (edge : Edge) → edge.from ≡ from → IsTurnEdge priced.day r a b u c false edge → IsValue edge
    is_value edge origin allowed = on edge.shunt refl (of_edge priced.day r a b u c from arrived runs listed is edge origin allowed)
      where
        on : (shunt : Shunt) → edge.shunt ≡ shunt → IsTurned priced.day r a b u c from arrived runs listed is edge.to shunt → IsValue edge
        on Keep same (keeps_all stay) = stays stay (keeping_is priced.day priced.entries priced.weight r a b u c false edge allowed same)
        on (Uncouple units) same (uncouples_some of differ) = goes of differ (going_value edge units allowed origin same)
        on (Couple units) same (couples_some of differ) = comes of differ (coming_value edge units allowed origin same)
        on (Exchange _ _) same turned = elim turned [ ]

    -- what an edge offers
    pub record IsOffer (edge : Edge) (cell : Cell) : Type 0 where
      pub there : Cell
      pub at : get_or ahead edge.to None ≡ Some there
      pub value : cell.value ≡ (value_of edge +ℤ there.value)

    is_offer : (edge : Edge) (cell : Cell) → offer stage ahead edge ≡ Some cell → IsOffer edge cell
    is_offer edge cell offers = on (get_or ahead edge.to None) refl (sym (ap (λ (o : Option ℤ). offer_by edge.to o (get_or ahead edge.to None)) (plain_price edge)) ∙ offers)
      where
        on : (o : Option Cell) → get_or ahead edge.to None ≡ o → offer_by edge.to (Some (value_of edge)) o ≡ Some cell → IsOffer edge cell
        on None at none = absurd cc
        on (Some there) at some = record {
          there = there;
          at = at;
          value = let same : record { value = value_of edge +ℤ there.value; next = edge.to } ≡ cell = cc in sym (ap (λ (x : Cell). x.value) same);
        }

    offers_at : (edge : Edge) (there : Cell) → get_or ahead edge.to None ≡ Some there → offer stage ahead edge ≡ Some (record { value = value_of edge +ℤ there.value; next = edge.to })
    offers_at edge there at =
        ap (λ (o : Option ℤ). offer_by edge.to o (get_or ahead edge.to None)) (plain_price edge) ∙ ap (offer_by edge.to (Some (value_of edge))) at

    row_at : (to : ℕ) (there : Cell) → get_or ahead to None ≡ Some there → row to ≡ there.value
    row_at to there at = subst (HoldsCell (pos 9100000000000000000) (row to)) at (are.holds to (are.runs to there at).listed)

    -- there is a cell at a number, or its value is high
    ahead_case : (to : ℕ) → to < comps → (pos 9100000000000000000 ≤ℤ row to) ⊎ ((there : Cell) × (get_or ahead to None ≡ Some there))
    ahead_case to below = on (get_or ahead to None) refl (are.holds to below)
      where
        on : (o : Option Cell) → get_or ahead to None ≡ o → HoldsCell (pos 9100000000000000000) (row to) o
            → (pos 9100000000000000000 ≤ℤ row to) ⊎ ((there : Cell) × (get_or ahead to None ≡ Some there))
        on None at holds = inl holds
        on (Some there) at holds = inr (there, at)

    -- each offer is the value of a turning, and is below the limit
    offer_turns : (edge : Edge) (cell : Cell) → edge.from ≡ from → IsTurnEdge priced.day r a b u c false edge → offer stage ahead edge ≡ Some cell
        → Turning cell.value × (cell.value <ℤ limit)
    offer_turns edge cell origin allowed offers = on (is_offer edge cell offers) (is_value edge origin allowed)
      where
        plain : (x v w s t : ℤ) → x ≡ (v +ℤ w) → v ≡ pos 0 → s ≡ w → t ≡ s → IsSmall 8500000000000000000 w → (x ≡ t) × (x <ℤ pos 9050000000000000000)
        plain x v w s t e f g h small = (omega (arith, ints, e, f, g, h), let under = small.below in omega (arith, ints, e, f, under))

        more : (x v w s k m n : ℤ) → x ≡ (v +ℤ w) → v ≡ (k +ℤ (m -ℤ n)) → s ≡ w → IsSmall 8500000000000000000 w → IsSmall 1000000000000 k
            → IsSmall 6000000000000000 m → IsSmall 6000000000000000 n → (x ≡ (k +ℤ ((s +ℤ m) -ℤ n))) × (x <ℤ pos 9050000000000000000)
        more x v w s k m n e f g small small_k small_m small_n =
            (omega (arith, ints, e, f, g), let a = small.below in let b = small_k.below in let c = small_m.below in let d = small_n.above in omega (arith, ints, e, f, a, b, c, d))

        on : IsOffer edge cell → IsValue edge → Turning cell.value × (cell.value <ℤ limit)
        on o (stays same value) =
            let it = plain cell.value (value_of edge) o.there.value (row edge.to) (row arrived) o.value value (row_at edge.to o.there o.at) (ap row same) (are.small edge.to o.there o.at) in
            (inl it.0, it.1)
        on o (goes of differ value) =
            let it = more cell.value (value_of edge) o.there.value (row edge.to) shunting (credit edge.to) (credit arrived) o.value value (row_at edge.to o.there o.at)
            (are.small edge.to o.there o.at) sums.shunting_small (sums.credits_small edge.to of.listed) (sums.credits_small arrived listed) in
            (inr (inl (edge.to, of, differ, it.0)), it.1)
        on o (comes of differ value) =
            let it = more cell.value (value_of edge) o.there.value (row edge.to) shunting (debit edge.to) (debit arrived) o.value value (row_at edge.to o.there o.at)
            (are.small edge.to o.there o.at) sums.shunting_small (sums.debits_small edge.to allowed.departing.listed) (sums.debits_small arrived listed) in
            (inr (inr (edge.to, of, differ, it.0)), it.1)

    abbrev Gone : ℤ → Type 0
    Gone x = (to : ℕ) × (IsMadeOf priced.day u arrived to × (arrived ≢ to)) × (((row to +ℤ credit to) -ℤ credit arrived) ≡ x)

    abbrev Come : ℤ → Type 0
    Come x = (to : ℕ) × (IsMadeOf priced.day c to arrived × (to ≢ arrived)) × (((row to +ℤ debit to) -ℤ debit arrived) ≡ x)

    -- the value of a turning is an offer, or is not below the limit
    abbrev Offers : ℤ → Type 0
    Offers x = (edge : Edge) × (cell : Cell) × Contains (edges_of priced (Some l)) edge × (edge.from ≡ from) × (offer stage ahead edge ≡ Some cell) × (cell.value ≡ x)

    offers_of : (x : ℤ) (edge : Edge) (there : Cell) → edge.from ≡ from → IsTurnEdge priced.day r a b u c false edge → get_or ahead edge.to None ≡ Some there
        → (value_of edge +ℤ there.value) ≡ x → Offers x
    offers_of x edge there origin allowed at value =
        (edge, record { value = value_of edge +ℤ there.value; next = edge.to }, (are_edges.exact edge).1 (edge_kind edge allowed), origin, offers_at edge there at, value)

    plain_high : (x y : ℤ) → x ≡ y → pos 9100000000000000000 ≤ℤ y → pos 9050000000000000000 ≤ℤ x
    plain_high x y e f = omega (arith, ints, e, f)

    plain_sum : (x v y w : ℤ) → x ≡ y → v ≡ pos 0 → y ≡ w → (v +ℤ w) ≡ x
    plain_sum x v y w e f g = omega (arith, ints, e, f, g)

    more_high : (x k s m n : ℤ) → x ≡ (k +ℤ ((s +ℤ m) -ℤ n)) → pos 9100000000000000000 ≤ℤ s → IsSmall 1000000000000 k → IsSmall 6000000000000000 m
        → IsSmall 6000000000000000 n → pos 9050000000000000000 ≤ℤ x
    more_high x k s m n e f small_k small_m small_n =
        let a = small_k.above in let b = small_m.above in let d = small_n.below in omega (arith, ints, e, f, a, b, d)

    more_sum : (x v k s m n w : ℤ) → x ≡ (k +ℤ ((s +ℤ m) -ℤ n)) → v ≡ (k +ℤ (m -ℤ n)) → s ≡ w → (v +ℤ w) ≡ x
    more_sum x v k s m n w e f g = omega (arith, ints, e, f, g)

    turns_offer : (x : ℤ) → Turning x → (limit ≤ℤ x) ⊎ Offers x
    turns_offer x (inl same) = elim (ahead_case arrived listed) [
      | inl high ↦ inl (plain_high x (row arrived) same high)
      | inr there ↦
          let edge : Edge = record { from = from; to = arrived; shunt = Keep; part = None } in
          let allowed : IsTurnEdge priced.day r a b u c false edge = keep_edge priced.day r a b u c from arrived runs listed is (are.runs arrived there.0 there.1) in
          inr (offers_of x edge there.0 refl allowed there.1
          (plain_sum x (value_of edge) (row arrived) there.0.value same (keeping_is priced.day priced.entries priced.weight r a b u c false edge allowed refl)
          (row_at arrived there.0 there.1)))
    ]
    turns_offer x (inr (inl (to, of, differ, same))) = elim (ahead_case to of.listed) [
      | inl high ↦ inl (more_high x shunting (row to) (credit to) (credit arrived) same high sums.shunting_small (sums.credits_small to of.listed)
          (sums.credits_small arrived listed))
      | inr there ↦
          let made = uncouple_edge priced.day r a b u c from arrived runs listed is to (are.runs to there.0 there.1) of differ in
          let edge : Edge = record { from = from; to = to; shunt = Uncouple made.0; part = None } in
          inr (offers_of x edge there.0 refl made.1 there.1
          (more_sum x (value_of edge) shunting (row to) (credit to) (credit arrived) there.0.value same (going_value edge made.0 made.1 refl refl) (row_at to there.0 there.1)))
    ]
    turns_offer x (inr (inr (to, of, differ, same))) = elim (ahead_case to (made_of_listed priced.day c to arrived of)) [
      | inl high ↦ inl (more_high x shunting (row to) (debit to) (debit arrived) same high sums.shunting_small (sums.debits_small to (made_of_listed priced.day c to arrived of))
          (sums.debits_small arrived listed))
      | inr there ↦
          let made = couple_edge priced.day r a b u c from arrived runs listed is to (are.runs to there.0 there.1) of differ in
          let edge : Edge = record { from = from; to = to; shunt = Couple made.0; part = None } in
          inr (offers_of x edge there.0 refl made.1 there.1
          (more_sum x (value_of edge) shunting (row to) (debit to) (debit arrived) there.0.value same (coming_value edge made.0 made.1 refl refl) (row_at to there.0 there.1)))
    ]

    -- the least of the turnings' values is the value of the cell that is offered
    pub held_turning : (least : ℤ) → IsLeastOf Turning limit least
        → HoldsCell limit least (get_or (fold (offered stage ahead) (replicate comps None) (edges_of priced (Some l))) from None)
    held_turning least p =
        held_offer stage ahead (Contains (edges_of priced (Some l))) from limit least
        (get_or (fold (offered stage ahead) (replicate comps None) (edges_of priced (Some l))) from None)
        (row_offered stage ahead comps (edges_of priced (Some l)) are_edges.in_order
        (λ edge there. (kind_edge edge ((are_edges.exact edge).0 there)).arriving.listed) from runs.listed)
        (record {
          reached = elim p.reached [ inl high ↦ inl high | inr turning ↦ turns_offer least turning ];
          below = λ edge cell there origin offers. p.below cell.value (offer_turns edge cell origin (kind_edge edge ((are_edges.exact edge).0 there)) offers).0;
          few = λ edge cell there origin offers. (offer_turns edge cell origin (kind_edge edge ((are_edges.exact edge).0 there)) offers).1;
        })

    least_gone : {fewer : ℤ} → IsLeastOver (λ to. IsMadeOf priced.day u arrived to × (arrived ≢ to)) (λ to. row to +ℤ credit to) (pos 9094000000000000000) fewer
        → IsLeastOf Gone (pos 9080000000000000000) (fewer -ℤ credit arrived)
    least_gone {fewer} p =
        least_by (λ x. (to : ℕ) × (IsMadeOf priced.day u arrived to × (arrived ≢ to)) × ((row to +ℤ credit to) ≡ x)) Gone (pos 9094000000000000000)
        (pos 9080000000000000000) fewer (pos 0 -ℤ credit arrived) (fewer -ℤ credit arrived) (lost (credit arrived) (sums.credits_small arrived listed))
        (taken fewer (credit arrived))
        (λ x there. (there.0, there.1, taken (row there.0 +ℤ credit there.0) (credit arrived) ∙ ap (λ (y : ℤ). y +ℤ (pos 0 -ℤ credit arrived)) there.2))
        (λ x there. (there.0, there.1, back x (row there.0 +ℤ credit there.0) (credit arrived) there.2))
        (least_of_those (λ to. IsMadeOf priced.day u arrived to × (arrived ≢ to)) (λ to. row to +ℤ credit to) (pos 9094000000000000000) fewer p)

    least_come : {longer : ℤ} → IsLeastOver (λ to. IsMadeOf priced.day c to arrived × (to ≢ arrived)) (λ to. row to +ℤ debit to) (pos 9094000000000000000) longer
        → IsLeastOf Come (pos 9080000000000000000) (longer -ℤ debit arrived)
    least_come {longer} p =
        least_by (λ x. (to : ℕ) × (IsMadeOf priced.day c to arrived × (to ≢ arrived)) × ((row to +ℤ debit to) ≡ x)) Come (pos 9094000000000000000)
        (pos 9080000000000000000) longer (pos 0 -ℤ debit arrived) (longer -ℤ debit arrived) (lost (debit arrived) (sums.debits_small arrived listed))
        (taken longer (debit arrived))
        (λ x there. (there.0, there.1, taken (row there.0 +ℤ debit there.0) (debit arrived) ∙ ap (λ (y : ℤ). y +ℤ (pos 0 -ℤ debit arrived)) there.2))
        (λ x there. (there.0, there.1, back x (row there.0 +ℤ debit there.0) (debit arrived) there.2))
        (least_of_those (λ to. IsMadeOf priced.day c to arrived × (to ≢ arrived)) (λ to. row to +ℤ debit to) (pos 9094000000000000000) longer p)

    -- what the passes find is the least of the turnings' values
    pub least_turning : (fewer longer : ℤ)
        → IsLeastOver (λ to. IsMadeOf priced.day u arrived to × (arrived ≢ to)) (λ to. row to +ℤ credit to) (pos 9094000000000000000) fewer
        → IsLeastOver (λ to. IsMadeOf priced.day c to arrived × (to ≢ arrived)) (λ to. row to +ℤ debit to) (pos 9094000000000000000) longer
        → IsLeastOf Turning limit (lower (row arrived) (shunting +ℤ lower (fewer -ℤ credit arrived) (longer -ℤ debit arrived)))
    least_turning fewer longer off on =
        let credits : IsSmall 6000000000000000 (credit arrived) = sums.credits_small arrived listed in
        let debits : IsSmall 6000000000000000 (debit arrived) = sums.debits_small arrived listed in
        least_either (λ x. x ≡ row arrived) (λ x. Going x ⊎ Coming x) limit (row arrived) (shunting +ℤ lower (fewer -ℤ credit arrived) (longer -ℤ debit arrived))
        (least_of_this limit (row arrived))
        (least_by (λ x. Gone x ⊎ Come x) (λ x. Going x ⊎ Coming x) (pos 9080000000000000000) limit (lower (fewer -ℤ credit arrived) (longer -ℤ debit arrived)) shunting
        (shunting +ℤ lower (fewer -ℤ credit arrived) (longer -ℤ debit arrived)) (shunted shunting sums.shunting_small)
        (swapped shunting (lower (fewer -ℤ credit arrived) (longer -ℤ debit arrived)))
        (λ x either. elim either [
          | inl (to, of, e) ↦ inl (to, of.0, of.1, ap (λ (y : ℤ). y +ℤ shunting) (sym e) ∙ swapped ((row to +ℤ credit to) -ℤ credit arrived) shunting)
          | inr (to, of, e) ↦ inr (to, of.0, of.1, ap (λ (y : ℤ). y +ℤ shunting) (sym e) ∙ swapped ((row to +ℤ debit to) -ℤ debit arrived) shunting)
        ])
        (λ x either. elim either [
          | inl (to, of, differ, e) ↦ inl (to, (of, differ), less_by x shunting ((row to +ℤ credit to) -ℤ credit arrived) e)
          | inr (to, of, differ, e) ↦ inr (to, (of, differ), less_by x shunting ((row to +ℤ debit to) -ℤ debit arrived) e)
        ])
        (least_either Gone Come (pos 9080000000000000000) (fewer -ℤ credit arrived) (longer -ℤ debit arrived)
        (least_gone off) (least_come on)))

    -- how large the cell that is offered is
    offer_small : (edge : Edge) (cell : Cell) → edge.from ≡ from → IsTurnEdge priced.day r a b u c false edge → offer stage ahead edge ≡ Some cell
        → (bound : ℕ) → AreSmallCells bound ahead → IsSmall (bound + 13000000000000000) cell.value
    offer_small edge cell origin allowed offers bound each = on (is_offer edge cell offers) (is_value edge origin allowed)
      where
        plain : (x v w : ℤ) → x ≡ (v +ℤ w) → v ≡ pos 0 → IsSmall bound w → IsSmall (bound + 13000000000000000) x
        plain x v w e f small = let p = small.above in let q = small.below in
            record { above = omega (arith, ints, e, f, p); below = omega (arith, ints, e, f, q) }

        more : (x v w k m n : ℤ) → x ≡ (v +ℤ w) → v ≡ (k +ℤ (m -ℤ n)) → IsSmall bound w → IsSmall 1000000000000 k → IsSmall 6000000000000000 m
            → IsSmall 6000000000000000 n → IsSmall (bound + 13000000000000000) x
        more x v w k m n e f small small_k small_m small_n =
            let p = small.above in let q = small.below in let kp = small_k.above in let kq = small_k.below in
            let mp = small_m.above in let mq = small_m.below in let np = small_n.above in let nq = small_n.below in
            record { above = omega (arith, ints, e, f, p, kp, mp, nq); below = omega (arith, ints, e, f, q, kq, mq, np) }

        on : IsOffer edge cell → IsValue edge → IsSmall (bound + 13000000000000000) cell.value
        on o (stays same value) = plain cell.value (value_of edge) o.there.value o.value value (each edge.to o.there o.at)
        on o (goes of differ value) =
            more cell.value (value_of edge) o.there.value shunting (credit edge.to) (credit arrived) o.value value (each edge.to o.there o.at)
            sums.shunting_small (sums.credits_small edge.to of.listed) (sums.credits_small arrived listed)
        on o (comes of differ value) =
            more cell.value (value_of edge) o.there.value shunting (debit edge.to) (debit arrived) o.value value (each edge.to o.there o.at)
            sums.shunting_small (sums.debits_small edge.to allowed.departing.listed) (sums.debits_small arrived listed)

    pub offered_small : (it : Cell) → get_or (fold (offered stage ahead) (replicate comps None) (edges_of priced (Some l))) from None ≡ Some it
        → (bound : ℕ) → AreSmallCells bound ahead → IsSmall (bound + 13000000000000000) it.value
    offered_small it at bound each =
        let is : IsOffered stage ahead (Contains (edges_of priced (Some l))) from (get_or (fold (offered stage ahead) (replicate comps None) (edges_of priced (Some l))) from None) =
        row_offered stage ahead comps (edges_of priced (Some l)) are_edges.in_order
        (λ edge there. (kind_edge edge ((are_edges.exact edge).0 there)).arriving.listed) from runs.listed in
        let one : IsLeastOffer stage ahead (Contains (edges_of priced (Some l))) from it = is.some it at in
        offer_small one.edge it one.from (kind_edge one.edge ((are_edges.exact one.edge).0 one.seen)) one.offers bound each
