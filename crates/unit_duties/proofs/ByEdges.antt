-- The rule of a link holds of picked compositions exactly where the edge between them is found, with its part.
use Rattle.std.proofs.Common.{◌≡◌, ◌∙◌, ℕ, zero, suc, ◌<◌, List, [], ◌∷◌, length, get_or, Bool, true, false, eqb}
use Rattle.std.proofs.Common.{Option, Some, None, slice_get, unwrap_or, refl, sym, ap, subst, arith, inl, inr}
use Rattle.std.specs.Prelude.{◌↔◌, option_map, IsTrue}
use Rattle.std.specs.Option.{option_eq}
use Rattle.std.proofs.lemmas.Bool.{cases_Bool, false≢true, eqb-true, eq-eqb}
use Rattle.std.proofs.lemmas.Option.{slice_get-get_or, unwrap_or-slice_get}
use Rattle.rules.specs.declared.records.Link.{Link}
use Rattle.timetable.specs.Admissible.{is_admissible}
use Rattle.timetable.specs.Chains.{leads_from, leads_to}
use Rattle.timetable.specs.Compositions.{compositions_of, composition_at}
use Rattle.timetable.specs.Day.{Day}
use Rattle.timetable.specs.Handovers.{second_of}
use Rattle.timetable.specs.LinkRows.{NamesBelow}
use Rattle.timetable.specs.Links.{itself, list_of, link_holds}
use Rattle.timetable.specs.Picks.{ArePicks, picked}
use Rattle.timetable.proofs.Leading.{from_below, to_below}
use Rattle.timetable.proofs.Picking.{picked_on, pick_within}
use Rattle.timetable.proofs.Within.{second_below}
use Rattle.transitions.specs.declared.edge.Edge.{Edge}
use Rattle.transitions.specs.declared.edge.Shunt.{Shunt}
use Rattle.transitions.specs.declared.edge.Shunt.TheVariants.{Keep}
use Rattle.transitions.specs.Edges.{IsAdmittedComp, IsEdge, AreGraphs, IsFound}
use Rattle.transitions.specs.Laws.{AreOn, MayRunAll}
use Rattle.transitions.proofs.ByRule.{edges_by_rule}
use Rattle.transitions.proofs.Following.{edges_found}
use Rattle.unit_duties.specs.Broken.{pick_of, AreAdmissible}

-- two picks are one, or not
some_cases : (x y : ℕ) → IsTrue (eqb x y) ↔ (Some x ≡ Some y)
some_cases x y = (λ h. ap (λ (n : ℕ). Some n) (eqb-true x y h), λ e. eq-eqb x y (inside e))
  where
    inside : {x y : ℕ} → Some x ≡ Some y → x ≡ y
    inside e = cc

pub same_option : (a b : Option ℕ) → IsTrue (option_eq eqb a b) ↔ (a ≡ b)
same_option None None = (λ h. refl, λ e. refl)
same_option None (Some y) = (λ h. absurd (false≢true h), λ e. absurd (cc))
same_option (Some x) None = (λ h. absurd (false≢true h), λ e. absurd (cc))
same_option (Some x) (Some y) = some_cases x y

-- what is picked for a trip
record IsPick (day : Day) (picks : List ℕ) (t : ℕ) : Type 0 where
  pub listed : pick_of picks t < length (compositions_of day)
  pub types_are : list_of (picked day picks) t ≡ composition_at day (pick_of picks t)

picked_at : (day : Day) (picks : List ℕ) → ArePicks day picks → (t : ℕ) → t < length day.trips → IsPick day picks t
picked_at day picks are t lt =
    let trips = are.trips in
    let at : slice_get picks t ≡ Some (get_or picks t 0) = slice_get-get_or picks t 0 (omega arith) in
    let one : get_or picks t 0 ≡ pick_of picks t = sym (unwrap_or-slice_get picks t 0) in
    let here : slice_get picks t ≡ Some (pick_of picks t) = at ∙ ap (λ (n : ℕ). Some n) one in
    let listed : pick_of picks t < length (compositions_of day) = pick_within day picks t (pick_of picks t) are here in
    let is : slice_get (compositions_of day) (pick_of picks t) ≡ Some (composition_at day (pick_of picks t)) =
    slice_get-get_or (compositions_of day) (pick_of picks t) [] listed ∙ ap (λ (l : List ℕ). Some l) (sym (unwrap_or-slice_get (compositions_of day) (pick_of picks t) [])) in
    record { listed = listed; types_are = sym (picked_on day picks t (pick_of picks t) (composition_at day (pick_of picks t)) here is) }

-- the link of a number
pub link_at : (links : List Link) (l : ℕ) → l < length links → (link : Link) × (slice_get links l ≡ Some link)
link_at [] l lt = absurd (omega arith)
link_at (link ∷ links) zero lt = (link, refl)
link_at (link ∷ links) (suc l) lt = link_at links l (omega arith)

module _ (day : Day) (graphs : List (List Edge)) (picks : List ℕ) (are : AreGraphs day graphs) (are_picks : ArePicks day picks) (admissible : AreAdmissible day picks)
    (l : ℕ) (link : Link) (at : slice_get day.links l ≡ Some link) (below : NamesBelow (length day.trips) link.kind) where
  runs : (t : ℕ) → t < length day.trips → IsAdmittedComp day t (pick_of picks t)
  runs t lt = let is = picked_at day picks are_picks t lt in record {
    listed = is.listed;
    admissible = subst (λ us. IsTrue (is_admissible day t us)) is.types_are (admissible.each t lt);
  }

  types_at : (t : ℕ) → t < length day.trips → list_of (picked day picks) t ≡ composition_at day (pick_of picks t)
  types_at t lt = (picked_at day picks are_picks t lt).types_are

  -- the edge that goes from the one to the other
  abbrev edge_with : Shunt → Edge
  edge_with shunt = record { from = pick_of picks (leads_from link.kind); to = pick_of picks (leads_to link.kind); shunt = shunt; part = option_map (pick_of picks) (second_of link.kind) }

  seconds : (o : Option ℕ) → ((t : ℕ) → o ≡ Some t → t < length day.trips) → option_map (list_of (picked day picks)) o ≡ option_map (composition_at day) (option_map (pick_of picks) o)
  seconds None h = refl
  seconds (Some t) h = ap (λ (us : List ℕ). Some us) (types_at t (h t refl))

  second_runs : (o : Option ℕ) → ((t : ℕ) → o ≡ Some t → t < length day.trips) → (t part : ℕ) → o ≡ Some t → option_map (pick_of picks) o ≡ Some part → IsAdmittedComp day t part
  second_runs None h t part e is = absurd (cc)
  second_runs (Some s) h t part e is =
      let same : s ≡ t = cc in
      let comp : pick_of picks s ≡ part = cc in
      subst (λ x. IsAdmittedComp day x part) same (subst (IsAdmittedComp day s) comp (runs s (h s refl)))

  are_on : (edge : Edge) → edge.from ≡ pick_of picks (leads_from link.kind) → edge.to ≡ pick_of picks (leads_to link.kind) → edge.part ≡ option_map (pick_of picks) (second_of link.kind)
      → AreOn day (picked day picks) link edge
  are_on edge from to part = record {
    arriving = types_at (leads_from link.kind) (from_below (length day.trips) link.kind below) ∙ ap (composition_at day) (sym from);
    departing = types_at (leads_to link.kind) (to_below (length day.trips) link.kind below) ∙ ap (composition_at day) (sym to);
    second = seconds (second_of link.kind) (λ t is. second_below (length day.trips) link.kind t below is) ∙ ap (option_map (composition_at day)) (sym part);
  }

  may_run : MayRunAll day link (edge_with Keep)
  may_run = record {
    arriving = runs (leads_from link.kind) (from_below (length day.trips) link.kind below);
    departing = runs (leads_to link.kind) (to_below (length day.trips) link.kind below);
    second = second_runs (second_of link.kind) (λ t is. second_below (length day.trips) link.kind t below is);
  }

  -- where the rule holds, the edge is found, and its part is the second pick
  found : link_holds itself link (picked day picks) ≡ true → (shunt : Shunt) × IsFound graphs l (pick_of picks (leads_from link.kind)) (pick_of picks (leads_to link.kind)) (edge_with shunt)
  found holds =
      let edge = (edges_by_rule day l link (edge_with Keep) (picked day picks) at (are_on (edge_with Keep) refl refl refl)).0 (may_run, holds) in
      (edge.0, edges_found day graphs are l (edge_with edge.0) edge.1)

  -- an edge that was found, with this part, is by the rule
  by_rule : (edge : Edge) → IsFound graphs l (pick_of picks (leads_from link.kind)) (pick_of picks (leads_to link.kind)) edge → edge.part ≡ option_map (pick_of picks) (second_of link.kind)
      → link_holds itself link (picked day picks) ≡ true
  by_rule edge is part =
      let allowed : IsEdge day l edge = ((are.each l is.edges is.at).exact edge).0 is.there in
      ((edges_by_rule day l link edge (picked day picks) at (are_on edge is.origin is.goal part)).1 (edge.shunt, allowed)).1

  broken_or_not : (P : Bool → Type 0) → (link_holds itself link (picked day picks) ≡ true → P true) → (link_holds itself link (picked day picks) ≡ false → P false) → P (link_holds itself link (picked day picks))
  broken_or_not P whole broken = elim (cases_Bool (link_holds itself link (picked day picks))) [ inl e ↦ subst P (sym e) (whole e) | inr e ↦ subst P (sym e) (broken e) ]

  module _ (from to : ℕ) (result : Option Edge) (from_is : slice_get picks (leads_from link.kind) ≡ Some from) (to_is : slice_get picks (leads_to link.kind) ≡ Some to)
      (finds : (edge : Edge) → (result ≡ Some edge) ↔ IsFound graphs l from to edge) where
    same_found : (edge : Edge) → IsFound graphs l (pick_of picks (leads_from link.kind)) (pick_of picks (leads_to link.kind)) edge ≡ IsFound graphs l from to edge
    same_found edge = ap (λ x. IsFound graphs l x (pick_of picks (leads_to link.kind)) edge) (ap (λ (o : Option ℕ). unwrap_or o 0) from_is) ∙ ap (λ x. IsFound graphs l from x edge) (ap (λ (o : Option ℕ). unwrap_or o 0) to_is)

    -- no edge is found
    pub none_found : result ≡ None → false ≡ link_holds itself link (picked day picks)
    none_found none = broken_or_not (λ b. false ≡ b) (λ e. let there = found e in let some = (finds (edge_with there.0)).1 (subst (λ X. X) (same_found (edge_with there.0)) there.1) in absurd (never (edge_with there.0) (sym none ∙ some))) (λ e. refl)
      where
        never : (edge : Edge) → None ≡ Some edge → ⊥
        never edge e = cc

    -- an edge is found
    pub some_found : (edge : Edge) (b : Bool) → result ≡ Some edge → (IsTrue b ↔ (edge.part ≡ option_map (pick_of picks) (second_of link.kind))) → b ≡ link_holds itself link (picked day picks)
    some_found edge b some test = broken_or_not (λ h. b ≡ h)
        (λ e. let there = found e in let is : Some edge ≡ Some (edge_with there.0) = sym some ∙ (finds (edge_with there.0)).1 (subst (λ X. X) (same_found (edge_with there.0)) there.1) in test.1 (ap (λ (x : Edge). x.part) (one edge (edge_with there.0) is)))
        (λ e. elim (cases_Bool b) [
          | inl is ↦ absurd (false≢true (sym e ∙ by_rule edge (subst (λ X. X) (sym (same_found edge)) ((finds edge).0 some)) (test.0 is)))
          | inr isnt ↦ isnt
        ])
      where
        one : (x y : Edge) → Some x ≡ Some y → x ≡ y
        one x y e = cc
