-- An edge is allowed exactly where its compositions may run and the rule holds of their types.
use Rattle.std.proofs.Common.{◌≡◌, ℕ, List, Bool, true, Option, Some, None, refl, sym, ap, subst, ◌∙◌}
use Rattle.std.specs.Prelude.{option_map, is_some}
use Rattle.std.proofs.lemmas.Bool.{false≢true}
use Rattle.rules.specs.declared.records.End.{End}
use Rattle.rules.specs.declared.records.Link.{Link}
use Rattle.rules.specs.declared.records.LinkKind.{LinkKind}
use Rattle.rules.specs.declared.records.LinkKind.TheVariants.{Turn, Join, Split}
use Rattle.timetable.specs.Compositions.{composition_at}
use Rattle.timetable.specs.Day.{Day}
use Rattle.timetable.specs.Links.{itself, list_of, turned, join_holds, split_holds, kind_holds, link_holds}
use Rattle.timetable.specs.Turns.{Parts, turn_parts}
use Rattle.transitions.specs.declared.edge.Edge.{Edge}
use Rattle.transitions.specs.declared.edge.Shunt.{Shunt}
use Rattle.transitions.specs.declared.edge.Shunt.TheVariants.{Keep}
use Rattle.transitions.specs.Edges.{IsAdmittedComp, IsKindEdge}
use Rattle.transitions.specs.Laws.{AreOn, MayRunAll, EdgesByRule}
use Rattle.transitions.specs.Turns.{shunt_of, turn_shunt}

abbrev some_shunt : Edge → Shunt → Edge
some_shunt edge shunt = record edge { shunt = shunt }

-- a turn has a shunt exactly where it has parts
has_shunt : (o : Option Parts) → is_some o ≡ true → (shunt : Shunt) × (option_map shunt_of o ≡ Some shunt)
has_shunt None h = absurd (false≢true h)
has_shunt (Some parts) h = (shunt_of parts, refl)

has_parts : (o : Option Parts) (shunt : Shunt) → option_map shunt_of o ≡ Some shunt → is_some o ≡ true
has_parts None shunt e = absurd cc
has_parts (Some parts) shunt e = refl

turn_by_rule : (uncouple couple : End) (exchange : Bool) (arriving arriving' departing departing' : List ℕ) → arriving ≡ arriving' → departing ≡ departing'
    → is_some (turn_parts itself uncouple couple exchange arriving departing) ≡ true → (shunt : Shunt) × (turn_shunt uncouple couple exchange arriving' departing' ≡ Some shunt)
unfolding turn_shunt
turn_by_rule uncouple couple exchange arriving arriving' departing departing' e e' holds =
    has_shunt (turn_parts itself uncouple couple exchange arriving' departing')
    (sym (ap (λ (us : List ℕ). is_some (turn_parts itself uncouple couple exchange us departing)) e ∙ ap (λ (us : List ℕ). is_some (turn_parts itself uncouple couple exchange arriving' us)) e') ∙ holds)

rule_of_turn : (uncouple couple : End) (exchange : Bool) (arriving arriving' departing departing' : List ℕ) → arriving ≡ arriving' → departing ≡ departing' → (shunt : Shunt)
    → turn_shunt uncouple couple exchange arriving' departing' ≡ Some shunt → is_some (turn_parts itself uncouple couple exchange arriving departing) ≡ true
unfolding turn_shunt
rule_of_turn uncouple couple exchange arriving arriving' departing departing' e e' shunt rule =
    ap (λ (us : List ℕ). is_some (turn_parts itself uncouple couple exchange us departing)) e ∙ ap (λ (us : List ℕ). is_some (turn_parts itself uncouple couple exchange arriving' us)) e'
    ∙ has_parts (turn_parts itself uncouple couple exchange arriving' departing') shunt rule

-- the part of a link with a second trip
part_is : (f g : ℕ → List ℕ) (t : ℕ) (o : Option ℕ) → Some (f t) ≡ option_map g o → (part : ℕ) × (o ≡ Some part) × (f t ≡ g part)
part_is f g t None e = absurd cc
part_is f g t (Some part) e = (part, refl, cc)

no_part : (g : ℕ → List ℕ) (o : Option ℕ) → None ≡ option_map g o → o ≡ None
no_part g None e = refl
no_part g (Some part) e = absurd cc

module _ (day : Day) (r : Bool) (edge : Edge) (lists : List (List ℕ)) where
  kind_edge : (kind : LinkKind) → AreOn day lists (record { kind = kind; reverse = r }) edge → MayRunAll day (record { kind = kind; reverse = r }) edge → kind_holds itself kind r lists ≡ true
      → (shunt : Shunt) × IsKindEdge day kind r (some_shunt edge shunt)
  unfolding join_holds split_holds
  kind_edge (Turn a b uncouple couple exchange) on runs holds =
      let found = turn_by_rule uncouple couple exchange (turned r (list_of lists a)) (turned r (composition_at day edge.from)) (list_of lists b) (composition_at day edge.to) (ap (turned r) on.arriving) on.departing holds in
      (found.0, record { arriving = runs.arriving; departing = runs.departing; rule = found.1; no_part = no_part (composition_at day) edge.part on.second })
  kind_edge (Join a1 a2 b) on runs holds =
      let part = part_is (list_of lists) (composition_at day) a2 edge.part on.second in (
        Keep,
        record {
          part = part.0;
          is_part = part.1;
          first = runs.arriving;
          second = runs.second a2 part.0 refl part.1;
          departing = runs.departing;
          rule = rw (← on.arriving, ← part.2, ← on.departing) holds;
          kept = refl;
        },
      )
  kind_edge (Split a b1 b2) on runs holds =
      let part = part_is (list_of lists) (composition_at day) b2 edge.part on.second in (
        Keep,
        record {
          part = part.0;
          is_part = part.1;
          arriving = runs.arriving;
          first = runs.departing;
          second = runs.second b2 part.0 refl part.1;
          rule = rw (← on.arriving, ← part.2, ← on.departing) holds;
          kept = refl;
        },
      )

  -- the part of the edge is the only one
  second_runs : (t t' part part' : ℕ) → Some t ≡ Some t' → edge.part ≡ Some part → edge.part ≡ Some part' → IsAdmittedComp day t part → IsAdmittedComp day t' part'
  second_runs t t' part part' same is is' runs =
      let trip : t ≡ t' = cc in
      let some : Some part ≡ Some part' = sym is ∙ is' in
      let one : part ≡ part' = cc in
      subst (λ (n : ℕ). IsAdmittedComp day n part') trip (subst (λ (n : ℕ). IsAdmittedComp day t n) one runs)

  second_lists : (t part : ℕ) → Some (list_of lists t) ≡ option_map (composition_at day) edge.part → edge.part ≡ Some part → list_of lists t ≡ composition_at day part
  second_lists t part on is = let some : Some (list_of lists t) ≡ Some (composition_at day part) = on ∙ ap (option_map (composition_at day)) is in cc

  edge_kind : (kind : LinkKind) (shunt : Shunt) → AreOn day lists (record { kind = kind; reverse = r }) edge → IsKindEdge day kind r (some_shunt edge shunt)
      → MayRunAll day (record { kind = kind; reverse = r }) edge × (kind_holds itself kind r lists ≡ true)
  unfolding join_holds split_holds
  edge_kind (Turn a b uncouple couple exchange) shunt on e = (
    record { arriving = e.arriving; departing = e.departing; second = λ t part same is. absurd cc },
    rule_of_turn uncouple couple exchange (turned r (list_of lists a)) (turned r (composition_at day edge.from)) (list_of lists b) (composition_at day edge.to) (ap (turned r) on.arriving) on.departing shunt e.rule,
  )
  edge_kind (Join a1 a2 b) shunt on e = (
    record { arriving = e.first; departing = e.departing; second = λ t part same is. second_runs a2 t e.part part same e.is_part is e.second },
    rw (on.arriving, second_lists a2 e.part on.second e.is_part, on.departing) e.rule,
  )
  edge_kind (Split a b1 b2) shunt on e = (
    record { arriving = e.arriving; departing = e.first; second = λ t part same is. second_runs b2 t e.part part same e.is_part is e.second },
    rw (on.arriving, second_lists b2 e.part on.second e.is_part, on.departing) e.rule,
  )

pub edges_by_rule : EdgesByRule
unfolding link_holds
edges_by_rule day l link edge lists at on = (
  λ h. let found = kind_edge day link.reverse edge lists link.kind on h.0 h.1 in (found.0, record { link = link; at = at; kind = found.1 }),
  λ found.
      let some : Some found.1.link ≡ Some link = sym found.1.at ∙ at in
      let same : found.1.link ≡ link = cc in
      edge_kind day link.reverse edge lists link.kind found.0 on (subst (λ (k : Link). IsKindEdge day k.kind k.reverse (some_shunt edge found.0)) same found.1.kind),
)
