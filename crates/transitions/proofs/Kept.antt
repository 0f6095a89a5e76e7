-- The edges of joins and splits: each has the composition of the second train as its part.
use Rattle.std.proofs.Common.{◌≡◌, ℕ, ◌≤◌, List, ◌++◌, length, Bool, true, false, Option, Some, None, refl, sym, ap}
use Rattle.std.proofs.Common.{subst, ◌∙◌, arith}
use Rattle.std.specs.Prelude.{◌↔◌}
use Rattle.std.proofs.lemmas.Bool.{and_parts, and_from, le-leb}
use Rattle.std.proofs.lemmas.List.{reverse-reverse, length-reverse}
use Rattle.std.proofs.lemmas.Slice.Eq.{bytes_eq-Decides}
use Rattle.timetable.specs.Compositions.{composition_at}
use Rattle.timetable.specs.Day.{Day}
use Rattle.timetable.specs.Links.{turned, join_holds, split_holds}
use Rattle.transitions.specs.declared.edge.Edge.{Edge}
use Rattle.transitions.specs.declared.edge.Shunt.{Shunt}
use Rattle.transitions.specs.declared.edge.Shunt.TheVariants.{Keep}
use Rattle.transitions.specs.Edges.{IsAdmittedComp, IsJoinEdge, IsSplitEdge}
use Rattle.transitions.specs.Between.{IsBetween}
use Rattle.transitions.proofs.Numbers.{some_unit}

abbrev pub kept_edge : ℕ → ℕ → ℕ → Edge
kept_edge from to part = record { from = from; to = to; shunt = Keep; part = Some part }

-- an edge is known by its fields
same_edge : (x : Edge) (from to : ℕ) (shunt : Shunt) (part : Option ℕ) → x.from ≡ from → x.to ≡ to → x.shunt ≡ shunt → x.part ≡ part → record { from = from; to = to; shunt = shunt; part = part } ≡ x
same_edge x from to shunt part e1 e2 e3 e4 =
    ap (λ (n : ℕ). record { from = n; to = to; shunt = shunt; part = part }) (sym e1)
    ∙ ap (λ (n : ℕ). record { from = x.from; to = n; shunt = shunt; part = part }) (sym e2)
    ∙ ap (λ (s : Shunt). record { from = x.from; to = x.to; shunt = s; part = part }) (sym e3)
    ∙ ap (λ (o : Option ℕ). record { from = x.from; to = x.to; shunt = x.shunt; part = o }) (sym e4)

-- the answers of the calls: what stands behind the front of a whole, and the number of a composition that may run on a
-- trip
abbrev pub IsRest : List ℕ → List ℕ → Option (List ℕ) → Type 0
IsRest front whole o = (rest : List ℕ) → (o ≡ Some rest) ↔ ((front ++ rest ≡ whole) × (1 ≤ length rest))

abbrev pub IsNumber : Day → ℕ → List ℕ → Option ℕ → Type 0
IsNumber day t ms o = (comp : ℕ) → (o ≡ Some comp) ↔ (IsAdmittedComp day t comp × (composition_at day comp ≡ ms))

-- the second train's composition, as it stands behind the front one
pub record Second (day : Day) (second from to : ℕ) (front whole : List ℕ) (stands : List ℕ → List ℕ) (edge : Edge) : Type 0 where
  pub part : ℕ
  pub is : kept_edge from to part ≡ edge
  pub runs : IsAdmittedComp day second part
  pub joined : front ++ stands (composition_at day part) ≡ whole
  pub some : 1 ≤ length (stands (composition_at day part))

-- these answers for equal values
pub rest_at : (front front' whole whole' : List ℕ) (o o' : Option (List ℕ)) → front ≡ front' → whole ≡ whole' → o ≡ o' → IsRest front whole o → IsRest front' whole' o'
rest_at front front' whole whole' o o' ef ew eo h =
    subst (λ (p : Option (List ℕ)). IsRest front' whole' p) eo
    (subst (λ (w : List ℕ). IsRest front' w o) ew (subst (λ (f : List ℕ). IsRest f whole o) ef h))

pub number_at : (day : Day) (t : ℕ) (ms ms' : List ℕ) (o o' : Option ℕ) → ms ≡ ms' → o ≡ o' → IsNumber day t ms o → IsNumber day t ms' o'
number_at day t ms ms' o o' em eo h = subst (λ (p : Option ℕ). IsNumber day t ms' p) eo (subst (λ (xs : List ℕ). IsNumber day t xs o) em h)

module _ (day : Day) (second from to : ℕ) (front whole : List ℕ) (stands : List ℕ → List ℕ) (undo : (ms : List ℕ) → stands (stands ms) ≡ ms) (IsKept : Edge → Type 0)
    (parts : (edge : Edge) → IsKept edge → Second day second from to front whole stands edge)
    (makes : (part : ℕ) → IsAdmittedComp day second part → front ++ stands (composition_at day part) ≡ whole → IsKept (kept_edge from to part)) where
  pub no_rest : IsRest front whole None → (edge : Edge) → (None ≡ Some edge) ↔ IsKept edge
  no_rest rest edge = (
    λ e. absurd cc,
    λ kept. let s = parts edge kept in let e : None ≡ Some (stands (composition_at day s.part)) = (rest (stands (composition_at day s.part))).1 (s.joined, s.some) in absurd cc,
  )

  behind_is : (behind : List ℕ) → IsRest front whole (Some behind) → (part : ℕ) → front ++ stands (composition_at day part) ≡ whole → 1 ≤ length (stands (composition_at day part)) → composition_at day part ≡ stands behind
  behind_is behind rest part joined some =
      let e : Some behind ≡ Some (stands (composition_at day part)) = (rest (stands (composition_at day part))).1 (joined, some) in
      let same : behind ≡ stands (composition_at day part) = cc in
      sym (ap stands same ∙ undo (composition_at day part))

  pub no_number : (behind : List ℕ) → IsRest front whole (Some behind) → IsNumber day second (stands behind) None → (edge : Edge) → (None ≡ Some edge) ↔ IsKept edge
  no_number behind rest number edge = (
    λ e. absurd cc,
    λ kept.
        let s = parts edge kept in
        let e : None ≡ Some s.part = (number s.part).1 (s.runs, behind_is behind rest s.part s.joined s.some) in absurd cc,
  )

  pub found : (behind : List ℕ) (part : ℕ) → IsRest front whole (Some behind) → IsNumber day second (stands behind) (Some part) → (edge : Edge) → (Some (kept_edge from to part) ≡ Some edge) ↔ IsKept edge
  found behind part rest number edge = (
    λ e.
        let same : kept_edge from to part ≡ edge = cc in
        let here = (number part).0 refl in
        let whole_is = (rest behind).0 refl in
        subst IsKept same (makes part here.0 (ap (λ (ms : List ℕ). front ++ ms) (ap stands here.1 ∙ undo behind) ∙ whole_is.0)),
    λ kept.
        let s = parts edge kept in
        let e : Some part ≡ Some s.part = (number s.part).1 (s.runs, behind_is behind rest s.part s.joined s.some) in
        let same : part ≡ s.part = cc in
        ap (λ (n : ℕ). Some (kept_edge from to n)) same ∙ ap (λ (x : Edge). Some x) s.is,
  )

-- a list that is turned twice is the same
pub turned_twice : (r : Bool) (ms : List ℕ) → turned r (turned r ms) ≡ ms
turned_twice true ms = reverse-reverse ms
turned_twice false ms = refl

pub length-turned : (r : Bool) (ms : List ℕ) → length (turned r ms) ≡ length ms
length-turned true ms = length-reverse ms
length-turned false ms = refl

module _ (day : Day) (r : Bool) (second from to : ℕ) (a b : ℕ) where
  abbrev Joins : Edge → Type 0
  Joins edge = IsJoinEdge day r a second b edge × IsBetween from to edge

  join_parts : (edge : Edge) → Joins edge → Second day second from to (turned r (composition_at day from)) (composition_at day to) (turned r) edge
  unfolding join_holds
  join_parts edge h =
      let joined : turned r (composition_at day edge.from) ++ turned r (composition_at day h.0.part) ≡ composition_at day edge.to =
      (bytes_eq-Decides (turned r (composition_at day edge.from) ++ turned r (composition_at day h.0.part)) (composition_at day edge.to)).0 h.0.rule in record {
        part = h.0.part;
        is = same_edge edge from to Keep (Some h.0.part) h.1.origin h.1.goal h.0.kept h.0.is_part;
        runs = h.0.second;
        joined = ap (λ (n : ℕ). turned r (composition_at day n) ++ turned r (composition_at day h.0.part)) (sym h.1.origin) ∙ joined ∙ ap (composition_at day) h.1.goal;
        some = omega (arith, some_unit day second h.0.part h.0.second, length-turned r (composition_at day h.0.part));
      }

  join_makes : IsAdmittedComp day a from → IsAdmittedComp day b to → (part : ℕ) → IsAdmittedComp day second part → turned r (composition_at day from) ++ turned r (composition_at day part) ≡ composition_at day to
      → Joins (kept_edge from to part)
  unfolding join_holds
  join_makes runs runs' part second_runs joined = (
    record {
      part = part;
      is_part = refl;
      first = runs;
      second = second_runs;
      departing = runs';
      rule = (bytes_eq-Decides (turned r (composition_at day from) ++ turned r (composition_at day part)) (composition_at day to)).1 joined;
      kept = refl;
    },
    record { origin = refl; goal = refl },
  )

  pub join_no_rest : IsAdmittedComp day a from → IsAdmittedComp day b to → IsRest (turned r (composition_at day from)) (composition_at day to) None → (edge : Edge) → (None ≡ Some edge) ↔ Joins edge
  join_no_rest runs runs' =
      no_rest day second from to (turned r (composition_at day from)) (composition_at day to) (turned r) (turned_twice r) Joins join_parts (join_makes runs runs')

  pub join_no_number : IsAdmittedComp day a from → IsAdmittedComp day b to → (behind : List ℕ) → IsRest (turned r (composition_at day from)) (composition_at day to) (Some behind)
      → IsNumber day second (turned r behind) None → (edge : Edge) → (None ≡ Some edge) ↔ Joins edge
  join_no_number runs runs' =
      no_number day second from to (turned r (composition_at day from)) (composition_at day to) (turned r) (turned_twice r) Joins join_parts (join_makes runs runs')

  pub join_found : IsAdmittedComp day a from → IsAdmittedComp day b to → (behind : List ℕ) (part : ℕ) → IsRest (turned r (composition_at day from)) (composition_at day to) (Some behind)
      → IsNumber day second (turned r behind) (Some part) → (edge : Edge) → (Some (kept_edge from to part) ≡ Some edge) ↔ Joins edge
  join_found runs runs' =
      found day second from to (turned r (composition_at day from)) (composition_at day to) (turned r) (turned_twice r) Joins join_parts (join_makes runs runs')

  abbrev Splits : Edge → Type 0
  Splits edge = IsSplitEdge day r a b second edge × IsBetween from to edge

  split_parts : (edge : Edge) → Splits edge → Second day second from to (composition_at day to) (turned r (composition_at day from)) (λ ms. ms) edge
  unfolding split_holds
  split_parts edge h =
      let whole : turned r (composition_at day edge.from) ≡ composition_at day edge.to ++ composition_at day h.0.part =
      (bytes_eq-Decides (turned r (composition_at day edge.from)) (composition_at day edge.to ++ composition_at day h.0.part)).0 (and_parts _ _ (and_parts _ _ h.0.rule).0).0 in record {
        part = h.0.part;
        is = same_edge edge from to Keep (Some h.0.part) h.1.origin h.1.goal h.0.kept h.0.is_part;
        runs = h.0.second;
        joined = ap (λ (n : ℕ). composition_at day n ++ composition_at day h.0.part) (sym h.1.goal) ∙ sym whole ∙ ap (λ (n : ℕ). turned r (composition_at day n)) h.1.origin;
        some = some_unit day second h.0.part h.0.second;
      }

  split_makes : IsAdmittedComp day a from → IsAdmittedComp day b to → (part : ℕ) → IsAdmittedComp day second part → composition_at day to ++ composition_at day part ≡ turned r (composition_at day from)
      → Splits (kept_edge from to part)
  unfolding split_holds
  split_makes runs runs' part second_runs joined = (
    record {
      part = part;
      is_part = refl;
      arriving = runs;
      first = runs';
      second = second_runs;
      rule = and_from _ _ (and_from _ _ ((bytes_eq-Decides (turned r (composition_at day from)) (composition_at day to ++ composition_at day part)).1 (sym joined))
          (le-leb 1 (length (composition_at day to)) (some_unit day b to runs'))) (le-leb 1 (length (composition_at day part)) (some_unit day second part second_runs));
      kept = refl;
    },
    record { origin = refl; goal = refl },
  )

  pub split_no_rest : IsAdmittedComp day a from → IsAdmittedComp day b to → IsRest (composition_at day to) (turned r (composition_at day from)) None → (edge : Edge) → (None ≡ Some edge) ↔ Splits edge
  split_no_rest runs runs' =
      no_rest day second from to (composition_at day to) (turned r (composition_at day from)) (λ ms. ms) (λ ms. refl) Splits split_parts (split_makes runs runs')

  pub split_no_number : IsAdmittedComp day a from → IsAdmittedComp day b to → (behind : List ℕ) → IsRest (composition_at day to) (turned r (composition_at day from)) (Some behind)
      → IsNumber day second behind None → (edge : Edge) → (None ≡ Some edge) ↔ Splits edge
  split_no_number runs runs' =
      no_number day second from to (composition_at day to) (turned r (composition_at day from)) (λ ms. ms) (λ ms. refl) Splits split_parts (split_makes runs runs')

  pub split_found : IsAdmittedComp day a from → IsAdmittedComp day b to → (behind : List ℕ) (part : ℕ) → IsRest (composition_at day to) (turned r (composition_at day from)) (Some behind)
      → IsNumber day second behind (Some part) → (edge : Edge) → (Some (kept_edge from to part) ≡ Some edge) ↔ Splits edge
  split_found runs runs' =
      found day second from to (composition_at day to) (turned r (composition_at day from)) (λ ms. ms) (λ ms. refl) Splits split_parts (split_makes runs runs')
