-- What is reached in the end is a cut.
use Rattle.std.proofs.Common.{◌≡◌, ◌≢◌, ℕ, ◌<◌, Bool, false, List, [], ◌∷◌, ◌++◌, map, take, length, get_or, refl, sym, ap, ◌∙◌, arith, inl, inr}
use Rattle.std.proofs.Common.{Option, None, is_some}
use Rattle.std.specs.Prelude.{◌==◌, ◌||◌}
use Rattle.std.proofs.lemmas.List.{length-map}
use Rattle.std.proofs.lemmas.Bool.{cases_Bool, eq-eqb, eqb-true, lt-ltb}
use Rattle.flow_network.specs.declared.network.Arc.{Arc}
use Rattle.flow_network.specs.declared.reach.Step.{Step}
use Rattle.flow_network.specs.Flows.{Net, IsFlow, IsReach, empty, is_reached}
use Rattle.flow_network.specs.Steps.{IsReachedBy, has, step_to}

pub is_reach : (net : Net) (steps : List (Option Step)) (nodes : List Bool) → IsFlow net → IsReachedBy net steps → step_to steps net.sink ≡ None → length nodes ≡ length steps
    → ((n : ℕ) → n < length steps → is_reached nodes n ≡ has net.source steps n) → IsReach net nodes
is_reach net steps nodes flow by none long each = record {
  nodes = long ∙ by.long;
  source = each net.source (in_steps net.source flow.source) ∙ ap (λ (b : Bool). b || is_some (step_to steps net.source)) (eq-eqb net.source net.source refl);
  sink = each net.sink (in_steps net.sink flow.sink) ∙ ap (λ (b : Bool). b || is_some (step_to steps net.sink)) (not_same net.sink net.source flow.apart) ∙ ap is_some none;
  along = λ k d below from less. (
      let is = flow.arcs k d below in
      let arc = get_or net.arcs k d in
      each arc.to (in_steps arc.to is.to) ∙ (by.closed k d below).0 (sym (each arc.from (in_steps arc.from is.from)) ∙ from) (lt-ltb arc.flow arc.capacity less));
  against = λ k d below to some. (
      let is = flow.arcs k d below in
      let arc = get_or net.arcs k d in
      each arc.from (in_steps arc.from is.from) ∙ (by.closed k d below).1 (sym (each arc.to (in_steps arc.to is.to)) ∙ to) (lt-ltb 0 arc.flow some));
}
  where
    in_steps : (n : ℕ) → n < net.nodes → n < length steps
    in_steps n below = (let is = by.long in omega (arith, below, is))

    not_same : (m n : ℕ) → m ≢ n → (m == n) ≡ false
    not_same m n differs = elim (cases_Bool (m == n)) [
      | inl is ↦ absurd (differs (eqb-true m n is))
      | inr isnt ↦ isnt
    ]

-- the arcs of the same network, put where the others were
pub whole : (n : ℕ) (old new rest : List Arc) → n ≡ length old → map empty new ≡ map empty old → take n (new ++ rest) ≡ new
whole n old new rest long same = ap (λ (k : ℕ). take k (new ++ rest)) (long ∙ sym (length-map old empty) ∙ ap (λ (arcs : List Arc). length arcs) (sym same) ∙ length-map new empty) ∙ front new rest
  where
    front : (xs ys : List Arc) → take (length xs) (xs ++ ys) ≡ xs
    front [] ys = refl
    front (x ∷ xs) ys = ap (λ (zs : List Arc). x ∷ zs) (front xs ys)
