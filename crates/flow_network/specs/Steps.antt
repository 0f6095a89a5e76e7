-- How nodes are reached from the source, step by step, and one unit is sent along these steps.
use Rattle.std.specs.Prelude.{ℕ, length, if◌then◌else◌, get_or, nat_lt, Option, is_some, is_none, option_map, unwrap_or}
use Rattle.std.specs.Prelude.{◌≡◌, ◌<◌, ◌≤◌, ◌+◌, ◌-◌, ◌^◌, List, Bool, true, false, ◌==◌, ◌||◌, Some, None}
use Rattle.std.specs.List.{All, sum_by, count_by}
use Rattle.flow_network.specs.declared.network.Arc.{Arc}
use Rattle.flow_network.specs.declared.reach.Step.{Step}
use Rattle.flow_network.specs.Flows.{Net}

-- ---- a step along an arc, or against it

-- the node that the step leaves, and the one that it comes to
abbrev pub tail_of : Bool → Arc → ℕ
tail_of is_along arc = if is_along then arc.from else arc.to

abbrev pub head_of : Bool → Arc → ℕ
head_of is_along arc = if is_along then arc.to else arc.from

-- along an arc that takes one unit more, or against one that has one to give back
abbrev pub has_residual : Bool → Arc → Bool
has_residual is_along arc = if is_along then nat_lt arc.flow arc.capacity else nat_lt 0 arc.flow

-- the arc once one unit more is sent that way
abbrev pub pushed : Bool → Arc → Arc
pushed is_along arc = record arc { flow = if is_along then arc.flow + 1 else arc.flow - 1 }

-- ---- the nodes that are reached

abbrev pub step_to : List (Option Step) → ℕ → Option Step
step_to steps n = get_or steps n None

abbrev pub has : ℕ → List (Option Step) → ℕ → Bool
has source steps n = (n == source) || is_some (step_to steps n)

-- how many were reached before the node
abbrev pub rank_of : ℕ → List (Option Step) → ℕ → ℕ
rank_of source steps n = if n == source then 0 else unwrap_or (option_map (λ step. step.rank) (step_to steps n)) 0

-- the step comes to the node from one that was reached before it, over an arc that is open for it
pub record LeadsTo (arcs : List Arc) (source : ℕ) (steps : List (Option Step)) (n : ℕ) (step : Step) : Type 0 where
  pub there : step.arc < length arcs
  pub head : (d : Arc) → head_of step.is_along (get_or arcs step.arc d) ≡ n
  pub passes : (d : Arc) → has_residual step.is_along (get_or arcs step.arc d) ≡ true
  pub from : (d : Arc) → has source steps (tail_of step.is_along (get_or arcs step.arc d)) ≡ true
  pub earlier : (d : Arc) → rank_of source steps (tail_of step.is_along (get_or arcs step.arc d)) < step.rank

-- some nodes were reached, so many of them
pub record IsReaching (arcs : List Arc) (nodes source : ℕ) (steps : List (Option Step)) (found : ℕ) : Type 0 where
  pub long : length steps ≡ nodes
  pub start : step_to steps source ≡ None
  pub traced : (n : ℕ) (step : Step) → step_to steps n ≡ Some step → LeadsTo arcs source steps n step
  pub some : 1 ≤ found
  pub ranks : (n : ℕ) (step : Step) → step_to steps n ≡ Some step → step.rank < found
  pub room : found + count_by is_none steps ≤ nodes + 1

-- and more can be: there aren't too many nodes, and the arcs are between these
pub record CanReach (arcs : List Arc) (source : ℕ) (steps : List (Option Step)) (found : ℕ) : Type 0 where
  pub few : length steps < 2 ^ 32
  pub start : source < length steps
  pub between : All (λ arc. (arc.from < length steps) × (arc.to < length steps)) arcs
  pub reaching : IsReaching arcs (length steps) source steps found

-- no more nodes are left unreached, and fewer where it is said that there was one more
abbrev pub AreFewer : Bool → List (Option Step) → List (Option Step) → Type 0
AreFewer more before after =
    (count_by is_none after ≤ count_by is_none before)
    × (more ≡ true → count_by is_none after < count_by is_none before)

-- the arc leads on to no node that isn't reached
abbrev pub Closes : ℕ → List (Option Step) → Bool → Arc → Type 0
Closes source steps is_along arc =
    has source steps (tail_of is_along arc) ≡ true → has_residual is_along arc ≡ true
    → has source steps (head_of is_along arc) ≡ true

abbrev pub ClosesBoth : ℕ → List (Option Step) → Arc → Type 0
ClosesBoth source steps arc = Closes source steps true arc × Closes source steps false arc

-- all that can be reached was reached
pub record IsReachedBy (net : Net) (steps : List (Option Step)) : Type 0 where
  pub long : length steps ≡ net.nodes
  pub start : step_to steps net.source ≡ None
  pub traced : (n : ℕ) (step : Step) → step_to steps n ≡ Some step → LeadsTo net.arcs net.source steps n step
  pub closed : All (ClosesBoth net.source steps) net.arcs

-- ---- sending one unit more

-- how many units more may leave the source
abbrev pub room_out : ℕ → List Arc → ℕ
room_out source arcs = sum_by (λ arc. if arc.from == source then arc.capacity - arc.flow else 0) arcs
