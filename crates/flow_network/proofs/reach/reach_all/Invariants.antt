-- Nodes are reached, and all that can be once a pass reached none more.
use Rattle.std.proofs.Common.{◌≡◌, ◌+◌, false, is_none}
use Rattle.std.specs.Prelude.{if◌then◌else◌}
use Rattle.std.specs.List.{All, count_by}
use Rattle.flow_network.specs.Steps.{ClosesBoth, IsReaching}
use Rattle.flow_network.proofs.reach.reach_all.Given as goal

abbrev pub invariant-loop-goes_on : goal.invariant-loop-goes_on
invariant-loop-goes_on l = record {
  reaching : IsReaching l.arcs l.nodes l.source l.reach.steps.items l.reach.found;
  closed : l.goes_on ≡ false → All (ClosesBoth l.source l.reach.steps.items) l.arcs;
}

abbrev pub decreases-loop-goes_on : goal.decreases-loop-goes_on
decreases-loop-goes_on l = count_by is_none l.reach.steps.items + (if l.goes_on then 1 else 0)
