use Rattle.std.proofs.Common.{take}
use Rattle.fleets.specs.Fleets.{IsNowhereAbove}
use Rattle.fleet_check.proofs.chosen.is_nowhere_above.Given as goal

-- at no place so far
abbrev pub invariant-loop-place : goal.invariant-loop-place
invariant-loop-place l = IsNowhereAbove (take l.place l.fleet) (take l.place l.most)
