use Rattle.std.proofs.Common.{◌≡◌, drop}
use Rattle.urgent_units.specs.Held.{is_held_from, is_held}
use Rattle.urgent_units.proofs.legs.is_held.Given as goal

-- what is said of the legs that are left is said of all
abbrev pub invariant-loop-leg : goal.invariant-loop-leg
invariant-loop-leg l = is_held_from l.at l.since (drop l.leg-index l.legs) l.station l.over ≡ is_held l.fn.unit l.station l.over
