use Rattle.std.proofs.Common.{◌≡◌, ◌<◌, ℕ, true, get_or}
use Rattle.branch_tree.specs.Regions.{has}
use Rattle.branch_tree.proofs.regions.Region.holds.Given as goal

abbrev pub invariant-loop-trip : goal.invariant-loop-trip
invariant-loop-trip l = (trip : ℕ) → trip < l.trip → has l.self trip (get_or l.picks trip 0) ≡ true
