use Rattle.std.proofs.Common.{ℕ, ◌≡◌, ◌<◌, slice_get, Some}
use Rattle.rules.specs.declared.records.Link.{Link}
use Rattle.price_bound.specs.FollowingPicks.{IsStep}
use Rattle.price_bound.proofs.following.all_step.Given as goal

abbrev pub invariant-loop-link : goal.invariant-loop-link
invariant-loop-link l = (k : ℕ) (at : Link) → k < l.link → slice_get l.instance.links k ≡ Some at → IsStep l.instance l.picks k at
