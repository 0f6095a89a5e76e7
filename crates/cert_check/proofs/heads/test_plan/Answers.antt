use Rattle.std.proofs.Common.{sym, ◌∙◌}
use Rattle.branch_tree.proofs.Lying.{picks_lie_by_trip}
use Rattle.cert_check.proofs.heads.test_plan.Goals as goal

pub follows-requires : goal.follows-requires
follows-requires g c =
    let by_trip = (picks_lie_by_trip c.args.picks.now c.args.root.now).0 (sym c.holds.ensures ∙ c.if-not-holds.false) in
    by_trip.0 ∙ c.requires
