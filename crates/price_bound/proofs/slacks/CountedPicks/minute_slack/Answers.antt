-- Minus the count, which is not far below zero.
use Rattle.std.proofs.Common.{◌≡◌, ◌∙◌, arith, w64, ℤ, pos, neg_ℤ, ◌-ℤ◌}
use Rattle.std.proofs.lemmas.Int.{ints}
use mir.Val.{to_z, of_z}
use Rattle.price_bound.proofs.CountedOf.{count_is, counted_of, least_counted}
use Rattle.price_bound.proofs.slacks.CountedPicks.minute_slack.Goals as goal

pub overflow_sub-result : goal.overflow_sub-result
overflow_sub-result c =
    let it = counted_of c.args.self.now c.self.inside.instance.now c.self.inside.graphs.now c.self.inside.ledger.now c.self.inside.picks.now c.self.view_is c.self.invariant in
    let least = least_counted c.args.self.now c.self.inside.graphs.now c.self.inside.ledger.now it c.args.station c.args.unit_type c.args.place c.count_after.result c.count_after.ensures in
    let passed : to_z w64 (of_z w64 c.count_after.result) ≡ c.count_after.result = omega (arith, ints) in
    omega (arith, ints)

less : (v count : ℤ) → v ≡ count → pos 0 -ℤ v ≡ neg_ℤ count
less v count e = omega (arith, ints)

pub returns : goal.returns
returns c =
    let it = counted_of c.args.self.now c.self.inside.instance.now c.self.inside.graphs.now c.self.inside.ledger.now c.self.inside.picks.now c.self.view_is c.self.invariant in
    let is = count_is c.args.self.now c.self.inside.graphs.now c.self.inside.ledger.now it c.args.station c.args.unit_type c.args.place c.count_after.result c.count_after.ensures in
    let least = least_counted c.args.self.now c.self.inside.graphs.now c.self.inside.ledger.now it c.args.station c.args.unit_type c.args.place c.count_after.result c.count_after.ensures in
    let passed : to_z w64 (of_z w64 c.count_after.result) ≡ c.count_after.result = omega (arith, ints) in
    let taken : to_z w64 (of_z w64 (pos 0 -ℤ to_z w64 (of_z w64 c.count_after.result))) ≡ pos 0 -ℤ to_z w64 (of_z w64 c.count_after.result) = omega (arith, ints) in
    taken ∙ less (to_z w64 (of_z w64 c.count_after.result)) _ (passed ∙ is)
