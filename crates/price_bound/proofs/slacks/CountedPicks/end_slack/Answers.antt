-- What is wanted less what is there, which is not far below zero.
use Rattle.std.proofs.Common.{◌≡◌, ap, ◌∙◌, arith, w64, ℤ, pos, ◌-ℤ◌}
use Rattle.std.proofs.lemmas.Int.{ints}
use mir.Val.{to_z, of_z}
use Rattle.timetable.specs.Day.{wanted_of}
use Rattle.price_bound.specs.Entered.{Counted}
use Rattle.price_bound.proofs.CountedOf.{counted_of, end_is, least_end}
use Rattle.price_bound.proofs.slacks.CountedPicks.end_slack.Goals as goal

pub overflow_sub-result : goal.overflow_sub-result
overflow_sub-result c =
    let it = counted_of c.args.self.now c.self.inside.instance.now c.self.inside.graphs.now c.self.inside.ledger.now c.self.inside.picks.now c.self.view_is c.self.invariant in
    let least = least_end c.args.self.now c.self.inside.graphs.now c.self.inside.ledger.now it c.args.station c.args.unit_type c.end-2.result c.end-2.ensures in
    let wanted = c.from.ensures in
    let passed : to_z w64 (of_z w64 c.end-2.result) ≡ c.end-2.result = omega (arith, ints) in
    let passed' : to_z w64 (of_z w64 c.from.result) ≡ c.from.result = omega (arith, ints) in
    omega (arith, ints)

less : (w v wanted last : ℤ) → w ≡ wanted → v ≡ last → w -ℤ v ≡ wanted -ℤ last
less w v wanted last e e' = omega (arith, ints)

pub returns : goal.returns
returns c =
    let it = counted_of c.args.self.now c.self.inside.instance.now c.self.inside.graphs.now c.self.inside.ledger.now c.self.inside.picks.now c.self.view_is c.self.invariant in
    let least = least_end c.args.self.now c.self.inside.graphs.now c.self.inside.ledger.now it c.args.station c.args.unit_type c.end-2.result c.end-2.ensures in
    let last = end_is c.args.self.now c.self.inside.graphs.now c.self.inside.ledger.now it c.args.station c.args.unit_type c.end-2.result c.end-2.ensures in
    let wanted = c.from.ensures in
    let there : pos c.end.result ≡ pos (wanted_of c.args.self.now.day c.args.station c.args.unit_type) =
    ap pos c.end.ensures ∙ ap (λ (x : Counted). pos (wanted_of x.day c.args.station c.args.unit_type)) c.self.view_is in
    let passed : to_z w64 (of_z w64 c.end-2.result) ≡ c.end-2.result = omega (arith, ints) in
    let passed' : to_z w64 (of_z w64 c.from.result) ≡ c.from.result = omega (arith, ints) in
    let taken : to_z w64 (of_z w64 (to_z w64 (of_z w64 c.from.result) -ℤ to_z w64 (of_z w64 c.end-2.result))) ≡ to_z w64 (of_z w64 c.from.result) -ℤ to_z w64 (of_z w64 c.end-2.result) = omega (arith, ints) in
    taken ∙ less (to_z w64 (of_z w64 c.from.result)) (to_z w64 (of_z w64 c.end-2.result)) _ _ (passed' ∙ wanted ∙ there) (passed ∙ last)
