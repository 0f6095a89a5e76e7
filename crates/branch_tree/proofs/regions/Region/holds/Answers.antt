use Rattle.std.proofs.Common.{◌≡◌, ◌<◌, length, get_or, true, false, sym, ◌∙◌, arith}
use Rattle.branch_tree.specs.Regions.{has}
use Rattle.branch_tree.proofs.Lying.{each_in, one_out, length_out, asked_at, one_more}
use Rattle.branch_tree.proofs.regions.Region.holds.Goals as goal

pub returns-then-len-trips : goal.returns-then-len-trips
returns-then-len-trips c = sym (length_out c.args.picks.now c.args.self.now (λ same. c.if-len-trips.true (c.len.ensures ∙ same ∙ sym c.trips.ensures)))

pub returns-then-not-contains : goal.returns-then-not-contains
returns-then-not-contains c =
    let below : c.loop-trip.trip < length c.args.self.now = omega arith in
    let out : has c.args.self.now c.loop-trip.trip (get_or c.args.picks.now c.loop-trip.trip 0) ≡ false =
    asked_at c.args.picks.now c.self.inside.sets.items c.args.self.now c.loop-trip.trip c.get.result c.index.result.now c.self.view_is below c.index.ensures c.get.ensures
    ∙ sym c.contains.ensures ∙ c.if-not-contains.true in
    sym (one_out c.args.picks.now c.args.self.now c.loop-trip.trip below out)

pub loop-trip-preserved : goal.loop-trip-preserved
loop-trip-preserved c =
    let below : c.loop-trip.trip < length c.args.self.now = omega arith in
    let here : has c.args.self.now c.loop-trip.trip (get_or c.args.picks.now c.loop-trip.trip 0) ≡ true =
    asked_at c.args.picks.now c.self.inside.sets.items c.args.self.now c.loop-trip.trip c.get.result c.index.result.now c.self.view_is below c.index.ensures c.get.ensures
    ∙ sym c.contains.ensures ∙ c.if-not-contains.false in
    one_more c.args.picks.now c.args.self.now c.loop-trip.trip c.loop-trip.invariant here

pub returns : goal.returns
returns c =
    let same : length c.args.picks.now ≡ length c.args.self.now = omega arith in
    sym (each_in c.args.picks.now c.args.self.now same (λ trip below. c.loop-trip.invariant trip (omega (arith, below))))
