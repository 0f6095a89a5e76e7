use Rattle.std.proofs.Common.{◌∙◌, Bool, List, length, ap, arith}
use Rattle.urgent_units.specs.Cuts.{is_in}
use Rattle.urgent_units.specs.Moments.{moment_count}
use Rattle.urgent_units.proofs.CutMoments.{none_yet, with_station}
use Rattle.urgent_units.proofs.cut.YardCut.new.Goals as goal

pub loop-number-init : goal.loop-number-init
loop-number-init c = record {
  stations = ap (λ (cut : List (List Bool)). length cut) c.new-stations.ensures.items;
  moments = λ s below. absurd (omega (arith, below));
  empty = λ s k. ap (λ (cut : List (List Bool)). is_in cut s k) c.new-stations.ensures.items ∙ none_yet s k;
}

pub loop-number-preserved : goal.loop-number-preserved
loop-number-preserved c =
    let more = with_station (moment_count c.args.legs.now) c.loop-number.number c.moments.result c.loop-number.stations.items c.push.new.self.items _
    c.loop-number.invariant.stations c.loop-number.invariant.moments c.loop-number.invariant.empty c.in_ok-no_flags.ensures c.moments.ensures.value c.in_ok-push.ensures.items in
    record { stations = more.0; moments = more.1; empty = more.2 }
