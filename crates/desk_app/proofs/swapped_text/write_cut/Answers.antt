use Rattle.std.proofs.Common.{[], ◌∙◌, rules}
use Rattle.desk_app.proofs.Written.{flags_of, station_written}
use Rattle.desk_app.proofs.swapped_text.write_cut.Goals as goal

pub loop-station-preserved : goal.loop-station-preserved
loop-station-preserved c =
    station_written _ _ _ c.args.cut.now c.loop-station.station c.flags.result.now [] (search rules)
    (c.flags.ensures ∙ flags_of c.args.cut.now c.loop-station.station (search rules)) c.loop-station.invariant c.in_ok-write_moments.ensures
