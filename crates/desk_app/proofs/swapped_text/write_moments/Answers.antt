use Rattle.std.proofs.Common.{refl}
use Rattle.desk_app.proofs.Written.{moment_written}
use Rattle.desk_app.proofs.swapped_text.write_moments.Goals as goal

pub loop-moment-preserved : goal.loop-moment-preserved
loop-moment-preserved c =
    moment_written _ _ _ c.args.station c.args.flags.now c.loop-moment.moment _ _ c.loop-moment-test.true refl c.loop-moment.invariant
    c.in_ok-write_moment.ensures
