use Rattle.answer_text.proofs.Written.{run_written}
use Rattle.fleet_text.proofs.printing.write_runs.Goals as goal

pub loop-trip-preserved : goal.loop-trip-preserved
loop-trip-preserved c = run_written _ _ _ c.args.runs.now c.loop-trip.trip c.index-runs-trip.result c.loop-trip-test.true c.index-runs-trip.is c.loop-trip.invariant c.in_ok-write_run.ensures
