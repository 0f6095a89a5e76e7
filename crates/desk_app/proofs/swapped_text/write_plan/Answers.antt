use Rattle.std.proofs.Common.{rules}
use Rattle.timetable.specs.Links.{list_of}
use Rattle.answer_text.proofs.Written.{run_written}
use Rattle.desk_app.proofs.Written.{list_at}
use Rattle.desk_app.proofs.swapped_text.write_plan.Goals as goal

pub loop-number-preserved : goal.loop-number-preserved
loop-number-preserved c =
    run_written _ _ _ c.args.plan.now c.loop-number.number (list_of c.args.plan.now c.loop-number.number) (search rules)
    (list_at c.args.plan.now c.loop-number.number (search rules)) c.loop-number.invariant c.in_ok-write_trip.ensures
