use Rattle.std.proofs.Common.{rules}
use Rattle.planner_app.proofs.Endings.{ends_by_command, failed_reads, is_status, leaves_sink, unread}
use Rattle.planner_app.proofs.top.railplan.Goals as goal

pub returns-clause-ends : goal.returns-clause-ends
returns-clause-ends g c = ends_by_command _ _ _ _ _ _ _ _ _ c.outcome_of-outcome.ensures.outcome c.write_outcome.ensures.wrote

pub returns-clause-statuses : goal.returns-clause-statuses
returns-clause-statuses g c = is_status _ _ _ _ _ _ _ _ _ c.outcome_of-outcome.ensures.outcome c.write_outcome.ensures.wrote

pub returns-clause-document : goal.returns-clause-document
returns-clause-document g c = (
  c.outcome_of-outcome.result,
  c.outcome_of-outcome.ensures.outcome,
  search rules,
  c.outcome_of-outcome.ensures.fault_counted,
  c.outcome_of-outcome.ensures.asked_for,
)

pub returns-clause-folder : goal.returns-clause-folder
returns-clause-folder g c = record {
  only_reads = c.outcome_of-outcome.ensures.only_reads;
  untouched = c.outcome_of-outcome.ensures.untouched;
  unread = unread _ _ _ _ _ _ _ _ _ c.outcome_of-outcome.ensures.outcome c.write_outcome.ensures.wrote;
  failed_reads = failed_reads _ _ _ _ _ _ _ _ _ c.outcome_of-outcome.ensures.outcome c.write_outcome.ensures.wrote c.outcome_of-outcome.ensures.fault_counted;
}

pub returns-clause-sink : goal.returns-clause-sink
returns-clause-sink g c =
    leaves_sink _ _ _ _ _ _ _ _ _ c.outcome_of-outcome.ensures.outcome c.write_outcome.ensures.wrote _
    c.write_outcome.ensures.failed_writes c.write_outcome.ensures.lasting
