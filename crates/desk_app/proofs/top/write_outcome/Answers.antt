use Rattle.statuses.proofs.Written.{Wrote-as}
use Rattle.desk_app.proofs.Statuses.{few_where_made, text_of_outcome}
use Rattle.desk_app.proofs.top.write_outcome.Goals as goal

pub write_document-requires : goal.write_document-requires
write_document-requires g c = rw c.status-status.ensures (few_where_made c.args.outcome c.document.result c.document.ensures)

pub returns-clause-wrote : goal.returns-clause-wrote
returns-clause-wrote g c =
    rw (← c.status-status.ensures) (Wrote-as (text_of_outcome c.args.outcome c.document.result c.document.ensures) c.write_document.ensures.wrote)
