use Rattle.std.proofs.Common.{rules}
use Rattle.desk_app.proofs.ReplannedRests.{bytes_read, file_too_long, file_unread}
use Rattle.desk_app.proofs.replanning.replanned_as_told.Goals as goal

pub returns-in-Ok-clause-outcome : goal.returns-in-Ok-clause-outcome
returns-in-Ok-clause-outcome g c =
    bytes_read c.args.replanning.now c.as_str-dir.result.now c.as_str-dir.ensures c.args.read.now.inputs _ _ c.in-Ok.bytes
    c.items.result.now c.items.ensures _ c.in-Ok.ensures.told c.replanned_by_table.ensures.outcome

pub returns-in-Err-ReadFault-clause-outcome : goal.returns-in-Err-ReadFault-clause-outcome
returns-in-Err-ReadFault-clause-outcome g c =
    file_unread c.args.replanning.now c.as_str-dir.result.now c.as_str-dir.ensures c.args.read.now.inputs _ _
    c.in-Err-ReadFault.field-0 (search rules) c.in-Err-ReadFault.ensures.caused

pub returns-in-Err-TooLong-clause-outcome : goal.returns-in-Err-TooLong-clause-outcome
returns-in-Err-TooLong-clause-outcome g c =
    file_too_long c.args.replanning.now c.as_str-dir.result.now c.as_str-dir.ensures c.args.read.now.inputs _ _
    c.in-Err-TooLong.field-0 (search rules) c.in-Err-TooLong.ensures.caused c.in-Err-TooLong.ensures.told
