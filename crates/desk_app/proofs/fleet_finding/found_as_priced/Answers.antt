use Rattle.std.proofs.Common.{rules}
use Rattle.desk_app.proofs.FoundFleets.{price_table_read, price_table_too_long, price_table_unread}
use Rattle.desk_app.proofs.fleet_finding.found_as_priced.Goals as goal

pub returns-in-Ok-clause-outcome : goal.returns-in-Ok-clause-outcome
returns-in-Ok-clause-outcome g c =
    price_table_read c.args.planning.now c.as_str-dir.result.now c.as_str-dir.ensures c.args.read.now.instance _ _ c.in-Ok.bytes
    c.items.result.now c.items.ensures _ c.in-Ok.ensures.told c.found_by_table.ensures.outcome

pub returns-in-Err-ReadFault-clause-outcome : goal.returns-in-Err-ReadFault-clause-outcome
returns-in-Err-ReadFault-clause-outcome g c =
    price_table_unread c.args.planning.now c.as_str-dir.result.now c.as_str-dir.ensures c.args.read.now.instance _ _
    c.in-Err-ReadFault.field-0 (search rules) c.in-Err-ReadFault.ensures.caused

pub returns-in-Err-TooLong-clause-outcome : goal.returns-in-Err-TooLong-clause-outcome
returns-in-Err-TooLong-clause-outcome g c =
    price_table_too_long c.args.planning.now c.as_str-dir.result.now c.as_str-dir.ensures c.args.read.now.instance _ _
    c.in-Err-TooLong.field-0 (search rules) c.in-Err-TooLong.ensures.caused c.in-Err-TooLong.ensures.told
