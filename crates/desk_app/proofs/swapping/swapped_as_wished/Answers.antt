use Rattle.std.proofs.Common.{rules}
use Rattle.desk_app.specs.SwapOutcomes.{OfBytes}
use Rattle.desk_app.proofs.SwappedUnits.{file_unread, file_too_long}
use Rattle.desk_app.proofs.swapping.swapped_as_wished.Goals as goal

pub returns-in-Ok-clause-outcome : goal.returns-in-Ok-clause-outcome
returns-in-Ok-clause-outcome g c = OfBytes c.in-Ok.bytes (λ files tells. (c.in-Ok.ensures.told files tells).0) (search rules)

pub returns-in-Err-ReadFault-clause-outcome : goal.returns-in-Err-ReadFault-clause-outcome
returns-in-Err-ReadFault-clause-outcome g c =
    file_unread c.args.dir.now c.args.inputs.now _ _ c.in-Err-ReadFault.field-0 (search rules) c.in-Err-ReadFault.ensures.caused

pub returns-in-Err-TooLong-clause-outcome : goal.returns-in-Err-TooLong-clause-outcome
returns-in-Err-TooLong-clause-outcome g c =
    file_too_long c.args.dir.now c.args.inputs.now _ _ c.in-Err-TooLong.field-0 (search rules) c.in-Err-TooLong.ensures.caused
    c.in-Err-TooLong.ensures.told
