use Rattle.std.proofs.Common.{rules}
use Rattle.day_files.proofs.tables.bytes_of.Goals as goal

pub returns-in-Err-ReadFault-clause-told : goal.returns-in-Err-ReadFault-clause-told
returns-in-Err-ReadFault-clause-told g c = search rules
