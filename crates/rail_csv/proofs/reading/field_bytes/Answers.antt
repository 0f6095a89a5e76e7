use Rattle.std.proofs.Common.{[]}
use Rattle.csv.specs.Records.{fields_of}
use Rattle.rail_csv.proofs.Headers.{field_found, field_lost}
use Rattle.rail_csv.proofs.reading.field_bytes.Goals as goal

pub returns-in-Some : goal.returns-in-Some
returns-in-Some c = field_found [] (fields_of c.args.found.now) c.args.column c.in-Some.bytes.now c.in-Some.ensures.value

pub returns-in-None : goal.returns-in-None
returns-in-None c = field_lost [] (fields_of c.args.found.now) c.args.column c.in-None.ensures.value
