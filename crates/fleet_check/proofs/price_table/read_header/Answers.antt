use Rattle.std.proofs.Common.{sym, ap, ◌∙◌, ◌∷◌}
use Rattle.csv.specs.Records.{fields_of}
use Rattle.rail_csv.specs.Records.{records_left}
use Rattle.fleet_check.proofs.PriceHeader.{taken_for_header}
use Rattle.fleet_check.proofs.price_table.read_header.Goals as goal

pub returns-then-is_header-clause-ok : goal.returns-then-is_header-clause-ok
returns-then-is_header-clause-ok c =
    let t = rw c.in-Some.is at c.in_ok-first.ensures in
    let header = taken_for_header (fields_of c.in-Some.first) (sym c.is_header.ensures ∙ c.if-is_header.true) in
    record { next = t.next; header = t.first ∙ ap (λ fields. fields ∷ records_left c.next_record.new.records) header }
