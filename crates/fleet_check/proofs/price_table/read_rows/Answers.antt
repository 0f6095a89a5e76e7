use Rattle.std.proofs.Common.{◌≡◌, ◌∙◌, ℕ, ◌+◌, List, Some, length, ap, sym, subst, arith}
use Rattle.std.specs.Prelude.{slice_get}
use Rattle.csv.specs.Records.{fields_of}
use Rattle.rules.specs.declared.records.UnitType.{UnitType}
use Rattle.rail_csv.specs.Records.{records_left}
use Rattle.fleet_check.specs.PriceTables.{IsFirstBad}
use Rattle.fleet_check.proofs.PriceRows.{one_more, row_missing, row_too_many, wrong_row}
use Rattle.fleet_check.proofs.price_table.read_rows.Goals as goal

pub returns-in_default-clause-err : goal.returns-in_default-clause-err
returns-in_default-clause-err c =
    let types : c.len-number-end.result ≡ length c.args.instance.now.types =
    c.len-number-end.ensures.value ∙ ap (length {A = UnitType}) c.types-types.ensures.value in
    row_missing c.args.instance.now (records_left c.args.records.now) c.loop-number.records c.loop-number.costs.items c.loop-number.number
    c.loop-number.invariant (omega (arith, types, c.loop-number-test.true)) (rw c.in_default.is at c.in_ok-found.ensures)

pub returns-in_default-cost_in-clause-err : goal.returns-in_default-cost_in-clause-err
returns-in_default-cost_in-clause-err c =
    let at : slice_get c.args.instance.now.types c.loop-number.number ≡ Some c.get.result.now =
    ap (λ (types : List UnitType). slice_get types c.loop-number.number) (sym c.types-types.ensures.value) ∙ c.get.ensures.value in
    wrong_row c.args.instance.now (records_left c.args.records.now) c.loop-number.records c.next_record.new.records c.loop-number.costs.items
    c.loop-number.number c.get.result.now (fields_of c.in-Some.found) c.loop-number.invariant (rw c.in-Some.is at c.in_ok-found.ensures) at
    c.in_default-cost_in.ensures

pub loop-number-preserved : goal.loop-number-preserved
loop-number-preserved c =
    let at : slice_get c.args.instance.now.types c.loop-number.number ≡ Some c.get.result.now =
    ap (λ (types : List UnitType). slice_get types c.loop-number.number) (sym c.types-types.ensures.value) ∙ c.get.ensures.value in
    one_more (records_left c.args.records.now) c.args.instance.now.types c.loop-number.records c.next_record.new.records c.loop-number.costs.items
    c.push.new.self.items c.loop-number.number c.get.result.now (fields_of c.in-Some.found) c.in-Some-cost_in.cost c.loop-number.invariant at
    (rw c.in-Some.is at c.in_ok-found.ensures) c.in-Some-cost_in.ensures c.in_ok-push.ensures.items

pub returns-in-Some-2-clause-err : goal.returns-in-Some-2-clause-err
returns-in-Some-2-clause-err c =
    let types : c.len-number-end.result ≡ length c.args.instance.now.types =
    c.len-number-end.ensures.value ∙ ap (length {A = UnitType}) c.types-types.ensures.value in
    let same : c.len.result ≡ c.len-number-end.result = c.len.ensures.value ∙ sym c.len-number-end.ensures.value in
    let all : c.loop-number.number ≡ c.len.result = omega (arith, same, c.loop-number-test.false, c.loop-number.auto.number-end) in
    subst (IsFirstBad c.args.instance.now (records_left c.args.records.now)) (ap (λ (n : ℕ). n + 1) all)
    (row_too_many c.args.instance.now (records_left c.args.records.now) c.loop-number.records c.next_record-2.new.records c.loop-number.costs.items
    c.loop-number.number (fields_of c.in-Some-2.field-0) c.loop-number.invariant (rw c.in-Some-2.is at c.in_ok-next_record.ensures)
    (all ∙ same ∙ types))
