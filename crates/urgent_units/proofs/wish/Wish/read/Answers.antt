use Rattle.std.proofs.Common.{◌≡◌, ◌∙◌, ◌∷◌, ℕ, List, Some, None, sym, ap, map}
use Rattle.std.specs.List.{slice_get}
use Rattle.std.specs.Option.{option_copied}
use Rattle.rail_csv.specs.Records.{records_left}
use Rattle.urgent_units.specs.declared.wish.WishRow.{WishRow}
use Rattle.urgent_units.specs.Wishes.{wish_header}
use Rattle.urgent_units.proofs.WishRows.{no_first, no_records, first_known, type_is, wish_of_rows, wish_of_day}
use Rattle.urgent_units.proofs.wish.Wish.read.Goals as goal

pub returns-in_default-clause-refusal : goal.returns-in_default-clause-refusal
returns-in_default-clause-refusal c =
    let none : None ≡ slice_get c.in_ok-rows.rows.items 0 = sym (ap option_copied c.in_default.is) ∙ c.first.ensures.value ∙ ap (λ (rows : List WishRow). slice_get rows 0) c.deref.ensures.value in
    let empty = no_records c.args.instance.now (records_left c.read_header.new.records) c.in_ok-rows.rows.items c.in_ok-rows.ensures.ok (no_first c.in_ok-rows.rows.items none) in
    sym c.records_in-records.ensures.all ∙ c.in_ok-read_header.ensures.ok.header ∙ ap (λ (records : List (List (List ℕ))). wish_header ∷ records) empty

pub unit-requires : goal.unit-requires
unit-requires c =
    let first : slice_get c.in_ok-rows.rows.items 0 ≡ Some c.in-Some.first.now = ap (λ (rows : List WishRow). slice_get rows 0) (sym c.deref.ensures.value) ∙ sym c.first.ensures.value ∙ ap option_copied c.in-Some.is in
    first_known c.args.instance.now (records_left c.read_header.new.records) c.in_ok-rows.rows.items c.in-Some.first.now c.in_ok-rows.ensures.ok first

pub returns-clause-wish : goal.returns-clause-wish
returns-clause-wish c =
    let first : slice_get c.in_ok-rows.rows.items 0 ≡ Some c.in-Some.first.now = ap (λ (rows : List WishRow). slice_get rows 0) (sym c.deref.ensures.value) ∙ sym c.first.ensures.value ∙ ap option_copied c.in-Some.is in
    wish_of_rows c.args.instance.now c.args.bytes.now (records_left c.read_header.new.records) c.in_ok-rows.rows.items c.in-Some.first.now c.unit.result.unit_type c.in_ok-units.units.items
    (sym c.records_in-records.ensures.all ∙ c.in_ok-read_header.ensures.ok.header) c.in_ok-rows.ensures.ok first (type_is c.args.instance.now c.in-Some.first.now.unit c.unit.result c.unit.ensures.value) (c.in_ok-units.ensures ∙ ap (λ (rows : List WishRow). map (λ row. row.unit) rows) c.deref-2.ensures.value)

pub returns-clause-known : goal.returns-clause-known
returns-clause-known c =
    let first : slice_get c.in_ok-rows.rows.items 0 ≡ Some c.in-Some.first.now = ap (λ (rows : List WishRow). slice_get rows 0) (sym c.deref.ensures.value) ∙ sym c.first.ensures.value ∙ ap option_copied c.in-Some.is in
    wish_of_day c.args.instance.now c.args.bytes.now _
    (wish_of_rows c.args.instance.now c.args.bytes.now (records_left c.read_header.new.records) c.in_ok-rows.rows.items c.in-Some.first.now c.unit.result.unit_type c.in_ok-units.units.items
    (sym c.records_in-records.ensures.all ∙ c.in_ok-read_header.ensures.ok.header) c.in_ok-rows.ensures.ok first (type_is c.args.instance.now c.in-Some.first.now.unit c.unit.result c.unit.ensures.value) (c.in_ok-units.ensures ∙ ap (λ (rows : List WishRow). map (λ row. row.unit) rows) c.deref-2.ensures.value))
