use Rattle.std.proofs.Common.{◌≡◌, ◌∙◌, [], ap, map, take, unwrap_or, rules}
use Rattle.std.specs.List.{flat_map}
use Rattle.std.proofs.lemmas.List.{take_all}
use Rattle.csv.specs.Records.{fields_of}
use Rattle.day_reports.specs.Text.{line_of, rows_text}
use Rattle.day_reports.proofs.report.Report.text.Goals as goal

-- all rows are written, and the bytes that csv hands out are those that it wrote
pub returns-in-Ok : goal.returns-in-Ok
unfolding rows_text
returns-in-Ok c =
    let items = c.deref-row-items.result.now in
    let all : take c.loop-row.row-index items ≡ items = take_all c.loop-row.row-index items c.loop-row-test.false in
    let lines : flat_map line_of (map fields_of (take c.loop-row.row-index items)) ≡ flat_map line_of (map fields_of items) = ap (λ rows. flat_map line_of (map fields_of rows)) all in
    let written : c.in-Ok.text.items ≡ flat_map line_of (map fields_of (take c.loop-row.row-index items)) = c.in-Ok.ensures.ok ∙ ap (λ text. unwrap_or text []) c.loop-row.invariant.text in
    let rows : map fields_of items ≡ c.args.self.now = ap (map fields_of) c.deref-row-items.ensures.value ∙ c.self.view_is in
    written ∙ lines ∙ ap (flat_map line_of) rows

pub loop-row-init : goal.loop-row-init
loop-row-init c = search rules
