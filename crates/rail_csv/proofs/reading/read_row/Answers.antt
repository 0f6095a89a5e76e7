use Rattle.std.proofs.Common.{◌≡◌, subst, sym, ap, ◌∙◌, length, true, arith}
use Rattle.std.specs.List.{list_all}
use Rattle.std.specs.Str.{is_utf8}
use Rattle.std.proofs.lemmas.Bool.{false≢true}
use Rattle.csv.specs.Records.{fields_of}
use Rattle.rail_base.specs.Answers.{Gives}
use Rattle.rail_csv.specs.Tables.{is_memory}
use Rattle.rail_csv.proofs.Headers.{all_text, not_text, row_is, row_not_text}
use Rattle.rail_csv.proofs.reading.read_row.Goals as goal

pub returns-in_default : goal.returns-in_default
returns-in_default g c =
    let count : length (fields_of c.args.found) ≡ c.args.width = omega (arith, c.len.ensures, c.if-len-width.false) in
    row_not_text c.args.width g.T.TableRow.columns c.args.row (fields_of c.args.found) count
    (not_text (fields_of c.args.found) (λ text. absurd (false≢true (c.in_default.ensures.refused text))))

pub returns : goal.returns
returns g c =
    let count : length (fields_of c.args.found) ≡ c.args.width = omega (arith, c.len.ensures, c.if-len-width.false) in
    let text : list_all is_utf8 (fields_of c.args.found) ≡ true = ap (list_all is_utf8) (sym c.in-Ok.ensures.same) ∙ all_text (fields_of c.in-Ok.fields) c.in-Ok.ensures.text in
    let read = ap (g.T.TableRow.columns c.args.row) c.in-Ok.ensures.same ∙ sym (row_is c.args.width g.T.TableRow.columns c.args.row (fields_of c.args.found) count text) in
    subst (λ r. Gives is_memory c.read.result r) read c.read.ensures
