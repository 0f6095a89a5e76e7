-- The text of each refusal is that of a row and a column, or of fixed words.
use Rattle.std.proofs.Common.{◌≡◌, ◌∙◌, ap, Global, Result, String, IfOk, string_bytes, sym, subst}
use Rattle.rail_base.specs.declared.memory.NoMemory.{NoMemory}
use Rattle.rail_csv.specs.declared.rows.Table.{Table}
use Rattle.rail_csv.specs.declared.refusal.TableRefusal.{TableRefusal}
use Rattle.day_files.specs.Texts.{table_text}
use Rattle.day_files.proofs.texts.table_text.Goals as goal

says : (table : Table) (refusal other : TableRefusal) (result : Result (String Global) NoMemory) → refusal ≡ other
    → IfOk result (λ text. string_bytes text ≡ table_text table other)
    → IfOk result (λ text. string_bytes text ≡ table_text table refusal)
says table refusal other result is text = subst (λ (r : TableRefusal). IfOk result (λ text. string_bytes text ≡ table_text table r)) (sym is) text

pub returns-in-BadNumber : goal.returns-in-BadNumber
returns-in-BadNumber c = says c.args.table c.args.refusal.now _ c.at_column.result c.in-BadNumber.is c.at_column.ensures

pub returns-in-OutOfRange : goal.returns-in-OutOfRange
returns-in-OutOfRange c = says c.args.table c.args.refusal.now _ c.at_column-in-OutOfRange.result c.in-OutOfRange.is c.at_column-in-OutOfRange.ensures

pub returns-in-BadTime : goal.returns-in-BadTime
returns-in-BadTime c = says c.args.table c.args.refusal.now _ c.at_column-in-BadTime.result c.in-BadTime.is c.at_column-in-BadTime.ensures

pub returns-in-BadName : goal.returns-in-BadName
returns-in-BadName c = says c.args.table c.args.refusal.now _ c.at_column-in-BadName.result c.in-BadName.is c.at_column-in-BadName.ensures

pub returns-in-BadWord : goal.returns-in-BadWord
returns-in-BadWord c = says c.args.table c.args.refusal.now _ c.at_column-in-BadWord.result c.in-BadWord.is c.at_column-in-BadWord.ensures

pub returns-in-WrongHeader : goal.returns-in-WrongHeader
returns-in-WrongHeader c = says c.args.table c.args.refusal.now _ c.fixed_text.result c.in-WrongHeader.is c.fixed_text.ensures

pub returns-in-TooManyRows : goal.returns-in-TooManyRows
returns-in-TooManyRows c = says c.args.table c.args.refusal.now _ c.fixed_text-in-TooManyRows.result c.in-TooManyRows.is c.fixed_text-in-TooManyRows.ensures

pub returns-in-NoRow : goal.returns-in-NoRow
returns-in-NoRow c = says c.args.table c.args.refusal.now _ c.fixed_text-in-NoRow.result c.in-NoRow.is c.fixed_text-in-NoRow.ensures

pub returns-in_ok-format-in-NotUtf8 : goal.returns-in_ok-format-in-NotUtf8
returns-in_ok-format-in-NotUtf8 c =
    c.in_ok-format-in-NotUtf8.ensures.ok ∙ ap (table_text c.args.table) (sym c.in-NotUtf8.is)

pub returns-in_ok-format-in-FieldCount : goal.returns-in_ok-format-in-FieldCount
returns-in_ok-format-in-FieldCount c =
    c.in_ok-format-in-FieldCount.ensures.ok ∙ ap (table_text c.args.table) (sym c.in-FieldCount.is)
