-- The bytes of the field are UTF-8 exactly where they are read as a text.
use Rattle.std.proofs.Common.{◌∙◌, ap, sym}
use Rattle.std.specs.Str.{is_utf8}
use Rattle.std.proofs.lemmas.Bool.{false_from_ne_true}
use Rattle.std.proofs.lemmas.Str.{IsUtf8-from_is_utf8, is_utf8-from_IsUtf8}
use Rattle.rail_csv.proofs.reading.field_text.Goals as goal

pub returns-in-Ok-clause-utf8 : goal.returns-in-Ok-clause-utf8
returns-in-Ok-clause-utf8 c = sym (ap is_utf8 (sym c.field_bytes.ensures) ∙ is_utf8-from_IsUtf8 c.field_bytes.result.now c.in-Ok.ensures.cases.1)

pub returns-in-Err-clause-utf8 : goal.returns-in-Err-clause-utf8
returns-in-Err-clause-utf8 c =
    sym (ap is_utf8 (sym c.field_bytes.ensures)
    ∙ false_from_ne_true (is_utf8 c.field_bytes.result.now) (λ is. c.in-Err.ensures.cases.0 (IsUtf8-from_is_utf8 c.field_bytes.result.now is)))
