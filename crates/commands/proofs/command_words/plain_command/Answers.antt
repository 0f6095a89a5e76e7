use Rattle.std.proofs.Common.{◌≡◌, ◌∙◌, sym, ap, subst, List, ℕ, Bool, true, false, Option, None, map, if◌then◌else◌}
use Rattle.std.specs.Option.{ok_or}
use Rattle.rail_base.specs.Answers.{Gives}
use Rattle.command_line.specs.declared.form.Form.{Form}
use Rattle.command_line.specs.Parts.{Parts, fits, parts_of}
use Rattle.command_line.specs.Texts.{texts_of}
use Rattle.commands.specs.declared.command.Command.{Command}
use Rattle.plain_words.specs.declared.refusal.WordsRefusal.TheVariants.{NotUnderstood}
use Rattle.plain_words.specs.Commands.{is_memory}
use Rattle.commands.specs.Commands.{form_of, named, named_plain}
use Rattle.commands.proofs.command_words.plain_command.Goals as goal

-- what words say that are tested for a form
tested : (word : List ℕ) (form : Form) (parts : Parts) (found is : Bool) → form ≡ form_of word → found ≡ fits form parts
    → found ≡ is → named_plain word parts ≡ (if is then named word (texts_of parts) else None)
tested word form parts found is same value known =
    ap (λ (b : Bool). if b then named word (texts_of parts) else None)
    (ap (λ (f : Form). fits f parts) (sym same) ∙ sym value ∙ known)

pub returns-then-not-is_plain : goal.returns-then-not-is_plain
returns-then-not-is_plain c =
    ap (λ (o : Option Command). ok_or o NotUnderstood)
    (tested c.args.word.now c.form_of-form.result (parts_of (map (λ word. word.now) c.args.rest.now)) c.is_plain.result
    false c.form_of-form.ensures c.is_plain.ensures.value c.if-not-is_plain.true)

pub returns : goal.returns
returns c =
    let parts : Parts = parts_of (map (λ word. word.now) c.args.rest.now) in
    let said : named_plain c.args.word.now parts ≡ named c.args.word.now (texts_of parts) =
    tested c.args.word.now c.form_of-form.result parts c.is_plain.result true c.form_of-form.ensures
    c.is_plain.ensures.value c.if-not-is_plain.false in
    subst (λ (o : Option Command). Gives is_memory c.named.result (ok_or o NotUnderstood))
    (ap (named c.args.word.now) c.in_ok-taken.ensures.value ∙ sym said) c.named.ensures

pub take_apart-requires : goal.take_apart-requires
take_apart-requires c = c.is_plain.ensures.meaning.0 c.if-not-is_plain.false
