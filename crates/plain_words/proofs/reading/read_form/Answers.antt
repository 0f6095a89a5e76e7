use Rattle.std.proofs.Common.{◌∙◌, sym, map}
use Rattle.plain_words.specs.Items.{form_in}
use Rattle.plain_words.proofs.Once.{read, refused, unfit}
use Rattle.plain_words.proofs.reading.read_form.Goals as goal

pub returns-in-Ok-None : goal.returns-in-Ok-None
returns-in-Ok-None c =
    refused (form_in c.args.form.now) (map (λ word. word.now) c.args.words.now) (sym c.in-Ok-None.ensures ∙ c.in-Ok-None.field-0-is)

pub returns-then-not-fits : goal.returns-then-not-fits
returns-then-not-fits c =
    unfit (form_in c.args.form.now) (map (λ word. word.now) c.args.words.now) c.in-Ok-Some.given
    (sym c.in-Ok-Some.ensures ∙ c.in-Ok-Some.field-0-is) (sym c.fits.ensures ∙ c.if-not-fits.true)

pub returns : goal.returns
returns c =
    read (form_in c.args.form.now) (map (λ word. word.now) c.args.words.now) c.in-Ok-Some.given
    (sym c.in-Ok-Some.ensures ∙ c.in-Ok-Some.field-0-is) (sym c.fits.ensures ∙ c.if-not-fits.false)
