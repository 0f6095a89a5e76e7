use Rattle.std.proofs.Common.{◌≡◌, ◌∙◌, true, false, Some, None, refl, sym, ap, arith}
use Rattle.std.proofs.lemmas.Str.Pattern.{split_parts}
use Rattle.plain_words.specs.Items.{form_in, has}
use Rattle.plain_words.specs.Reading.{parted}
use Rattle.plain_words.proofs.Parting.{no_sign, parted_front, parted_whole}
use Rattle.plain_words.proofs.reading.option_effect.Goals as goal

pub returns-in-Some : goal.returns-in-Some
returns-in-Some c =
    let parts = split_parts 61 c.args.word.now (Some (c.in-Some.name, c.in-Some.value)) c.in-Some.ensures.cases (omega arith) in
    let parted_so : parted c.args.word.now ≡ (c.in-Some.name.now, Some c.in-Some.value.now) =
    ap parted parts.0 ∙ parted_front c.in-Some.name.now c.in-Some.value.now (no_sign c.in-Some.name.now parts.1) in
    let named : has c.in-Some.name.now (form_in c.args.form.now).valued ≡ true =
    sym c.is_among.ensures ∙ c.if-is_among.true in
    rw (parted_so, named) refl

pub returns-in-Some-2 : goal.returns-in-Some-2
returns-in-Some-2 c =
    let parts = split_parts 61 c.args.word.now (Some (c.in-Some.name, c.in-Some.value)) c.in-Some.ensures.cases (omega arith) in
    let parted_so : parted c.args.word.now ≡ (c.in-Some.name.now, Some c.in-Some.value.now) =
    ap parted parts.0 ∙ parted_front c.in-Some.name.now c.in-Some.value.now (no_sign c.in-Some.name.now parts.1) in
    let named : has c.in-Some.name.now (form_in c.args.form.now).valued ≡ false =
    sym c.is_among.ensures ∙ c.if-is_among.false in
    rw (parted_so, named) refl

pub returns-in-None : goal.returns-in-None
returns-in-None c =
    let parted_so : parted c.args.word.now ≡ (c.args.word.now, None) =
    parted_whole c.args.word.now (no_sign c.args.word.now (split_parts 61 c.args.word.now None c.in-None.ensures.cases (omega arith))) in
    let named : has c.args.word.now (form_in c.args.form.now).valued ≡ true =
    sym c.if-is_among-2.ensures in
    rw (parted_so, named) refl

pub returns-in-None-2 : goal.returns-in-None-2
returns-in-None-2 c =
    let parted_so : parted c.args.word.now ≡ (c.args.word.now, None) =
    parted_whole c.args.word.now (no_sign c.args.word.now (split_parts 61 c.args.word.now None c.in-None.ensures.cases (omega arith))) in
    let named : has c.args.word.now (form_in c.args.form.now).valued ≡ false =
    sym c.if-is_among-2.ensures in
    let flag : has c.args.word.now (form_in c.args.form.now).flags ≡ true =
    sym c.if-is_among-3.ensures in
    rw (parted_so, named, flag) refl

pub returns-in-None-3 : goal.returns-in-None-3
returns-in-None-3 c =
    let parted_so : parted c.args.word.now ≡ (c.args.word.now, None) =
    parted_whole c.args.word.now (no_sign c.args.word.now (split_parts 61 c.args.word.now None c.in-None.ensures.cases (omega arith))) in
    let named : has c.args.word.now (form_in c.args.form.now).valued ≡ false =
    sym c.if-is_among-2.ensures in
    let flag : has c.args.word.now (form_in c.args.form.now).flags ≡ false =
    sym c.if-is_among-3.ensures in
    rw (parted_so, named, flag) refl
