-- The answer of the reading of words.
use Rattle.std.proofs.Common.{◌≡◌, ◌∙◌, Option, Some, None, Result, Ok, Err, refl, sym, inl, inr}
use Rattle.std.specs.Option.{ok_or}
use Rattle.rail_base.specs.Answers.{Gives}
use Rattle.plain_words.specs.Items.{WordList}
use Rattle.commands.specs.declared.command.Command.{Command}
use Rattle.plain_words.specs.declared.refusal.WordsRefusal.{WordsRefusal}
use Rattle.plain_words.specs.declared.refusal.WordsRefusal.TheVariants.{NotUnderstood, NoMemory}
use Rattle.plain_words.specs.Commands.{Reads, is_memory}
use Rattle.commands.specs.Commands.{command_of}
use Rattle.commands.specs.PlainForm.{IsPlainForm}
use Rattle.commands.proofs.Meanings.{plain_form, understood}

one_of : (o : Option Command) (command : Command)
    → ◌≡◌ {A = Result Command WordsRefusal} (ok_or o NotUnderstood) (Ok command) → o ≡ Some command
one_of (Some other) command e = cc
one_of None command e = absurd cc

none_of : (o : Option Command) → ◌≡◌ {A = Result Command WordsRefusal} (ok_or o NotUnderstood) (Err NotUnderstood)
    → o ≡ None
none_of (Some other) e = absurd cc
none_of None e = refl

-- the command that the words make is the one of which they are the plain form
pub reads : (words : WordList) (result : Result Command WordsRefusal)
    → Gives is_memory result (ok_or (command_of words) NotUnderstood) → Reads IsPlainForm words result
reads words (Ok command) gives =
    let is : command_of words ≡ Some command = one_of (command_of words) command gives in
    record {
      understood = λ other e. let same : command ≡ other = cc in
          understood words other (is ∙ (let s : ◌≡◌ {A = Option Command} (Some command) (Some other) = cc in s));
      refused = λ e other form. absurd cc;
      given = λ other form. let both : ◌≡◌ {A = Option Command} (Some command) (Some other) = sym is
          ∙ plain_form words other form in inl cc;
    }
reads words (Err NotUnderstood) gives =
    let none : command_of words ≡ None = none_of (command_of words) gives in
    record {
      understood = λ other e. absurd cc;
      refused = λ e other form. let never : ◌≡◌ {A = Option Command} None (Some other) = sym none
          ∙ plain_form words other form in absurd cc;
      given = λ other form. let never : ◌≡◌ {A = Option Command} None (Some other) = sym none
          ∙ plain_form words other form in absurd cc;
    }
reads words (Err NoMemory) gives = record {
  understood = λ other e. absurd cc;
  refused = λ e other form. absurd cc;
  given = λ other form. inr refl;
}
