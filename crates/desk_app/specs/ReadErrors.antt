-- Tables that could not be read or were refused: what such an error comes to.
use Rattle.day_files.specs.declared.errors.ReadError.{ReadError}
use Rattle.day_files.specs.declared.errors.ReadError.TheVariants as read_error
use Rattle.day_files.specs.Texts.{refusal_file}
use Rattle.desk_app.specs.declared.files.DeskFile.TheVariants.{OfTable}
use Rattle.desk_app.specs.declared.outcome.DeskOutcome.{DeskOutcome}
use Rattle.desk_app.specs.declared.outcome.DeskOutcome.TheVariants.{Refused, CannotRead, NoMemory}

-- what an error of the tables comes to
abbrev pub outcome_of_error : ReadError → DeskOutcome
outcome_of_error (read_error.Refused why) = Refused (OfTable (refusal_file why))
outcome_of_error (read_error.CannotRead read) = CannotRead (OfTable read)
outcome_of_error read_error.NoMemory = NoMemory
