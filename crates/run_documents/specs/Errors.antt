-- What an error of the tables comes to.
use Rattle.day_files.specs.declared.errors.ReadError.{ReadError}
use Rattle.day_files.specs.declared.errors.ReadError.TheVariants as read_error
use Rattle.run_documents.specs.declared.outcome.Outcome.{Outcome}
use Rattle.run_documents.specs.declared.outcome.Outcome.TheVariants.{Refused, CannotRead, NoMemory}

abbrev pub outcome_of_error : ReadError → Outcome
outcome_of_error (read_error.Refused refusal) = Refused refusal
outcome_of_error (read_error.CannotRead table) = CannotRead table
outcome_of_error read_error.NoMemory = NoMemory
