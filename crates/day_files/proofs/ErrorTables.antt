-- What an error says of the tables that are read.
use Rattle.rail_csv.specs.declared.rows.Table.{Table}
use Rattle.rail_csv.specs.declared.rows.Table.TheVariants as table
use Rattle.day_files.specs.declared.errors.ReadError.{ReadError}
use Rattle.day_files.specs.declared.errors.ReadError.TheVariants.{CannotRead, Refused, NoMemory}
use Rattle.day_files.specs.declared.errors.Refusal.TheVariants.{TooLong, WrongTable, NoDay, NoPlan}
use Rattle.day_files.specs.Answers.{IsErrorOf}

-- an error of some tables is one of more tables
pub of_more : {A B : Table → Type 0} → ((read : Table) → A read → B read) → (error : ReadError) → IsErrorOf A error → IsErrorOf B error
of_more more (CannotRead read) of = more read of
of_more more (Refused (TooLong read)) of = more read of
of_more more (Refused (WrongTable read why)) of = (more read of.0, of.1, of.2, of.3)
of_more more (Refused (NoDay why)) of = of
of_more more (Refused (NoPlan why)) of = (more table.Plan of.0, of.1, of.2, of.3, of.4, of.5, of.6)
of_more more NoMemory of = tt
