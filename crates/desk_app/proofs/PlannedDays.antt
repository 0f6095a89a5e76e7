-- What the planning of a folder's day comes to, and how advisors are asked by the command of the words.
use Rattle.std.proofs.Common.{◌≡◌, ◌≢◌, ◌+◌, ◌*◌, ℕ, Bool, true, false, List, Option, Some, Ok, Err, refl, sym, ap, subst, arith}
use Rattle.rail_csv.specs.declared.rows.Table.TheVariants as table
use Rattle.rail_io.specs.Folders.{Files, FolderState, Rose}
use Rattle.rail_io.specs.Sinks.{Appends}
use Rattle.statuses.specs.Written.{IsUndisturbed}
use Rattle.timetable.specs.Day.{Day}
use Rattle.day_files.specs.Answers.{IsCaused, IsErrorOf, Reads}
use Rattle.day_files.specs.Inputs.{day_in}
use Rattle.day_files.specs.Order.{Reaches}
use Rattle.day_files.specs.Tables.{IsMadeDay}
use Rattle.run_documents.specs.Planning.{EndsPlanning}
use Rattle.search.specs.Questions.{AreAsked, AreTheSame}
use Rattle.search.proofs.Asking.{are_unasked}
use Rattle.day_files.specs.declared.errors.ReadError.{ReadError}
use Rattle.day_files.specs.declared.errors.ReadError.TheVariants as read_error
use Rattle.desk_commands.specs.declared.command.Command.{Command}
use Rattle.desk_commands.specs.declared.command.Command.TheVariants as command
use Rattle.desk_commands.specs.declared.planning.Planning.{Planning}
use Rattle.desk_commands.specs.PlainForm.{IsPlainForm}
use Rattle.desk_commands.proofs.OneCommand.{one_command}
use Rattle.desk_app.specs.declared.outcome.DeskOutcome.{DeskOutcome}
use Rattle.desk_app.specs.declared.outcome.DeskOutcome.TheVariants.{Planned, Swapped, Replanned, PlannedWeek, FleetFound}
use Rattle.desk_app.specs.declared.outcome.DeskOutcome.TheVariants.{Stops, Usage, Refused, CannotRead, NoMemory}
use Rattle.desk_app.specs.Documents.{IsDocument, table_refused_line}
use Rattle.desk_app.specs.Outcomes.{status_of}
use Rattle.desk_app.specs.PlanOutcomes.{IsDayOutcome, IsPlanOutcome, NoDay, OfDay}
use Rattle.desk_app.specs.ReadErrors.{outcome_of_error}
use Rattle.desk_app.specs.Statuses.{AreAskedFor, LeavesAdvisors, asks_advisors, most_asked, rounds_of}
use Rattle.desk_app.proofs.Statuses.{head_status}

-- ---- the status of a command

-- an outcome of a command: it isn't that the words are not understood, and it tells of a file that could not be read
-- only where the folder's count of faults rose
pub record IsOfCommand (it : DeskOutcome) (DidRise : Type 0) : Type 0 where
  pub not_usage : status_of it ≢ 2
  pub unread : status_of it ≡ 5 → DidRise

-- that of an error of the tables
pub error_status : (dir : List ℕ) (before after : FolderState) (error : ReadError)
    → IsCaused dir before after error → IsOfCommand (outcome_of_error error) (Rose before.faults after.faults)
error_status dir before after (read_error.Refused why) caused =
    record { not_usage = λ two. omega (arith, two); unread = λ five. absurd (omega (arith, five)) }
error_status dir before after (read_error.CannotRead read) caused =
    record { not_usage = λ two. omega (arith, two); unread = λ five. caused.0 }
error_status dir before after read_error.NoMemory caused =
    record { not_usage = λ two. omega (arith, two); unread = λ five. absurd (omega (arith, five)) }

pub made_of : (error : ReadError) (it : DeskOutcome) (DidRise : Type 0) → it ≡ outcome_of_error error → IsOfCommand (outcome_of_error error) DidRise
    → IsOfCommand it DidRise
made_of error it DidRise is status = subst (λ (it : DeskOutcome). IsOfCommand it DidRise) (sym is) status

day_status : (day : Day) (nodes : ℕ) (it : DeskOutcome) (DidRise : Type 0) → IsDayOutcome day nodes it → IsOfCommand it DidRise
day_status day nodes (Planned answer) DidRise is =
    let head = head_status answer.head in
    record { not_usage = head.not_usage; unread = λ five. absurd (omega (arith, head.low, five)) }
day_status day nodes NoMemory DidRise is = record { not_usage = λ two. omega (arith, two); unread = λ five. absurd (omega (arith, five)) }
day_status day nodes (Swapped swapped) DidRise is = absurd is
day_status day nodes (Replanned rest) DidRise is = absurd is
day_status day nodes (PlannedWeek week) DidRise is = absurd is
day_status day nodes (FleetFound found) DidRise is = absurd is
day_status day nodes Stops DidRise is = absurd is
day_status day nodes Usage DidRise is = absurd is
day_status day nodes (Refused file) DidRise is = absurd is
day_status day nodes (CannotRead file) DidRise is = absurd is

-- ---- what the planning of a day comes to

module _ (planning : Planning) (before after : FolderState) (dir : List ℕ) (here : dir ≡ planning.dir) where
  -- an error of the tables
  pub no_day : (error : ReadError) (it : DeskOutcome) → it ≡ outcome_of_error error
      → ((files : Files) → before.holds ≡ Some files → Reads {Y = Day} (Reaches files dir) (Err error) (day_in files dir))
      → IsErrorOf (λ read. read ≢ table.Plan) error → IsCaused dir before after error
      → IsPlanOutcome planning before after it
  no_day error it is told says caused =
      NoDay error
      (record {
        told = λ files tells. subst (λ (d : List ℕ). Reads {Y = Day} (Reaches files d) (Err error) (day_in files d)) here (told files tells);
        says = says;
        caused = subst (λ (d : List ℕ). IsCaused d before after error) here caused;
      })
      is

  -- a day that was planned
  pub day_planned : (day : Day) (it : DeskOutcome) → IsMadeDay day → ((files : Files) → before.holds ≡ Some files → day_in files dir ≡ Ok day)
      → IsDayOutcome day planning.nodes it → IsPlanOutcome planning before after it
  day_planned day it made told is =
      OfDay day
      (record { made = made; told = λ files tells. subst (λ (d : List ℕ). day_in files d ≡ Ok day) here (told files tells) }) is

-- ---- how the planning of a day ends

-- a refused table ends it
ended_by_error : (files : Files) (planning : Planning) (error : ReadError) → Reads {Y = Day} (Reaches files planning.dir) (Err error) (day_in files planning.dir)
    → (text : List ℕ) → IsDocument (outcome_of_error error) text → (written written' : Option (List ℕ)) → Appends text written written'
    → IsUndisturbed (status_of (outcome_of_error error))
    → EndsPlanning table_refused_line files planning.dir planning.nodes (status_of (outcome_of_error error)) written written'
ended_by_error files planning (read_error.Refused why) said text is written written' appends undisturbed = record {
  refused = (λ three. (why, said), λ other. refl);
  told = λ three. (why, said, subst (λ (t : List ℕ). Appends t written written') is appends);
  answered = λ other. absurd (other refl);
}
ended_by_error files planning (read_error.CannotRead read) said text is written written' appends undisturbed = absurd (undisturbed.0 refl)
ended_by_error files planning read_error.NoMemory said text is written written' appends undisturbed = absurd (undisturbed.2 refl)

-- and so does an answer
ended_by_day : (files : Files) (planning : Planning) (day : Day) → day_in files planning.dir ≡ Ok day → (it : DeskOutcome) → IsDayOutcome day planning.nodes it
    → (text : List ℕ) → IsDocument it text → (written written' : Option (List ℕ)) → Appends text written written' → IsUndisturbed (status_of it)
    → EndsPlanning table_refused_line files planning.dir planning.nodes (status_of it) written written'
ended_by_day files planning day accepted (Planned answer) meets text is written written' appends undisturbed =
    let head = head_status answer.head in
    record {
      refused = (λ three. absurd (head.not_refused three), λ said. absurd (let other = said.1 in cc));
      told = λ three. absurd (head.not_refused three);
      answered = λ _. (
        day,
        accepted,
        record {
          answer = answer;
          headline = meets;
          status_fits = refl;
          written = subst (λ (t : List ℕ). Appends t written written') is appends;
        },
      );
    }
ended_by_day files planning day accepted NoMemory meets text is written written' appends undisturbed = absurd (undisturbed.2 refl)
ended_by_day files planning day accepted (Replanned rest) meets text is written written' appends undisturbed = absurd meets
ended_by_day files planning day accepted (PlannedWeek week) meets text is written written' appends undisturbed = absurd meets
ended_by_day files planning day accepted (FleetFound found) meets text is written written' appends undisturbed = absurd meets
ended_by_day files planning day accepted (Swapped swapped) meets text is written written' appends undisturbed = absurd meets
ended_by_day files planning day accepted Stops meets text is written written' appends undisturbed = absurd meets
ended_by_day files planning day accepted Usage meets text is written written' appends undisturbed = absurd meets
ended_by_day files planning day accepted (Refused file) meets text is written written' appends undisturbed = absurd meets
ended_by_day files planning day accepted (CannotRead file) meets text is written written' appends undisturbed = absurd meets

module _ (planning : Planning) (before after : FolderState) (it : DeskOutcome) where
  pub plan_status : IsPlanOutcome planning before after it → IsOfCommand it (Rose before.faults after.faults)
  plan_status (NoDay error read is) = made_of error it (Rose before.faults after.faults) is (error_status planning.dir before after error read.caused)
  plan_status (OfDay day read is) = day_status day planning.nodes it (Rose before.faults after.faults) is

  pub planning_ends : IsPlanOutcome planning before after it → (files : Files) → before.holds ≡ Some files
      → (text : List ℕ) → IsDocument it text → (written written' : Option (List ℕ)) → Appends text written written' → IsUndisturbed (status_of it)
      → EndsPlanning table_refused_line files planning.dir planning.nodes (status_of it) written written'
  planning_ends (NoDay error read is) files tells text document written written' appends undisturbed =
      subst (λ (it : DeskOutcome). EndsPlanning table_refused_line files planning.dir planning.nodes (status_of it) written written') (sym is)
      (ended_by_error files planning error (read.told files tells) text (subst (λ (it : DeskOutcome). IsDocument it text) is document) written written' appends
      (subst (λ (it : DeskOutcome). IsUndisturbed (status_of it)) is undisturbed))
  planning_ends (OfDay day read is) files tells text document written written' appends undisturbed =
      ended_by_day files planning day (read.told files tells) it is text document written written' appends undisturbed

-- ---- the advisors

-- where no day is read, no advisor is asked
pub none_asked_for : {A : Type 0} (asked : A → ℕ) (has_quit : A → Bool) (rounds : ℕ) (error : ReadError) (it : DeskOutcome)
    (advisors : List A) → it ≡ outcome_of_error error → AreAskedFor rounds it advisors advisors asked has_quit
none_asked_for asked has_quit rounds error it advisors is =
    subst (λ (other : DeskOutcome). AreAskedFor rounds other advisors advisors asked has_quit) (sym is) (by error)
  where
    by : (error : ReadError) → AreAskedFor rounds (outcome_of_error error) advisors advisors asked has_quit
    by (read_error.CannotRead read) = refl
    by (read_error.Refused why) = refl
    by read_error.NoMemory = tt

module _ {A : Type 0} (identity asked : A → ℕ) (has_quit : A → Bool) (words : List (List ℕ)) where
  -- advisors that were not asked
  pub left_alone : (advisors : List A) → LeavesAdvisors words advisors advisors identity asked has_quit
  left_alone advisors = record {
    same = refl;
    asked_within = λ named form. are_unasked asked has_quit (most_asked named) advisors;
    unasked = λ none. refl;
  }

  -- advisors that were asked as the words of a command grant that asks them
  module _ (named : Command) (form : IsPlainForm words named) (before after : List A) where
    pub leaves : asks_advisors named ≡ true → AreTheSame before after identity → AreAsked before after asked has_quit 0 (most_asked named)
        → LeavesAdvisors words before after identity asked has_quit
    leaves asks same within = record {
      same = same;
      asked_within = λ other given.
          subst (λ (it : Command). AreAsked before after asked has_quit 0 (most_asked it)) (one_command words named other form given) within;
      unasked = λ none. let not : asks_advisors named ≡ false = none named form in absurd (let known = asks in cc);
    }

-- how they were asked for an answer, by whichever command the words ask for
pub asked_for : {A : Type 0} (asked : A → ℕ) (has_quit : A → Bool) (words : List (List ℕ)) (named other : Command) → IsPlainForm words named
    → IsPlainForm words other → (it : DeskOutcome) (before after : List A) → AreAskedFor (rounds_of named) it before after asked has_quit
    → AreAskedFor (rounds_of other) it before after asked has_quit
asked_for asked has_quit words named other form given it before after is =
    subst (λ (c : Command). AreAskedFor (rounds_of c) it before after asked has_quit) (one_command words named other form given) is
