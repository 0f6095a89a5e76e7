-- What the planning of the rest of a folder's day comes to, and how it ends.
use Rattle.std.proofs.Common.{◌≡◌, ◌≢◌, ℕ, List, Option, Some, Ok, Err, inl, inr, refl, sym, ◌∙◌, subst, arith}
use Rattle.std.specs.Prelude.{⊤}
use Rattle.rail_base.specs.declared.limits.TheConstants.{MAX_TABLE_BYTES}
use Rattle.rail_csv.specs.Tables.{records_of}
use Rattle.rail_io.specs.declared.whole.FileRefusal.{FileRefusal}
use Rattle.rail_io.specs.declared.whole.FileRefusal.TheVariants as file
use Rattle.rail_io.specs.Folders.{Files, FolderState, OnlyReads, Rose}
use Rattle.rail_io.specs.Sinks.{Appends}
use Rattle.statuses.specs.Written.{IsUndisturbed}
use Rattle.timetable.specs.Accepted.{HaveNames}
use Rattle.timetable.specs.Day.{Day}
use Rattle.day_files.specs.declared.errors.ReadError.{ReadError}
use Rattle.day_files.specs.declared.errors.ReadError.TheVariants as read_error
use Rattle.day_files.specs.declared.inputs.Inputs.{Inputs}
use Rattle.day_files.specs.Answers.{IsCaused, IsErrorOf, Reads}
use Rattle.day_files.specs.Inputs.{inputs_in}
use Rattle.day_files.specs.OneFile.{IsFileCaused, ReadsFile, bytes_at, path_in}
use Rattle.day_files.specs.Order.{Reaches}
use Rattle.day_files.specs.Tables.{IsMadeDay, IsMadePlan}
use Rattle.day_files.specs.Texts.{refusal_file}
use Rattle.day_files.proofs.Accepted.{sound_of}
use Rattle.answer_check.specs.Headline.{status_said}
use Rattle.cancellations.proofs.Tables.{tables_are_decided}
use Rattle.replan_text.specs.ReplanLines.{document_of}
use Rattle.desk_commands.specs.declared.replanning.Replanning.{Replanning}
use Rattle.desk_app.specs.declared.files.DeskFile.{DeskFile}
use Rattle.desk_app.specs.declared.files.DeskFile.TheVariants.{CancelledTrips, OfDay, OfTable, Prices, UrgentUnits}
use Rattle.desk_app.specs.declared.outcome.DeskOutcome.{DeskOutcome}
use Rattle.desk_app.specs.declared.outcome.DeskOutcome.TheVariants.{Planned, Swapped, Replanned, PlannedWeek, FleetFound}
use Rattle.desk_app.specs.declared.outcome.DeskOutcome.TheVariants.{Stops, Usage, Refused, CannotRead, NoMemory}
use Rattle.desk_app.specs.declared.outcome.PlannedRest.{PlannedRest}
use Rattle.desk_app.specs.Cancelled.{AreDisturbed, AreWrong, IsRefusedForReplan, OfCancelled, SayCancelled, SayNoneCancelled}
use Rattle.desk_app.specs.Cancelled.{TooMany, cancelled_bytes}
use Rattle.desk_app.specs.Cancelled as told
use Rattle.desk_app.specs.Documents.{IsDocument, refused_line, stops_line}
use Rattle.desk_app.specs.FileNames.{cancelled_file}
use Rattle.desk_app.specs.Outcomes.{status_of}
use Rattle.desk_app.specs.ReadErrors.{outcome_of_error}
use Rattle.desk_app.specs.ReplanEndings.{EndsReplanning, IsRestWritten}
use Rattle.desk_app.specs.ReplanOutcomes.{DoesRun, DoesStop, IsCancelledOutcome, IsPlannedRest, IsReplanOutcome, IsRunningOutcome}
use Rattle.desk_app.specs.ReplanOutcomes.{IsTripsOutcome, NoInputs, OfBytes, OfInputs, OutOfMemory, TooLong, Unread, Unsimulated}
use Rattle.desk_app.specs.Wished.{AreRunning, AreStopped}
use Rattle.desk_app.proofs.PlannedDays.{IsOfCommand, error_status, made_of}
use Rattle.desk_app.proofs.Statuses.{head_status}
use Rattle.desk_app.proofs.SwappedUnits.{runs_or_stops, same_inputs}

-- ---- what it comes to

-- ---- the files are accepted, or the plan doesn't run, or a file is refused

says_not : (day : Day) (minute : ℕ) (bytes cancelled : List ℕ) → HaveNames day → SayCancelled day minute bytes cancelled
    → SayNoneCancelled day minute bytes → ⊥
says_not day minute bytes cancelled names says (TooMany more) = omega (arith, says.few, more)
says_not day minute bytes cancelled names says (AreWrong why known wrong) =
    known ((tables_are_decided day minute (records_of bytes) names).refused cancelled why says.says wrong)

module _ (files : Files) (replanning : Replanning) where
  abbrev dir : List ℕ
  dir = replanning.dir

  stops_or_refused : (inputs : Inputs) (file : DeskFile) → AreStopped files dir inputs → IsRefusedForReplan files replanning file → ⊥
  stops_or_refused inputs file stopped (told.OfInputs why said is) = let accepted = stopped.accepted in cc
  stops_or_refused inputs file stopped (OfCancelled other running none is) = runs_or_stops files dir other inputs running stopped

  disturbed_or_refused : (inputs : Inputs) (cancelled : List ℕ) (file : DeskFile) → HaveNames inputs.instance
      → AreDisturbed files replanning inputs cancelled → IsRefusedForReplan files replanning file → ⊥
  disturbed_or_refused inputs cancelled file names are (told.OfInputs why said is) = let accepted = are.running.accepted in cc
  disturbed_or_refused inputs cancelled file names are (OfCancelled other running none is) =
      says_not inputs.instance replanning.minute (cancelled_bytes files dir) cancelled names are.said
      (subst (λ (it : Inputs). SayNoneCancelled it.instance replanning.minute (cancelled_bytes files dir))
      (same_inputs files dir other inputs running.accepted are.running.accepted) none)

  -- ---- how it ends

  module _ (before after : Option (List ℕ)) where
    ended_planned : (inputs : Inputs) (cancelled : List ℕ) (rest : PlannedRest) → HaveNames inputs.instance
        → AreDisturbed files replanning inputs cancelled → IsPlannedRest inputs replanning cancelled rest
        → Appends (document_of rest.later.numbers.items rest.replanned) before after
        → EndsReplanning files replanning (status_said rest.replanned.head) before after
    ended_planned inputs cancelled rest names are planned written = record {
      replanned = λ other trips accepted. again other trips accepted
          (same_inputs files dir inputs other are.running.accepted accepted.running.accepted);
      stopped = λ other stopped. absurd (runs_or_stops files dir inputs other are.running stopped);
      refused = (
        λ three. absurd ((head_status rest.replanned.head).not_refused three),
        λ said. absurd (disturbed_or_refused inputs cancelled said.0 names are said.1),
      );
      named = λ three. absurd ((head_status rest.replanned.head).not_refused three);
      accepted = λ _. inl (inputs, cancelled, are);
    }
      where
        this : IsRestWritten inputs replanning cancelled (status_said rest.replanned.head) before after
        this = record {
          answer = rest.replanned;
          replanned = planned.replanned;
          says = refl;
          written = subst (λ (numbers : List ℕ). Appends (document_of numbers rest.replanned) before after) planned.later.numbers_are written;
        }

        again : (other : Inputs) (trips : List ℕ) → AreDisturbed files replanning other trips → inputs ≡ other
            → IsRestWritten other replanning trips (status_said rest.replanned.head) before after
        again other trips accepted same =
            let said : SayCancelled inputs.instance replanning.minute (cancelled_bytes files dir) trips =
            subst (λ (it : Inputs). SayCancelled it.instance replanning.minute (cancelled_bytes files dir) trips) (sym same) accepted.said in
            let list : cancelled ≡ trips =
            (tables_are_decided inputs.instance replanning.minute (records_of (cancelled_bytes files dir)) names).one cancelled trips
            are.said.says said.says in
            subst (λ (it : Inputs). IsRestWritten it replanning trips (status_said rest.replanned.head) before after) same
            (subst (λ (gone : List ℕ). IsRestWritten inputs replanning gone (status_said rest.replanned.head) before after) list this)

    ended_stopped : (inputs : Inputs) → AreStopped files dir inputs → Appends stops_line before after
        → EndsReplanning files replanning 1 before after
    ended_stopped inputs stopped written = record {
      replanned = λ other trips accepted. absurd (runs_or_stops files dir other inputs accepted.running stopped);
      stopped = λ other stops. (refl, written);
      refused = (λ three. absurd (omega (arith, three)), λ said. absurd (stops_or_refused inputs said.0 stopped said.1));
      named = λ three. absurd (omega (arith, three));
      accepted = λ _. inr (inputs, stopped);
    }

    ended_refused : (file : DeskFile) → IsRefusedForReplan files replanning file
        → ((inputs : Inputs) → inputs_in files dir ≡ Ok inputs → HaveNames inputs.instance)
        → Appends (refused_line file) before after → EndsReplanning files replanning 3 before after
    ended_refused file refused names written = record {
      replanned = λ inputs trips accepted. absurd (disturbed_or_refused inputs trips file (names inputs accepted.running.accepted) accepted refused);
      stopped = λ inputs stops. absurd (stops_or_refused inputs file stops refused);
      refused = (λ three. (file, refused), λ said. refl);
      named = λ three. (file, refused, written);
      accepted = λ differs. absurd (differs refl);
    }

    ended_by_error : (error : ReadError) → Reads {Y = Inputs} (Reaches files dir) (Err error) (inputs_in files dir) → (text : List ℕ)
        → IsDocument (outcome_of_error error) text → Appends text before after → IsUndisturbed (status_of (outcome_of_error error))
        → EndsReplanning files replanning (status_of (outcome_of_error error)) before after
    ended_by_error (read_error.Refused why) said text is appends undisturbed =
        ended_refused (OfTable (refusal_file why)) (told.OfInputs why said refl) (λ inputs accepted. absurd (let known = said in cc))
        (subst (λ (t : List ℕ). Appends t before after) is appends)
    ended_by_error (read_error.CannotRead read) said text is appends undisturbed = absurd (undisturbed.0 refl)
    ended_by_error read_error.NoMemory said text is appends undisturbed = absurd (undisturbed.2 refl)

    -- ---- of a plan that runs

    module _ (inputs : Inputs) (names : HaveNames inputs.instance) (running : AreRunning files dir inputs) where
      named : (other : Inputs) → inputs_in files dir ≡ Ok other → HaveNames other.instance
      named other accepted = subst (λ (it : Inputs). HaveNames it.instance) (same_inputs files dir inputs other running.accepted accepted) names

      ended_by_table : (bytes : List ℕ) (it : DeskOutcome) → bytes ≡ cancelled_bytes files dir → IsCancelledOutcome inputs replanning bytes it
          → (text : List ℕ) → IsDocument it text → Appends text before after → IsUndisturbed (status_of it)
          → EndsReplanning files replanning (status_of it) before after
      ended_by_table bytes (Replanned rest) same says text is appends undisturbed =
          let said : SayCancelled inputs.instance replanning.minute (cancelled_bytes files dir) says.0 =
          subst (λ (b : List ℕ). SayCancelled inputs.instance replanning.minute b says.0) same says.1 in
          ended_planned inputs says.0 rest names (record { running = running; said = said }) says.2
          (subst (λ (t : List ℕ). Appends t before after) is appends)
      ended_by_table bytes (Refused CancelledTrips) same says text is appends undisturbed =
          let none : SayNoneCancelled inputs.instance replanning.minute (cancelled_bytes files dir) =
          subst (λ (b : List ℕ). SayNoneCancelled inputs.instance replanning.minute b) same (AreWrong says.0 says.1 says.2) in
          ended_refused CancelledTrips (OfCancelled inputs running none refl) named (subst (λ (t : List ℕ). Appends t before after) is appends)
      ended_by_table bytes NoMemory same says text is appends undisturbed = absurd (undisturbed.2 refl)
      ended_by_table bytes (Refused (OfTable read)) same says text is appends undisturbed = absurd says
      ended_by_table bytes (Refused (OfDay day read)) same says text is appends undisturbed = absurd says
      ended_by_table bytes (Refused Prices) same says text is appends undisturbed = absurd says
      ended_by_table bytes (PlannedWeek week) same says text is appends undisturbed = absurd says
      ended_by_table bytes (FleetFound found) same says text is appends undisturbed = absurd says
      ended_by_table bytes (Refused UrgentUnits) same says text is appends undisturbed = absurd says
      ended_by_table bytes (Planned answer) same says text is appends undisturbed = absurd says
      ended_by_table bytes (Swapped swapped) same says text is appends undisturbed = absurd says
      ended_by_table bytes Stops same says text is appends undisturbed = absurd says
      ended_by_table bytes Usage same says text is appends undisturbed = absurd says
      ended_by_table bytes (CannotRead file) same says text is appends undisturbed = absurd says

-- ---- what it comes to

-- in the folder that the words name, by whatever text that stands
module _ (replanning : Replanning) (dir : List ℕ) (here : dir ≡ replanning.dir) where
  -- an error of the tables of the day and its plan
  pub no_inputs : (before after : FolderState) (error : ReadError) (it : DeskOutcome) → it ≡ outcome_of_error error
      → ((files : Files) → before.holds ≡ Some files → Reads {Y = Inputs} (Reaches files dir) (Err error) (inputs_in files dir))
      → IsErrorOf (λ _. ⊤) error → IsCaused dir before after error
      → IsReplanOutcome replanning before after it
  no_inputs before after error it is told says caused =
      NoInputs error
      (record {
        told = λ files tells.
            subst (λ (d : List ℕ). Reads {Y = Inputs} (Reaches files d) (Err error) (inputs_in files d)) here (told files tells);
        says = says;
        caused = subst (λ (d : List ℕ). IsCaused d before after error) here caused;
      })
      is

  -- a day and its plan that were read
  pub inputs_read : (before between after : FolderState) (inputs : Inputs) (it : DeskOutcome) → IsMadeDay inputs.instance → IsMadePlan inputs.instance inputs.plan
      → ((files : Files) → before.holds ≡ Some files → inputs_in files dir ≡ Ok inputs)
      → OnlyReads before between
      → IsRunningOutcome replanning inputs between after it
      → IsReplanOutcome replanning before after it
  inputs_read before between after inputs it made made_plan told only comes =
      OfInputs inputs
      (record {
        made = made;
        made_plan = made_plan;
        told = λ files tells. subst (λ (d : List ℕ). inputs_in files d ≡ Ok inputs) here (told files tells);
      })
      between only comes

  module _ (inputs : Inputs) (before after : FolderState) where
    -- the bytes of the table of cancelled trips were read
    pub bytes_read : (bytes items : List ℕ) (same : items ≡ bytes) (it : DeskOutcome)
        → ((files : Files) → before.holds ≡ Some files → ReadsFile (bytes_at files dir cancelled_file) MAX_TABLE_BYTES (Ok bytes))
        → IsCancelledOutcome inputs replanning items it → IsTripsOutcome replanning inputs before after it
    bytes_read bytes items same it told says =
        OfBytes items
        (λ files tells. same ∙ subst (λ (d : List ℕ). bytes ≡ bytes_at files d cancelled_file) here (told files tells).0) says

    module _ (why : FileRefusal) where
      abbrev Caused : FileRefusal → List ℕ → Type 0
      Caused it d = IsFileCaused (path_in d cancelled_file) MAX_TABLE_BYTES before after it

      -- it could not be read
      pub file_unread : why ≡ file.ReadFault → Caused why dir → IsTripsOutcome replanning inputs before after (CannotRead CancelledTrips)
      file_unread is caused =
          let so : Caused file.ReadFault replanning.dir =
          subst (λ (d : List ℕ). Caused file.ReadFault d) here (subst (λ (it : FileRefusal). Caused it dir) is caused) in
          Unread so.0 so.1 refl

      -- it is too long
      pub file_too_long : why ≡ file.TooLong → Caused why dir
          → ((files : Files) → before.holds ≡ Some files → ReadsFile (bytes_at files dir cancelled_file) MAX_TABLE_BYTES (Err why))
          → IsTripsOutcome replanning inputs before after (Refused CancelledTrips)
      file_too_long is caused told =
          TooLong (subst (λ (it : FileRefusal). Caused it dir) is caused)
          (λ files tells. subst (λ (d : List ℕ). ReadsFile (bytes_at files d cancelled_file) MAX_TABLE_BYTES (Err file.TooLong)) here
          (subst (λ (it : FileRefusal). ReadsFile (bytes_at files dir cancelled_file) MAX_TABLE_BYTES (Err it)) is (told files tells))) refl

module _ (replanning : Replanning) where
  abbrev RoseFrom : FolderState → FolderState → Type 0
  RoseFrom before after = Rose before.faults after.faults

  table_status : (inputs : Inputs) (bytes : List ℕ) (it : DeskOutcome) (DidRise : Type 0) → IsCancelledOutcome inputs replanning bytes it → IsOfCommand it DidRise
  table_status inputs bytes (Replanned rest) DidRise says =
      let head = head_status rest.replanned.head in
      record { not_usage = head.not_usage; unread = λ five. absurd (omega (arith, head.low, five)) }
  table_status inputs bytes (Swapped swapped) DidRise says = absurd says
  table_status inputs bytes (Refused CancelledTrips) DidRise says = record { not_usage = λ two. omega (arith, two); unread = λ five. absurd (omega (arith, five)) }
  table_status inputs bytes NoMemory DidRise says = record { not_usage = λ two. omega (arith, two); unread = λ five. absurd (omega (arith, five)) }
  table_status inputs bytes (Refused (OfTable read)) DidRise says = absurd says
  table_status inputs bytes (Refused (OfDay day read)) DidRise says = absurd says
  table_status inputs bytes (Refused Prices) DidRise says = absurd says
  table_status inputs bytes (PlannedWeek week) DidRise says = absurd says
  table_status inputs bytes (FleetFound found) DidRise says = absurd says
  table_status inputs bytes (Refused UrgentUnits) DidRise says = absurd says
  table_status inputs bytes (Planned answer) DidRise says = absurd says
  table_status inputs bytes Stops DidRise says = absurd says
  table_status inputs bytes Usage DidRise says = absurd says
  table_status inputs bytes (CannotRead file) DidRise says = absurd says

  -- an outcome that is one with another status
  other_status : (it other : DeskOutcome) (DidRise : Type 0) → it ≡ other → status_of other ≢ 2 → status_of other ≢ 5 → IsOfCommand it DidRise
  other_status it other DidRise is not_usage read =
      subst (λ (it : DeskOutcome). IsOfCommand it DidRise) (sym is) (record { not_usage = not_usage; unread = λ five. absurd (read five) })

  module _ (before after : FolderState) (it : DeskOutcome) where
    pub replan_status : IsReplanOutcome replanning before after it → IsOfCommand it (RoseFrom before after)
    replan_status (NoInputs error read is) = made_of error it (RoseFrom before after) is (error_status replanning.dir before after error read.caused)
    replan_status (OfInputs inputs read between only comes) = by comes
      where
        rose : RoseFrom between after → RoseFrom before after
        rose (inl more) = inl (omega (arith, only.lasting, more))
        rose (inr last) = inr last

        of_trips : IsTripsOutcome replanning inputs between after it → IsOfCommand it (RoseFrom before after)
        of_trips (Unread did_rise may is) =
            subst (λ (it : DeskOutcome). IsOfCommand it (RoseFrom before after)) (sym is)
            (record { not_usage = λ two. omega (arith, two); unread = λ five. rose did_rise })
        of_trips (TooLong did_rise more is) =
            other_status it (Refused CancelledTrips) (RoseFrom before after) is (λ two. omega (arith, two)) (λ five. omega (arith, five))
        of_trips (OfBytes bytes same says) = table_status inputs bytes it (RoseFrom before after) says
        of_trips (OutOfMemory is) = other_status it NoMemory (RoseFrom before after) is (λ two. omega (arith, two)) (λ five. omega (arith, five))

        by : IsRunningOutcome replanning inputs between after it → IsOfCommand it (RoseFrom before after)
        by (DoesStop stops is) = other_status it Stops (RoseFrom before after) is (λ two. omega (arith, two)) (λ five. omega (arith, five))
        by (DoesRun runs trips) = of_trips trips
        by (Unsimulated is) = other_status it NoMemory (RoseFrom before after) is (λ two. omega (arith, two)) (λ five. omega (arith, five))

    module _ (files : Files) (tells : before.holds ≡ Some files) (text : List ℕ) (document : IsDocument it text) (written written' : Option (List ℕ))
        (appends : Appends text written written') (undisturbed : IsUndisturbed (status_of it)) where
      -- the end of what is another outcome
      abbrev Ends : DeskOutcome → Type 0
      Ends other = EndsReplanning files replanning (status_of other) written written'

      -- what was written, where the outcome is this one
      wrote : (other : DeskOutcome) → it ≡ other → IsDocument other text
      wrote other is = subst (λ (it : DeskOutcome). IsDocument it text) is document

      line_is : (line : List ℕ) → text ≡ line → Appends line written written'
      line_is line same = subst (λ (t : List ℕ). Appends t written written') same appends

      as_other : (other : DeskOutcome) → it ≡ other → Ends other → Ends it
      as_other other is ends = subst (λ (it : DeskOutcome). Ends it) (sym is) ends

      calm : (other : DeskOutcome) → it ≡ other → IsUndisturbed (status_of other)
      calm other is = subst (λ (it : DeskOutcome). IsUndisturbed (status_of it)) is undisturbed

      ended_by_trips : (inputs : Inputs) → HaveNames inputs.instance → (running : AreRunning files replanning.dir inputs) (between : FolderState) → between.holds ≡ Some files
          → IsTripsOutcome replanning inputs between after it → Ends it
      ended_by_trips inputs names running between tells' (Unread did_rise may is) = absurd ((calm (CannotRead CancelledTrips) is).0 refl)
      ended_by_trips inputs names running between tells' (TooLong did_rise more is) =
          as_other (Refused CancelledTrips) is
          (ended_refused files replanning written written' CancelledTrips (OfCancelled inputs running (TooMany (more files tells')) refl)
          (named files replanning written written' inputs names running) (line_is (refused_line CancelledTrips) (wrote (Refused CancelledTrips) is)))
      ended_by_trips inputs names running between tells' (OfBytes bytes same says) =
          ended_by_table files replanning written written' inputs names running bytes it (same files tells') says text document appends undisturbed
      ended_by_trips inputs names running between tells' (OutOfMemory is) = absurd ((calm NoMemory is).2 refl)

      pub replanning_ends_so : IsReplanOutcome replanning before after it → Ends it
      replanning_ends_so (NoInputs error read is) =
          as_other (outcome_of_error error) is
          (ended_by_error files replanning written written' error (read.told files tells) text (wrote (outcome_of_error error) is) appends (calm (outcome_of_error error) is))
      replanning_ends_so (OfInputs inputs read between only comes) = by comes
        where
          accepted : inputs_in files replanning.dir ≡ Ok inputs
          accepted = read.told files tells

          names : HaveNames inputs.instance
          names = (sound_of inputs.instance read.made).names

          by : IsRunningOutcome replanning inputs between after it → Ends it
          by (DoesStop stops is) =
              as_other Stops is
              (ended_stopped files replanning written written' inputs (record { accepted = accepted; stops = stops }) (line_is stops_line (wrote Stops is)))
          by (DoesRun runs trips) =
              ended_by_trips inputs names (record { accepted = accepted; runs = runs }) between (only.same ∙ tells) trips
          by (Unsimulated is) = absurd ((calm NoMemory is).2 refl)

    pub replanning_ends : IsReplanOutcome replanning before after it → (files : Files) → before.holds ≡ Some files
        → (text : List ℕ) → IsDocument it text → (written written' : Option (List ℕ)) → Appends text written written' → IsUndisturbed (status_of it)
        → EndsReplanning files replanning (status_of it) written written'
    replanning_ends comes files tells text document written written' appends undisturbed =
        replanning_ends_so files tells text document written written' appends undisturbed comes
