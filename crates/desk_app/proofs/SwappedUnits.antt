-- What the swapping of a folder's units comes to, and how it ends.
use Rattle.std.proofs.Common.{◌≡◌, ◌≢◌, ℕ, List, Option, Some, Ok, Err, inl, inr, refl, sym, ◌∙◌, subst, arith}
use Rattle.rail_base.specs.declared.limits.TheConstants.{MAX_TABLE_BYTES}
use Rattle.rail_io.specs.declared.whole.FileRefusal.{FileRefusal}
use Rattle.rail_io.specs.declared.whole.FileRefusal.TheVariants as file
use Rattle.rail_io.specs.Folders.{Files, FolderState, Rose}
use Rattle.rail_io.specs.Sinks.{Appends}
use Rattle.statuses.specs.Written.{IsUndisturbed}
use Rattle.timetable.specs.Day.{Day}
use Rattle.timetable.specs.Running.{Runs}
use Rattle.day_files.specs.declared.errors.ReadError.{ReadError}
use Rattle.day_files.specs.declared.errors.ReadError.TheVariants as read_error
use Rattle.day_files.specs.declared.inputs.Inputs.{Inputs}
use Rattle.day_files.specs.Answers.{Reads}
use Rattle.day_files.specs.Inputs.{inputs_in}
use Rattle.day_files.specs.OneFile.{IsFileCaused, ReadsFile, path_in}
use Rattle.day_files.specs.Order.{Reaches}
use Rattle.day_files.specs.Texts.{refusal_file}
use Rattle.urgent_units.specs.declared.best_naming.Swapped as swaps
use Rattle.urgent_units.specs.declared.wish.Wish.{Wish}
use Rattle.urgent_units.specs.Answers.{BringsMost}
use Rattle.urgent_units.proofs.Decided.{tables_are_decided}
use Rattle.desk_app.specs.declared.files.DeskFile.{DeskFile}
use Rattle.desk_app.specs.declared.files.DeskFile.TheVariants.{CancelledTrips, OfDay, OfTable, Prices, UrgentUnits}
use Rattle.desk_app.specs.declared.outcome.DeskOutcome.{DeskOutcome}
use Rattle.desk_app.specs.declared.outcome.DeskOutcome.TheVariants.{Planned, Swapped, Replanned, PlannedWeek, FleetFound}
use Rattle.desk_app.specs.declared.outcome.DeskOutcome.TheVariants.{Stops, Usage, Refused, CannotRead, NoMemory}
use Rattle.desk_app.specs.Documents.{IsDocument, refused_line, stops_line}
use Rattle.desk_app.specs.FileNames.{urgent_file}
use Rattle.desk_app.specs.Outcomes.{status_of}
use Rattle.desk_app.specs.ReadErrors.{outcome_of_error}
use Rattle.desk_app.specs.SwapEndings.{EndsSwapping}
use Rattle.desk_app.specs.SwapOutcomes.{DoesRun, DoesStop, IsInputsOutcome, IsSwapOutcome, IsTableOutcome, IsWishOutcome}
use Rattle.desk_app.specs.SwapOutcomes.{NoInputs, OfBytes, OfInputs, OutOfMemory, TooLong, Unread, Unsimulated}
use Rattle.desk_app.specs.SwapTexts.{swapped_text}
use Rattle.desk_app.specs.Wished.{AreRunning, AreStopped, AreWished, AreWrong, IsRefusedForUrgent, OfWish, SayNoWish, SayWish}
use Rattle.desk_app.specs.Wished.{TooMany, urgent_bytes}
use Rattle.desk_app.specs.Wished as wished
use Rattle.desk_app.proofs.PlannedDays.{IsOfCommand, error_status, made_of}

-- ---- the files are accepted, or the plan doesn't run, or a file is refused

says_not : (day : Day) (bytes : List ℕ) (wish : Wish) → SayWish day bytes wish → SayNoWish day bytes → ⊥
says_not day bytes wish says (TooMany more) = omega (arith, says.few, more)
says_not day bytes wish says (AreWrong why known wrong) = known ((tables_are_decided day bytes).refused wish why says.says wrong)

module _ (files : Files) (dir : List ℕ) where
  pub same_inputs : (one other : Inputs) → inputs_in files dir ≡ Ok one → inputs_in files dir ≡ Ok other → one ≡ other
  same_inputs one other first second = cc

  pub runs_or_stops : (one other : Inputs) → AreRunning files dir one → AreStopped files dir other → ⊥
  runs_or_stops one other running stopped =
      stopped.stops (subst (λ (it : Inputs). Runs it.instance it.plan) (same_inputs one other running.accepted stopped.accepted) running.runs)

  stops_or_refused : (inputs : Inputs) (file : DeskFile) → AreStopped files dir inputs → IsRefusedForUrgent files dir file → ⊥
  stops_or_refused inputs file stopped (wished.OfInputs why said is) = let accepted = stopped.accepted in cc
  stops_or_refused inputs file stopped (OfWish other running none is) = runs_or_stops other inputs running stopped

  wished_or_refused : (inputs : Inputs) (wish : Wish) (file : DeskFile) → AreWished files dir inputs wish → IsRefusedForUrgent files dir file → ⊥
  wished_or_refused inputs wish file are (wished.OfInputs why said is) = let accepted = are.running.accepted in cc
  wished_or_refused inputs wish file are (OfWish other running none is) =
      says_not inputs.instance (urgent_bytes files dir) wish are.said
      (subst (λ (it : Inputs). SayNoWish it.instance (urgent_bytes files dir)) (same_inputs other inputs running.accepted are.running.accepted) none)

  -- ---- how it ends

  module _ (before after : Option (List ℕ)) where
    ended_most : (inputs : Inputs) (wish : Wish) (swapped : swaps.Swapped) → AreWished files dir inputs wish
        → BringsMost inputs.instance inputs.plan wish swapped → Appends (swapped_text swapped) before after → EndsSwapping files dir 0 before after
    ended_most inputs wish swapped are most written = record {
      swapped = (λ zero. (inputs, wish, are), λ said. refl);
      most = λ zero. (inputs, wish, are, record { swapped = swapped; most = most; written = written });
      stops = (λ one. absurd (omega (arith, one)), λ said. absurd (runs_or_stops inputs said.0 are.running said.1));
      stopped = λ one. absurd (omega (arith, one));
      refused = (λ three. absurd (omega (arith, three)), λ said. absurd (wished_or_refused inputs wish said.0 are said.1));
      named = λ three. absurd (omega (arith, three));
      no_other = inl refl;
    }

    ended_stopped : (inputs : Inputs) → AreStopped files dir inputs → Appends stops_line before after → EndsSwapping files dir 1 before after
    ended_stopped inputs stopped written = record {
      swapped = (λ zero. absurd (omega (arith, zero)), λ said. absurd (runs_or_stops said.0 inputs said.2.running stopped));
      most = λ zero. absurd (omega (arith, zero));
      stops = (λ one. (inputs, stopped), λ said. refl);
      stopped = λ one. written;
      refused = (λ three. absurd (omega (arith, three)), λ said. absurd (stops_or_refused inputs said.0 stopped said.1));
      named = λ three. absurd (omega (arith, three));
      no_other = inr (inl refl);
    }

    ended_refused : (file : DeskFile) → IsRefusedForUrgent files dir file → Appends (refused_line file) before after → EndsSwapping files dir 3 before after
    ended_refused file refused written = record {
      swapped = (λ zero. absurd (omega (arith, zero)), λ said. absurd (wished_or_refused said.0 said.1 file said.2 refused));
      most = λ zero. absurd (omega (arith, zero));
      stops = (λ one. absurd (omega (arith, one)), λ said. absurd (stops_or_refused said.0 file said.1 refused));
      stopped = λ one. absurd (omega (arith, one));
      refused = (λ three. (file, refused), λ said. refl);
      named = λ three. (file, refused, written);
      no_other = inr (inr refl);
    }

    ended_by_error : (error : ReadError) → Reads {Y = Inputs} (Reaches files dir) (Err error) (inputs_in files dir) → (text : List ℕ)
        → IsDocument (outcome_of_error error) text → Appends text before after → IsUndisturbed (status_of (outcome_of_error error))
        → EndsSwapping files dir (status_of (outcome_of_error error)) before after
    ended_by_error (read_error.Refused why) said text is appends undisturbed =
        ended_refused (OfTable (refusal_file why)) (wished.OfInputs why said refl) (subst (λ (t : List ℕ). Appends t before after) is appends)
    ended_by_error (read_error.CannotRead read) said text is appends undisturbed = absurd (undisturbed.0 refl)
    ended_by_error read_error.NoMemory said text is appends undisturbed = absurd (undisturbed.2 refl)

    -- ---- of a plan that runs

    module _ (inputs : Inputs) (running : AreRunning files dir inputs) where
      ended_by_table : (bytes : List ℕ) (it : DeskOutcome) → bytes ≡ urgent_bytes files dir → IsTableOutcome inputs bytes it → (text : List ℕ)
          → IsDocument it text → Appends text before after → IsUndisturbed (status_of it) → EndsSwapping files dir (status_of it) before after
      ended_by_table bytes (Swapped swapped) same says text is appends undisturbed =
          let said : SayWish inputs.instance (urgent_bytes files dir) says.0 =
          subst (λ (b : List ℕ). SayWish inputs.instance b says.0) same says.1 in
          ended_most inputs says.0 swapped (record { running = running; said = said }) says.2
          (subst (λ (t : List ℕ). Appends t before after) is appends)
      ended_by_table bytes (Refused UrgentUnits) same says text is appends undisturbed =
          let none : SayNoWish inputs.instance (urgent_bytes files dir) =
          subst (λ (b : List ℕ). SayNoWish inputs.instance b) same (AreWrong says.0 says.1 says.2) in
          ended_refused UrgentUnits (OfWish inputs running none refl) (subst (λ (t : List ℕ). Appends t before after) is appends)
      ended_by_table bytes NoMemory same says text is appends undisturbed = absurd (undisturbed.2 refl)
      ended_by_table bytes (Refused (OfTable read)) same says text is appends undisturbed = absurd says
      ended_by_table bytes (Refused (OfDay day read)) same says text is appends undisturbed = absurd says
      ended_by_table bytes (Refused Prices) same says text is appends undisturbed = absurd says
      ended_by_table bytes (PlannedWeek week) same says text is appends undisturbed = absurd says
      ended_by_table bytes (FleetFound found) same says text is appends undisturbed = absurd says
      ended_by_table bytes (Planned answer) same says text is appends undisturbed = absurd says
      ended_by_table bytes (Refused CancelledTrips) same says text is appends undisturbed = absurd says
      ended_by_table bytes (Replanned rest) same says text is appends undisturbed = absurd says
      ended_by_table bytes Stops same says text is appends undisturbed = absurd says
      ended_by_table bytes Usage same says text is appends undisturbed = absurd says
      ended_by_table bytes (CannotRead file) same says text is appends undisturbed = absurd says

-- ---- what it comes to

-- in a folder of the same name
pub swapped_there : (dir other : List ℕ) (before after : FolderState)
    (it : DeskOutcome) → dir ≡ other → IsSwapOutcome dir before after it → IsSwapOutcome other before after it
swapped_there dir other before after it here comes = subst (λ (d : List ℕ). IsSwapOutcome d before after it) here comes

module _ (dir : List ℕ) (inputs : Inputs) (before after : FolderState) (why : FileRefusal) where
  abbrev Caused : Type 0
  Caused = IsFileCaused (path_in dir urgent_file) MAX_TABLE_BYTES before after why

  -- the table of urgent units could not be read
  pub file_unread : why ≡ file.ReadFault → Caused → IsWishOutcome dir inputs before after (CannotRead UrgentUnits)
  file_unread is caused =
      let so = subst (λ (it : FileRefusal). IsFileCaused (path_in dir urgent_file) MAX_TABLE_BYTES before after it) is caused in
      Unread so.0 so.1 refl

  -- it is too long
  pub file_too_long : why ≡ file.TooLong → Caused
      → ((files : Files) → before.holds ≡ Some files → ReadsFile (urgent_bytes files dir) MAX_TABLE_BYTES (Err why))
      → IsWishOutcome dir inputs before after (Refused UrgentUnits)
  file_too_long is caused told =
      TooLong (subst (λ (it : FileRefusal). IsFileCaused (path_in dir urgent_file) MAX_TABLE_BYTES before after it) is caused)
      (λ files tells. subst (λ (it : FileRefusal). ReadsFile (urgent_bytes files dir) MAX_TABLE_BYTES (Err it)) is (told files tells)) refl

module _ (dir : List ℕ) where
  abbrev RoseFrom : FolderState → FolderState → Type 0
  RoseFrom before after = Rose before.faults after.faults

  table_status : (inputs : Inputs) (bytes : List ℕ) (it : DeskOutcome) (DidRise : Type 0) → IsTableOutcome inputs bytes it → IsOfCommand it DidRise
  table_status inputs bytes (Swapped swapped) DidRise says = record { not_usage = λ two. omega (arith, two); unread = λ five. absurd (omega (arith, five)) }
  table_status inputs bytes (Refused UrgentUnits) DidRise says = record { not_usage = λ two. omega (arith, two); unread = λ five. absurd (omega (arith, five)) }
  table_status inputs bytes NoMemory DidRise says = record { not_usage = λ two. omega (arith, two); unread = λ five. absurd (omega (arith, five)) }
  table_status inputs bytes (Refused (OfTable read)) DidRise says = absurd says
  table_status inputs bytes (Refused (OfDay day read)) DidRise says = absurd says
  table_status inputs bytes (Refused Prices) DidRise says = absurd says
  table_status inputs bytes (PlannedWeek week) DidRise says = absurd says
  table_status inputs bytes (FleetFound found) DidRise says = absurd says
  table_status inputs bytes (Planned answer) DidRise says = absurd says
  table_status inputs bytes (Refused CancelledTrips) DidRise says = absurd says
  table_status inputs bytes (Replanned rest) DidRise says = absurd says
  table_status inputs bytes Stops DidRise says = absurd says
  table_status inputs bytes Usage DidRise says = absurd says
  table_status inputs bytes (CannotRead file) DidRise says = absurd says

  -- an outcome that is one with another status
  other_status : (it other : DeskOutcome) (DidRise : Type 0) → it ≡ other → status_of other ≢ 2 → status_of other ≢ 5 → IsOfCommand it DidRise
  other_status it other DidRise is not_usage read =
      subst (λ (it : DeskOutcome). IsOfCommand it DidRise) (sym is) (record { not_usage = not_usage; unread = λ five. absurd (read five) })

  module _ (before after : FolderState) (it : DeskOutcome) where
    pub swap_status : IsSwapOutcome dir before after it → IsOfCommand it (RoseFrom before after)
    swap_status (NoInputs error read is) = made_of error it (RoseFrom before after) is (error_status dir before after error read.caused)
    swap_status (OfInputs inputs read between only comes) = by comes
      where
        rose : RoseFrom between after → RoseFrom before after
        rose (inl more) = inl (omega (arith, only.lasting, more))
        rose (inr last) = inr last

        of_wish : IsWishOutcome dir inputs between after it → IsOfCommand it (RoseFrom before after)
        of_wish (Unread did_rise may is) =
            subst (λ (it : DeskOutcome). IsOfCommand it (RoseFrom before after)) (sym is)
            (record { not_usage = λ two. omega (arith, two); unread = λ five. rose did_rise })
        of_wish (TooLong did_rise more is) =
            other_status it (Refused UrgentUnits) (RoseFrom before after) is (λ two. omega (arith, two)) (λ five. omega (arith, five))
        of_wish (OfBytes bytes same says) = table_status inputs bytes it (RoseFrom before after) says
        of_wish (OutOfMemory is) = other_status it NoMemory (RoseFrom before after) is (λ two. omega (arith, two)) (λ five. omega (arith, five))

        by : IsInputsOutcome dir inputs between after it → IsOfCommand it (RoseFrom before after)
        by (DoesStop stops is) = other_status it Stops (RoseFrom before after) is (λ two. omega (arith, two)) (λ five. omega (arith, five))
        by (DoesRun runs wish) = of_wish wish
        by (Unsimulated is) = other_status it NoMemory (RoseFrom before after) is (λ two. omega (arith, two)) (λ five. omega (arith, five))

    module _ (files : Files) (tells : before.holds ≡ Some files) (text : List ℕ) (document : IsDocument it text) (written written' : Option (List ℕ))
        (appends : Appends text written written') (undisturbed : IsUndisturbed (status_of it)) where
      -- the end of what is another outcome
      abbrev Ends : DeskOutcome → Type 0
      Ends other = EndsSwapping files dir (status_of other) written written'

      -- what was written, where the outcome is this one
      wrote : (other : DeskOutcome) → it ≡ other → IsDocument other text
      wrote other is = subst (λ (it : DeskOutcome). IsDocument it text) is document

      line_is : (line : List ℕ) → text ≡ line → Appends line written written'
      line_is line same = subst (λ (t : List ℕ). Appends t written written') same appends

      as_other : (other : DeskOutcome) → it ≡ other → Ends other → Ends it
      as_other other is ends = subst (λ (it : DeskOutcome). Ends it) (sym is) ends

      calm : (other : DeskOutcome) → it ≡ other → IsUndisturbed (status_of other)
      calm other is = subst (λ (it : DeskOutcome). IsUndisturbed (status_of it)) is undisturbed

      ended_by_wish : (inputs : Inputs) (running : AreRunning files dir inputs) (between : FolderState) → between.holds ≡ Some files
          → IsWishOutcome dir inputs between after it → Ends it
      ended_by_wish inputs running between tells' (Unread did_rise may is) = absurd ((calm (CannotRead UrgentUnits) is).0 refl)
      ended_by_wish inputs running between tells' (TooLong did_rise more is) =
          as_other (Refused UrgentUnits) is
          (ended_refused files dir written written' UrgentUnits (OfWish inputs running (TooMany (more files tells')) refl)
          (line_is (refused_line UrgentUnits) (wrote (Refused UrgentUnits) is)))
      ended_by_wish inputs running between tells' (OfBytes bytes same says) =
          ended_by_table files dir written written' inputs running bytes it (same files tells') says text document appends undisturbed
      ended_by_wish inputs running between tells' (OutOfMemory is) = absurd ((calm NoMemory is).2 refl)

      pub swapping_ends_so : IsSwapOutcome dir before after it → Ends it
      swapping_ends_so (NoInputs error read is) =
          as_other (outcome_of_error error) is
          (ended_by_error files dir written written' error (read.told files tells) text (wrote (outcome_of_error error) is) appends (calm (outcome_of_error error) is))
      swapping_ends_so (OfInputs inputs read between only comes) = by comes
        where
          accepted : inputs_in files dir ≡ Ok inputs
          accepted = read.told files tells

          by : IsInputsOutcome dir inputs between after it → Ends it
          by (DoesStop stops is) =
              as_other Stops is
              (ended_stopped files dir written written' inputs (record { accepted = accepted; stops = stops }) (line_is stops_line (wrote Stops is)))
          by (DoesRun runs wish) =
              ended_by_wish inputs (record { accepted = accepted; runs = runs }) between (only.same ∙ tells) wish
          by (Unsimulated is) = absurd ((calm NoMemory is).2 refl)

    pub swapping_ends : IsSwapOutcome dir before after it → (files : Files) → before.holds ≡ Some files
        → (text : List ℕ) → IsDocument it text → (written written' : Option (List ℕ)) → Appends text written written' → IsUndisturbed (status_of it)
        → EndsSwapping files dir (status_of it) written written'
    swapping_ends comes files tells text document written written' appends undisturbed =
        swapping_ends_so files tells text document written written' appends undisturbed comes
