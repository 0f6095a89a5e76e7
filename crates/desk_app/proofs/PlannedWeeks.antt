-- What the planning of a folder's week comes to, and how it ends.
use Rattle.std.proofs.Common.{◌≡◌, ◌≢◌, ◌+◌, ◌-◌, ◌*◌, ◌≤◌, ℕ, zero, suc, Bool, List, [], ◌∷◌, Option, Some, None, Ok, Err, length, inl, inr, refl, sym, ap, ◌∙◌, subst, arith}
use Rattle.std.specs.Prelude.{All, false, MatchOption, ⊤}
use Rattle.rail_io.specs.Folders.{Files, FolderState, Rose}
use Rattle.rail_io.specs.Sinks.{Appends}
use Rattle.statuses.specs.Written.{IsUndisturbed}
use Rattle.timetable.specs.Day.{Day}
use Rattle.day_files.specs.declared.errors.Refusal.{Refusal}
use Rattle.day_files.specs.declared.errors.ReadError.{ReadError}
use Rattle.day_files.specs.declared.errors.ReadError.TheVariants as read_error
use Rattle.day_files.specs.Answers.{IsCaused}
use Rattle.day_files.specs.Inputs.{day_in}
use Rattle.day_files.specs.Tables.{IsMadeDay}
use Rattle.day_files.specs.Texts.{refusal_file}
use Rattle.branch_tree.specs.Trees.{branchings_of}
use Rattle.search.specs.Questions.{AreAsked}
use Rattle.search.proofs.Asking.{are_unasked}
use Rattle.answer_text.specs.declared.answer.Answer.{Answer}
use Rattle.answer_check.specs.Headline.{status_said}
use Rattle.week_files.specs.declared.error.DayError.{DayError}
use Rattle.week_files.specs.WeekFiles.{AreDaysFrom, AreDaysIn, HasDay, IsCausedAt, IsEndedAt, IsErrorAt}
use Rattle.week_files.specs.WeekFiles.{IsFirstRefusedDay, day_folder}
use Rattle.week_files.proofs.ReadDays.{day_at}
use Rattle.fleet_size.specs.Found.{branchings_in}
use Rattle.week_units.specs.declared.refusal.WeekRefusal.{WeekRefusal}
use Rattle.week_units.specs.declared.refusal.WeekRefusal.TheVariants.{TypesDiffer, StationsDiffer, NightDiffers, LateTrip}
use Rattle.week_units.specs.declared.refusal.WeekRefusal.TheVariants as week_refusal
use Rattle.week_units.specs.Weeks.{AreWeek, IsFirstFault}
use Rattle.week_units.proofs.Faults.{no_fault}
use Rattle.week_plan.specs.declared.answers.Week.{Week}
use Rattle.week_plan.specs.DayAnswers.{least_asked, most_asked}
use Rattle.week_plan.specs.WeekAnswers.{IsWeekAnswer, fault_said}
use Rattle.week_text.specs.WeekLines.{week_text}
use Rattle.desk_commands.specs.declared.week_planning.WeekPlanning.{WeekPlanning}
use Rattle.desk_app.specs.declared.files.DeskFile.{DeskFile}
use Rattle.desk_app.specs.declared.files.DeskFile.TheVariants.{OfDay}
use Rattle.desk_app.specs.declared.outcome.DeskOutcome.{DeskOutcome}
use Rattle.desk_app.specs.declared.outcome.DeskOutcome.TheVariants.{Planned, Swapped, Replanned, PlannedWeek, FleetFound}
use Rattle.desk_app.specs.declared.outcome.DeskOutcome.TheVariants.{Stops, Usage, Refused, CannotRead, NoMemory}
use Rattle.desk_app.specs.Documents.{IsDocument, refused_line}
use Rattle.desk_app.specs.Outcomes.{is_unread, status_of}
use Rattle.desk_app.specs.Statuses.{AreAskedFor}
use Rattle.desk_app.specs.WeekDays.{AreWeekIn, IsRefusedForWeek, OfReading, OfWeek, fault_file}
use Rattle.desk_app.specs.WeekEndings.{EndsWeek, IsWeekWritten}
use Rattle.desk_app.specs.WeekOutcomes.{IsDaysOutcome, IsWeekOutcome, NoDays, OfDays, outcome_of_day_error}
use Rattle.desk_app.specs.WeekOutcomes.{outcome_of_fault, outcome_on_day}
use Rattle.desk_app.proofs.PlannedDays.{IsOfCommand}
use Rattle.desk_app.proofs.Statuses.{head_status}

-- ---- the days of a folder are one list, or one of them is refused

module _ (files : Files) (dir : List ℕ) where
  same_from : (number : ℕ) (one other : List Day) → AreDaysFrom files dir number one → AreDaysFrom files dir number other
      → length one ≡ length other → one ≡ other
  same_from number [] [] first second long = refl
  same_from number [] (day ∷ days) first second long = absurd (omega (arith, long))
  same_from number (day ∷ days) [] first second long = absurd (omega (arith, long))
  same_from number (day ∷ days) (day' ∷ days') first second long =
      let same : day ≡ day' = (let here = first.0 in let there = second.0 in cc) in
      let rest : days ≡ days' = same_from (suc number) days days' first.1 second.1 (omega (arith, long)) in
      cc

  pub same_days : (count : ℕ) (one other : List Day) → AreDaysIn files dir count one → AreDaysIn files dir count other → one ≡ other
  same_days count one other first second = same_from 1 one other first.each second.each (first.as_many ∙ sym second.as_many)

module _ (files : Files) (planning : WeekPlanning) where
  days_or_refused : (days : List Day) (number : ℕ) (why : Refusal) → AreDaysIn files planning.dir planning.days days
      → IsFirstRefusedDay files planning.dir planning.days number why → ⊥
  days_or_refused days number why are refused =
      let place : (number - 1) + 1 ≡ number = omega (arith, refused.from_one) in
      let found : HasDay files planning.dir number =
      subst (HasDay files planning.dir) place
      (day_at files planning.dir 1 days (number - 1) are.each (omega (arith, refused.from_one, refused.within, are.as_many))) in
      let read = found.1 in
      let none = refused.refused in
      cc

  week_or_refused : (days : List Day) (file : DeskFile) → AreWeekIn files planning days → IsRefusedForWeek files planning file → ⊥
  week_or_refused days file are (OfReading number why refused is) = days_or_refused days number why are.accepted refused
  week_or_refused days file are (OfWeek other why accepted fault is) =
      no_fault days why are.week
      (subst (λ (ds : List Day). IsFirstFault ds why) (same_days files planning.dir planning.days other days accepted are.accepted) fault)

  -- ---- how it ends

  module _ (before after : Option (List ℕ)) where
    ended_planned : (days : List Day) (week : Week) → AreWeekIn files planning days → IsWeekAnswer days planning.nodes week
        → Appends (week_text week) before after → EndsWeek files planning (status_said week.head) before after
    ended_planned days week are answers written = record {
      planned = λ other accepted.
          subst (λ (ds : List Day). IsWeekWritten ds planning (status_said week.head) before after)
          (same_days files planning.dir planning.days days other are.accepted accepted.accepted)
          (record { week = week; answer = answers; says = refl; written = written });
      refused = (
        λ three. absurd ((head_status week.head).not_refused three),
        λ said. absurd (week_or_refused days said.0 are said.1),
      );
      named = λ three. absurd ((head_status week.head).not_refused three);
      accepted = λ other. (days, are);
    }

    ended_refused : (file : DeskFile) → IsRefusedForWeek files planning file → Appends (refused_line file) before after
        → EndsWeek files planning 3 before after
    ended_refused file refused written = record {
      planned = λ days are. absurd (week_or_refused days file are refused);
      refused = (λ three. (file, refused), λ said. refl);
      named = λ three. (file, refused, written);
      accepted = λ other. absurd (other refl);
    }

    -- a day that is not read
    ended_on_day : (number : ℕ) (error : ReadError) → 1 ≤ number → number ≤ planning.days
        → IsEndedAt files planning.dir (record { day = number; error = error }) → (text : List ℕ)
        → IsDocument (outcome_on_day number error) text → Appends text before after → IsUndisturbed (status_of (outcome_on_day number error))
        → EndsWeek files planning (status_of (outcome_on_day number error)) before after
    ended_on_day number (read_error.Refused why) from_one within ended text is appends undisturbed =
        ended_refused (OfDay number (refusal_file why))
        (OfReading number why (record { from_one = from_one; within = within; before = ended.before; refused = ended.told }) refl)
        (subst (λ (t : List ℕ). Appends t before after) is appends)
    ended_on_day number (read_error.CannotRead read) from_one within ended text is appends undisturbed = absurd (undisturbed.0 refl)
    ended_on_day number read_error.NoMemory from_one within ended text is appends undisturbed = absurd (undisturbed.2 refl)

    -- days that were read
    ended_by_days : (days : List Day) → AreDaysIn files planning.dir planning.days days → (it : DeskOutcome) → IsDaysOutcome days planning.nodes it
        → (text : List ℕ) → IsDocument it text → Appends text before after → IsUndisturbed (status_of it)
        → EndsWeek files planning (status_of it) before after
    ended_by_days days accepted (PlannedWeek week) says text is appends undisturbed =
        ended_planned days week (record { accepted = accepted; week = says.0 }) says.1 (subst (λ (t : List ℕ). Appends t before after) is appends)
    ended_by_days days accepted (Refused file) says text is appends undisturbed =
        ended_refused file (OfWeek days says.0 accepted says.1 says.2) (subst (λ (t : List ℕ). Appends t before after) is appends)
    ended_by_days days accepted NoMemory says text is appends undisturbed = absurd (undisturbed.2 refl)
    ended_by_days days accepted (Planned answer) says text is appends undisturbed = absurd says
    ended_by_days days accepted (Swapped swapped) says text is appends undisturbed = absurd says
    ended_by_days days accepted (Replanned rest) says text is appends undisturbed = absurd says
    ended_by_days days accepted (FleetFound found) says text is appends undisturbed = absurd says
    ended_by_days days accepted Stops says text is appends undisturbed = absurd says
    ended_by_days days accepted Usage says text is appends undisturbed = absurd says
    ended_by_days days accepted (CannotRead file) says text is appends undisturbed = absurd says

-- ---- what it comes to

-- in the folder that the words name, by whatever text that stands
module _ (planning : WeekPlanning) (before after : FolderState) (dir : List ℕ) (here : dir ≡ planning.dir) where
  -- a day that was not read
  pub no_days : (error : DayError) (it : DeskOutcome) → it ≡ outcome_of_day_error error
      → ((files : Files) → before.holds ≡ Some files → IsEndedAt files dir error) → IsErrorAt planning.days error
      → IsCausedAt dir before after error → IsWeekOutcome planning before after it
  no_days error it is told says caused =
      NoDays error
      (record {
        told = λ files tells. subst (λ (d : List ℕ). IsEndedAt files d error) here (told files tells);
        says = says;
        caused = subst (λ (d : List ℕ). IsCausedAt d before after error) here caused;
      })
      is

  -- days that were read
  pub days_read : (days listed : List Day) (it : DeskOutcome) → listed ≡ days → All IsMadeDay days → length days ≡ planning.days
      → ((files : Files) → before.holds ≡ Some files → AreDaysIn files dir planning.days days) → IsDaysOutcome listed planning.nodes it
      → IsWeekOutcome planning before after it
  days_read days listed it same made count told says =
      OfDays days
      (record {
        made = made;
        count = count;
        told = λ files tells. subst (λ (d : List ℕ). AreDaysIn files d planning.days days) here (told files tells);
      })
      (subst (λ (ds : List Day). IsDaysOutcome ds planning.nodes it) same says)

-- the fault of days that is said
pub fault_comes : (days : List Day) (nodes : ℕ) (why : WeekRefusal) (it : DeskOutcome) → it ≡ outcome_of_fault why
    → MatchOption (fault_said why) (AreWeek days) (IsFirstFault days) → IsDaysOutcome days nodes it
fault_comes days nodes why it is said = subst (IsDaysOutcome days nodes) (sym is) (by why said)
  where
    by : (why : WeekRefusal) → MatchOption (fault_said why) (AreWeek days) (IsFirstFault days) → IsDaysOutcome days nodes (outcome_of_fault why)
    by (TypesDiffer day) fault = (TypesDiffer day, fault, refl)
    by (StationsDiffer day) fault = (StationsDiffer day, fault, refl)
    by (NightDiffers day station unit_type end start) fault = (NightDiffers day station unit_type end start, fault, refl)
    by (LateTrip day trip) fault = (LateTrip day trip, fault, refl)
    by week_refusal.NoMemory fault = tt

pub fault_read : (why : WeekRefusal) (it : DeskOutcome) → it ≡ outcome_of_fault why → is_unread it ≡ false
fault_read why it is = ap is_unread is ∙ by why
  where
    by : (why : WeekRefusal) → is_unread (outcome_of_fault why) ≡ false
    by (TypesDiffer day) = refl
    by (StationsDiffer day) = refl
    by (NightDiffers day station unit_type end start) = refl
    by (LateTrip day trip) = refl
    by week_refusal.NoMemory = refl

-- advisors that were not asked where a fault is said
pub fault_asks_none : {A : Type 0} (asked : A → ℕ) (has_quit : A → Bool) (rounds : ℕ) (why : WeekRefusal) (it : DeskOutcome) (before after : List A)
    → it ≡ outcome_of_fault why → MatchOption (fault_said why) ⊤ (λ _. after ≡ before) → AreAskedFor rounds it before after asked has_quit
fault_asks_none asked has_quit rounds why it before after is said =
    subst (λ (other : DeskOutcome). AreAskedFor rounds other before after asked has_quit) (sym is) (by why said)
  where
    by : (why : WeekRefusal) → MatchOption (fault_said why) ⊤ (λ _. after ≡ before) → AreAskedFor rounds (outcome_of_fault why) before after asked has_quit
    by (TypesDiffer day) same = same
    by (StationsDiffer day) same = same
    by (NightDiffers day station unit_type end start) same = same
    by (LateTrip day trip) same = same
    by week_refusal.NoMemory same = tt

-- where a day is not read, no advisor is asked
pub error_asks_none : {A : Type 0} (asked : A → ℕ) (has_quit : A → Bool) (rounds : ℕ) (error : DayError) (it : DeskOutcome) (advisors : List A)
    → it ≡ outcome_of_day_error error → AreAskedFor rounds it advisors advisors asked has_quit
error_asks_none asked has_quit rounds error it advisors is =
    subst (λ (other : DeskOutcome). AreAskedFor rounds other advisors advisors asked has_quit) (sym is) (by error.error)
  where
    by : (why : ReadError) → AreAskedFor rounds (outcome_on_day error.day why) advisors advisors asked has_quit
    by (read_error.CannotRead read) = refl
    by (read_error.Refused why) = refl
    by read_error.NoMemory = tt

-- ---- the status of the command

module _ (planning : WeekPlanning) where
  abbrev RoseFrom : FolderState → FolderState → Type 0
  RoseFrom before after = Rose before.faults after.faults

  on_day_status : (dir : List ℕ) (before after : FolderState) (number : ℕ) (error : ReadError) → IsCaused dir before after error
      → IsOfCommand (outcome_on_day number error) (RoseFrom before after)
  on_day_status dir before after number (read_error.Refused why) caused =
      record { not_usage = λ two. omega (arith, two); unread = λ five. absurd (omega (arith, five)) }
  on_day_status dir before after number (read_error.CannotRead read) caused =
      record { not_usage = λ two. omega (arith, two); unread = λ five. caused.0 }
  on_day_status dir before after number read_error.NoMemory caused =
      record { not_usage = λ two. omega (arith, two); unread = λ five. absurd (omega (arith, five)) }

  days_status : (days : List Day) (it : DeskOutcome) (DidRise : Type 0) → IsDaysOutcome days planning.nodes it → IsOfCommand it DidRise
  days_status days (PlannedWeek week) DidRise says =
      let head = head_status week.head in
      record { not_usage = head.not_usage; unread = λ five. absurd (omega (arith, head.low, five)) }
  days_status days (Refused file) DidRise says = record { not_usage = λ two. omega (arith, two); unread = λ five. absurd (omega (arith, five)) }
  days_status days NoMemory DidRise says = record { not_usage = λ two. omega (arith, two); unread = λ five. absurd (omega (arith, five)) }
  days_status days (Planned answer) DidRise says = absurd says
  days_status days (Swapped swapped) DidRise says = absurd says
  days_status days (Replanned rest) DidRise says = absurd says
  days_status days (FleetFound found) DidRise says = absurd says
  days_status days Stops DidRise says = absurd says
  days_status days Usage DidRise says = absurd says
  days_status days (CannotRead file) DidRise says = absurd says

  module _ (before after : FolderState) (it : DeskOutcome) where
    pub week_status : IsWeekOutcome planning before after it → IsOfCommand it (RoseFrom before after)
    week_status (NoDays error read is) =
        subst (λ (it : DeskOutcome). IsOfCommand it (RoseFrom before after)) (sym is)
        (on_day_status (day_folder planning.dir error.day) before after error.day error.error read.caused)
    week_status (OfDays days read says) = days_status days it (RoseFrom before after) says

    pub week_ends : IsWeekOutcome planning before after it → (files : Files) → before.holds ≡ Some files
        → (text : List ℕ) → IsDocument it text → (written written' : Option (List ℕ)) → Appends text written written' → IsUndisturbed (status_of it)
        → EndsWeek files planning (status_of it) written written'
    week_ends (NoDays error read is) files tells text document written written' appends undisturbed =
        subst (λ (it : DeskOutcome). EndsWeek files planning (status_of it) written written') (sym is)
        (ended_on_day files planning written written' error.day error.error read.says.from_one read.says.within (read.told files tells) text
        (subst (λ (it : DeskOutcome). IsDocument it text) is document) appends (subst (λ (it : DeskOutcome). IsUndisturbed (status_of it)) is undisturbed))
    week_ends (OfDays days read says) files tells text document written written' appends undisturbed =
        ended_by_days files planning written written' days (read.told files tells) it says text document appends undisturbed

-- ---- advisors where no rounds are granted

least_none : (answers : List Answer) → least_asked 0 answers ≡ 0
least_none [] = refl
least_none (answer ∷ answers) = omega (arith, least_none answers)

-- whatever comes of it, advisors that were not asked were asked as often as no rounds grant
pub none_asked_in_no_rounds : {A : Type 0} (asked : A → ℕ) (has_quit : A → Bool) (advisors : List A) (it : DeskOutcome)
    → AreAskedFor 0 it advisors advisors asked has_quit
none_asked_in_no_rounds asked has_quit advisors (Planned answer) = are_unasked asked has_quit (0 * (2 * answer.branchings + 1)) advisors
none_asked_in_no_rounds asked has_quit advisors (Replanned rest) =
    are_unasked asked has_quit (0 * (2 * branchings_of rest.replanned.tree + 1)) advisors
none_asked_in_no_rounds asked has_quit advisors (PlannedWeek week) =
    subst (λ (least : ℕ). AreAsked advisors advisors asked has_quit least (most_asked 0 week.days)) (sym (least_none week.days))
    (are_unasked asked has_quit (most_asked 0 week.days) advisors)
none_asked_in_no_rounds asked has_quit advisors (FleetFound found) =
    are_unasked asked has_quit (0 * (2 * branchings_in found.fleet.boxes + (found.fleet.splits + 1))) advisors
none_asked_in_no_rounds asked has_quit advisors (Swapped swapped) = refl
none_asked_in_no_rounds asked has_quit advisors Stops = refl
none_asked_in_no_rounds asked has_quit advisors Usage = refl
none_asked_in_no_rounds asked has_quit advisors (Refused file) = refl
none_asked_in_no_rounds asked has_quit advisors (CannotRead file) = refl
none_asked_in_no_rounds asked has_quit advisors NoMemory = tt
