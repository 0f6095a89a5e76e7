-- What the search for the fleet of a folder's day comes to, and how it ends.
use Rattle.std.proofs.Common.{◌≡◌, ◌≢◌, ◌+◌, ◌*◌, ◌≤◌, ℕ, List, Option, Some, Ok, Err, length, inl, inr, refl, sym, ◌∙◌, subst, arith}
use Rattle.rail_base.specs.declared.limits.TheConstants.{MAX_TABLE_BYTES}
use Rattle.rail_csv.specs.declared.rows.Table.TheVariants as table
use Rattle.rail_io.specs.declared.whole.FileRefusal.{FileRefusal}
use Rattle.rail_io.specs.declared.whole.FileRefusal.TheVariants as file
use Rattle.rail_io.specs.Folders.{Files, FolderState, OnlyReads, Rose}
use Rattle.rail_io.specs.Sinks.{Appends}
use Rattle.statuses.specs.Written.{IsUndisturbed}
use Rattle.timetable.specs.Day.{Day}
use Rattle.day_files.specs.declared.errors.ReadError.{ReadError}
use Rattle.day_files.specs.declared.errors.ReadError.TheVariants as read_error
use Rattle.day_files.specs.Answers.{IsCaused, IsErrorOf, Reads}
use Rattle.day_files.specs.Inputs.{day_in}
use Rattle.day_files.specs.OneFile.{IsFileCaused, ReadsFile, bytes_at, path_in}
use Rattle.day_files.specs.Order.{Reaches}
use Rattle.day_files.specs.Tables.{IsMadeDay}
use Rattle.day_files.specs.Texts.{refusal_file}
use Rattle.answer_check.specs.Headline.{status_said}
use Rattle.fleet_check.specs.PriceTables.{ArePricesOf}
use Rattle.fleet_check.proofs.PriceLaw.{prices_are_decided}
use Rattle.fleet_text.specs.FleetLines.{fleet_text}
use Rattle.desk_commands.specs.declared.fleet_planning.FleetPlanning.{FleetPlanning}
use Rattle.desk_app.specs.declared.files.DeskFile.{DeskFile}
use Rattle.desk_app.specs.declared.files.DeskFile.TheVariants.{CancelledTrips, OfDay, OfTable, Prices, UrgentUnits}
use Rattle.desk_app.specs.declared.outcome.FoundFleet.{FoundFleet}
use Rattle.desk_app.specs.declared.outcome.DeskOutcome.{DeskOutcome}
use Rattle.desk_app.specs.declared.outcome.DeskOutcome.TheVariants.{Planned, Swapped, Replanned, PlannedWeek, FleetFound}
use Rattle.desk_app.specs.declared.outcome.DeskOutcome.TheVariants.{Stops, Usage, Refused, CannotRead, NoMemory}
use Rattle.desk_app.specs.Documents.{IsDocument, refused_line}
use Rattle.desk_app.specs.FileNames.{prices_file}
use Rattle.desk_app.specs.FleetEndings.{EndsFleet, IsFleetWritten}
use Rattle.desk_app.specs.FleetOutcomes.{IsFleetOutcome, IsFoundFleet, IsPriceTableOutcome, IsPricedOutcome, IsPricesOutcome}
use Rattle.desk_app.specs.FleetOutcomes.{NoDay, OfBytes, OfReadDay, OutOfMemory, TooLong, Unread}
use Rattle.desk_app.specs.Outcomes.{status_of}
use Rattle.desk_app.specs.Priced.{ArePriced, AreWrong, IsRefusedForFleet, OfPrices, OfTables, SayNoPrices, SayPrices}
use Rattle.desk_app.specs.Priced.{TooMany, price_bytes}
use Rattle.desk_app.specs.ReadErrors.{outcome_of_error}
use Rattle.desk_app.proofs.PlannedDays.{IsOfCommand, error_status, made_of}
use Rattle.desk_app.proofs.Statuses.{head_status}

-- ---- the files are accepted, or a file is refused

says_not : (day : Day) (bytes prices : List ℕ) → SayPrices day bytes prices → SayNoPrices day bytes → ⊥
says_not day bytes prices says (TooMany more) = omega (arith, says.few, more)
says_not day bytes prices says (AreWrong why known wrong) =
    known ((prices_are_decided day bytes).refused prices why says.says wrong)

module _ (files : Files) (planning : FleetPlanning) where
  abbrev dir : List ℕ
  dir = planning.dir

  same_day : (one other : Day) → day_in files dir ≡ Ok one → day_in files dir ≡ Ok other → one ≡ other
  same_day one other first second = cc

  priced_or_refused : (day : Day) (prices : List ℕ) (file : DeskFile) → ArePriced files dir day prices
      → IsRefusedForFleet files dir file → ⊥
  priced_or_refused day prices file are (OfTables why said is) = let accepted = are.accepted in cc
  priced_or_refused day prices file are (OfPrices other accepted none is) =
      says_not day (price_bytes files dir) prices are.said
      (subst (λ (it : Day). SayNoPrices it (price_bytes files dir)) (same_day other day accepted are.accepted) none)

  -- ---- how it ends

  module _ (before after : Option (List ℕ)) where
    ended_found : (day : Day) (prices : List ℕ) (found : FoundFleet) → ArePriced files dir day prices → IsFoundFleet day prices planning found
        → Appends (fleet_text found.types found.fleet) before after → EndsFleet files planning (status_said found.fleet.head) before after
    ended_found day prices found are is written = record {
      found = λ other costs accepted. again other costs accepted (same_day day other are.accepted accepted.accepted);
      refused = (
        λ three. absurd ((head_status found.fleet.head).not_refused three),
        λ said. absurd (priced_or_refused day prices said.0 are said.1),
      );
      named = λ three. absurd ((head_status found.fleet.head).not_refused three);
      accepted = λ other. (day, prices, are);
    }
      where
        this : IsFleetWritten day prices planning (status_said found.fleet.head) before after
        this = record {
          fleet = found.fleet;
          found = is.promise;
          says = refl;
          written = subst (λ (types : ℕ). Appends (fleet_text types found.fleet) before after) is.types written;
        }

        again : (other : Day) (costs : List ℕ) → ArePriced files dir other costs → day ≡ other
            → IsFleetWritten other costs planning (status_said found.fleet.head) before after
        again other costs accepted same =
            let said : SayPrices day (price_bytes files dir) costs =
            subst (λ (it : Day). SayPrices it (price_bytes files dir) costs) (sym same) accepted.said in
            let list : prices ≡ costs =
            (prices_are_decided day (price_bytes files dir)).prices prices costs are.said.says said.says in
            subst (λ (it : Day). IsFleetWritten it costs planning (status_said found.fleet.head) before after) same
            (subst (λ (them : List ℕ). IsFleetWritten day them planning (status_said found.fleet.head) before after) list this)

    ended_refused : (file : DeskFile) → IsRefusedForFleet files dir file → Appends (refused_line file) before after
        → EndsFleet files planning 3 before after
    ended_refused file refused written = record {
      found = λ day prices are. absurd (priced_or_refused day prices file are refused);
      refused = (λ three. (file, refused), λ said. refl);
      named = λ three. (file, refused, written);
      accepted = λ other. absurd (other refl);
    }

    ended_by_error : (error : ReadError) → Reads {Y = Day} (Reaches files dir) (Err error) (day_in files dir) → (text : List ℕ)
        → IsDocument (outcome_of_error error) text → Appends text before after → IsUndisturbed (status_of (outcome_of_error error))
        → EndsFleet files planning (status_of (outcome_of_error error)) before after
    ended_by_error (read_error.Refused why) said text is appends undisturbed =
        ended_refused (OfTable (refusal_file why)) (OfTables why said refl) (subst (λ (t : List ℕ). Appends t before after) is appends)
    ended_by_error (read_error.CannotRead read) said text is appends undisturbed = absurd (undisturbed.0 refl)
    ended_by_error read_error.NoMemory said text is appends undisturbed = absurd (undisturbed.2 refl)

    -- ---- of a day that is accepted

    module _ (day : Day) (accepted : day_in files dir ≡ Ok day) where
      ended_by_table : (bytes : List ℕ) (it : DeskOutcome) → bytes ≡ price_bytes files dir → IsPriceTableOutcome day planning bytes it
          → (text : List ℕ) → IsDocument it text → Appends text before after → IsUndisturbed (status_of it)
          → EndsFleet files planning (status_of it) before after
      ended_by_table bytes (FleetFound found) same says text is appends undisturbed =
          let said : SayPrices day (price_bytes files dir) says.0 =
          subst (λ (b : List ℕ). SayPrices day b says.0) same says.1 in
          ended_found day says.0 found (record { accepted = accepted; said = said }) says.2
          (subst (λ (t : List ℕ). Appends t before after) is appends)
      ended_by_table bytes (Refused Prices) same says text is appends undisturbed =
          let none : SayNoPrices day (price_bytes files dir) =
          subst (λ (b : List ℕ). SayNoPrices day b) same (AreWrong says.0 says.1 says.2) in
          ended_refused Prices (OfPrices day accepted none refl) (subst (λ (t : List ℕ). Appends t before after) is appends)
      ended_by_table bytes NoMemory same says text is appends undisturbed = absurd (undisturbed.2 refl)
      ended_by_table bytes (Refused (OfTable read)) same says text is appends undisturbed = absurd says
      ended_by_table bytes (Refused (OfDay number read)) same says text is appends undisturbed = absurd says
      ended_by_table bytes (Refused UrgentUnits) same says text is appends undisturbed = absurd says
      ended_by_table bytes (Refused CancelledTrips) same says text is appends undisturbed = absurd says
      ended_by_table bytes (Planned answer) same says text is appends undisturbed = absurd says
      ended_by_table bytes (Swapped swapped) same says text is appends undisturbed = absurd says
      ended_by_table bytes (Replanned rest) same says text is appends undisturbed = absurd says
      ended_by_table bytes (PlannedWeek week) same says text is appends undisturbed = absurd says
      ended_by_table bytes Stops same says text is appends undisturbed = absurd says
      ended_by_table bytes Usage same says text is appends undisturbed = absurd says
      ended_by_table bytes (CannotRead file) same says text is appends undisturbed = absurd says

-- ---- what it comes to

-- the fleet at the prices that bytes say
pub prices_said : (day : Day) (planning : FleetPlanning) (bytes prices : List ℕ) (it : DeskOutcome) → length bytes ≤ MAX_TABLE_BYTES
    → ArePricesOf day bytes prices → IsPricedOutcome day prices planning it → IsPriceTableOutcome day planning bytes it
prices_said day planning bytes prices (FleetFound found) few says is = (prices, record { few = few; says = says }, is)
prices_said day planning bytes prices NoMemory few says is = tt
prices_said day planning bytes prices (Planned answer) few says is = absurd is
prices_said day planning bytes prices (Swapped swapped) few says is = absurd is
prices_said day planning bytes prices (Replanned rest) few says is = absurd is
prices_said day planning bytes prices (PlannedWeek week) few says is = absurd is
prices_said day planning bytes prices Stops few says is = absurd is
prices_said day planning bytes prices Usage few says is = absurd is
prices_said day planning bytes prices (Refused file) few says is = absurd is
prices_said day planning bytes prices (CannotRead file) few says is = absurd is

-- in the folder that the words name, by whatever text that stands
module _ (planning : FleetPlanning) (dir : List ℕ) (here : dir ≡ planning.dir) where
  -- an error of the tables of the day
  pub no_day_for_fleet : (before after : FolderState) (error : ReadError) (it : DeskOutcome) → it ≡ outcome_of_error error
      → ((files : Files) → before.holds ≡ Some files → Reads {Y = Day} (Reaches files dir) (Err error) (day_in files dir))
      → IsErrorOf (λ read. read ≢ table.Plan) error → IsCaused dir before after error
      → IsFleetOutcome planning before after it
  no_day_for_fleet before after error it is told says caused =
      NoDay error
      (record {
        told = λ files tells. subst (λ (d : List ℕ). Reads {Y = Day} (Reaches files d) (Err error) (day_in files d)) here (told files tells);
        says = says;
        caused = subst (λ (d : List ℕ). IsCaused d before after error) here caused;
      })
      is

  -- a day that was read
  pub day_read : (before between after : FolderState) (day : Day) (it : DeskOutcome) → IsMadeDay day
      → ((files : Files) → before.holds ≡ Some files → day_in files dir ≡ Ok day) → OnlyReads before between
      → IsPricesOutcome planning day between after it
      → IsFleetOutcome planning before after it
  day_read before between after day it made told only comes =
      OfReadDay day
      (record { made = made; told = λ files tells. subst (λ (d : List ℕ). day_in files d ≡ Ok day) here (told files tells) })
      between only comes

  module _ (day : Day) (before after : FolderState) where
    -- the bytes of the table of prices were read
    pub price_table_read : (bytes items : List ℕ) (same : items ≡ bytes) (it : DeskOutcome)
        → ((files : Files) → before.holds ≡ Some files → ReadsFile (bytes_at files dir prices_file) MAX_TABLE_BYTES (Ok bytes))
        → IsPriceTableOutcome day planning items it → IsPricesOutcome planning day before after it
    price_table_read bytes items same it told says =
        OfBytes items
        (λ files tells. same ∙ subst (λ (d : List ℕ). bytes ≡ bytes_at files d prices_file) here (told files tells).0) says

    module _ (why : FileRefusal) where
      abbrev Caused : FileRefusal → List ℕ → Type 0
      Caused it d = IsFileCaused (path_in d prices_file) MAX_TABLE_BYTES before after it

      -- it could not be read
      pub price_table_unread : why ≡ file.ReadFault → Caused why dir → IsPricesOutcome planning day before after (CannotRead Prices)
      price_table_unread is caused =
          let so : Caused file.ReadFault planning.dir =
          subst (λ (d : List ℕ). Caused file.ReadFault d) here (subst (λ (it : FileRefusal). Caused it dir) is caused) in
          Unread so.0 so.1 refl

      -- it is too long
      pub price_table_too_long : why ≡ file.TooLong → Caused why dir
          → ((files : Files) → before.holds ≡ Some files → ReadsFile (bytes_at files dir prices_file) MAX_TABLE_BYTES (Err why))
          → IsPricesOutcome planning day before after (Refused Prices)
      price_table_too_long is caused told =
          TooLong (subst (λ (it : FileRefusal). Caused it dir) is caused)
          (λ files tells. subst (λ (d : List ℕ). ReadsFile (bytes_at files d prices_file) MAX_TABLE_BYTES (Err file.TooLong)) here
          (subst (λ (it : FileRefusal). ReadsFile (bytes_at files dir prices_file) MAX_TABLE_BYTES (Err it)) is (told files tells))) refl

-- ---- the status of the command

module _ (planning : FleetPlanning) where
  abbrev RoseFrom : FolderState → FolderState → Type 0
  RoseFrom before after = Rose before.faults after.faults

  table_status : (day : Day) (bytes : List ℕ) (it : DeskOutcome) (DidRise : Type 0) → IsPriceTableOutcome day planning bytes it → IsOfCommand it DidRise
  table_status day bytes (FleetFound found) DidRise says =
      let head = head_status found.fleet.head in
      record { not_usage = head.not_usage; unread = λ five. absurd (omega (arith, head.low, five)) }
  table_status day bytes (Refused Prices) DidRise says = record { not_usage = λ two. omega (arith, two); unread = λ five. absurd (omega (arith, five)) }
  table_status day bytes NoMemory DidRise says = record { not_usage = λ two. omega (arith, two); unread = λ five. absurd (omega (arith, five)) }
  table_status day bytes (Refused (OfTable read)) DidRise says = absurd says
  table_status day bytes (Refused (OfDay number read)) DidRise says = absurd says
  table_status day bytes (Refused UrgentUnits) DidRise says = absurd says
  table_status day bytes (Refused CancelledTrips) DidRise says = absurd says
  table_status day bytes (Planned answer) DidRise says = absurd says
  table_status day bytes (Swapped swapped) DidRise says = absurd says
  table_status day bytes (Replanned rest) DidRise says = absurd says
  table_status day bytes (PlannedWeek week) DidRise says = absurd says
  table_status day bytes Stops DidRise says = absurd says
  table_status day bytes Usage DidRise says = absurd says
  table_status day bytes (CannotRead file) DidRise says = absurd says

  -- an outcome that is one with another status
  other_status : (it other : DeskOutcome) (DidRise : Type 0) → it ≡ other → status_of other ≢ 2 → status_of other ≢ 5 → IsOfCommand it DidRise
  other_status it other DidRise is not_usage read =
      subst (λ (it : DeskOutcome). IsOfCommand it DidRise) (sym is) (record { not_usage = not_usage; unread = λ five. absurd (read five) })

  module _ (before after : FolderState) (it : DeskOutcome) where
    pub fleet_status : IsFleetOutcome planning before after it → IsOfCommand it (RoseFrom before after)
    fleet_status (NoDay error read is) = made_of error it (RoseFrom before after) is (error_status planning.dir before after error read.caused)
    fleet_status (OfReadDay day read between only comes) = by comes
      where
        rose : RoseFrom between after → RoseFrom before after
        rose (inl more) = inl (omega (arith, only.lasting, more))
        rose (inr last) = inr last

        by : IsPricesOutcome planning day between after it → IsOfCommand it (RoseFrom before after)
        by (Unread did_rise may is) =
            subst (λ (it : DeskOutcome). IsOfCommand it (RoseFrom before after)) (sym is)
            (record { not_usage = λ two. omega (arith, two); unread = λ five. rose did_rise })
        by (TooLong did_rise more is) =
            other_status it (Refused Prices) (RoseFrom before after) is (λ two. omega (arith, two)) (λ five. omega (arith, five))
        by (OfBytes bytes same says) = table_status day bytes it (RoseFrom before after) says
        by (OutOfMemory is) = other_status it NoMemory (RoseFrom before after) is (λ two. omega (arith, two)) (λ five. omega (arith, five))

    module _ (files : Files) (tells : before.holds ≡ Some files) (text : List ℕ) (document : IsDocument it text) (written written' : Option (List ℕ))
        (appends : Appends text written written') (undisturbed : IsUndisturbed (status_of it)) where
      -- the end of what is another outcome
      abbrev Ends : DeskOutcome → Type 0
      Ends other = EndsFleet files planning (status_of other) written written'

      -- what was written, where the outcome is this one
      wrote : (other : DeskOutcome) → it ≡ other → IsDocument other text
      wrote other is = subst (λ (it : DeskOutcome). IsDocument it text) is document

      line_is : (line : List ℕ) → text ≡ line → Appends line written written'
      line_is line same = subst (λ (t : List ℕ). Appends t written written') same appends

      as_other : (other : DeskOutcome) → it ≡ other → Ends other → Ends it
      as_other other is ends = subst (λ (it : DeskOutcome). Ends it) (sym is) ends

      calm : (other : DeskOutcome) → it ≡ other → IsUndisturbed (status_of other)
      calm other is = subst (λ (it : DeskOutcome). IsUndisturbed (status_of it)) is undisturbed

      ended_by_prices : (day : Day) (accepted : day_in files planning.dir ≡ Ok day) (between : FolderState) → between.holds ≡ Some files
          → IsPricesOutcome planning day between after it → Ends it
      ended_by_prices day accepted between tells' (Unread did_rise may is) = absurd ((calm (CannotRead Prices) is).0 refl)
      ended_by_prices day accepted between tells' (TooLong did_rise more is) =
          as_other (Refused Prices) is
          (ended_refused files planning written written' Prices (OfPrices day accepted (TooMany (more files tells')) refl)
          (line_is (refused_line Prices) (wrote (Refused Prices) is)))
      ended_by_prices day accepted between tells' (OfBytes bytes same says) =
          ended_by_table files planning written written' day accepted bytes it (same files tells') says text document appends undisturbed
      ended_by_prices day accepted between tells' (OutOfMemory is) = absurd ((calm NoMemory is).2 refl)

      pub fleet_ends_so : IsFleetOutcome planning before after it → Ends it
      fleet_ends_so (NoDay error read is) =
          as_other (outcome_of_error error) is
          (ended_by_error files planning written written' error (read.told files tells) text (wrote (outcome_of_error error) is) appends
          (calm (outcome_of_error error) is))
      fleet_ends_so (OfReadDay day read between only comes) =
          ended_by_prices day (read.told files tells) between (only.same ∙ tells) comes

    pub fleet_ends : IsFleetOutcome planning before after it → (files : Files) → before.holds ≡ Some files
        → (text : List ℕ) → IsDocument it text → (written written' : Option (List ℕ)) → Appends text written written' → IsUndisturbed (status_of it)
        → EndsFleet files planning (status_of it) written written'
    fleet_ends comes files tells text document written written' appends undisturbed =
        fleet_ends_so files tells text document written written' appends undisturbed comes
