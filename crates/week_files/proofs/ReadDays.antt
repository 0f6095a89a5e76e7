-- The days that were read so far, and what ends the reading.
use Rattle.std.proofs.Common.{◌≡◌, ◌≢◌, ℕ, zero, suc, ◌+◌, ◌-◌, ◌<◌, ◌≤◌, List, [], ◌∷◌, ◌++◌, length, All, Bool, false, Some, Ok, Err, refl, sym, subst, ap, ◌∙◌, inl, inr, arith}
use Rattle.std.specs.Prelude.{IsTrue}
use Rattle.std.proofs.lemmas.List.{length-append}
use Rattle.std.proofs.lemmas.List.Elements.{All-append, All-cons, All-nil}
use Rattle.rail_csv.specs.declared.rows.Table.TheVariants.{Plan}
use Rattle.rail_io.specs.Folders.{CountsFault, Files, FolderState, OnlyReads, Rose, faults_after}
use Rattle.rail_io.proofs.Calls.{OnlyReads-then}
use Rattle.timetable.specs.Day.{Day}
use Rattle.day_files.specs.declared.errors.Refusal.TheVariants as refusal
use Rattle.day_files.specs.declared.errors.ReadError.{ReadError}
use Rattle.day_files.specs.declared.errors.ReadError.TheVariants as read_error
use Rattle.day_files.specs.Answers.{IsCaused, IsErrorOf, Reads, is_unread}
use Rattle.day_files.specs.Names.{path_of}
use Rattle.day_files.specs.Order.{Reaches}
use Rattle.day_files.specs.Inputs.{day_in}
use Rattle.day_files.specs.Tables.{IsMadeDay}
use Rattle.week_files.specs.declared.error.DayError.{DayError}
use Rattle.week_files.specs.WeekFiles.{AreDaysFrom, AreDaysIn, HasDay, HaveDaysBefore, IsCausedAt, IsEndedAt, IsErrorAt, IsWantOfMemory}
use Rattle.week_files.specs.WeekFiles.{ReadsDay, day_folder, is_day_unread}

-- ---- files

module _ (files : Files) (dir : List ℕ) where
  -- one more day at the end
  pub days-push : (number : ℕ) (days : List Day) (day : Day) → AreDaysFrom files dir number days → day_in files (day_folder dir (length days + number)) ≡ Ok day
      → AreDaysFrom files dir number (days ++ day ∷ [])
  days-push number [] day each here =
      let place : 0 + number ≡ number = omega arith in
      (subst (λ (n : ℕ). day_in files (day_folder dir n) ≡ Ok day) place here, tt)
  days-push number (first ∷ days) day each here =
      let place : suc (length days) + number ≡ length days + suc number = omega arith in
      (each.0, days-push (suc number) days day each.1 (subst (λ (n : ℕ). day_in files (day_folder dir n) ≡ Ok day) place here))

  -- each of them is accepted
  pub day_at : (number : ℕ) (days : List Day) (k : ℕ) → AreDaysFrom files dir number days → k < length days → HasDay files dir (k + number)
  day_at number [] k each within = absurd (omega (arith, within))
  day_at number (day ∷ days) zero each within =
      let place : number ≡ 0 + number = omega arith in
      (day, subst (λ (n : ℕ). day_in files (day_folder dir n) ≡ Ok day) place each.0)
  day_at number (day ∷ days) (suc k) each within =
      let place : k + suc number ≡ suc k + number = omega arith in
      subst (HasDay files dir) place (day_at (suc number) days k each.1 (omega (arith, within)))

  -- and so is each before the next one
  pub before_next : (days : List Day) (place : ℕ) → AreDaysFrom files dir 1 days → length days ≡ place → HaveDaysBefore files dir (place + 1)
  before_next days place each count earlier from_one before =
      let same : (earlier - 1) + 1 ≡ earlier = omega (arith, from_one) in
      subst (HasDay files dir) same (day_at 1 days (earlier - 1) each (omega (arith, from_one, before, count)))

-- ---- causes

module _ (dir : List ℕ) (before between after : FolderState) (only : OnlyReads before between) where
  rose_since : Rose between.faults after.faults → Rose before.faults after.faults
  rose_since (inl more) = inl (omega (arith, only.lasting, more))
  rose_since (inr last) = inr last

  -- a cause since later is one since earlier
  pub caused_since : (error : ReadError) → IsCaused dir between after error → IsCaused dir before after error
  caused_since (read_error.CannotRead table) caused = (
    rose_since caused.0,
    subst (λ (may : List ℕ → Bool). IsTrue (may (path_of dir table))) only.steady caused.1,
  )
  caused_since (read_error.Refused (refusal.TooLong table)) (inl more) = inl (omega (arith, only.growing, more))
  caused_since (read_error.Refused (refusal.TooLong table)) (inr last) = inr last
  caused_since (read_error.Refused (refusal.WrongTable table why)) caused = tt
  caused_since (read_error.Refused (refusal.NoDay why)) caused = tt
  caused_since (read_error.Refused (refusal.NoPlan why)) caused = tt
  caused_since read_error.NoMemory caused = tt

-- ---- the reading

module _ (dir : List ℕ) (before : FolderState) where
  -- so many days were read, from the folder before to this one
  pub record HaveRead (now : FolderState) (place : ℕ) (days : List Day) : Type 0 where
    pub count : length days ≡ place
    pub made : All IsMadeDay days
    pub told : (files : Files) → before.holds ≡ Some files → AreDaysFrom files dir 1 days
    pub counted : CountsFault false before now
    pub only_reads : OnlyReads before now

  -- the reading ended so, of so many days
  pub record HasEnded (after : FolderState) (count : ℕ) (error : DayError) : Type 0 where
    pub told : (files : Files) → before.holds ≡ Some files → IsEndedAt files dir error
    pub says : IsErrorAt count error
    pub caused : IsCausedAt dir before after error
    pub counted : CountsFault (is_day_unread error) before after
    pub only_reads : OnlyReads before after

  none : HaveRead before 0 []
  none = record {
    count = refl;
    made = All-nil IsMadeDay;
    told = λ files tells. tt;
    counted = λ counting. refl;
    only_reads = record { same = refl; steady = refl; counting = refl; lasting = omega arith; growing = omega arith };
  }

  pub none_read : (days : List Day) → days ≡ [] → HaveRead before 0 days
  none_read days are = subst (HaveRead before 0) (sym are) none

  -- all days were read
  pub read_all : (now : FolderState) (place : ℕ) (days : List Day) → HaveRead now place days → (count : ℕ) → place ≤ count → count ≤ place
      → (files : Files) → before.holds ≡ Some files → AreDaysIn files dir count days
  read_all now place days so count most least files tells =
      record { as_many = (let long = so.count in omega (arith, long, most, least)); each = so.told files tells }

  module _ (between after : FolderState) (place : ℕ) (days : List Day) (so : HaveRead between place days) (only : OnlyReads between after) where
    only_all : OnlyReads before after
    only_all = OnlyReads-then before between after so.only_reads only

    pub one_more_read : (day : Day) (all : List Day) → all ≡ days ++ day ∷ [] → IsMadeDay day
        → ((files : Files) → between.holds ≡ Some files → ReadsDay files dir (place + 1) (Ok day))
        → CountsFault false between after → HaveRead after (place + 1) all
    one_more_read day all is made told counted = subst (HaveRead after (place + 1)) (sym is) (record {
      count = length-append days (day ∷ []) ∙ ap (λ (n : ℕ). n + 1) so.count;
      made = All-append IsMadeDay days (day ∷ []) so.made (All-cons IsMadeDay day [] made (All-nil IsMadeDay));
      told = λ files tells.
          let number : place + 1 ≡ length days + 1 = ap (λ (n : ℕ). n + 1) (sym so.count) in
          days-push files dir 1 days day (so.told files tells)
          (subst (λ (n : ℕ). day_in files (day_folder dir n) ≡ Ok day) number (told files (so.only_reads.same ∙ tells)));
      counted = λ counting. counted (so.only_reads.counting ∙ counting) ∙ so.counted counting;
      only_reads = only_all;
    })

    -- a day that is not read ends it
    pub ended_at : (count : ℕ) (error : DayError) → place < count → error.day ≡ place + 1
        → ((files : Files) → between.holds ≡ Some files → ReadsDay files dir (place + 1) (Err error))
        → IsErrorOf (λ table. table ≢ Plan) error.error → IsCausedAt dir between after error
        → CountsFault (is_day_unread error) between after → HasEnded after count error
    ended_at count error within number told says caused counted = record {
      told = λ files tells. record {
        before = subst (HaveDaysBefore files dir) (sym number) (before_next files dir days place (so.told files tells) so.count);
        told = subst (λ (n : ℕ). ReadsDay files dir n (Err error)) (sym number) (told files (so.only_reads.same ∙ tells));
      };
      says = record { from_one = omega (arith, number); within = omega (arith, number, within); says = says };
      caused = caused_since (day_folder dir error.day) before between after so.only_reads error.error caused;
      counted = λ counting. counted (so.only_reads.counting ∙ counting) ∙ ap (faults_after (is_day_unread error)) (so.counted counting);
      only_reads = only_all;
    }

    -- and so does want of memory
    pub out_of_memory : (count : ℕ) (error : DayError) → place < count → IsWantOfMemory (place + 1) error
        → CountsFault false between after → HasEnded after count error
    out_of_memory count error within none counted = record {
      told = λ files tells. record {
        before = subst (HaveDaysBefore files dir) (sym none.0) (before_next files dir days place (so.told files tells) so.count);
        told =
            subst (λ (e : ReadError). Reads {Y = Day} (Reaches files (day_folder dir error.day)) (Err e) (day_in files (day_folder dir error.day)))
            (sym none.1) tt;
      };
      says = record {
        from_one = omega (arith, none.0);
        within = omega (arith, none.0, within);
        says = subst (IsErrorOf (λ table. table ≢ Plan)) (sym none.1) tt;
      };
      caused = subst (IsCaused (day_folder dir error.day) before after) (sym none.1) tt;
      counted = λ counting.
          subst (λ (e : ReadError). after.faults ≡ faults_after (is_unread e) before.faults) (sym none.1) (counted (so.only_reads.counting ∙ counting) ∙ so.counted counting);
      only_reads = only_all;
    }
