-- The rows of the report of yards: what is taken and what became ready adds up, row by row, to what was taken and
-- given, and each count follows from that of the row before. And the times that reports print.
use Rattle.std.specs.Prelude.{ℕ, ◌+◌, ◌≡◌, ◌<◌, List, [], ◌∷◌, true, codes, pos, ◌+ℤ◌}
use Rattle.rail_base.specs.Times.{clock_text}
use Rattle.rail_base.specs.declared.limits.TheConstants.{MAX_MINUTES}
use Rattle.rail_csv.specs.Fields.{is_time, time_of}
use Rattle.timetable.specs.Minutes.{minutes_of}
use Rattle.timetable.specs.Starts.{start_of}
use Rattle.inventory.specs.Counts.{taken_until, ready_until, all_taken, all_given}
use Rattle.day_reports.specs.YardRows.{YardOf, YardRow, yard_rows}

-- ---- the rows of yards

-- how many units are taken, and how many become ready, in the rows up to some row, that row among them
pub record Totals : Type 0 where
  pub taken : ℕ
  pub ready : ℕ

-- with those of one row more
abbrev pub with_row : Totals → YardRow → Totals
with_row totals row = record { taken = totals.taken + row.taken; ready = totals.ready + row.ready }

-- The row of the start: nothing is taken or ready, and the units of the start stand there.
pub record IsOfStart (yard : YardOf) (row : YardRow) : Type 0 where
  pub time : row.time ≡ codes "start"
  pub taken : row.taken ≡ 0
  pub ready : row.ready ≡ 0
  pub count : row.count ≡ pos (start_of yard.day yard.station yard.unit_type)

-- The row of a departure minute, behind another row: the totals up to it are what was taken and what was ready by its
-- minute; and its count, with what it takes, is the count of the row before with what became ready.
pub record IsOfMinute (yard : YardOf) (minute : ℕ) (totals : Totals) (before row : YardRow) : Type 0 where
  pub time : row.time ≡ clock_text minute
  pub total_taken : totals.taken ≡ taken_until yard.day yard.lists yard.station yard.unit_type minute
  pub total_ready : totals.ready ≡ ready_until yard.day yard.lists yard.station yard.unit_type minute
  pub count : row.count +ℤ pos row.taken ≡ before.count +ℤ pos row.ready

-- The row of the end, behind another row: nothing is taken; the totals up to it are all that is taken and all that is
-- given; and its count is that of the row before with what became ready.
pub record IsOfEnd (yard : YardOf) (totals : Totals) (before row : YardRow) : Type 0 where
  pub time : row.time ≡ codes "end"
  pub taken : row.taken ≡ 0
  pub total_taken : totals.taken ≡ all_taken yard.day yard.lists yard.station yard.unit_type
  pub total_ready : totals.ready ≡ all_given yard.day yard.lists yard.station yard.unit_type
  pub count : row.count ≡ before.count +ℤ pos row.ready

-- one row for each of these departure minutes, and one for the end, behind a row up to which there are these totals
abbrev pub AddUpAfter : YardOf → List ℕ → Totals → YardRow → List YardRow → Type 0
AddUpAfter yard [] totals before [] = ⊥
AddUpAfter yard [] totals before (row ∷ []) = IsOfEnd yard (with_row totals row) before row
AddUpAfter yard [] totals before (row ∷ next ∷ rows) = ⊥
AddUpAfter yard (minute ∷ minutes) totals before [] = ⊥
AddUpAfter yard (minute ∷ minutes) totals before (row ∷ rows) =
    IsOfMinute yard minute (with_row totals row) before row
    × AddUpAfter yard minutes (with_row totals row) row rows

-- one row for the start, then one for each departure minute of the station, in their order, and one for the end
abbrev pub AddUp : YardOf → List YardRow → Type 0
AddUp yard [] = ⊥
AddUp yard (start ∷ rows) =
    IsOfStart yard start
    × AddUpAfter yard (minutes_of yard.day yard.station) (record { taken = 0; ready = 0 }) start rows

-- the rows of every type at every station
abbrev pub YardsAddUp : Type 0
YardsAddUp = (yard : YardOf) → AddUp yard (yard_rows yard)

-- ---- times

-- The text of a minute is that of a time which a table may have, and is read as the same minute.
pub record IsReadAgain (minute : ℕ) : Type 0 where
  pub accepted : is_time (clock_text minute) ≡ true
  pub same : time_of (clock_text minute) ≡ minute

abbrev pub TimesAreReadAgain : Type 0
TimesAreReadAgain = (minute : ℕ) → minute < MAX_MINUTES → IsReadAgain minute
