-- What holds of every answer that is found to a day, and of every outcome that the files tell.
use Rattle.std.specs.Prelude.{ℕ, ◌≡◌, List, IsTrue, Ok, Option, Some, ⊤}
use Rattle.rail_io.specs.Folders.{Files, FolderState}
use Rattle.timetable.specs.Day.{Day}
use Rattle.day_files.specs.Inputs.{day_in}
use Rattle.answer_text.specs.declared.answer.Answer.{Answer}
use Rattle.answer_text.specs.Texts.{text_of}
use Rattle.answer_text.specs.Limits.{has_plan}
use Rattle.answer_check.specs.Headline.{IsHeadline}
use Rattle.run_documents.specs.declared.answer_file.AnswerError.TheVariants as answer_error
use Rattle.run_documents.specs.declared.outcome.Outcome.{Outcome}
use Rattle.run_documents.specs.declared.outcome.Outcome.TheVariants.{Planned, Tried, CannotRead, NoAnswer, NoMemory}
use Rattle.run_documents.specs.AnswerFiles.{answer_bytes}
use Rattle.planner_app.specs.declared.reports.ReportKind.{ReportKind}
use Rattle.planner_app.specs.Outcomes.{IsOutcome}
use Rattle.statuses.specs.Written.{IsUndisturbed}
use Rattle.planner_app.specs.Statuses.{EndsCheck, EndsReport, status_of}

-- ---- answers that are found

-- Where the answer's file of a folder is the text of an answer that meets the headline of the folder's day, whatever
-- was granted for it, a check of that folder ends with status 0.
abbrev pub HeadlinesAreValid : Type 0
HeadlinesAreValid = (files : Files) (dir : List ℕ) (day : Day) (granted : ℕ) (answer : Answer) (status : ℕ)
    (before after : Option (List ℕ)) →
    day_in files dir ≡ Ok day → answer_bytes files dir ≡ text_of answer → IsHeadline day granted answer →
    EndsCheck files dir status before after → status ≡ 0

-- And a report on it ends with status 0, where the answer has a plan.
abbrev pub HeadlinesAreReported : Type 0
HeadlinesAreReported = (files : Files) (dir : List ℕ) (day : Day) (granted : ℕ) (answer : Answer) (kind : ReportKind)
    (status : ℕ) (before after : Option (List ℕ)) →
    day_in files dir ≡ Ok day → answer_bytes files dir ≡ text_of answer → IsHeadline day granted answer →
    IsTrue (has_plan answer.head) → EndsReport files dir kind status before after → status ≡ 0

-- ---- outcomes that the files tell

-- the outcomes of a search: an answer to the day of a folder, or to a trial day
abbrev pub IsOfSearch : Outcome → Type 0
IsOfSearch (Planned answer) = ⊤
IsOfSearch (Tried seed trips answer) = ⊤
IsOfSearch other = ⊥

-- The outcomes that the words and the files alone decide: not those of a search, which may find another answer that
-- meets the headline too, and not that a file could not be read or that memory ran out.
abbrev pub IsToldByFiles : Outcome → Type 0
IsToldByFiles (Planned answer) = ⊥
IsToldByFiles (Tried seed trips answer) = ⊥
IsToldByFiles (CannotRead table) = ⊥
IsToldByFiles (NoAnswer answer_error.CannotRead) = ⊥
IsToldByFiles NoMemory = ⊥
IsToldByFiles other = ⊤

-- Runs of the same words, over two folders that hold the same files, come to one such outcome at most.
abbrev pub OutcomesAreOne : Type 0
OutcomesAreOne = (words : List (List ℕ)) (files : Files) (old new old' new' : FolderState) (one other : Outcome) →
    old.holds ≡ Some files → old'.holds ≡ Some files → IsToldByFiles one → IsToldByFiles other →
    IsOutcome words old new one → IsOutcome words old' new' other → one ≡ other

-- And where the one comes to one, no search of the other comes to an answer: whether a day is refused is told by its
-- files alone.
abbrev pub SearchesAreApart : Type 0
SearchesAreApart = (words : List (List ℕ)) (files : Files) (old new old' new' : FolderState) (one other : Outcome) →
    old.holds ≡ Some files → old'.holds ≡ Some files → IsToldByFiles one → IsOfSearch other →
    IsOutcome words old new one → ¬ (IsOutcome words old' new' other)

-- Each other outcome whose status is none of 5, 6 and 7 is told so.
abbrev pub OthersAreTold : Type 0
OthersAreTold = (it : Outcome) → IsUndisturbed (status_of it) → ¬ (IsOfSearch it) → IsToldByFiles it
