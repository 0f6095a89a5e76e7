-- What holds of verdicts on answers, and of what answers say.
use Rattle.std.specs.Prelude.{ℕ, ◌≡◌, List}
use Rattle.timetable.specs.Day.{Day, Units}
use Rattle.timetable.specs.Renumbering.{IsRenumbering, renumbered}
use Rattle.answer_text.specs.declared.answer.Answer.{Answer}
use Rattle.rules.specs.declared.heads.Head.{Head}
use Rattle.answer_check.specs.declared.checking.AnswerVerdict.{AnswerVerdict}
use Rattle.answer_check.specs.declared.checking.AnswerVerdict.TheVariants.{Valid}
use Rattle.answer_check.specs.Headline.{IsTrueOfUnits}
use Rattle.answer_check.specs.Validity.{IsValid}
use Rattle.answer_check.specs.Verdicts.{IsAnswerVerdict}

-- Of an answer that is valid no verdict is right but that it is.
abbrev pub ValidAnswersAreFound : Type 0
ValidAnswersAreFound = (day : Day) (answer : Answer) → IsValid day answer → (verdict : AnswerVerdict) →
    IsAnswerVerdict day answer verdict → verdict ≡ Valid

-- An answer has one verdict, and so one first thing that is wrong with it.
abbrev pub AnswerVerdictsAreOne : Type 0
AnswerVerdictsAreOne = (day : Day) (answer : Answer) (one other : AnswerVerdict) →
    IsAnswerVerdict day answer one → IsAnswerVerdict day answer other → one ≡ other

-- What is true of the plans of some units is true of those of others that have the same types and stand at the same
-- stations, where the runs have their numbers.
abbrev pub RenumberedIsTrue : Type 0
RenumberedIsTrue = (units others : Units) (number : ℕ → ℕ) (day : Day) (head : Head) (runs : List (List ℕ)) →
    IsRenumbering units others number → IsTrueOfUnits units day head runs →
    IsTrueOfUnits others day head (renumbered number runs)
