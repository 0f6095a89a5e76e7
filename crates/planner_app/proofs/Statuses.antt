-- The statuses of outcomes.
use Rattle.std.proofs.Common.{◌≡◌, ◌≢◌, ◌≤◌, inl, inr, ℕ, false, List, refl, sym, subst, arith}
use Rattle.std.specs.Global.{Vec}
use Rattle.std.specs.Prelude.{IfOk, Result, Ok, Err}
use Rattle.rail_base.specs.declared.memory.NoMemory as memory
use Rattle.statuses.specs.Written.{IsTextOf}
use Rattle.statuses.proofs.Endings.{IsToldByFive}
use Rattle.run_documents.specs.Texts.{IsDocument}
use Rattle.rules.specs.declared.heads.Head.{Head}
use Rattle.rules.specs.declared.heads.Head.TheVariants.{Optimal, Infeasible, Bounded, BoundedPlan}
use Rattle.answer_check.specs.declared.checking.AnswerVerdict.{AnswerVerdict}
use Rattle.answer_check.specs.declared.checking.AnswerVerdict.TheVariants.{Valid, RunsDiffer, UnknownUnit}
use Rattle.answer_check.specs.declared.checking.AnswerVerdict.TheVariants as verdicts
use Rattle.answer_check.specs.Headline.{status_said}
use Rattle.run_documents.specs.declared.answer_file.AnswerError.TheVariants as answer_error
use Rattle.run_documents.specs.declared.outcome.Outcome.{Outcome}
use Rattle.run_documents.specs.declared.outcome.Outcome.TheVariants.{Planned, Tried, Runs, Stops, Checked, Reported}
use Rattle.run_documents.specs.declared.outcome.Outcome.TheVariants.{NoPlan, Usage, Refused, CannotRead}
use Rattle.run_documents.specs.declared.outcome.Outcome.TheVariants.{NoAnswer, NoMemory}
use Rattle.planner_app.specs.Statuses.{is_unread, status_of, status_of_verdict}

-- ---- statuses of heads and of verdicts

-- what an answer says has no status but 0, 1 and 4
pub record IsOfHead (n : ℕ) : Type 0 where
  pub not_usage : n ≢ 2
  pub not_refused : n ≢ 3
  pub low : n ≤ 4

pub head_status : (head : Head) → IsOfHead (status_said head)
head_status (Optimal cost) = record { not_usage = λ e. omega (arith, e); not_refused = λ e. omega (arith, e); low = omega arith }
head_status Infeasible = record { not_usage = λ e. omega (arith, e); not_refused = λ e. omega (arith, e); low = omega arith }
head_status (Bounded bound) = record { not_usage = λ e. omega (arith, e); not_refused = λ e. omega (arith, e); low = omega arith }
head_status (BoundedPlan bound cost) = record { not_usage = λ e. omega (arith, e); not_refused = λ e. omega (arith, e); low = omega arith }

-- a verdict has no status but 0 and 1
pub verdict_status : (found : AnswerVerdict) → status_of_verdict found ≤ 1
verdict_status Valid = omega arith
verdict_status (RunsDiffer said found) = omega arith
verdict_status (UnknownUnit trip) = omega arith
verdict_status (verdicts.Stops fault) = omega arith
verdict_status (verdicts.Claim reason) = omega arith

-- 0 is that of `Valid` alone
pub only_valid : (verdict : AnswerVerdict) → status_of_verdict verdict ≡ 0 → verdict ≡ Valid
only_valid Valid zero = refl
only_valid (RunsDiffer said found) zero = absurd (omega (arith, zero))
only_valid (UnknownUnit trip) zero = absurd (omega (arith, zero))
only_valid (verdicts.Stops fault) zero = absurd (omega (arith, zero))
only_valid (verdicts.Claim reason) zero = absurd (omega (arith, zero))

pub wrong_status : (verdict : AnswerVerdict) → verdict ≢ Valid → status_of_verdict verdict ≡ 1
wrong_status Valid wrong = absurd (wrong refl)
wrong_status (RunsDiffer said found) wrong = refl
wrong_status (UnknownUnit trip) wrong = refl
wrong_status (verdicts.Stops fault) wrong = refl
wrong_status (verdicts.Claim reason) wrong = refl

-- ---- statuses of outcomes

-- an outcome that has a document has a status that says of no write that it failed, and not that memory ran out
pub few_with_document : (outcome : Outcome) (text : List ℕ) → IsDocument outcome text → status_of outcome ≤ 5
few_with_document (Planned answer) text is = omega (arith, (head_status answer.head).low)
few_with_document (Tried seed trips answer) text is = omega (arith, (head_status answer.head).low)
few_with_document (Reported report) text is = omega arith
few_with_document NoPlan text is = omega arith
few_with_document (Runs money) text is = omega arith
few_with_document (Stops fault) text is = omega arith
few_with_document (Checked head found) text is = omega (arith, verdict_status found)
few_with_document Usage text is = omega arith
few_with_document (Refused why) text is = omega arith
few_with_document (CannotRead table) text is = omega arith
few_with_document (NoAnswer answer_error.CannotRead) text is = omega arith
few_with_document (NoAnswer answer_error.TooLong) text is = omega arith
few_with_document (NoAnswer (answer_error.Refused refusal)) text is = omega arith
few_with_document NoMemory text is = absurd is

pub few_where_made : (outcome : Outcome) (made : Result (Vec ℕ) memory.NoMemory) → IfOk made (λ text. IsDocument outcome text.items) → IfOk made (λ _. status_of outcome ≤ 5)
few_where_made outcome (Ok text) is = few_with_document outcome text.items is
few_where_made outcome (Err why) is = tt

-- the text that was made is that of the outcome
pub text_of_outcome : (outcome : Outcome) (made : Result (Vec ℕ) memory.NoMemory) → IfOk made (λ text. IsDocument outcome text.items) → (text : List ℕ) → IsTextOf made text → IsDocument outcome text
text_of_outcome outcome (Ok document) is text same = subst (λ text. IsDocument outcome text) (sym same) is
text_of_outcome outcome (Err why) is text none = absurd none

-- want of memory has no document
pub no_document : (outcome : Outcome) (text : List ℕ) → outcome ≡ NoMemory → IsDocument outcome text → ⊥
no_document outcome text is document = subst (λ (it : Outcome). IsDocument it text) is document

-- an outcome that says that a file could not be read has status 5; and each other has another, which is never 6
other_status : (n : ℕ) → n ≢ 5 → n ≢ 6 → IsToldByFive false n
other_status n not_five not_six = inr (refl, not_five, not_six)

pub unread_is_five : (outcome : Outcome) → IsToldByFive (is_unread outcome) (status_of outcome)
unread_is_five (Planned answer) =
    let low = (head_status answer.head).low in other_status (status_said answer.head) (λ five. omega (arith, low, five)) (λ six. omega (arith, low, six))
unread_is_five (Tried seed trips answer) =
    let low = (head_status answer.head).low in other_status (status_said answer.head) (λ five. omega (arith, low, five)) (λ six. omega (arith, low, six))
unread_is_five (Checked head found) =
    let low = verdict_status found in other_status (status_of_verdict found) (λ five. omega (arith, low, five)) (λ six. omega (arith, low, six))
unread_is_five (Reported text) = other_status 0 (λ five. omega (arith, five)) (λ six. omega (arith, six))
unread_is_five NoPlan = other_status 1 (λ five. omega (arith, five)) (λ six. omega (arith, six))
unread_is_five (Runs money) = other_status 0 (λ five. omega (arith, five)) (λ six. omega (arith, six))
unread_is_five (Stops fault) = other_status 1 (λ five. omega (arith, five)) (λ six. omega (arith, six))
unread_is_five Usage = other_status 2 (λ five. omega (arith, five)) (λ six. omega (arith, six))
unread_is_five (Refused why) = other_status 3 (λ five. omega (arith, five)) (λ six. omega (arith, six))
unread_is_five (CannotRead table) = inl (refl, refl)
unread_is_five (NoAnswer answer_error.CannotRead) = inl (refl, refl)
unread_is_five (NoAnswer answer_error.TooLong) = other_status 3 (λ five. omega (arith, five)) (λ six. omega (arith, six))
unread_is_five (NoAnswer (answer_error.Refused refusal)) = other_status 3 (λ five. omega (arith, five)) (λ six. omega (arith, six))
unread_is_five NoMemory = other_status 7 (λ five. omega (arith, five)) (λ six. omega (arith, six))
