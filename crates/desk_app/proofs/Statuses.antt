-- The statuses of outcomes.
use Rattle.std.proofs.Common.{◌≡◌, ◌≢◌, ◌≤◌, ◌⊎◌, inl, inr, ℕ, true, false, List, refl, sym, subst, arith}
use Rattle.std.specs.Global.{Vec}
use Rattle.std.specs.Prelude.{IfOk, Result, Ok, Err}
use Rattle.rail_base.specs.declared.memory.NoMemory as memory
use Rattle.statuses.specs.Written.{IsTextOf}
use Rattle.rules.specs.declared.heads.Head.{Head}
use Rattle.rules.specs.declared.heads.Head.TheVariants.{Optimal, Infeasible, Bounded, BoundedPlan}
use Rattle.answer_check.specs.Headline.{status_said}
use Rattle.desk_app.specs.declared.outcome.DeskOutcome.{DeskOutcome}
use Rattle.desk_app.specs.declared.outcome.DeskOutcome.TheVariants.{Planned, Swapped, Replanned, PlannedWeek, FleetFound}
use Rattle.desk_app.specs.declared.outcome.DeskOutcome.TheVariants.{Stops, Usage, Refused, CannotRead, NoMemory}
use Rattle.desk_app.specs.Documents.{IsDocument}
use Rattle.desk_app.specs.Outcomes.{status_of, is_unread}

-- what an answer says has no status but 0, 1 and 4
pub record IsOfHead (n : ℕ) : Type 0 where
  pub not_usage : n ≢ 2
  pub not_refused : n ≢ 3
  pub low : n ≤ 4

pub head_status : (head : Head) → IsOfHead (status_said head)
head_status (Optimal cost) = record { not_usage = λ e. omega (arith, e); not_refused = λ e. omega (arith, e); low = omega arith }
head_status Infeasible = record { not_usage = λ e. omega (arith, e); not_refused = λ e. omega (arith, e); low = omega arith }
head_status (Bounded bound) = record { not_usage = λ e. omega (arith, e); not_refused = λ e. omega (arith, e); low = omega arith }
head_status (BoundedPlan bound cost) = record { not_usage = λ e. omega (arith, e); not_refused = λ e. omega (arith, e); low = omega arith }

-- an outcome that has a document has a status that says of no write that it failed, and not that memory ran out
pub few_with_document : (outcome : DeskOutcome) (text : List ℕ) → IsDocument outcome text → status_of outcome ≤ 5
few_with_document (Planned answer) text is = omega (arith, (head_status answer.head).low)
few_with_document (Swapped swapped) text is = omega arith
few_with_document (Replanned rest) text is = omega (arith, (head_status rest.replanned.head).low)
few_with_document (PlannedWeek week) text is = omega (arith, (head_status week.head).low)
few_with_document (FleetFound found) text is = omega (arith, (head_status found.fleet.head).low)
few_with_document Stops text is = omega arith
few_with_document Usage text is = omega arith
few_with_document (Refused file) text is = omega arith
few_with_document (CannotRead file) text is = omega arith
few_with_document NoMemory text is = absurd is

pub few_where_made : (outcome : DeskOutcome) (made : Result (Vec ℕ) memory.NoMemory) → IfOk made (λ text. IsDocument outcome text.items) → IfOk made (λ _. status_of outcome ≤ 5)
few_where_made outcome (Ok text) is = few_with_document outcome text.items is
few_where_made outcome (Err why) is = tt

-- the text that was made is that of the outcome
pub text_of_outcome : (outcome : DeskOutcome) (made : Result (Vec ℕ) memory.NoMemory) → IfOk made (λ text. IsDocument outcome text.items) → (text : List ℕ) → IsTextOf made text → IsDocument outcome text
text_of_outcome outcome (Ok document) is text same = subst (λ text. IsDocument outcome text) (sym same) is
text_of_outcome outcome (Err why) is text none = absurd none

-- an outcome says that a file could not be read, and has status 5; or it doesn't, and has another, which is never 6
abbrev pub IsToldByFive : DeskOutcome → Type 0
IsToldByFive outcome = ((is_unread outcome ≡ true) × (status_of outcome ≡ 5)) ⊎ ((is_unread outcome ≡ false) × (status_of outcome ≢ 5) × (status_of outcome ≢ 6))

pub unread_is_five : (outcome : DeskOutcome) → IsToldByFive outcome
unread_is_five (Planned answer) =
    let low = (head_status answer.head).low in inr (refl, λ five. omega (arith, low, five), λ six. omega (arith, low, six))
unread_is_five (Replanned rest) =
    let low = (head_status rest.replanned.head).low in inr (refl, λ five. omega (arith, low, five), λ six. omega (arith, low, six))
unread_is_five (Swapped swapped) = inr (refl, λ five. omega (arith, five), λ six. omega (arith, six))
unread_is_five (PlannedWeek week) =
    let low = (head_status week.head).low in inr (refl, λ five. omega (arith, low, five), λ six. omega (arith, low, six))
unread_is_five (FleetFound found) =
    let low = (head_status found.fleet.head).low in inr (refl, λ five. omega (arith, low, five), λ six. omega (arith, low, six))
unread_is_five Stops = inr (refl, λ five. omega (arith, five), λ six. omega (arith, six))
unread_is_five Usage = inr (refl, λ five. omega (arith, five), λ six. omega (arith, six))
unread_is_five (Refused file) = inr (refl, λ five. omega (arith, five), λ six. omega (arith, six))
unread_is_five (CannotRead file) = inl (refl, refl)
unread_is_five NoMemory = inr (refl, λ five. omega (arith, five), λ six. omega (arith, six))
