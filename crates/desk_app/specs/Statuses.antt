-- The document that a run wrote of its outcome, with its status, and how the advisors stand after it.
use Rattle.std.specs.Prelude.{ℕ, ◌≡◌, ◌+◌, ◌*◌, List, Option, Bool, true, false, ⊤}
use Rattle.statuses.specs.Written.{Wrote}
use Rattle.branch_tree.specs.Trees.{branchings_of}
use Rattle.search.specs.Questions.{AreAsked, AreTheSame, in_rounds}
use Rattle.answer_check.specs.ProvedTrees.{open_leaves}
use Rattle.replan.specs.Promises.{as_answer}
use Rattle.week_units.specs.declared.nights.TheConstants.{MAX_DAYS}
use Rattle.week_plan.specs.DayAnswers as week
use Rattle.fleet_size.specs.Found.{branchings_in}
use Rattle.desk_commands.specs.declared.command.Command.{Command}
use Rattle.desk_commands.specs.declared.command.Command.TheVariants as command
use Rattle.desk_commands.specs.PlainForm.{IsPlainForm}
use Rattle.desk_app.specs.declared.outcome.DeskOutcome.{DeskOutcome}
use Rattle.desk_app.specs.declared.outcome.DeskOutcome.TheVariants.{Planned, Swapped, Replanned, PlannedWeek}
use Rattle.desk_app.specs.declared.outcome.DeskOutcome.TheVariants.{FleetFound}
use Rattle.desk_app.specs.declared.outcome.DeskOutcome.TheVariants.{Stops, Usage, Refused, CannotRead, NoMemory}
use Rattle.desk_app.specs.Documents.{IsDocument}
use Rattle.desk_app.specs.Outcomes.{status_of}

-- what was written of an outcome's document, and the status that says so
abbrev pub WroteOutcome : DeskOutcome → ℕ → Option (List ℕ) → Option (List ℕ) → ℕ → ℕ → Type 0
WroteOutcome outcome status before after faults faults' =
    Wrote (IsDocument outcome) (status_of outcome) status before after faults faults'

-- ---- the advisors

-- whether a command asks advisors
abbrev pub asks_advisors : Command → Bool
asks_advisors (command.Plan planning) = true
asks_advisors (command.Urgent swapping) = false
asks_advisors (command.Replan replanning) = true
asks_advisors (command.Week planning) = true
asks_advisors (command.Fleet planning) = true

-- how often a command asks each of them at most: its rounds at a root and at both sides of each branching granted, for
-- each day; where fleets are split, there is a day for all of them and one for the lower part of each split granted
abbrev pub most_asked : Command → ℕ
most_asked (command.Plan planning) = planning.rounds * (2 * planning.nodes + 1)
most_asked (command.Urgent swapping) = 0
most_asked (command.Replan replanning) = replanning.rounds * (2 * replanning.nodes + 1)
most_asked (command.Week planning) = MAX_DAYS * (planning.rounds * (2 * planning.nodes + 1))
most_asked (command.Fleet planning) = (planning.splits + 1) * (planning.rounds * (2 * planning.nodes + 1))

-- in how many rounds they may be asked at a node
abbrev pub rounds_of : Command → ℕ
rounds_of (command.Plan planning) = planning.rounds
rounds_of (command.Urgent swapping) = 0
rounds_of (command.Replan replanning) = replanning.rounds
rounds_of (command.Week planning) = planning.rounds
rounds_of (command.Fleet planning) = planning.rounds

-- The advisors after a run: one of the same identity stands at each place, and each was asked as often at most as the
-- words grant. They are left as they are by words that ask for no command, or for one that asks none of them.
pub record LeavesAdvisors {A : Type 0} (words : List (List ℕ)) (before after : List A) (identity asked : A → ℕ)
    (has_quit : A → Bool) : Type 0 where
  pub same : AreTheSame before after identity
  pub asked_within : (named : Command) → IsPlainForm words named
      → AreAsked before after asked has_quit 0 (most_asked named)
  pub unasked : ((named : Command) → IsPlainForm words named → asks_advisors named ≡ false) → after ≡ before

-- Where an answer comes of so many rounds, each advisor that has not quit was asked, in all, at least as many times as
-- the answer has branchings and open leaves, unless there are no rounds; and at most as many times a round as there are
-- a root and both sides of each branching. For a week it is so for the answers to its days together. For a fleet it is
-- so for the trees of its boxes together, with a root for each day that is planned; open leaves do not count there.
-- Where no answer comes, other than for want of memory, none was asked.
abbrev pub AreAskedFor : {A : Type 0} → ℕ → DeskOutcome → List A → List A → (A → ℕ) → (A → Bool) → Type 0
AreAskedFor rounds (Planned answer) before after asked has_quit =
    AreAsked before after asked has_quit (in_rounds rounds (answer.branchings + open_leaves answer))
    (rounds * (2 * answer.branchings + 1))
AreAskedFor rounds (Swapped swapped) before after asked has_quit = after ≡ before
AreAskedFor rounds (Replanned rest) before after asked has_quit =
    AreAsked before after asked has_quit
    (in_rounds rounds (branchings_of rest.replanned.tree + open_leaves (as_answer rest.replanned)))
    (rounds * (2 * branchings_of rest.replanned.tree + 1))
AreAskedFor rounds (PlannedWeek planned) before after asked has_quit =
    AreAsked before after asked has_quit (week.least_asked rounds planned.days) (week.most_asked rounds planned.days)
AreAskedFor rounds (FleetFound found) before after asked has_quit =
    AreAsked before after asked has_quit (in_rounds rounds (branchings_in found.fleet.boxes))
    (rounds * (2 * branchings_in found.fleet.boxes + (found.fleet.splits + 1)))
AreAskedFor rounds Stops before after asked has_quit = after ≡ before
AreAskedFor rounds Usage before after asked has_quit = after ≡ before
AreAskedFor rounds (Refused file) before after asked has_quit = after ≡ before
AreAskedFor rounds (CannotRead file) before after asked has_quit = after ≡ before
AreAskedFor rounds NoMemory before after asked has_quit = ⊤
