-- How the advisors are asked in a run.
use Rattle.std.specs.Prelude.{ℕ, ◌≡◌, ◌+◌, ◌*◌, Bool, List, ⊤}
use Rattle.search.specs.Questions.{AreAsked, in_rounds}
use Rattle.answer_check.specs.ProvedTrees.{open_leaves}
use Rattle.run_documents.specs.declared.outcome.Outcome.{Outcome}
use Rattle.run_documents.specs.declared.outcome.Outcome.TheVariants.{Planned, Tried, NoMemory}

-- Where an answer comes of so many rounds, each advisor that has not quit was asked, in all, at least as many times as
-- the answer has branchings and open leaves, unless there are no rounds; and at most as many times a round as there are
-- a root and both sides of each branching. Where no answer comes, other than for want of memory, none was asked.
abbrev pub AreAskedFor : {A : Type 0} → ℕ → Outcome → List A → List A → (A → ℕ) → (A → Bool) → Type 0
AreAskedFor rounds (Planned answer) before after asked has_quit =
    AreAsked before after asked has_quit (in_rounds rounds (answer.branchings + open_leaves answer))
    (rounds * (2 * answer.branchings + 1))
AreAskedFor rounds (Tried seed trips answer) before after asked has_quit =
    AreAsked before after asked has_quit (in_rounds rounds (answer.branchings + open_leaves answer))
    (rounds * (2 * answer.branchings + 1))
AreAskedFor rounds NoMemory before after asked has_quit = ⊤
AreAskedFor rounds other before after asked has_quit = after ≡ before
