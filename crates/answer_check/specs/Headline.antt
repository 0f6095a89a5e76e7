-- What is promised of an answer to a day by the command that plans it: what it says is true of every plan, its tree
-- proves that, the status says which answer it is, and it was written. A plan gives each trip a list of units, by their
-- numbers; the runs of an answer are such lists. Running tells which plans run, and Cost what a plan costs: a plan that
-- costs so much, or less, is always one that runs.
use Rattle.std.specs.Prelude.{ℕ, ◌≡◌, List, Option}
use Rattle.rail_io.specs.Sinks.{Appends}
use Rattle.timetable.specs.Day.{Day}
use Rattle.answer_text.specs.declared.answer.Answer.{Answer}
use Rattle.rules.specs.declared.heads.Head.{Head}
use Rattle.rules.specs.declared.heads.Head.TheVariants.{Optimal, Infeasible, Bounded, BoundedPlan}
use Rattle.answer_check.specs.ProvedTrees.{HasProvedTree}
pub use Rattle.rules.specs.Truths.{Says, RunsAtCost, IsTrueOfUnits, IsTrueOf}

-- the status with which a command ends that has this answer
abbrev pub status_said : Head → ℕ
status_said (Optimal cost) = 0
status_said Infeasible = 1
status_said (Bounded bound) = 4
status_said (BoundedPlan bound cost) = 4

-- The headline of an answer for which so many branchings were granted.
pub record IsHeadline (day : Day) (grant : ℕ) (answer : Answer) : Type 0 where
  -- what it says is true
  pub holds : IsTrueOf day answer.head answer.runs
  -- Its tree is part of it, and proves what it says. Each branching parts the plans of a node by the compositions
  -- of one trip. A leaf says a bound of its plans, and the prices that prove it; or that no plan runs there. It is open
  -- where there is no plan yet, or the plan costs more than its bound. The answer is `bounded`, with a plan or without,
  -- if and only if all granted branchings were made and a leaf is open.
  pub tree : HasProvedTree day grant answer

-- There is an answer that meets the headline, and the status goes with it; and its text, as `text` writes it, was
-- written after what the sink held before, and nothing else was. A sink that doesn't tell what it holds, and that is
-- `None`, is promised nothing of that.
pub record IsAnswered (text : Answer → List ℕ) (day : Day) (grant status : ℕ)
    (before after : Option (List ℕ)) : Type 0 where
  pub answer : Answer
  pub headline : IsHeadline day grant answer
  pub status_fits : status ≡ status_said answer.head
  pub written : Appends (text answer) before after
