-- The verdict on an answer.
use Rattle.std.specs.Prelude.{ℕ, ◌≡◌, ◌≢◌, ◌<◌, List, length, IsTrue, Option, Some, None, Result, Ok, Err, IsErr}
use Rattle.rail_base.specs.declared.memory.NoMemory.{NoMemory}
use Rattle.timetable.specs.Compositions.{compositions_of, composition_at}
use Rattle.timetable.specs.Day.{Day}
use Rattle.timetable.specs.Links.{list_of}
use Rattle.timetable.specs.Running.{AreUnits, IsPlan, Runs}
use Rattle.branch_tree.specs.declared.claims.Claim.{Claim}
use Rattle.branch_tree.specs.Claims.{said_by}
use Rattle.branch_tree.specs.Regions.{root_of}
use Rattle.cert_check.specs.declared.verdict.Reason.{Reason}
use Rattle.cert_check.specs.declared.verdict.Reason.TheVariants.{PicksFail}
use Rattle.cert_check.specs.declared.verdict.Verdict.TheVariants.{Invalid}
use Rattle.cert_check.specs.Verdicts.{IsVerdict}
use Rattle.day_simulator.specs.declared.events.StepFault.{StepFault}
use Rattle.day_simulator.specs.Finish.{simulation}
use Rattle.day_simulator.specs.Laws.{IsInTurn}
use Rattle.price_bound.specs.DayMeanings.{meanings_of}
use Rattle.answer_text.specs.declared.answer.Answer.{Answer}
use Rattle.answer_text.specs.Limits.{has_plan}
use Rattle.answer_check.specs.declared.answered_plan.RunsRefusal.{RunsRefusal}
use Rattle.answer_check.specs.declared.answered_plan.RunsRefusal.TheVariants as runs_refusal
use Rattle.answer_check.specs.declared.checking.AnswerVerdict.{AnswerVerdict}
use Rattle.answer_check.specs.declared.checking.AnswerVerdict.TheVariants.{Valid, RunsDiffer, UnknownUnit, Stops}
use Rattle.answer_check.specs.declared.checking.AnswerVerdict.TheVariants as verdict
use Rattle.answer_check.specs.Validity.{HasPicks, IsValid, conclusion_of}

-- ---- what is wrong with runs

-- there are not as many runs as trips
pub record DoRunsDiffer (day : Day) (runs : List (List ℕ)) (said found : ℕ) : Type 0 where
  pub said_is : said ≡ length runs
  pub found_is : found ≡ length day.trips
  pub differ : said ≢ found

-- there is a run for each trip, and this trip's is the first with a unit that the day does not have
pub record IsFirstUnknown (day : Day) (runs : List (List ℕ)) (trip : ℕ) : Type 0 where
  pub within : trip < length runs
  pub before : (t : ℕ) → t < trip → AreUnits day (list_of runs t)
  pub unknown : ¬ AreUnits day (list_of runs trip)

-- the runs are a plan of the day, which doesn't run, and this is its first fault
pub record DoRunsStop (day : Day) (runs : List (List ℕ)) (fault : StepFault) : Type 0 where
  pub plan : IsPlan day runs
  pub stops : ¬ Runs day runs
  pub fault_is : simulation day runs ≡ Err fault

-- ---- the verdict

abbrev pub HasPlan : Answer → Type 0
HasPlan answer = IsTrue (has_plan answer.head)

-- a claim says of the day what an answer says, whose plan, where it has one, runs
pub record IsClaimOf (day : Day) (answer : Answer) (claim : Claim) : Type 0 where
  pub picks : List ℕ
  pub planned : HasPicks day answer.head answer.runs picks
  pub head : said_by claim.head ≡ conclusion_of answer.head picks
  pub branchings : claim.branchings ≡ answer.branchings
  pub tree : claim.tree.now ≡ answer.tree

-- the claim of an answer is not proved, and this is the first reason
pub record IsRefuted (day : Day) (answer : Answer) (reason : Reason) : Type 0 where
  pub claim : Claim
  pub is_claim : IsClaimOf day answer claim
  pub verdict : IsVerdict (meanings_of day) (root_of day) claim (Invalid reason)

-- The verdict is right: the answer is valid; or this is the first thing that is wrong with it. A tree is looked at only
-- where the plan, if there is one, runs.
abbrev pub IsAnswerVerdict : Day → Answer → AnswerVerdict → Type 0
IsAnswerVerdict day answer Valid = IsValid day answer
IsAnswerVerdict day answer (RunsDiffer said found) = HasPlan answer × DoRunsDiffer day answer.runs said found
IsAnswerVerdict day answer (UnknownUnit trip) =
    HasPlan answer × (length answer.runs ≡ length day.trips) × IsFirstUnknown day answer.runs trip
IsAnswerVerdict day answer (Stops fault) = HasPlan answer × DoRunsStop day answer.runs fault
IsAnswerVerdict day answer (verdict.Claim reason) = IsRefuted day answer reason

-- Two verdicts that have a text never come: this is none of them.
pub record CanCome (found : AnswerVerdict) : Type 0 where
  -- a plan stops for a cause of its own, and never since an event is out of turn
  pub in_turn : (fault : StepFault) → found ≡ Stops fault → IsInTurn fault
  -- the picks of a plan never fail, since they are looked at only where it runs
  pub picks : found ≢ verdict.Claim PicksFail

-- ---- the inside of the check

-- the first list with a unit that the day does not have, or none has one
abbrev pub IsFoundOf : Day → List (List ℕ) → Option ℕ → Type 0
IsFoundOf day lists None = (t : ℕ) → AreUnits day (list_of lists t)
IsFoundOf day lists (Some trip) = IsFirstUnknown day lists trip

abbrev pub IsRunsRefusal : Day → List (List ℕ) → RunsRefusal → Type 0
IsRunsRefusal day runs (runs_refusal.Differ said found) = DoRunsDiffer day runs said found
IsRunsRefusal day runs (runs_refusal.UnknownUnit trip) = (length runs ≡ length day.trips) × IsFirstUnknown day runs trip
IsRunsRefusal day runs (runs_refusal.Stops fault) = DoRunsStop day runs fault
IsRunsRefusal day runs runs_refusal.NoMemory = Unit {0}

-- the answer has a plan, and this is wrong with its runs
abbrev pub IsPicksRefusal : Day → Answer → RunsRefusal → Type 0
IsPicksRefusal day answer runs_refusal.NoMemory = Unit {0}
IsPicksRefusal day answer refusal = HasPlan answer × IsRunsRefusal day answer.runs refusal

-- the verdict that says what is wrong with the runs; none for want of memory
abbrev pub VerdictOf : RunsRefusal → Result AnswerVerdict NoMemory → Type 0
VerdictOf (runs_refusal.Differ said found) verdict = verdict ≡ Ok (RunsDiffer said found)
VerdictOf (runs_refusal.UnknownUnit trip) verdict = verdict ≡ Ok (UnknownUnit trip)
VerdictOf (runs_refusal.Stops fault) verdict = verdict ≡ Ok (Stops fault)
VerdictOf runs_refusal.NoMemory verdict = IsErr verdict

-- the number of the composition with these types
pub record IsCompOf (day : Day) (types : List ℕ) (comp : ℕ) : Type 0 where
  pub listed : comp < length (compositions_of day)
  pub is : composition_at day comp ≡ types
