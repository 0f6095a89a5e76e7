-- What is shown to the advisors of a node, and what they answered.
use Rattle.std.specs.Prelude.{ℕ, ◌≡◌, [], length, map, List, Bool, true, false, None, Result}
use Rattle.rail_base.specs.declared.memory.NoMemory.{NoMemory}
use Rattle.branch_tree.specs.Bounds.{AreSlacks}
use Rattle.branch_tree.specs.Meanings.{Meanings}
use Rattle.branch_tree.specs.Sets.{size_of}
use Rattle.advisors.specs.declared.advisor.Look.{Look}
use Rattle.advisors.specs.declared.advisor.Word.{Word}
use Rattle.advisors.specs.declared.advisor.Word.TheVariants.{More, Enough, Quit}
use Rattle.advisors.specs.Proposals.{IsOverSame}
use Rattle.advisors.specs.Proposed.{Proposed}
use Rattle.search.specs.declared.rounds.NodeAdvice.{NodeAdvice}
use Rattle.search.specs.declared.rounds.Question.{Question}
use Rattle.search.specs.declared.work.Work.{Work}

-- what an advisor is asked about a region: a proposal for the problem's indices, and how many compositions each trip
-- has
pub record IsQuestionFor (problem : Meanings) (region : List (List Bool)) (question : Question) : Type 0 where
  pub indices : question.proposal.indices ≡ problem.indices
  pub free_from : question.proposal.free_from ≡ problem.free_from
  pub sizes : question.shown.sizes.items ≡ map size_of region

-- what so many advisors are asked about a region, and a flag for each of them
pub record IsAdviceFor (problem : Meanings) (region : List (List Bool)) (advisors : ℕ) (advice : NodeAdvice) :
    Type 0 where
  pub question : IsQuestionFor problem region advice.question
  pub each : length advice.has_enough.items ≡ advisors

-- a question after an advisor was asked: it may be put again, to the next one
pub record MayBePutAgain (before after : Question) : Type 0 where
  pub round : after.shown.rounds_made ≡ before.shown.rounds_made
  pub sizes : after.shown.sizes.items ≡ before.shown.sizes.items
  pub over : IsOverSame before.proposal after.proposal

-- whether an answer says that the advisor has enough
abbrev pub is_enough : Word → Bool
is_enough More = false
is_enough Enough = true
is_enough Quit = false

-- what is shown of a node after so many rounds: how far its region is divided, what its first, its kept and its last
-- evaluation gave, and the slacks of its last picks
pub record IsLookAt (problem : Meanings) (rounds : ℕ) (work : Work) (look : Look) : Type 0 where
  pub round : look.round ≡ rounds
  pub sizes : look.sizes.now ≡ map size_of work.region
  pub first : look.first ≡ work.first
  pub kept : look.kept ≡ work.kept.value
  pub last : look.last ≡ work.last.value
  pub multipliers : look.multipliers.now ≡ work.last.multipliers
  pub picks : look.picks.now ≡ work.last.picks
  pub slacks : AreSlacks problem work.last.picks look.slacks.now
  pub free_from : look.free_from ≡ problem.free_from

-- a proposal for the problem's indices with no multipliers and no cut
pub record IsEmptyFor (problem : Meanings) (proposal : Proposed) : Type 0 where
  pub indices : proposal.indices ≡ problem.indices
  pub free_from : proposal.free_from ≡ problem.free_from
  pub multipliers : proposal.multipliers ≡ []
  pub cut : proposal.cut ≡ None

-- a test of an advisor: whether its last call may have been one with this look, this proposal given, this answer and
-- this proposal left
abbrev pub CallTest : Type 0 → Type 0
CallTest A = A → Look → Proposed → Result Word NoMemory → Proposed → Bool

-- an advisor was shown a node in a round and given a proposal that is empty, and then it answered this and left this
-- proposal
pub record HasAdvised {A : Type 0} (has_answered : CallTest A) (problem : Meanings) (round : ℕ) (work : Work)
    (advisor : A) (answer : Result Word NoMemory) (proposal : Proposed) : Type 0 where
  pub look : Look
  pub given : Proposed
  pub shown : IsLookAt problem round work look
  pub empty : IsEmptyFor problem given
  pub answered : has_answered advisor look given answer proposal ≡ true
