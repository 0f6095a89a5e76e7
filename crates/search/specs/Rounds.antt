-- Rounds of advice: what the advisors of a node make of it, one after another.
use Rattle.std.specs.Prelude.{ℕ, zero, suc, ◌≡◌, List, length, get_or, replicate, set, Bool, true, false, Option, Ok}
use Rattle.branch_tree.specs.Claims.{CostedPicks}
use Rattle.branch_tree.specs.Meanings.{Meanings}
use Rattle.advisors.specs.declared.advisor.Word.{Word}
use Rattle.advisors.specs.Proposed.{Proposed}
use Rattle.search.specs.declared.rounds.NodeAdvice.{NodeAdvice}
use Rattle.search.specs.declared.work.Work.{Work}
use Rattle.search.specs.NodeAdvice.{CallTest, HasAdvised, is_enough}
use Rattle.search.specs.NodesInWork.{IsTakenUp, is_open_work}
use Rattle.search.specs.Offers.{IsOffered}
use Rattle.search.specs.Questions.{AreDueAskedOnce}

-- how far the advice on a node has come: the advisors, which of them have enough, the best solution, and the node
pub record AdviceState (A : Type 0) : Type 0 where
  pub advisors : List A
  pub enough : List Bool
  pub best : Option CostedPicks
  pub work : Work

abbrev pub advice_state : {A : Type 0} → List A → NodeAdvice → Option CostedPicks → Work → AdviceState A
advice_state advisors advice best work =
    record { advisors = advisors; enough = advice.has_enough.items; best = best; work = work }

-- the advisor at a place is to be asked: the node is open, and it has not said `Enough` for this node and has not quit
pub record IsToBeAsked {A : Type 0} (has_quit : A → Bool) (place : ℕ) (state : AdviceState A) : Type 0 where
  pub left_open : is_open_work state.best state.work ≡ true
  pub more : get_or state.enough place false ≡ false
  pub stays : (none : A) → has_quit (get_or state.advisors place none) ≡ false

-- a proposal was taken up, where the advisor has not quit; and where it has, the node and the best solution are as they
-- were
pub record IsUsed (has_quit : Bool) (problem : Meanings) (earlier best : Option CostedPicks) (proposal : Proposed)
    (before after : Work) : Type 0 where
  pub taken_up : has_quit ≡ false → IsTakenUp problem earlier best proposal before after
  pub left : has_quit ≡ true → (after ≡ before) × (best ≡ earlier)

-- an advisor was asked: it answered this when it was shown the node, and what it proposed was used
pub record IsFollowed {A : Type 0} (has_quit : A → Bool) (has_answered : CallTest A) (problem : Meanings) (round : ℕ)
    (advisor : A) (earlier best : Option CostedPicks) (before after : Work) (word : Word) : Type 0 where
  pub proposal : Proposed
  pub answered : HasAdvised has_answered problem round before advisor (Ok word) proposal
  pub used : IsUsed (has_quit advisor) problem earlier best proposal before after

-- The advisor at a place was asked: what it answered was followed, and whether it has enough was noted. The best
-- solution is the one before, or a cheaper one of the node's region.
pub record WasAsked {A : Type 0} (has_quit : A → Bool) (has_answered : CallTest A) (problem : Meanings)
    (round place : ℕ) (before after : AdviceState A) : Type 0 where
  pub advisor : A
  pub word : Word
  pub followed : IsFollowed has_quit has_answered problem round advisor before.best after.best before.work after.work
      word
  pub advisors : after.advisors ≡ set before.advisors place advisor
  pub enough : after.enough ≡ set before.enough place (is_enough word)
  pub offered : IsOffered problem before.work.region before.best after.best

-- the advisor at a place was asked, where it is to be asked, and else nothing changed
pub record WasAskedIfDue {A : Type 0} (has_quit : A → Bool) (has_answered : CallTest A) (problem : Meanings)
    (round place : ℕ) (before after : AdviceState A) : Type 0 where
  pub asked : IsToBeAsked has_quit place before → WasAsked has_quit has_answered problem round place before after
  pub left : (IsToBeAsked has_quit place before → ⊥) → after ≡ before

-- the advisors at the first places were asked in a round where it was due, one after another
abbrev pub WereAskedInOrder : {A : Type 0} → (A → Bool) → CallTest A → Meanings → ℕ → ℕ → AdviceState A →
    AdviceState A → Type 0
WereAskedInOrder has_quit has_answered problem round zero before after = after ≡ before
WereAskedInOrder {A} has_quit has_answered problem round (suc place) before after =
    (middle : AdviceState A) × WereAskedInOrder has_quit has_answered problem round place before middle ×
    WasAskedIfDue has_quit has_answered problem round place middle after

-- a round was made: the advisors were asked in it where it was due, one after another; and where the node is still
-- open, each that had not enough before, and has not quit, was asked once
pub record IsRound {A : Type 0} (asked : A → ℕ) (has_quit : A → Bool) (has_answered : CallTest A) (problem : Meanings)
    (round : ℕ) (before after : AdviceState A) : Type 0 where
  pub in_order : WereAskedInOrder has_quit has_answered problem round (length before.advisors) before after
  pub each : is_open_work after.best after.work ≡ true →
      AreDueAskedOnce before.advisors after.advisors asked has_quit before.enough (length before.advisors)

-- so many rounds were made, in each of which all advisors were asked where it was due, one after another
abbrev pub AreRounds : {A : Type 0} → (A → Bool) → CallTest A → Meanings → ℕ → AdviceState A → AdviceState A → Type 0
AreRounds has_quit has_answered problem zero before after = after ≡ before
AreRounds {A} has_quit has_answered problem (suc round) before after =
    (middle : AdviceState A) × AreRounds has_quit has_answered problem round before middle ×
    WereAskedInOrder has_quit has_answered problem round (length middle.advisors) middle after

-- so many rounds of advice were made about a node, before which no advisor had enough
abbrev pub AreAdvised : {A : Type 0} → (A → Bool) → CallTest A → Meanings → ℕ → List A → List A → Option CostedPicks →
    Option CostedPicks → Work → Work → Type 0
AreAdvised has_quit has_answered problem rounds advisors later earlier best before after = (enough : List Bool) ×
    AreRounds has_quit has_answered problem rounds
    (record { advisors = advisors; enough = replicate (length advisors) false; best = earlier; work = before })
    (record { advisors = later; enough = enough; best = best; work = after })
