-- What the advisors make of a node, place by place and round by round.
use Rattle.std.proofs.Common.{◌≡◌, ℕ, zero, suc, ◌≤◌, length, List, Option, Bool, true, false, not, Ok, refl, sym, subst, ◌∙◌}
use Rattle.std.proofs.Common.{arith, add-one, ◌+◌, ◌⊎◌, inl, inr}
use Rattle.std.proofs.lemmas.Bool.{both_ways, false≢true}
use denote.Enum.Bare.{sameb}
use Rattle.branch_tree.specs.Claims.{CostedPicks}
use Rattle.branch_tree.specs.Meanings.{Meanings}
use Rattle.advisors.specs.contracts.advisor.Word.{the_type}
use Rattle.advisors.specs.declared.advisor.Word.{Word}
use Rattle.advisors.specs.declared.advisor.Word.TheVariants.{More, Enough, Quit}
use Rattle.advisors.specs.Quits.{quit_after}
use Rattle.search.specs.declared.work.Work.{Work}
use Rattle.search.specs.declared.rounds.Question.{Question}
use Rattle.search.specs.NodeAdvice.{CallTest, IsQuestionFor, MayBePutAgain, is_enough}
use Rattle.search.specs.NodesInWork.{is_open_work}
use Rattle.search.specs.Rounds.{AdviceState, AreRounds, IsToBeAsked, WasAsked, WasAskedIfDue, WereAskedInOrder}

-- an advisor that answers another word than `Quit` has not quit
pub stays_on : (word : Word) → not (sameb the_type word Quit) ≡ true → quit_after (Ok word) ≡ false
stays_on More other = refl
stays_on Enough other = refl
stays_on Quit other = absurd (false≢true other)

-- the number below the next one, or the same
at_most : (few many : ℕ) → few ≤ suc many → (few ≤ many) ⊎ (few ≡ suc many)
at_most zero many below = inl (omega arith)
at_most (suc few) zero below = inr (omega (arith, below))
at_most (suc few) (suc many) below = elim (at_most few many (omega (arith, below))) as (λ _. (suc few ≤ suc many) ⊎ (suc few ≡ suc (suc many))) [
  | inl less ↦ inl (omega (arith, less))
  | inr same ↦ inr (omega (arith, same))
]

pub enough_is : (word : Word) → sameb the_type word Enough ≡ is_enough word
enough_is More = refl
enough_is Enough = refl
enough_is Quit = refl

-- a question is put again: about the same region, where the problem is as before
pub question_after : (problem : Meanings) (region : List (List Bool)) (before after : Question) → MayBePutAgain before after → IsQuestionFor problem region before → IsQuestionFor problem region after
question_after problem region before after same is = record {
  indices = same.over.indices ∙ is.indices;
  free_from = same.over.free_from ∙ is.free_from;
  sizes = same.sizes ∙ is.sizes;
}

pub question_again : {P : Type 0} (meanings : P → Meanings) (p q : P) (region now : List (List Bool)) (before after : Question) → q ≡ p → now ≡ region → MayBePutAgain before after →
    IsQuestionFor (meanings p) region before → IsQuestionFor (meanings q) now after
question_again meanings p q region now before after same here again is =
    subst (λ problem. IsQuestionFor (meanings problem) now after) (sym same) (subst (λ sets. IsQuestionFor (meanings p) sets after) (sym here) (question_after (meanings p) region before after again is))

-- and again
pub question_then : (first second third : Question) → MayBePutAgain first second → MayBePutAgain second third → MayBePutAgain first third
question_then first second third one two = record {
  round = two.round ∙ one.round;
  sizes = two.sizes ∙ one.sizes;
  over = record { indices = two.over.indices ∙ one.over.indices; free_from = two.over.free_from ∙ one.over.free_from };
}

module _ {A : Type 0} (has_quit : A → Bool) (has_answered : CallTest A) (problem : Meanings) where
  -- an advisor that is not to be asked is passed over
  pub passed : (round place : ℕ) (state : AdviceState A) → (IsToBeAsked has_quit place state → ⊥) → WasAskedIfDue has_quit has_answered problem round place state state
  passed round place state not = record { asked = λ is. absurd (not is); left = λ is_not. refl }

  -- one that is to be asked was asked
  pub asked_if_due : (round place : ℕ) (before after : AdviceState A) → IsToBeAsked has_quit place before → WasAsked has_quit has_answered problem round place before after →
      WasAskedIfDue has_quit has_answered problem round place before after
  asked_if_due round place before after is was = record { asked = λ again. was; left = λ is_not. absurd (is_not is) }

  -- the advisors at the places up to the next one, as a loop counts them
  pub asked_next : (round place : ℕ) (before middle after : AdviceState A) → WereAskedInOrder has_quit has_answered problem round place before middle → WasAskedIfDue has_quit has_answered problem round place middle after →
      WereAskedInOrder has_quit has_answered problem round (place + 1) before after
  asked_next round place before middle after so_far next = subst (λ (n : ℕ). WereAskedInOrder has_quit has_answered problem round n before after) (sym (add-one place)) (middle, so_far, next)

  -- the rounds up to the next one
  pub rounds_next : (round : ℕ) (before middle after : AdviceState A) → AreRounds has_quit has_answered problem round before middle →
      WereAskedInOrder has_quit has_answered problem round (length middle.advisors) middle after → AreRounds has_quit has_answered problem (round + 1) before after
  rounds_next round before middle after so_far next = subst (λ (n : ℕ). AreRounds has_quit has_answered problem n before after) (sym (add-one round)) (middle, so_far, next)

  -- no advisor is to be asked about a node that is not open
  pub closed : (place : ℕ) (state : AdviceState A) → is_open_work state.best state.work ≡ false → IsToBeAsked has_quit place state → ⊥
  closed place state shut is = both_ways (is_open_work state.best state.work) shut is.left_open

  -- a node that is not open stays as it is to the end of a round
  pub asked_to : (round few many : ℕ) (before after : AdviceState A) → few ≤ many → is_open_work after.best after.work ≡ false → WereAskedInOrder has_quit has_answered problem round few before after →
      WereAskedInOrder has_quit has_answered problem round many before after
  asked_to round few zero before after less shut so_far =
      let none : few ≡ 0 = omega (arith, less) in subst (λ (n : ℕ). WereAskedInOrder has_quit has_answered problem round n before after) none so_far
  asked_to round few (suc many) before after less shut so_far = elim (at_most few many less) as (λ _. WereAskedInOrder has_quit has_answered problem round (suc many) before after) [
    | inl less ↦ (after, asked_to round few many before after less shut so_far, passed round many after (closed many after shut))
    | inr same ↦ subst (λ (n : ℕ). WereAskedInOrder has_quit has_answered problem round n before after) same so_far
  ]

  -- and to the end of the rounds
  pub rounds_to : (few many : ℕ) (before after : AdviceState A) → few ≤ many → is_open_work after.best after.work ≡ false → AreRounds has_quit has_answered problem few before after →
      AreRounds has_quit has_answered problem many before after
  rounds_to few zero before after less shut so_far =
      let none : few ≡ 0 = omega (arith, less) in subst (λ (n : ℕ). AreRounds has_quit has_answered problem n before after) none so_far
  rounds_to few (suc many) before after less shut so_far = elim (at_most few many less) as (λ _. AreRounds has_quit has_answered problem (suc many) before after) [
    | inl less ↦ (after, rounds_to few many before after less shut so_far, asked_to many 0 (length after.advisors) after after (omega arith) shut refl)
    | inr same ↦ subst (λ (n : ℕ). AreRounds has_quit has_answered problem n before after) same so_far
  ]

  -- before the first round
  pub no_rounds : (advisors : List A) (enough flags : List Bool) (best : Option CostedPicks) (work : Work) → enough ≡ flags →
      AreRounds has_quit has_answered problem 0 (record { advisors = advisors; enough = flags; best = best; work = work }) (record { advisors = advisors; enough = enough; best = best; work = work })
  no_rounds advisors enough flags best work same =
      subst (λ (list : List Bool). AreRounds has_quit has_answered problem 0 (record { advisors = advisors; enough = list; best = best; work = work }) (record { advisors = advisors; enough = enough; best = best; work = work })) same refl
