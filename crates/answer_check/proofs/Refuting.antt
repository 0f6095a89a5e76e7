-- A verdict other than `Valid` comes where an answer is not valid.
use Rattle.std.proofs.Common.{◌≡◌, ◌≢◌, ℕ, ◌⊎◌, inl, inr, List, refl, sym, ◌∙◌, subst}
use Rattle.timetable.specs.Day.{Day}
use Rattle.branch_tree.specs.Claims.{Conclusion, IsProved, IsProvedClaim, said_by}
use Rattle.branch_tree.specs.declared.tree.Node.{Node}
use Rattle.branch_tree.specs.Regions.{root_of}
use Rattle.cert_check.specs.declared.verdict.Reason.{Reason}
use Rattle.price_bound.specs.DayMeanings.{meanings_of}
use Rattle.answer_text.specs.declared.answer.Answer.{Answer}
use Rattle.answer_check.specs.declared.checking.AnswerVerdict.{AnswerVerdict}
use Rattle.answer_check.specs.declared.checking.AnswerVerdict.TheVariants.{Valid, RunsDiffer, UnknownUnit, Stops, Claim}
use Rattle.answer_check.specs.Laws.{ValidAnswersAreFound}
use Rattle.answer_check.specs.Validity.{IsValid, conclusion_of}
use Rattle.answer_check.specs.Verdicts.{IsAnswerVerdict, IsRefuted}
use Rattle.answer_check.proofs.OnePicks.{one_conclusion}

refuted : (day : Day) (answer : Answer) (reason : Reason) → IsRefuted day answer reason → IsValid day answer → ⊥
refuted day answer reason against valid =
    let concludes : conclusion_of answer.head valid.picks ≡ said_by against.claim.head =
    one_conclusion day answer valid.picks against.is_claim.picks valid.planned against.is_claim.planned ∙ sym against.is_claim.head in
    let of_claim : IsProvedClaim (meanings_of day) (root_of day) against.claim =
    subst (λ (c : Conclusion). IsProved (meanings_of day) (root_of day) c against.claim.branchings against.claim.tree.now) concludes
    (subst (λ (n : ℕ). IsProved (meanings_of day) (root_of day) (conclusion_of answer.head valid.picks) n against.claim.tree.now)
    (sym against.is_claim.branchings)
    (subst (λ (nodes : List Node). IsProved (meanings_of day) (root_of day) (conclusion_of answer.head valid.picks) answer.branchings nodes)
    (sym against.is_claim.tree) valid.proved)) in
    against.verdict.0 of_claim

-- the verdict is `Valid` where the answer is valid, and another where it is not
pub valid_or_not : (day : Day) (answer : Answer) (verdict : AnswerVerdict) → IsAnswerVerdict day answer verdict
    → ((verdict ≡ Valid) × IsValid day answer) ⊎ ((verdict ≢ Valid) × ¬ IsValid day answer)
valid_or_not day answer Valid valid = inl (refl, valid)
valid_or_not day answer (RunsDiffer said found) wrong = inr (
  (λ e. absurd cc),
  λ valid. wrong.1.differ (wrong.1.said_is ∙ (valid.planned wrong.0).runs.is_plan.trips ∙ sym wrong.1.found_is),
)
valid_or_not day answer (UnknownUnit trip) wrong =
    inr ((λ e. absurd cc), λ valid. wrong.2.unknown ((valid.planned wrong.0).runs.is_plan.units trip))
valid_or_not day answer (Stops fault) wrong = inr ((λ e. absurd cc), λ valid. wrong.1.stops (valid.planned wrong.0).runs)
valid_or_not day answer (Claim reason) wrong = inr ((λ e. absurd cc), refuted day answer reason wrong)

-- of a valid answer no other verdict is right
pub only_valid : ValidAnswersAreFound
only_valid day answer valid verdict right = elim (valid_or_not day answer verdict right) [
  | inl both ↦ both.0
  | inr both ↦ absurd (both.1 valid)
]
