-- The verdict of the checker on the claim of an answer, as the verdict on that answer.
use Rattle.std.proofs.Common.{◌≡◌, ℕ, List, subst}
use Rattle.timetable.specs.Accepted.{IsSoundDay}
use Rattle.timetable.specs.Day.{Day}
use Rattle.branch_tree.specs.declared.claims.Claim.{Claim}
use Rattle.branch_tree.specs.declared.tree.Node.{Node}
use Rattle.branch_tree.specs.Claims.{Conclusion, IsConcluded, IsProved, said_by}
use Rattle.branch_tree.specs.Regions.{root_of}
use Rattle.cert_check.specs.declared.verdict.Reason.{Reason}
use Rattle.cert_check.specs.declared.verdict.Verdict.TheVariants.{Invalid, Valid}
use Rattle.cert_check.specs.Verdicts.{IsVerdict}
use Rattle.price_bound.specs.DayMeanings.{meanings_of}
use Rattle.answer_text.specs.declared.answer.Answer.{Answer}
use Rattle.answer_check.specs.Headline.{IsTrueOf}
use Rattle.answer_check.specs.Validity.{HasPicks, IsValid, conclusion_of}
use Rattle.answer_check.specs.Verdicts.{IsRefuted}
use Rattle.answer_check.proofs.Truth.{holds}

module _ (day : Day) (answer : Answer) (picks : List ℕ) (claim : Claim) (planned : HasPicks day answer.head answer.runs picks)
    (head : said_by claim.head ≡ conclusion_of answer.head picks) (branchings : claim.branchings ≡ answer.branchings)
    (tree : claim.tree.now ≡ answer.tree) where
  pub says_valid : IsVerdict (meanings_of day) (root_of day) claim Valid → IsValid day answer
  says_valid verdict = record {
    picks = picks;
    planned = planned;
    proved = subst (λ (c : Conclusion). IsProved (meanings_of day) (root_of day) c answer.branchings answer.tree) head
        (subst (λ (n : ℕ). IsProved (meanings_of day) (root_of day) (said_by claim.head) n answer.tree) branchings
        (subst (λ (nodes : List Node). IsProved (meanings_of day) (root_of day) (said_by claim.head) claim.branchings nodes) tree
        verdict.0));
  }

  pub says_true : IsConcluded (meanings_of day) (root_of day) (said_by claim.head) → IsSoundDay day
      → IsTrueOf day answer.head answer.runs
  says_true concluded accepted =
      holds day accepted answer.runs picks answer.head planned
      (subst (λ (c : Conclusion). IsConcluded (meanings_of day) (root_of day) c) head concluded)

  pub says_refuted : (reason : Reason) → IsVerdict (meanings_of day) (root_of day) claim (Invalid reason) → IsRefuted day answer reason
  says_refuted reason verdict = record {
    claim = claim;
    is_claim = record { picks = picks; planned = planned; head = head; branchings = branchings; tree = tree };
    verdict = verdict;
  }
