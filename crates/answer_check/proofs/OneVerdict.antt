-- An answer has one verdict: each thing that may be wrong with it rules out the others, and is told in one way.
use Rattle.std.proofs.Common.{◌≡◌, ℕ, ◌<◌, List, length, inl, inr, sym, ◌∙◌, ap, subst, arith}
use Rattle.std.specs.Prelude.{Result, Err}
use Rattle.std.proofs.lemmas.Bool.{cases_lt}
use Rattle.timetable.specs.Day.{Day}
use Rattle.timetable.specs.Running.{Runs}
use Rattle.branch_tree.specs.Claims.{said_by}
use Rattle.branch_tree.specs.Regions.{root_of}
use Rattle.cert_check.specs.declared.verdict.Reason.{Reason}
use Rattle.cert_check.specs.declared.verdict.Verdict.TheVariants.{Invalid}
use Rattle.cert_check.specs.Reasons.{claim_tests}
use Rattle.cert_check.specs.Tests.{FirstFails, Test}
use Rattle.cert_check.proofs.Unique.{verdicts_are_one}
use Rattle.day_simulator.specs.declared.events.StepFault.{StepFault}
use Rattle.price_bound.specs.DayMeanings.{meanings_of}
use Rattle.answer_text.specs.declared.answer.Answer.{Answer}
use Rattle.answer_check.specs.declared.checking.AnswerVerdict.{AnswerVerdict}
use Rattle.answer_check.specs.declared.checking.AnswerVerdict.TheVariants.{Valid, RunsDiffer, UnknownUnit, Stops, Claim}
use Rattle.answer_check.specs.Laws.{AnswerVerdictsAreOne}
use Rattle.answer_check.specs.Verdicts.{DoRunsDiffer, DoRunsStop, HasPlan, IsAnswerVerdict, IsFirstUnknown, IsRefuted}
use Rattle.answer_check.proofs.OnePicks.{one_conclusion}
use Rattle.answer_check.proofs.Refuting.{only_valid}

module _ (day : Day) (answer : Answer) where
  -- where the tree was looked at, the plan runs
  runs_then : (reason : Reason) → IsRefuted day answer reason → HasPlan answer → Runs day answer.runs
  runs_then reason against has = (against.is_claim.planned has).runs

  -- the first trip with an unknown unit is one
  not_before : (trip other : ℕ) → trip < other → IsFirstUnknown day answer.runs trip → IsFirstUnknown day answer.runs other → ⊥
  not_before trip other below first second = first.unknown (second.before trip below)

  one_unknown : (trip other : ℕ) → IsFirstUnknown day answer.runs trip → IsFirstUnknown day answer.runs other → trip ≡ other
  one_unknown trip other first second = elim (cases_lt trip other) [
    | inl below ↦ absurd (not_before trip other below first second)
    | inr most ↦ elim (cases_lt other trip) [
      | inl below ↦ absurd (not_before other trip below second first)
      | inr least ↦ omega (arith, most, least)
    ]
  ]

  one_fault : (fault other : StepFault) → DoRunsStop day answer.runs fault → DoRunsStop day answer.runs other → fault ≡ other
  one_fault fault other first second =
      let both : ◌≡◌ {A = Result _ StepFault} (Err fault) (Err other) = sym first.fault_is ∙ second.fault_is in cc

  -- two claims of the answer say the same, so that one reason is the first of both
  one_reason : (reason other : Reason) → IsRefuted day answer reason → IsRefuted day answer other → reason ≡ other
  one_reason reason other first second =
      let said : said_by second.claim.head ≡ said_by first.claim.head =
      second.is_claim.head
      ∙ one_conclusion day answer second.is_claim.picks first.is_claim.picks second.is_claim.planned first.is_claim.planned
      ∙ sym first.is_claim.head in
      let branchings : second.claim.branchings ≡ first.claim.branchings =
      second.is_claim.branchings ∙ sym first.is_claim.branchings in
      let tree : second.claim.tree.now ≡ first.claim.tree.now = second.is_claim.tree ∙ sym first.is_claim.tree in
      let tests : claim_tests (meanings_of day) (root_of day) second.claim
      ≡ claim_tests (meanings_of day) (root_of day) first.claim = cc in
      let fails : FirstFails (claim_tests (meanings_of day) (root_of day) first.claim) other =
      subst (λ (ts : List Test). FirstFails ts other) tests second.verdict.1 in
      let same : Invalid reason ≡ Invalid other =
      verdicts_are_one (meanings_of day) (root_of day) first.claim (Invalid reason) (Invalid other) first.verdict
      (first.verdict.0, fails) in
      cc

  long_runs : (said found : ℕ) → DoRunsDiffer day answer.runs said found → length answer.runs ≡ length day.trips → ⊥
  long_runs said found wrong same = wrong.differ (wrong.said_is ∙ same ∙ sym wrong.found_is)

  one_count : (said found said' found' : ℕ) → DoRunsDiffer day answer.runs said found
      → DoRunsDiffer day answer.runs said' found' → RunsDiffer said found ≡ RunsDiffer said' found'
  one_count said found said' found' first second =
      let saids : said ≡ said' = first.said_is ∙ sym second.said_is in
      let founds : found ≡ found' = first.found_is ∙ sym second.found_is in
      ap (λ (n : ℕ). RunsDiffer n found) saids ∙ ap (λ (n : ℕ). RunsDiffer said' n) founds

  pub one_verdict : (one other : AnswerVerdict) → IsAnswerVerdict day answer one → IsAnswerVerdict day answer other → one ≡ other
  one_verdict Valid other valid right = sym (only_valid day answer valid other right)
  one_verdict one Valid right valid = only_valid day answer valid one right
  one_verdict (RunsDiffer said found) (RunsDiffer said' found') first second =
      one_count said found said' found' first.1 second.1
  one_verdict (RunsDiffer said found) (UnknownUnit trip) first second = absurd (long_runs said found first.1 second.1)
  one_verdict (RunsDiffer said found) (Stops fault) first second = absurd (long_runs said found first.1 second.1.plan.trips)
  one_verdict (RunsDiffer said found) (Claim reason) first second =
      absurd (long_runs said found first.1 (runs_then reason second first.0).is_plan.trips)
  one_verdict (UnknownUnit trip) (RunsDiffer said found) first second = absurd (long_runs said found second.1 first.1)
  one_verdict (UnknownUnit trip) (UnknownUnit other) first second = ap UnknownUnit (one_unknown trip other first.2 second.2)
  one_verdict (UnknownUnit trip) (Stops fault) first second = absurd (first.2.unknown (second.1.plan.units trip))
  one_verdict (UnknownUnit trip) (Claim reason) first second =
      absurd (first.2.unknown ((runs_then reason second first.0).is_plan.units trip))
  one_verdict (Stops fault) (RunsDiffer said found) first second = absurd (long_runs said found second.1 first.1.plan.trips)
  one_verdict (Stops fault) (UnknownUnit trip) first second = absurd (second.2.unknown (first.1.plan.units trip))
  one_verdict (Stops fault) (Stops other) first second = ap Stops (one_fault fault other first.1 second.1)
  one_verdict (Stops fault) (Claim reason) first second = absurd (first.1.stops (runs_then reason second first.0))
  one_verdict (Claim reason) (RunsDiffer said found) first second =
      absurd (long_runs said found second.1 (runs_then reason first second.0).is_plan.trips)
  one_verdict (Claim reason) (UnknownUnit trip) first second =
      absurd (second.2.unknown ((runs_then reason first second.0).is_plan.units trip))
  one_verdict (Claim reason) (Stops fault) first second = absurd (second.1.stops (runs_then reason first second.0))
  one_verdict (Claim reason) (Claim other) first second = ap Claim (one_reason reason other first second)

pub answer_verdicts_are_one : AnswerVerdictsAreOne
answer_verdicts_are_one day answer = one_verdict day answer
