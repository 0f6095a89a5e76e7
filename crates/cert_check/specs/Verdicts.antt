-- The verdict on a claim.
use Rattle.std.specs.Prelude.{List, Bool}
use Rattle.branch_tree.specs.declared.claims.Claim.{Claim}
use Rattle.branch_tree.specs.Claims.{IsProvedClaim}
use Rattle.branch_tree.specs.Meanings.{Meanings}
use Rattle.cert_check.specs.declared.verdict.Verdict.{Verdict}
use Rattle.cert_check.specs.declared.verdict.Verdict.TheVariants.{Valid, Invalid}
use Rattle.cert_check.specs.Reasons.{claim_tests}
use Rattle.cert_check.specs.Tests.{NoneFails, FirstFails}

-- The verdict is right: the claim's tree proves it and no test is failed; or it does not, for the reason of the first
-- test that is failed.
abbrev pub IsVerdict : Meanings → List (List Bool) → Claim → Verdict → Type 0
IsVerdict problem root claim Valid = IsProvedClaim problem root claim × NoneFails (claim_tests problem root claim)
IsVerdict problem root claim (Invalid reason) =
    (¬ IsProvedClaim problem root claim) × FirstFails (claim_tests problem root claim) reason
