-- What holds of verdicts: that a claim has one.
use Rattle.std.specs.Prelude.{◌≡◌, List, Bool}
use Rattle.branch_tree.specs.declared.claims.Claim.{Claim}
use Rattle.branch_tree.specs.Meanings.{Meanings}
use Rattle.cert_check.specs.declared.verdict.Verdict.{Verdict}
use Rattle.cert_check.specs.Verdicts.{IsVerdict}

-- A claim has one verdict, and so one first reason.
abbrev pub VerdictsAreOne : Meanings → Type 0
VerdictsAreOne problem = (root : List (List Bool)) (claim : Claim) (one other : Verdict) →
    IsVerdict problem root claim one → IsVerdict problem root claim other → one ≡ other
