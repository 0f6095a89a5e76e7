use Rattle.std.proofs.Common.{subst}
use Rattle.fleet_check.specs.declared.verdict.Stop.{Stop}
use Rattle.fleet_check.specs.Tests.{StopsAt}
use Rattle.fleet_check.specs.Verdicts.{fleet_tests}
use Rattle.fleet_check.proofs.Passing.{not_valid, says_failed, says_valid}
use Rattle.fleet_check.proofs.Truth.{valid_is_true}
use Rattle.fleet_check.proofs.checking.check_fleet.Goals as goal

pub returns-in-Ok-clause-verdict : goal.returns-in-Ok-clause-verdict
returns-in-Ok-clause-verdict c = says_valid c.args.tables.now.instance.now c.args.prices.now c.args.fleet.now c.in-Ok.ensures.valid

pub returns-in-Ok-clause-holds : goal.returns-in-Ok-clause-holds
returns-in-Ok-clause-holds c same =
    valid_is_true c.args.tables.now.instance.now c.args.prices.now c.args.fleet.now c.is_sound.ensures c.in-Ok.ensures.valid

pub returns-in-Err-Found-clause-verdict : goal.returns-in-Err-Found-clause-verdict
returns-in-Err-Found-clause-verdict c =
    says_failed c.args.tables.now.instance.now c.args.prices.now c.args.fleet.now c.in-Err-Found.verdict
    (subst (λ (stop : Stop). StopsAt (fleet_tests c.args.tables.now.instance.now c.args.prices.now c.args.fleet.now) stop) c.in-Err-Found.field-0-is c.in-Err-Found.ensures.stops)

pub returns-in-Err-Found-clause-holds : goal.returns-in-Err-Found-clause-holds
returns-in-Err-Found-clause-holds c same =
    absurd (not_valid c.args.tables.now.instance.now c.args.prices.now c.args.fleet.now c.in-Err-Found.verdict
    (subst (λ (stop : Stop). StopsAt (fleet_tests c.args.tables.now.instance.now c.args.prices.now c.args.fleet.now) stop) c.in-Err-Found.field-0-is c.in-Err-Found.ensures.stops)
    same)
