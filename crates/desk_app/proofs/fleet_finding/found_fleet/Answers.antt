use Rattle.std.proofs.Common.{◌+◌, ◌*◌, rules}
use Rattle.search.proofs.Asking.{are_unasked}
use Rattle.desk_app.proofs.FoundFleets.{day_read, no_day_for_fleet}
use Rattle.desk_app.proofs.PlannedDays.{none_asked_for}
use Rattle.desk_app.proofs.fleet_finding.found_fleet.Goals as goal

pub returns-in-Ok-clause-outcome : goal.returns-in-Ok-clause-outcome
returns-in-Ok-clause-outcome g c =
    day_read c.args.planning.now c.as_str.result.now c.as_str.ensures _ _ _ c.in-Ok.read.instance _ c.in-Ok.ensures.made
    c.in-Ok.ensures.told c.in-Ok.ensures.only_reads c.found_as_priced.ensures.outcome

pub returns-in-Err-clause-outcome : goal.returns-in-Err-clause-outcome
returns-in-Err-clause-outcome g c =
    no_day_for_fleet c.args.planning.now c.as_str.result.now c.as_str.ensures _ _ c.in-Err.error _ (search rules)
    c.in-Err.ensures.told c.in-Err.ensures.says c.in-Err.ensures.caused

pub returns-in-Err-clause-asked : goal.returns-in-Err-clause-asked
returns-in-Err-clause-asked g c =
    are_unasked _ _ ((c.args.planning.now.splits + 1) * (c.args.planning.now.rounds * (2 * c.args.planning.now.nodes + 1))) c.args.advisors.now.items

pub returns-in-Err-clause-asked_for : goal.returns-in-Err-clause-asked_for
returns-in-Err-clause-asked_for g c =
    none_asked_for _ _ c.args.planning.now.rounds c.in-Err.error _ c.args.advisors.now.items (search rules)
