use Rattle.std.proofs.Common.{rules, refl}
use Rattle.desk_commands.specs.declared.command.Command.TheVariants as command
use Rattle.desk_commands.proofs.OneCommand.{nodes_within, replan_change_within, replan_nodes_within, replan_rounds_within, rounds_within}
use Rattle.desk_commands.proofs.OneCommand.{fleet_nodes_within, fleet_rounds_within, fleet_splits_within}
use Rattle.desk_commands.proofs.OneCommand.{week_days_within, week_nodes_within, week_rounds_within}
use Rattle.desk_app.specs.Outcomes.{InVain, OfCommand}
use Rattle.desk_app.proofs.PlannedDays.{asked_for, leaves, left_alone}
use Rattle.desk_app.proofs.PlannedWeeks.{none_asked_in_no_rounds}
use Rattle.desk_app.proofs.SwappedUnits.{swapped_there}
use Rattle.desk_app.proofs.run.outcome_of.Goals as goal

pub planned-requires-clause-nodes : goal.planned-requires-clause-nodes
planned-requires-clause-nodes g c =
    nodes_within c.args.words.now c.in-Ok-Plan.planning (c.in-Ok-Plan.ensures.understood (command.Plan c.in-Ok-Plan.planning) (search rules))

pub planned-requires-clause-rounds : goal.planned-requires-clause-rounds
planned-requires-clause-rounds g c =
    rounds_within c.args.words.now c.in-Ok-Plan.planning (c.in-Ok-Plan.ensures.understood (command.Plan c.in-Ok-Plan.planning) (search rules))

pub returns-in-Ok-Plan-clause-outcome : goal.returns-in-Ok-Plan-clause-outcome
returns-in-Ok-Plan-clause-outcome g c =
    OfCommand (command.Plan c.in-Ok-Plan.planning) (c.in-Ok-Plan.ensures.understood (command.Plan c.in-Ok-Plan.planning) (search rules))
    c.planned.ensures.outcome

pub returns-in-Ok-Plan-clause-untouched : goal.returns-in-Ok-Plan-clause-untouched
returns-in-Ok-Plan-clause-untouched g c vain =
    absurd (vain (command.Plan c.in-Ok-Plan.planning) (c.in-Ok-Plan.ensures.understood (command.Plan c.in-Ok-Plan.planning) (search rules)))

pub returns-in-Ok-Urgent-clause-outcome : goal.returns-in-Ok-Urgent-clause-outcome
returns-in-Ok-Urgent-clause-outcome g c =
    OfCommand (command.Urgent c.in-Ok-Urgent.swapping) (c.in-Ok-Urgent.ensures.understood (command.Urgent c.in-Ok-Urgent.swapping) (search rules))
    (swapped_there _ _ _ _ _ c.as_str.ensures c.swapped.ensures.outcome)

pub returns-in-Ok-Urgent-clause-advisors : goal.returns-in-Ok-Urgent-clause-advisors
returns-in-Ok-Urgent-clause-advisors g c = left_alone _ _ _ c.args.words.now c.args.advisors.now.items

pub returns-in-Ok-Urgent-clause-untouched : goal.returns-in-Ok-Urgent-clause-untouched
returns-in-Ok-Urgent-clause-untouched g c vain =
    absurd (vain (command.Urgent c.in-Ok-Urgent.swapping) (c.in-Ok-Urgent.ensures.understood (command.Urgent c.in-Ok-Urgent.swapping) (search rules)))

pub returns-in-Err-NotUnderstood-clause-outcome : goal.returns-in-Err-NotUnderstood-clause-outcome
returns-in-Err-NotUnderstood-clause-outcome g c = InVain (c.in-Err-NotUnderstood.ensures.refused (search rules)) refl

pub returns-in-Err-NotUnderstood-clause-advisors : goal.returns-in-Err-NotUnderstood-clause-advisors
returns-in-Err-NotUnderstood-clause-advisors g c = left_alone _ _ _ c.args.words.now c.args.advisors.now.items

pub returns-in-Err-NoMemory-clause-advisors : goal.returns-in-Err-NoMemory-clause-advisors
returns-in-Err-NoMemory-clause-advisors g c = left_alone _ _ _ c.args.words.now c.args.advisors.now.items

pub replanned-requires-clause-nodes : goal.replanned-requires-clause-nodes
replanned-requires-clause-nodes g c = replan_nodes_within c.args.words.now c.in-Ok-Replan.replanning (c.in-Ok-Replan.ensures.understood (command.Replan c.in-Ok-Replan.replanning) (search rules))

pub replanned-requires-clause-rounds : goal.replanned-requires-clause-rounds
replanned-requires-clause-rounds g c = replan_rounds_within c.args.words.now c.in-Ok-Replan.replanning (c.in-Ok-Replan.ensures.understood (command.Replan c.in-Ok-Replan.replanning) (search rules))

pub replanned-requires-clause-change : goal.replanned-requires-clause-change
replanned-requires-clause-change g c = replan_change_within c.args.words.now c.in-Ok-Replan.replanning (c.in-Ok-Replan.ensures.understood (command.Replan c.in-Ok-Replan.replanning) (search rules))

pub returns-in-Ok-Replan-clause-outcome : goal.returns-in-Ok-Replan-clause-outcome
returns-in-Ok-Replan-clause-outcome g c =
    OfCommand (command.Replan c.in-Ok-Replan.replanning) (c.in-Ok-Replan.ensures.understood (command.Replan c.in-Ok-Replan.replanning) (search rules)) c.replanned.ensures.outcome

pub returns-in-Ok-Replan-clause-untouched : goal.returns-in-Ok-Replan-clause-untouched
returns-in-Ok-Replan-clause-untouched g c vain = absurd (vain (command.Replan c.in-Ok-Replan.replanning) (c.in-Ok-Replan.ensures.understood (command.Replan c.in-Ok-Replan.replanning) (search rules)))

pub returns-in-Ok-Plan-clause-advisors : goal.returns-in-Ok-Plan-clause-advisors
returns-in-Ok-Plan-clause-advisors g c =
    leaves _ _ _ c.args.words.now (command.Plan c.in-Ok-Plan.planning) (c.in-Ok-Plan.ensures.understood (command.Plan c.in-Ok-Plan.planning) (search rules)) _ _ refl
    c.planned.ensures.advisors c.planned.ensures.asked

pub returns-in-Ok-Plan-clause-asked_for : goal.returns-in-Ok-Plan-clause-asked_for
returns-in-Ok-Plan-clause-asked_for g c named given =
    asked_for _ _ c.args.words.now (command.Plan c.in-Ok-Plan.planning) named (c.in-Ok-Plan.ensures.understood (command.Plan c.in-Ok-Plan.planning) (search rules)) given _ _ _ c.planned.ensures.asked_for

pub returns-in-Ok-Replan-clause-advisors : goal.returns-in-Ok-Replan-clause-advisors
returns-in-Ok-Replan-clause-advisors g c =
    leaves _ _ _ c.args.words.now (command.Replan c.in-Ok-Replan.replanning) (c.in-Ok-Replan.ensures.understood (command.Replan c.in-Ok-Replan.replanning) (search rules)) _ _ refl
    c.replanned.ensures.advisors c.replanned.ensures.asked

pub returns-in-Ok-Replan-clause-asked_for : goal.returns-in-Ok-Replan-clause-asked_for
returns-in-Ok-Replan-clause-asked_for g c named given =
    asked_for _ _ c.args.words.now (command.Replan c.in-Ok-Replan.replanning) named (c.in-Ok-Replan.ensures.understood (command.Replan c.in-Ok-Replan.replanning) (search rules)) given _ _ _ c.replanned.ensures.asked_for

pub returns-in-Ok-Week-clause-advisors : goal.returns-in-Ok-Week-clause-advisors
returns-in-Ok-Week-clause-advisors g c =
    leaves _ _ _ c.args.words.now (command.Week c.in-Ok-Week.planning) (c.in-Ok-Week.ensures.understood (command.Week c.in-Ok-Week.planning) (search rules)) _ _ refl
    c.planned_week.ensures.advisors c.planned_week.ensures.asked

pub returns-in-Ok-Week-clause-asked_for : goal.returns-in-Ok-Week-clause-asked_for
returns-in-Ok-Week-clause-asked_for g c named given =
    asked_for _ _ c.args.words.now (command.Week c.in-Ok-Week.planning) named (c.in-Ok-Week.ensures.understood (command.Week c.in-Ok-Week.planning) (search rules)) given _ _ _ c.planned_week.ensures.asked_for

pub returns-in-Ok-Urgent-clause-asked_for : goal.returns-in-Ok-Urgent-clause-asked_for
returns-in-Ok-Urgent-clause-asked_for g c named given =
    asked_for _ _ c.args.words.now (command.Urgent c.in-Ok-Urgent.swapping) named (c.in-Ok-Urgent.ensures.understood (command.Urgent c.in-Ok-Urgent.swapping) (search rules)) given _ _ _
    (none_asked_in_no_rounds _ _ c.args.advisors.now.items _)

pub planned_week-requires-clause-days : goal.planned_week-requires-clause-days
planned_week-requires-clause-days g c = week_days_within c.args.words.now c.in-Ok-Week.planning (c.in-Ok-Week.ensures.understood (command.Week c.in-Ok-Week.planning) (search rules))

pub planned_week-requires-clause-nodes : goal.planned_week-requires-clause-nodes
planned_week-requires-clause-nodes g c = week_nodes_within c.args.words.now c.in-Ok-Week.planning (c.in-Ok-Week.ensures.understood (command.Week c.in-Ok-Week.planning) (search rules))

pub planned_week-requires-clause-rounds : goal.planned_week-requires-clause-rounds
planned_week-requires-clause-rounds g c = week_rounds_within c.args.words.now c.in-Ok-Week.planning (c.in-Ok-Week.ensures.understood (command.Week c.in-Ok-Week.planning) (search rules))

pub returns-in-Ok-Week-clause-outcome : goal.returns-in-Ok-Week-clause-outcome
returns-in-Ok-Week-clause-outcome g c =
    OfCommand (command.Week c.in-Ok-Week.planning) (c.in-Ok-Week.ensures.understood (command.Week c.in-Ok-Week.planning) (search rules)) c.planned_week.ensures.outcome

pub returns-in-Ok-Week-clause-untouched : goal.returns-in-Ok-Week-clause-untouched
returns-in-Ok-Week-clause-untouched g c vain = absurd (vain (command.Week c.in-Ok-Week.planning) (c.in-Ok-Week.ensures.understood (command.Week c.in-Ok-Week.planning) (search rules)))

pub found_fleet-requires-clause-nodes : goal.found_fleet-requires-clause-nodes
found_fleet-requires-clause-nodes g c = fleet_nodes_within c.args.words.now c.in-Ok-Fleet.planning (c.in-Ok-Fleet.ensures.understood (command.Fleet c.in-Ok-Fleet.planning) (search rules))

pub found_fleet-requires-clause-rounds : goal.found_fleet-requires-clause-rounds
found_fleet-requires-clause-rounds g c = fleet_rounds_within c.args.words.now c.in-Ok-Fleet.planning (c.in-Ok-Fleet.ensures.understood (command.Fleet c.in-Ok-Fleet.planning) (search rules))

pub found_fleet-requires-clause-splits : goal.found_fleet-requires-clause-splits
found_fleet-requires-clause-splits g c = fleet_splits_within c.args.words.now c.in-Ok-Fleet.planning (c.in-Ok-Fleet.ensures.understood (command.Fleet c.in-Ok-Fleet.planning) (search rules))

pub returns-in-Ok-Fleet-clause-outcome : goal.returns-in-Ok-Fleet-clause-outcome
returns-in-Ok-Fleet-clause-outcome g c =
    OfCommand (command.Fleet c.in-Ok-Fleet.planning) (c.in-Ok-Fleet.ensures.understood (command.Fleet c.in-Ok-Fleet.planning) (search rules)) c.found_fleet.ensures.outcome

pub returns-in-Ok-Fleet-clause-untouched : goal.returns-in-Ok-Fleet-clause-untouched
returns-in-Ok-Fleet-clause-untouched g c vain = absurd (vain (command.Fleet c.in-Ok-Fleet.planning) (c.in-Ok-Fleet.ensures.understood (command.Fleet c.in-Ok-Fleet.planning) (search rules)))

pub returns-in-Ok-Fleet-clause-advisors : goal.returns-in-Ok-Fleet-clause-advisors
returns-in-Ok-Fleet-clause-advisors g c =
    leaves _ _ _ c.args.words.now (command.Fleet c.in-Ok-Fleet.planning) (c.in-Ok-Fleet.ensures.understood (command.Fleet c.in-Ok-Fleet.planning) (search rules)) _ _ refl
    c.found_fleet.ensures.advisors c.found_fleet.ensures.asked

pub returns-in-Ok-Fleet-clause-asked_for : goal.returns-in-Ok-Fleet-clause-asked_for
returns-in-Ok-Fleet-clause-asked_for g c named given =
    asked_for _ _ c.args.words.now (command.Fleet c.in-Ok-Fleet.planning) named (c.in-Ok-Fleet.ensures.understood (command.Fleet c.in-Ok-Fleet.planning) (search rules)) given _ _ _ c.found_fleet.ensures.asked_for
