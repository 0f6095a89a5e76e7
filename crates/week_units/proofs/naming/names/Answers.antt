use Rattle.std.proofs.Common.{◌≡◌, ℕ, ◌+◌, List, arith, drop, subst, sym}
use Rattle.rules.specs.declared.records.Unit as unit
use Rattle.timetable.specs.Day.{stock_units}
use Rattle.timetable.specs.Renumbering.{standing_at}
use Rattle.inventory.specs.ServingLaws.{units_after}
use Rattle.week_units.specs.Listed.{AreAlike, units_listed}
use Rattle.week_units.specs.Names.{AreNames, by_name}
use Rattle.week_units.proofs.NamedDays.{NamedSoFar, all_named, begins_at, begun, one_more, opened, runs_at}
use Rattle.week_units.proofs.naming.names.Goals as goal

pub loop-day-init : goal.loop-day-init
loop-day-init c =
    let days = c.args.days.now in
    let plans = c.args.plans.now in
    let units = c.in_ok-units.units.items in
    subst (NamedSoFar days plans (units_listed units) days plans) (sym c.new-named.ensures.items)
    (begun days plans units c.index-days-0.result (omega arith) c.index-days-0.is c.in_ok-units.ensures
    c.requires.week c.requires.plans)

pub names_on-requires-clause-as_many : goal.names_on-requires-clause-as_many
names_on-requires-clause-as_many c =
    let day = c.index-days-day.result in
    subst (λ (us : List unit.Unit). (s m : ℕ) → standing_at (stock_units day) s m ≡ standing_at (units_listed us) s m)
    (sym c.deref.ensures.value)
    (begins_at c.args.days.now c.args.plans.now (units_listed c.loop-day.units.items) c.loop-day.day day
    c.loop-day.named.items c.loop-day-test.true c.index-days-day.is c.loop-day.invariant).as_many

pub units_after-requires-clause-plan : goal.units_after-requires-clause-plan
units_after-requires-clause-plan c =
    (runs_at c.args.days.now c.args.plans.now c.loop-day.day c.index-days-day.result c.index-plans-day.result
    c.requires.plans c.loop-day-test.true c.index-days-day.is c.index-plans-day.is).is_plan

pub loop-day-preserved : goal.loop-day-preserved
loop-day-preserved c =
    let days = c.args.days.now in
    let plans = c.args.plans.now in
    let k = c.loop-day.day in
    let day = c.index-days-day.result in
    let plan = c.index-plans-day.result in
    let units = units_listed c.loop-day.units.items in
    let after = units_listed c.in_ok-units-2.units.items in
    let numbers = c.in_ok-numbers.numbers.items in
    let are : AreNames units day numbers =
    subst (λ (us : List unit.Unit). AreNames (units_listed us) day numbers) c.deref.ensures.value
    c.in_ok-numbers.ensures in
    let by_numbers : AreAlike after (units_after (units_listed c.deref-in-loop-day.result.now) day (by_name numbers plan)) =
    subst (λ (ns : List ℕ). AreAlike after (units_after (units_listed c.deref-in-loop-day.result.now) day (by_name ns plan)))
    c.deref-in-loop-day-2.ensures.value c.in_ok-units-2.ensures in
    let alike : AreAlike after (units_after units day (by_name numbers plan)) =
    subst (λ (us : List unit.Unit). AreAlike after (units_after (units_listed us) day (by_name numbers plan)))
    c.deref-in-loop-day.ensures.value by_numbers in
    subst (NamedSoFar days plans after (drop (k + 1) days) (drop (k + 1) plans)) (sym c.in_ok-push.ensures.items)
    (one_more days plans units after day (drop (k + 1) days) plan (drop (k + 1) plans) c.loop-day.named.items numbers
    (opened days plans units k day plan c.loop-day.named.items c.requires.plans c.loop-day-test.true
    c.index-days-day.is c.index-plans-day.is c.loop-day.invariant) are alike)

pub returns : goal.returns
returns c =
    all_named c.args.days.now c.args.plans.now (units_listed c.loop-day.units.items) c.loop-day.day
    c.loop-day.named.items (omega arith) c.loop-day.invariant
