-- Plans of the days are week plans by name, and week plans are plans of the days.
use Rattle.std.proofs.Common.{◌≡◌, ℕ, ◌+◌, List, [], ◌∷◌, All, refl, sym, ap, ◌∙◌}
use Rattle.std.specs.List.{AllZip}
use Rattle.std.proofs.lemmas.List.Elements.{All-head, All-tail}
use Rattle.std.specs.Prelude.{⊤}
use Rattle.timetable.specs.Accepted.{IsSoundDay}
use Rattle.timetable.specs.Cost.{plan_cost, plan_cost_of}
use Rattle.timetable.specs.Day.{Day, Units, stock_units}
use Rattle.timetable.specs.Renumbering.{IsRenumbering, RunsAlike, kth_number, renumbered}
use Rattle.timetable.specs.Running.{Runs, RunsOf}
use Rattle.timetable.proofs.KthUnits.{kth_units_are_renumbered}
use Rattle.timetable.proofs.Renumbered.{renumbered_plans_run}
use Rattle.inventory.specs.ServingLaws.{units_after}
use Rattle.week_units.specs.Laws.{HasDayPlan, NamedPlansMakeWeeks, WeeksMakeDayPlans, cost_of_days}
use Rattle.week_units.specs.Names.{AreNamesDayByDay, by_name, each_by_name, name_in}
use Rattle.week_units.specs.WeekPlans.{RunDayByDay, cost_day_by_day}
use Rattle.week_units.specs.Weeks.{EachGoesOn}
use Rattle.week_units.proofs.Beginning.{BeginWith, first_begins, rest_begins}

-- the days from some day on go on, one after another
abbrev pub GoOn : Day → List Day → Type 0
GoOn first [] = ⊤
GoOn first (day ∷ days) = All IsSoundDay days × EachGoesOn first day days

pub goes_on_after : (first day : Day) (days : List Day) → All IsSoundDay days → EachGoesOn first day days → GoOn first days
goes_on_after first day [] sound each = tt
goes_on_after first day (next ∷ days) sound each = (All-tail IsSoundDay next days sound, each.1)

-- ---- from the days to the week

pub record RunSo (units : Units) (days : List Day) (plans : List (List (List ℕ))) (names : List (List ℕ)) : Type 0 where
  pub runs : RunDayByDay units days (each_by_name names plans)
  pub cost : cost_day_by_day units days (each_by_name names plans) ≡ cost_of_days days plans

same_types_later : (units : Units) (day : Day) (plan : List (List ℕ)) (days : List Day) (plans : List (List (List ℕ))) → cost_day_by_day (units_after units day plan) days plans ≡ cost_day_by_day units days plans
same_types_later units day plan [] plans = refl
same_types_later units day plan (next ∷ days) [] = refl
same_types_later units day plan (next ∷ days) (other ∷ plans) = ap (λ (n : ℕ). plan_cost_of units next other + n) (same_types_later units day plan days plans)

run_by_name : (first : Day) (units : Units) (days : List Day) (plans : List (List (List ℕ))) (names : List (List ℕ)) → BeginWith first units days → GoOn first days → AllZip Runs days plans → AreNamesDayByDay units days plans names
    → RunSo units days plans names
run_by_name first units [] [] [] begin go_on run are = record { runs = tt; cost = refl }
run_by_name first units [] [] (names ∷ rest) begin go_on run are = absurd are
run_by_name first units [] (plan ∷ plans) names begin go_on run are = absurd run
run_by_name first units (day ∷ days) [] names begin go_on run are = absurd run
run_by_name first units (day ∷ days) (plan ∷ plans) [] begin go_on run are = absurd are
run_by_name first units (day ∷ days) (plan ∷ plans) (names ∷ rest) begin go_on run are =
    let alike : RunsAlike (stock_units day) units (name_in names) day plan = renumbered_plans_run (stock_units day) units (name_in names) day plan are.0.renumbers run.0.is_plan in
    let runs : RunsOf units day (by_name names plan) = alike.runs.0 run.0 in
    let later : RunSo (units_after units day (by_name names plan)) days plans rest =
    run_by_name first (units_after units day (by_name names plan)) days plans rest (rest_begins first day days units (by_name names plan) begin go_on.0 go_on.1 runs) (goes_on_after first day days go_on.0 go_on.1) run.1 are.1 in
    record {
      runs = (runs, later.runs);
      cost =
          ap (λ (n : ℕ). n + cost_day_by_day units days (each_by_name rest plans)) alike.cost
          ∙ ap (λ (n : ℕ). plan_cost day plan + n) (sym (same_types_later units day (by_name names plan) days (each_by_name rest plans)) ∙ later.cost);
    }

pub named_plans_make_weeks : NamedPlansMakeWeeks
named_plans_make_weeks [] [] [] week run are = record { runs = tt; cost = refl }
named_plans_make_weeks [] [] (names ∷ rest) week run are = absurd are
named_plans_make_weeks [] (plan ∷ plans) names week run are = absurd run
named_plans_make_weeks (day ∷ days) plans names week run are =
    let so : RunSo (stock_units day) (day ∷ days) plans names = run_by_name day (stock_units day) (day ∷ days) plans names (first_begins day (All-head IsSoundDay day days week.0)) (All-tail IsSoundDay day days week.0, week.1) run are in
    record { runs = so.runs; cost = so.cost }

-- ---- from the week to the days

day_plans : (first : Day) (all units : Units) (days : List Day) (plans : List (List (List ℕ))) → all.unit_type ≡ units.unit_type → BeginWith first units days → GoOn first days → RunDayByDay units days plans
    → AllZip (HasDayPlan all) days plans
day_plans first all units [] [] same begin go_on run = tt
day_plans first all units [] (plan ∷ plans) same begin go_on run = absurd run
day_plans first all units (day ∷ days) [] same begin go_on run = absurd run
day_plans first all units (day ∷ days) (plan ∷ plans) same begin go_on run =
    let number : ℕ → ℕ = kth_number units (stock_units day) in
    let is : IsRenumbering units (stock_units day) number = (kth_units_are_renumbered units (stock_units day) (λ s m. sym (begin.as_many s m))).renumbers in
    let alike : RunsAlike units (stock_units day) number day plan = renumbered_plans_run units (stock_units day) number day plan is run.0.is_plan in (
      record {
        own = renumbered number plan;
        does_run = alike.runs.0 run.0;
        cost = alike.cost ∙ ap (λ (kind : ℕ → ℕ). plan_cost_of (record { count = units.count; unit_type = kind; home = units.home }) day plan) (sym same);
      },
      day_plans first all (units_after units day plan) days plans same (rest_begins first day days units plan begin go_on.0 go_on.1 run.0) (goes_on_after first day days go_on.0 go_on.1) run.1,
    )

pub weeks_make_day_plans : WeeksMakeDayPlans
weeks_make_day_plans [] [] week run = tt
weeks_make_day_plans [] (plan ∷ plans) week run = absurd run
weeks_make_day_plans (day ∷ days) plans week run = day_plans day (stock_units day) (stock_units day) (day ∷ days) plans refl (first_begins day (All-head IsSoundDay day days week.0)) (All-tail IsSoundDay day days week.0, week.1) run
