-- The names of the days so far, and those of one day more.
use Rattle.std.proofs.Common.{◌≡◌, ℕ, zero, suc, ◌+◌, ◌<◌, ◌≤◌, List, [], ◌∷◌, ◌++◌, length, drop, get_or, refl, sym, ap, ◌∙◌, subst, arith}
use Rattle.std.specs.List.{AllZip}
use Rattle.std.specs.Prelude.{option_map, unwrap_or}
use Rattle.std.proofs.lemmas.List.{append-nil, append_assoc, drop_all, drop_more}
use Rattle.std.proofs.lemmas.List.Elements.{All-head, All-tail}
use Rattle.std.proofs.lemmas.Slice.Zip.{AllZip-long}
use Rattle.rules.specs.declared.records.Unit as unit
use Rattle.timetable.specs.Accepted.{IsSoundDay}
use Rattle.timetable.specs.Day.{Day, Units, home_of, stock_units, type_of, unit_count, units_of}
use Rattle.timetable.specs.Lists.{listed}
use Rattle.timetable.specs.Renumbering.{RunsAlike, AreKthRenumbered, before_unit, kth_number, standing_at}
use Rattle.timetable.specs.Running.{Runs, RunsOf}
use Rattle.timetable.proofs.KthUnits.{kth_units_are_renumbered}
use Rattle.timetable.proofs.Listing.{get_listed, length-listed}
use Rattle.timetable.proofs.Renumbered.{renumbered_plans_run}
use Rattle.inventory.specs.ServingLaws.{units_after}
use Rattle.week_units.specs.Listed.{AreAlike, units_listed}
use Rattle.week_units.specs.Names.{AreNames, AreNamesDayByDay, by_name, name_in}
use Rattle.week_units.specs.WeekPlans.{week_units}
use Rattle.week_units.specs.Weeks.{AreWeek}
use Rattle.week_units.proofs.Alike.{alike_back, begin_alike, names_day_by_day}
use Rattle.week_units.proofs.Beginning.{BeginWith, BeginsWith, first_begins, rest_begins}
use Rattle.week_units.proofs.Weeks.{GoOn, goes_on_after}

-- ---- the names of one day

-- the units of a day's stock are those of the list of them
pub stock_listed : (day : Day) → units_listed (units_of day) ≡ stock_units day
unfolding type_of home_of
stock_listed day = refl

-- what a list of numbers says of a number
pub name_listed : (f : ℕ → ℕ) (n u : ℕ) → u < n → name_in (listed f n) u ≡ f u
name_listed f n u lt = ap (λ o. unwrap_or (option_map (λ v. v) o) 0) (get_listed f n u lt)

-- the k-th numbers are names
pub kth_are_names : (units : Units) (day : Day) (names : List ℕ) → ((s m : ℕ) → standing_at (stock_units day) s m ≡ standing_at units s m) → names ≡ listed (kth_number (stock_units day) units) (unit_count day) → AreNames units day names
kth_are_names units day names as_many is =
    let number : ℕ → ℕ = kth_number (stock_units day) units in
    let kth : AreKthRenumbered (stock_units day) units = kth_units_are_renumbered (stock_units day) units as_many in
    let same : (u : ℕ) → u < unit_count day → name_in names u ≡ number u = λ u lt. ap (λ (ns : List ℕ). name_in ns u) is ∙ name_listed number (unit_count day) u lt in
    record {
      each = ap (λ (ns : List ℕ). length ns) is ∙ length-listed number (unit_count day);
      renumbers = record {
        among = record {
          known = λ u lt. subst (λ (v : ℕ). v < units.count) (sym (same u lt)) (kth.renumbers.among.known u lt);
          once = λ u v lu lv e. kth.renumbers.among.once u v lu lv (sym (same u lu) ∙ e ∙ same v lv);
          unit_type = λ u lt. ap units.unit_type (same u lt) ∙ kth.renumbers.among.unit_type u lt;
          home = λ u lt. ap units.home (same u lt) ∙ kth.renumbers.among.home u lt;
        };
        count = kth.renumbers.count;
      };
      kth = λ u lt. ap (before_unit units) (same u lt) ∙ kth.kth u lt;
    }

-- ---- day by day

-- What is left of the days begins with these units, and the names of the days before, with those of what is left, are
-- the names of all.
pub record NamedSoFar (days : List Day) (plans : List (List (List ℕ))) (units : Units) (left : List Day) (plans_left : List (List (List ℕ))) (names : List (List ℕ)) : Type 0 where
  pub first : Day
  pub begin : BeginWith first units left
  pub go_on : GoOn first left
  pub run : AllZip Runs left plans_left
  pub rest : (more : List (List ℕ)) → AreNamesDayByDay units left plans_left more → AreNamesDayByDay (week_units days) days plans (names ++ more)

pub begun : (days : List Day) (plans : List (List (List ℕ))) (us : List unit.Unit) (first : Day) → 0 < length days → first ≡ get_or days 0 first → us ≡ units_of first → AreWeek days → AllZip Runs days plans
    → NamedSoFar days plans (units_listed us) days plans []
begun [] plans us first some is listed_is week run = absurd (omega arith)
begun (day ∷ days) plans us first some is listed_is week run =
    let own : stock_units day ≡ units_listed us = sym (stock_listed day) ∙ ap units_listed (ap units_of (sym is) ∙ sym listed_is) in
    record {
      first = day;
      begin = subst (λ (units : Units). BeginsWith day units day) own (first_begins day (All-head IsSoundDay day days week.0));
      go_on = (All-tail IsSoundDay day days week.0, week.1);
      run = run;
      rest = λ more are. subst (λ (units : Units). AreNamesDayByDay units (day ∷ days) plans more) (sym own) are;
    }

-- one day more
pub one_more : (days : List Day) (plans : List (List (List ℕ))) (units after : Units) (day : Day) (left : List Day) (plan : List (List ℕ)) (plans_left : List (List (List ℕ))) (names : List (List ℕ)) (numbers : List ℕ)
    → NamedSoFar days plans units (day ∷ left) (plan ∷ plans_left) names → AreNames units day numbers → AreAlike after (units_after units day (by_name numbers plan)) → NamedSoFar days plans after left plans_left (names ++ numbers ∷ [])
one_more days plans units after day left plan plans_left names numbers so are alike =
    let same : RunsAlike (stock_units day) units (name_in numbers) day plan = renumbered_plans_run (stock_units day) units (name_in numbers) day plan are.renumbers so.run.0.is_plan in
    let runs : RunsOf units day (by_name numbers plan) = same.runs.0 so.run.0 in
    record {
      first = so.first;
      begin =
          begin_alike so.first left (units_after units day (by_name numbers plan)) after (alike_back after (units_after units day (by_name numbers plan)) alike)
          (rest_begins so.first day left units (by_name numbers plan) so.begin so.go_on.0 so.go_on.1 runs);
      go_on = goes_on_after so.first day left so.go_on.0 so.go_on.1;
      run = so.run.1;
      rest = λ more rest.
          subst (AreNamesDayByDay (week_units days) days plans) (sym (append_assoc names (numbers ∷ []) more))
          (so.rest (numbers ∷ more) (are, names_day_by_day after (units_after units day (by_name numbers plan)) alike left plans_left more rest));
    }

-- the next day of what is left begins with the units, and its plan runs
pub begins_at : (days : List Day) (plans : List (List (List ℕ))) (units : Units) (k : ℕ) (day : Day) (names : List (List ℕ)) → k < length days → day ≡ get_or days k day → (so : NamedSoFar days plans units (drop k days) (drop k plans) names)
    → BeginsWith so.first units day
begins_at days plans units k day names lt is so = subst (λ (left : List Day). BeginWith so.first units left) (drop_more days k day lt ∙ ap (λ (d : Day). d ∷ drop (k + 1) days) (sym is)) so.begin

pub runs_at : (days : List Day) (plans : List (List (List ℕ))) (k : ℕ) (day : Day) (plan : List (List ℕ)) → AllZip Runs days plans → k < length days → day ≡ get_or days k day → plan ≡ get_or plans k plan → Runs day plan
runs_at [] plans k day plan run lt is_day is_plan = absurd (omega arith)
runs_at (d ∷ days) [] k day plan run lt is_day is_plan = absurd run
runs_at (d ∷ days) (p ∷ plans) zero day plan run lt is_day is_plan = subst (λ (x : Day). Runs x plan) (sym is_day) (subst (Runs d) (sym is_plan) run.0)
runs_at (d ∷ days) (p ∷ plans) (suc k) day plan run lt is_day is_plan = runs_at days plans k day plan run.1 (omega arith) is_day is_plan

-- the next day of what is left
pub opened : (days : List Day) (plans : List (List (List ℕ))) (units : Units) (k : ℕ) (day : Day) (plan : List (List ℕ)) (names : List (List ℕ)) → AllZip Runs days plans → k < length days → day ≡ get_or days k day → plan ≡ get_or plans k plan
    → NamedSoFar days plans units (drop k days) (drop k plans) names → NamedSoFar days plans units (day ∷ drop (k + 1) days) (plan ∷ drop (k + 1) plans) names
opened days plans units k day plan names run lt is_day is_plan so =
    let long : length plans ≡ length days = AllZip-long Runs days plans run in
    let of_days : drop k days ≡ day ∷ drop (k + 1) days = drop_more days k day lt ∙ ap (λ (d : Day). d ∷ drop (k + 1) days) (sym is_day) in
    let of_plans : drop k plans ≡ plan ∷ drop (k + 1) plans = drop_more plans k plan (omega arith) ∙ ap (λ (p : List (List ℕ)). p ∷ drop (k + 1) plans) (sym is_plan) in
    subst (λ (left : List (List (List ℕ))). NamedSoFar days plans units (day ∷ drop (k + 1) days) left names) of_plans
    (subst (λ (left : List Day). NamedSoFar days plans units left (drop k plans) names) of_days so)

-- all days
pub all_named : (days : List Day) (plans : List (List (List ℕ))) (units : Units) (k : ℕ) (names : List (List ℕ)) → length days ≤ k → NamedSoFar days plans units (drop k days) (drop k plans) names → AreNamesDayByDay (week_units days) days plans names
all_named days plans units k names all so =
    subst (AreNamesDayByDay (week_units days) days plans) (append-nil names)
    (so.rest [] (subst (λ (left : List Day). AreNamesDayByDay units left (drop k plans) []) (sym (drop_all k days all)) tt))
