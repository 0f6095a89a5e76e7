-- The past can be kept: what is named from the minute on runs, and keeps the units of every trip that has left.
use Rattle.std.proofs.Common.{◌≡◌, ℕ, ◌<◌, List, [], length, IsTrue, Option, get_or, sym, ap, ◌∙◌, arith, unwrap_or}
use Rattle.std.proofs.lemmas.List.{length-map}
use Rattle.timetable.specs.DerivedDays.{old_number}
use Rattle.timetable.specs.Links.{list_of}
use Rattle.timetable.specs.Lists.{below}
use Rattle.timetable.specs.Picks.{IsSolution, picked}
use Rattle.timetable.proofs.ListedUnits.{list_of-types}
use Rattle.branch_tree.specs.Regions.{are_in}
use Rattle.branch_tree.proofs.Lying.{picks_lie_by_trip}
use Rattle.inventory.specs.Counts.{AreServed}
use Rattle.inventory.specs.NamedBefore.{IsNamedBefore}
use Rattle.inventory.specs.NamingLaws.{RunsOn}
use Rattle.inventory.proofs.Laws.{named_plans_run}
use Rattle.inventory.proofs.Named.{at_below, length-below}
use Rattle.inventory.proofs.Solutions.{solutions_are_served}
use Rattle.unit_duties.specs.LaterDays.{AgreeOnFrozen}
use Rattle.unit_duties.specs.Naming.{CanBeNamed}
use Rattle.unit_duties.proofs.LaterDays.{plans_name_their_past_later}
use Rattle.price_bound.proofs.Solving.{list_picked}
use Rattle.replan.specs.Disturbances.{Disturbed, later_day, planned, trips_later}
use Rattle.replan.specs.Laws.{IsUnderWay, KeepsPast, PastsAreKept}
use Rattle.replan.specs.RestsOfDays.{named_on, past_root, plan_later}
use Rattle.replan.proofs.LaterFacts.{is_later}
use Rattle.replan.proofs.PastRoots.{past_frozen, past_length}

module _ (disturbed : Disturbed) where
  -- the plan as one of the later day has the units that were planned
  pub planned_later : (t : ℕ) → t < trips_later disturbed → list_of (plan_later disturbed) t ≡ planned disturbed t
  unfolding list_of
  planned_later t lt =
      ap (λ (o : Option (List ℕ)). unwrap_or o [])
      (at_below (λ t. list_of disturbed.plan (old_number disturbed.day disturbed.cancelled t)) (trips_later disturbed) t lt)

  pub plan_later_length : length (plan_later disturbed) ≡ trips_later disturbed
  plan_later_length = length-map (below (trips_later disturbed)) (λ t. list_of disturbed.plan (old_number disturbed.day disturbed.cancelled t)) ∙ length-below (trips_later disturbed)

  module _ (way : IsUnderWay disturbed) (picks : List ℕ) (solves : IsSolution (later_day disturbed) picks)
      (inside : IsTrue (are_in picks (past_root disturbed))) where
    abbrev types : List (List ℕ)
    types = picked (later_day disturbed) picks

    -- the picks keep the planned types of each frozen trip
    keeps_frozen : AgreeOnFrozen disturbed.day (later_day disturbed) (old_number disturbed.day disturbed.cancelled) disturbed.minute disturbed.plan types
    keeps_frozen t lt frozen =
        let there : t < length picks = omega (arith, lt, solves.are_picks.trips) in
        let at : t < length (past_root disturbed) = omega (arith, lt, past_length disturbed) in
        list_picked (later_day disturbed) picks t there
        ∙ past_frozen disturbed t (get_or picks t 0) lt (((picks_lie_by_trip picks (past_root disturbed)).0 inside).1 t at) frozen

    -- so the trips that have left are named with them as the rules demand it
    named : IsNamedBefore (later_day disturbed) types disturbed.minute (plan_later disturbed)
    named =
        plans_name_their_past_later disturbed.day (later_day disturbed) (old_number disturbed.day disturbed.cancelled) disturbed.minute disturbed.plan types
        way.later.limits way.day.links way.later.links (is_later disturbed way.given way.day) keeps_frozen way.runs

    served : AreServed (later_day disturbed) types
    served = (solutions_are_served (later_day disturbed) picks way.later.limits way.later.links way.later.stock solves.are_picks).0 solves

    -- what the rule asks for
    pub can_be_named : CanBeNamed (later_day disturbed) picks disturbed.minute (plan_later disturbed)
    can_be_named = record {
      are_picks = solves.are_picks;
      served = served;
      named = named;
      listed = λ t lt departed. omega (arith, lt, plan_later_length);
    }

    -- and what it gives
    runs_on : RunsOn (later_day disturbed) types disturbed.minute (plan_later disturbed) (named_on disturbed picks)
    runs_on =
        named_plans_run (later_day disturbed) types disturbed.minute (plan_later disturbed)
        way.later.limits way.later.links way.later.stock served named

    pub keeps_past : KeepsPast disturbed picks
    keeps_past = record {
      goes_on = record {
        runs = runs_on.runs;
        agrees = record {
          units = λ t lt left. runs_on.agrees t lt left ∙ planned_later t lt;
          types = λ t lt frozen.
              sym (list_of-types (later_day disturbed) (named_on disturbed picks) t)
              ∙ ap (λ (lists : List (List ℕ)). list_of lists t) runs_on.types_are ∙ keeps_frozen t lt frozen;
        };
      };
      by_picks = record { runs = runs_on.runs; are_picks = solves.are_picks; types = sym runs_on.types_are };
    }

pub pasts_are_kept : PastsAreKept
pasts_are_kept disturbed picks way solves inside = keeps_past disturbed way picks solves inside
