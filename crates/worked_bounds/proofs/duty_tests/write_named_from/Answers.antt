-- A plan that runs is named up to any minute as it is asked.
use Rattle.std.proofs.Common.{subst, length, arith}
use Rattle.inventory.specs.Counts.{AreServed}
use Rattle.inventory.specs.NamedBefore.{IsNamedBefore}
use Rattle.inventory.proofs.Earlier.{running_plans_are_named}
use Rattle.inventory.proofs.Serving.{served}
use Rattle.unit_duties.specs.Naming.{CanBeNamed}
use Rattle.worked_bounds.proofs.duty_tests.write_named_from.Goals as goal

pub name_units_from-requires : goal.name_units_from-requires
name_units_from-requires c =
    let sound = c.is_sound.ensures in
    let runs = c.requires.runs in
    let can : CanBeNamed c.args.day.now c.args.picks.now c.args.minute c.args.plan.now = record {
      are_picks = c.requires.picks;
      served = subst (AreServed c.args.day.now) runs.types_are (served c.args.day.now c.args.plan.now sound.limits sound.links sound.stock runs.runs);
      named = subst (λ types. IsNamedBefore c.args.day.now types c.args.minute c.args.plan.now) runs.types_are
          (running_plans_are_named c.args.day.now c.args.plan.now c.args.minute sound.links runs.runs);
      listed = λ t lt departed. let trips = runs.runs.is_plan.trips in omega arith;
    } in
    record { can = can }
