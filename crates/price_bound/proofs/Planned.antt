-- The types of a plan that runs are the compositions of picks, and these are a solution in the region of the day.
use Rattle.std.proofs.Common.{◌≡◌, ℕ, zero, suc, ◌<◌, List, [], ◌∷◌, map, length, get_or, true, refl, sym, ◌∙◌, ap}
use Rattle.std.proofs.Common.{subst, arith, pos, ◌≤ℤ◌}
use Rattle.std.specs.Prelude.{All}
use Rattle.std.proofs.lemmas.List.{get_or-map, length-map}
use Rattle.timetable.specs.Admissible.{is_admissible}
use Rattle.timetable.specs.Compositions.{compositions_of, composition_at}
use Rattle.timetable.specs.Cost.{cost_of, plan_cost, PlansCostAtLeast, NoPlanRuns}
use Rattle.timetable.specs.Day.{Day, types_of}
use Rattle.timetable.specs.Links.{list_of}
use Rattle.timetable.specs.Picks.{IsSolution, RunsByPicks, picked}
use Rattle.timetable.specs.Running.{Runs}
use Rattle.timetable.proofs.AdmittedTypes.{CompositionOf, composition_of}
use Rattle.branch_tree.specs.declared.relaxation.Weight.TheVariants.{Cost}
use Rattle.branch_tree.specs.Claims.{CostsAtLeast, HasNoSolution}
use Rattle.branch_tree.specs.Meanings.{priced}
use Rattle.branch_tree.specs.Regions.{root_of}
use Rattle.branch_tree.proofs.Duality.{solutions_are_priced_low}
use Rattle.branch_tree.proofs.Roots.{solutions_lie_in_roots}
use Rattle.price_bound.specs.DayMeanings.{meanings_of}
use Rattle.price_bound.specs.PlanBounds.{SolutionsBoundPlans, NoSolutionsNoPlans}
use Rattle.price_bound.specs.PlanBounds.{PlansHavePicks, PlansLieInRoots, PlansArePricedLow}
use Rattle.price_bound.proofs.Solving.{list_read}
use Rattle.price_bound.proofs.Whole.{relaxes}

-- numbers of compositions for lists of types
record AreNumbered (day : Day) (lists : List (List ℕ)) : Type 0 where
  picks : List ℕ
  known : All (λ comp. comp < length (compositions_of day)) picks
  are : picked day picks ≡ lists

all_more : (bound x : ℕ) (xs : List ℕ) → x < bound → All (λ comp. comp < bound) xs → All (λ comp. comp < bound) (x ∷ xs)
all_more bound x xs first rest zero d below = first
all_more bound x xs first rest (suc k) d below = rest k d (omega (arith, below))

numbered : (day : Day) (lists : List (List ℕ)) → ((k : ℕ) → k < length lists → CompositionOf day (get_or lists k [])) → AreNumbered day lists
numbered day [] each = record { picks = []; known = λ k d below. absurd (omega (arith, below)); are = refl }
numbered day (list ∷ lists) each =
    let first : CompositionOf day list = each 0 (omega arith) in
    let rest : AreNumbered day lists = numbered day lists (λ k below. each (suc k) (omega (arith, below))) in
    record {
      picks = first.comp ∷ rest.picks;
      known = all_more (length (compositions_of day)) first.comp rest.picks first.listed rest.known;
      are = ap (λ (l : List ℕ). l ∷ picked day rest.picks) first.is ∙ ap (λ (ls : List (List ℕ)). list ∷ ls) rest.are;
    }

-- the picks of a plan that runs
record PicksOf (day : Day) (plan : List (List ℕ)) : Type 0 where
  picks : List ℕ
  solves : IsSolution day picks
  types : picked day picks ≡ map (types_of day) plan
  costs : cost_of day (picked day picks) ≡ plan_cost day plan

picks_of : (day : Day) (plan : List (List ℕ)) → Runs day plan → PicksOf day plan
picks_of day plan runs =
    let types : List (List ℕ) = map (types_of day) plan in
    let admitted : (k : ℕ) → k < length types → CompositionOf day (get_or types k []) =
    λ k below.
    let at : k < length plan = omega (arith, below, length-map plan (types_of day)) in
    let is : types_of day (list_of plan k) ≡ get_or types k [] =
    ap (types_of day) (list_read plan k at) ∙ sym (get_or-map (types_of day) plan k [] [] at) in
    composition_of day k (get_or types k [])
    (subst (λ (ms : List ℕ). is_admissible day k ms ≡ true) is (runs.lists k (omega (arith, at, runs.is_plan.trips))).admissible) in
    let all : AreNumbered day types = numbered day types admitted in
    record {
      picks = all.picks;
      solves = record {
        are_picks = record {
          trips = omega (arith, ap length all.are, length-map all.picks (composition_at day), length-map plan (types_of day), runs.is_plan.trips);
          known = all.known;
        };
        plan = plan;
        runs = runs;
        types = sym all.are;
      };
      types = all.are;
      costs = ap (cost_of day) all.are;
    }

pub plans_have_picks : PlansHavePicks
plans_have_picks day plan runs =
    let some : PicksOf day plan = picks_of day plan runs in
    (some.picks, record { runs = runs; are_picks = some.solves.are_picks; types = some.types })

-- picks by which a plan runs are a solution
pub solved_by : (day : Day) (plan : List (List ℕ)) (picks : List ℕ) → RunsByPicks day plan picks → IsSolution day picks
solved_by day plan picks by =
    record { are_picks = by.are_picks; plan = plan; runs = by.runs; types = sym by.types }

pub plans_are_priced_low : PlansArePricedLow
plans_are_priced_low day plan picks multipliers accepted by fits =
    subst (λ (n : ℕ). priced (meanings_of day) multipliers Cost picks ≤ℤ pos n) (ap (cost_of day) by.types)
    (solutions_are_priced_low (meanings_of day) (relaxes day accepted) picks multipliers
    (solved_by day plan picks by) fits).with_cost

-- the picks of a plan that runs lie in the region of the day
pub plans_lie_in_roots : PlansLieInRoots
plans_lie_in_roots day plan picks sound by = solutions_lie_in_roots day picks sound (solved_by day plan picks by)

pub solutions_bound_plans : SolutionsBoundPlans
solutions_bound_plans day bound sound = (
  (λ (all : CostsAtLeast (meanings_of day) (root_of day) bound) plan runs.
      let some : PicksOf day plan = picks_of day plan runs in
      subst (λ (n : ℕ). bound ≤ℤ pos n) some.costs
      (all some.picks some.solves (solutions_lie_in_roots day some.picks sound some.solves))),
  (λ (all : PlansCostAtLeast day bound) picks (solves : IsSolution day picks) inside.
      subst (λ (n : ℕ). bound ≤ℤ pos n) (ap (cost_of day) solves.types) (all solves.plan solves.runs)),
)

pub no_solutions_no_plans : NoSolutionsNoPlans
no_solutions_no_plans day sound = (
  (λ (none : HasNoSolution (meanings_of day) (root_of day)) plan runs.
      let some : PicksOf day plan = picks_of day plan runs in
      none some.picks some.solves (solutions_lie_in_roots day some.picks sound some.solves)),
  (λ (none : NoPlanRuns day) picks (solves : IsSolution day picks) inside. none solves.plan solves.runs),
)
