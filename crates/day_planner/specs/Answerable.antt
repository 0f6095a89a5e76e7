-- Problems over a day each answer to which can be written down and read again.
use Rattle.std.specs.Prelude.{ℕ, ◌≡◌, ◌≤◌, ◌<◌, List, Bool, length, unsigned_abs}
use Rattle.rail_base.specs.declared.limits.TheConstants.{MAX_COMPOSITIONS, MAX_TRIPS}
use Rattle.timetable.specs.Accepted.{IsDay}
use Rattle.timetable.specs.Day.{Day}
use Rattle.branch_tree.specs.declared.multipliers.Entry.{Entry}
use Rattle.branch_tree.specs.declared.relaxation.Weight.TheVariants.{Cost}
use Rattle.branch_tree.specs.Entries.{AreMultipliers}
use Rattle.branch_tree.specs.Meanings.{IsRelaxation, Meanings, priced}
use Rattle.branch_tree.specs.Regions.{IsFilled}
use Rattle.price_bound.specs.declared.sizes.TheConstants.{MAX_PRICED_VALUE}
use Rattle.answer_text.specs.declared.limits.TheConstants.{MAX_INDEX}

-- a relaxation whose trips, compositions, indices and priced values keep within the limits, and a root region in which
-- each trip has a composition; and no number of the day is over its limit
pub record IsAnswerable (day : Day) (problem : Meanings) (root : List (List Bool)) : Type 0 where
  pub limits : IsDay day
  pub relaxation : IsRelaxation problem
  pub trips : problem.trips ≤ MAX_TRIPS
  pub compositions : length problem.catalogue ≤ MAX_COMPOSITIONS
  pub indices : problem.indices ≤ MAX_INDEX
  pub small : (picks : List ℕ) (multipliers : List Entry) → problem.Follow picks → AreMultipliers multipliers →
      unsigned_abs (priced problem multipliers Cost picks) < MAX_PRICED_VALUE
  pub sets : length root ≡ problem.trips
  pub filled : IsFilled root
