-- A day under changes is a relaxation of its solutions, as the day is: what it costs has no part in it.
use Rattle.std.proofs.Common.{◌≡◌, ℕ, ◌+◌, List, ℤ, pos, arith, refl, ap}
use Rattle.timetable.specs.Accepted.{IsSoundDay}
use Rattle.timetable.specs.declared.day.indices.Place.{Place}
use Rattle.timetable.specs.Cost.{cost_of}
use Rattle.timetable.specs.Picks.{picked}
use Rattle.branch_tree.specs.declared.relaxation.Settled.{Settled}
use Rattle.branch_tree.specs.declared.relaxation.Settled.TheVariants.{Costs, Broken}
use Rattle.branch_tree.specs.Bounds.{IsSettled}
use Rattle.branch_tree.specs.Meanings.{IsBroken, IsMet, IsRelaxation}
use Rattle.branch_tree.specs.declared.multipliers.Entry.{Entry}
use Rattle.price_bound.specs.ChangedDays.{ChangedDay, ChangedDaysAreRelaxations, UnchangedDaysAreDays, changed_day}
use Rattle.price_bound.specs.ChangedDays.{changed_meanings}
use Rattle.price_bound.specs.DayMeanings.{meanings_of}
use Rattle.price_bound.specs.BrokenPlaces.{Names}
use Rattle.price_bound.proofs.Whole.{relaxes}

broken_alike : (changed : ChangedDay) (picks : List ℕ) (at : Entry) → IsBroken (meanings_of changed.day) picks at
    → IsBroken (changed_meanings changed) picks at
broken_alike changed picks at broken = record {
  index = broken.index;
  unit = broken.unit;
  positive = broken.positive;
  sign = broken.sign;
}

met_alike : (changed : ChangedDay) (picks : List ℕ) (index : ℕ) → IsMet (meanings_of changed.day) picks index
    → IsMet (changed_meanings changed) picks index
met_alike changed picks index met = record { not_positive = met.not_positive; none = met.none }

pub changed_relaxes : (changed : ChangedDay) → IsSoundDay changed.day → IsRelaxation (changed_meanings changed)
changed_relaxes changed accepted =
    let plain : IsRelaxation (meanings_of changed.day) = relaxes changed.day accepted in
    record {
      follow_length = plain.follow_length;
      near_in = plain.near_in;
      near_follow = plain.near_follow;
      solution_near = plain.solution_near;
      solution_met = λ picks index solves below. met_alike changed picks index (plain.solution_met picks index solves below);
      broken = λ picks follow unsolved. broken_alike changed picks _ (plain.broken picks follow unsolved);
      order = plain.order;
    }

pub changed_days_are_relaxations : ChangedDaysAreRelaxations
changed_days_are_relaxations day changes accepted = changed_relaxes (changed_day day changes) accepted

nothing_added : (n : ℕ) → n + 0 ≡ n
nothing_added n = omega arith

pub unchanged_days_are_days : UnchangedDaysAreDays
unchanged_days_are_days day = record {
  trips = refl;
  indices = refl;
  free_from = refl;
  catalogue = refl;
  order = refl;
  cost = λ picks. ap (λ (n : ℕ). pos n) (nothing_added (cost_of day (picked day picks)));
  slack = λ picks index. refl;
  follow = λ picks. (λ follow. follow, λ follow. follow);
  near = λ picks region. (λ near. near, λ near. near);
  solution = λ picks. (λ solves. solves, λ solves. solves);
  broken = λ picks. refl;
}

-- picks that are settled as broken on the day are so under changes
pub changed_named : (changed : ChangedDay) (picks : List ℕ) (place : Place) (value : ℤ) (result : Settled)
    → Names changed.day place value result → IsSettled (meanings_of changed.day) picks result
    → IsSettled (changed_meanings changed) picks result
changed_named changed picks place value (Costs cost) names settled = absurd names
changed_named changed picks place value (Broken index sign) names (unsolved, broken, at, is) =
    (unsolved, broken_alike changed picks _ broken, at, is)
