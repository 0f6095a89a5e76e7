-- Answers to accepted days can be written down and read again, also under changes.
use Rattle.std.proofs.Common.{◌≡◌, ◌≤◌, List, Bool, length, sym, ap, subst, arith, ◌∙◌}
use Rattle.timetable.specs.Accepted.{IsSoundDay}
use Rattle.timetable.specs.Day.{Day}
use Rattle.timetable.specs.Indices.{places_of}
use Rattle.branch_tree.specs.declared.relaxation.Weight.TheVariants.{Cost}
use Rattle.branch_tree.specs.Meanings.{Meanings}
use Rattle.branch_tree.specs.Regions.{root_of}
use Rattle.branch_tree.proofs.Over.{roots_are_over}
use Rattle.branch_tree.proofs.Roots.{roots_are_filled}
use Rattle.price_bound.specs.ChangedDays.{ChangedDay, changed_day, changed_meanings, unchanged}
use Rattle.price_bound.specs.DayMeanings.{meanings_of}
use Rattle.price_bound.proofs.ChangedRelaxation.{changed_relaxes}
use Rattle.price_bound.proofs.SmallValues.{changed_values_are_small, values_are_small}
use Rattle.price_bound.proofs.Whole.{relaxes}
use Rattle.answer_text.specs.declared.limits.TheConstants.{MAX_INDEX}
use Rattle.answer_check.proofs.Unchanged.{unchanged_means}
use Rattle.day_planner.specs.Answerable.{IsAnswerable}
use Rattle.day_planner.specs.Laws.{ChangedDaysAreAnswerable, DaysAreAnswerable}

-- a document writes the indices of an accepted day
few_indices : (day : Day) → IsSoundDay day → length (places_of day) ≤ MAX_INDEX
few_indices day sound = omega (arith, sound.indices)

pub days_are_answerable : DaysAreAnswerable
days_are_answerable day sound = record {
  limits = sound.limits;
  relaxation = relaxes day sound;
  trips = sound.limits.timetable.trip_count;
  compositions = sound.compositions;
  indices = few_indices day sound;
  small = λ picks multipliers follow keeps. values_are_small day picks multipliers Cost sound follow keeps;
  sets = (roots_are_over day).each;
  filled = roots_are_filled day sound;
}

pub changed_days_are_answerable : ChangedDaysAreAnswerable
changed_days_are_answerable day changes region sound are sets filled = record {
  limits = sound.limits;
  relaxation = changed_relaxes (changed_day day changes) sound;
  trips = sound.limits.timetable.trip_count;
  compositions = sound.compositions;
  indices = few_indices day sound;
  small = λ picks multipliers follow keeps.
      changed_values_are_small day changes picks multipliers Cost sound are follow keeps;
  sets = sets;
  filled = filled;
}

-- so they are of a day that nothing is changed on, as its bounds and its rule of naming see it
pub unchanged_answerable : (day naming : Day) (bounds : ChangedDay) (root : List (List Bool)) → IsSoundDay day
    → naming ≡ day → bounds ≡ unchanged day → root ≡ root_of day
    → IsAnswerable naming (changed_meanings bounds) root
unchanged_answerable day naming bounds root sound same is rooted =
    subst (λ (d : Day). IsAnswerable d (changed_meanings bounds) root) (sym same)
    (subst (λ (m : Meanings). IsAnswerable day m root) (sym (ap changed_meanings is ∙ unchanged_means day))
    (subst (λ (r : List (List Bool)). IsAnswerable day (meanings_of day) r) (sym rooted)
    (days_are_answerable day sound)))
