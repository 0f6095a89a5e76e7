-- Answers in a region where enough branchings are granted, by the laws on answers.
use Rattle.price_bound.specs.ChangedDays.{ChangedDay, changed_day, changed_meanings}
use Rattle.day_planner.specs.Laws.{ChangedDaysAreAnswerable, SaidAnswersAreProved}
use Rattle.worked_answers.specs.EndedSearches.{EnoughBranchingsEnd}

pub enough_end : ChangedDaysAreAnswerable → ((changed : ChangedDay) → SaidAnswersAreProved (changed_meanings changed))
    → EnoughBranchingsEnd
enough_end answerable proved day changes region naming grant found answer sound are long filled enough few solved says =
    let tree =
    proved (changed_day day changes) day region naming grant found answer
    (answerable day changes region sound are long filled) few solved says in
    record {
      no_bound = tree.enough enough;
      picks = (tree.valid).picks;
      concluded = tree.concluded;
    }
