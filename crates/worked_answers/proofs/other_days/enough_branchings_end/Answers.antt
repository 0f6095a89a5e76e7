use Rattle.worked_answers.proofs.EndedSearches.{enough_end}
use Rattle.worked_answers.proofs.other_days.enough_branchings_end.Goals as goal

pub returns : goal.returns
returns c = record {
  law = enough_end c.days_are_answerable.ensures.changed c.said_answers_are_proved.ensures.law;
}
