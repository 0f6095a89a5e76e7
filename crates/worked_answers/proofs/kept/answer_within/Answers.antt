use Rattle.std.proofs.Common.{sym, ap, subst, ◌∙◌}
use Rattle.timetable.specs.Day.{Day}
use Rattle.timetable.specs.Picks.{IsSolution}
use Rattle.price_bound.specs.ChangedDays.{ChangedDay, changed_meanings}
use Rattle.day_planner.specs.Answerable.{IsAnswerable}
use Rattle.answer_check.specs.ProvedTrees.{named_for}
use Rattle.worked_answers.proofs.KeptRegions.{over_changed, true_within}
use Rattle.worked_answers.proofs.kept.answer_within.Goals as goal

pub answer_to-requires-clause-answerable : goal.answer_to-requires-clause-answerable
answer_to-requires-clause-answerable c =
    subst (λ (d : Day). IsAnswerable d (changed_meanings c.in_ok-bounds.bounds) c.args.region.now)
    (sym c.new.ensures)
    (subst (λ (b : ChangedDay). IsAnswerable c.args.day.now (changed_meanings b) c.args.region.now)
    (sym c.in_ok-bounds.ensures)
    (c.days_are_answerable.ensures.changed c.args.day.now c.args.changes.now c.args.region.now c.is_sound.ensures
    c.requires.changes c.requires.over.each c.requires.filled))

pub answer_to-requires-clause-over : goal.answer_to-requires-clause-over
answer_to-requires-clause-over c =
    over_changed c.args.day.now c.args.changes.now c.in_ok-bounds.bounds c.args.region.now c.in_ok-bounds.ensures
    c.requires.over

pub answer_to-requires-clause-names : goal.answer_to-requires-clause-names
answer_to-requires-clause-names c = λ picks solves inside. (
  subst (λ (day : Day). IsSolution day picks)
      (ap (λ (bounds : ChangedDay). bounds.day) c.in_ok-bounds.ensures ∙ sym c.new.ensures) solves,
  inside,
)

pub returns : goal.returns
returns c =
    true_within c.args.day.now c.new.result c.args.changes.now c.in_ok-bounds.bounds c.args.region.now
    (named_for c.new.result) c.args.branchings c.in_ok-answer.answer c.conclusions_hold_in_a_region.ensures.law
    c.new.ensures c.in_ok-bounds.ensures c.in_ok-answer.ensures.tree
