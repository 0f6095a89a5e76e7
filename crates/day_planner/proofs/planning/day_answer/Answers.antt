use Rattle.std.proofs.Common.{◌+◌, ◌*◌, length, IfOk, refl, sym, ap, subst, ◌∙◌}
use Rattle.timetable.specs.Day.{Day}
use Rattle.timetable.specs.Picks.{IsSolution}
use Rattle.price_bound.specs.ChangedDays.{ChangedDay, changed_meanings}
use Rattle.search.proofs.Asking.{are_unasked}
use Rattle.answer_check.specs.ProvedTrees.{HasProvedTreeIn, named_for}
use Rattle.answer_check.proofs.Unchanged.{at_day, root_over}
use Rattle.day_planner.proofs.Answerable.{unchanged_answerable}
use Rattle.day_planner.proofs.planning.day_answer.Goals as goal

pub returns-in_err-root-clause-asked : goal.returns-in_err-root-clause-asked
returns-in_err-root-clause-asked g c = are_unasked _ _
    (c.args.allowed.rounds * (2 * c.args.allowed.branchings + 1)) c.args.advisors.now.items

pub returns-in_err-bounds-clause-asked : goal.returns-in_err-bounds-clause-asked
returns-in_err-bounds-clause-asked g c = are_unasked _ _
    (c.args.allowed.rounds * (2 * c.args.allowed.branchings + 1)) c.args.advisors.now.items

pub answer_to-requires-clause-answerable : goal.answer_to-requires-clause-answerable
answer_to-requires-clause-answerable g c =
    unchanged_answerable c.args.instance.now c.new-naming.result c.in_ok-bounds.bounds c.in_ok-root.root
    c.is_sound.ensures c.new-naming.ensures c.in_ok-bounds.ensures c.in_ok-root.ensures

pub answer_to-requires-clause-over : goal.answer_to-requires-clause-over
answer_to-requires-clause-over g c =
    root_over c.args.instance.now c.in_ok-bounds.bounds
    (length c.in_ok-bounds.bounds.day.trips) c.in_ok-root.root c.in_ok-bounds.ensures refl c.in_ok-root.ensures

pub answer_to-requires-clause-names : goal.answer_to-requires-clause-names
answer_to-requires-clause-names g c = λ picks solves inside.
    subst (λ (day : Day). IsSolution day picks)
    (ap (λ (bounds : ChangedDay). bounds.day) c.in_ok-bounds.ensures ∙ sym c.new-naming.ensures) solves

pub returns-clause-tree : goal.returns-clause-tree
returns-clause-tree g c =
    at_day c.args.instance.now c.in_ok-bounds.bounds c.in_ok-root.root
    (λ problem region. IfOk c.answer_to.result
    (HasProvedTreeIn c.args.instance.now problem region (named_for c.args.instance.now) c.args.allowed.branchings))
    c.in_ok-bounds.ensures c.in_ok-root.ensures
    (subst (λ (day : Day). IfOk c.answer_to.result
    (HasProvedTreeIn day (changed_meanings c.in_ok-bounds.bounds) c.in_ok-root.root (named_for day)
    c.args.allowed.branchings)) c.new-naming.ensures c.answer_to.ensures.tree)

pub returns-clause-asked : goal.returns-clause-asked
returns-clause-asked g c = c.answer_to.ensures.asked

pub returns-clause-counted : goal.returns-clause-counted
returns-clause-counted g c = c.answer_to.ensures.counted
