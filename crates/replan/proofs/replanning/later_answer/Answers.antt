use Rattle.std.proofs.Common.{◌+◌, ◌*◌, sym, subst}
use Rattle.search.proofs.Asking.{are_unasked}
use Rattle.timetable.specs.Day.{Day}
use Rattle.price_bound.specs.ChangedDays.{AreChanges}
use Rattle.replan.specs.Laws.{IsUnderWay}
use Rattle.replan.proofs.Searched.{IsSearched, answerable, anyway, names, over, searched, tree}
use Rattle.replan.proofs.replanning.later_answer.Goals as goal

pub with_changes-requires-clause-changes : goal.with_changes-requires-clause-changes
with_changes-requires-clause-changes g c =
    subst (λ (day : Day). AreChanges day c.changes.result.now) (sym c.instance.ensures) c.changes.ensures.fit

pub returns-in_err-bounds-clause-asked : goal.returns-in_err-bounds-clause-asked
returns-in_err-bounds-clause-asked g c = are_unasked _ _
    (c.args.allowed.rounds * (2 * c.args.allowed.branchings + 1)) c.args.advisors.now.items

pub answer_to-requires-clause-answerable : goal.answer_to-requires-clause-answerable
answer_to-requires-clause-answerable g c =
    let is : IsSearched c.args.rest.now c.in_ok-bounds.bounds c.naming-naming.result c.rest.inside.root =
    searched c.args.rest.now c.rest.inside.disturbance.now c.in_ok-bounds.bounds c.instance.result.now c.changes.result.now c.naming-naming.result c.rest.inside.root
    c.rest.view_is c.rest.invariant.under_way c.rest.invariant.root_is c.in_ok-bounds.ensures c.instance.ensures c.changes.ensures.changes c.naming-naming.ensures in
    answerable c.args.rest.now c.in_ok-bounds.bounds c.naming-naming.result c.rest.inside.root is

pub answer_to-requires-clause-over : goal.answer_to-requires-clause-over
answer_to-requires-clause-over g c =
    let is : IsSearched c.args.rest.now c.in_ok-bounds.bounds c.naming-naming.result c.rest.inside.root =
    searched c.args.rest.now c.rest.inside.disturbance.now c.in_ok-bounds.bounds c.instance.result.now c.changes.result.now c.naming-naming.result c.rest.inside.root
    c.rest.view_is c.rest.invariant.under_way c.rest.invariant.root_is c.in_ok-bounds.ensures c.instance.ensures c.changes.ensures.changes c.naming-naming.ensures in
    over c.args.rest.now c.in_ok-bounds.bounds c.naming-naming.result c.rest.inside.root is

pub answer_to-requires-clause-names : goal.answer_to-requires-clause-names
answer_to-requires-clause-names g c =
    let is : IsSearched c.args.rest.now c.in_ok-bounds.bounds c.naming-naming.result c.rest.inside.root =
    searched c.args.rest.now c.rest.inside.disturbance.now c.in_ok-bounds.bounds c.instance.result.now c.changes.result.now c.naming-naming.result c.rest.inside.root
    c.rest.view_is c.rest.invariant.under_way c.rest.invariant.root_is c.in_ok-bounds.ensures c.instance.ensures c.changes.ensures.changes c.naming-naming.ensures in
    names c.args.rest.now c.in_ok-bounds.bounds c.naming-naming.result c.rest.inside.root is

pub returns-clause-tree : goal.returns-clause-tree
returns-clause-tree g c =
    let is : IsSearched c.args.rest.now c.in_ok-bounds.bounds c.naming-naming.result c.rest.inside.root =
    searched c.args.rest.now c.rest.inside.disturbance.now c.in_ok-bounds.bounds c.instance.result.now c.changes.result.now c.naming-naming.result c.rest.inside.root
    c.rest.view_is c.rest.invariant.under_way c.rest.invariant.root_is c.in_ok-bounds.ensures c.instance.ensures c.changes.ensures.changes c.naming-naming.ensures in
    tree c.args.rest.now c.in_ok-bounds.bounds c.naming-naming.result c.rest.inside.root is c.args.allowed.branchings c.answer_to.result c.answer_to.ensures.tree

pub returns-clause-asked : goal.returns-clause-asked
returns-clause-asked g c = c.answer_to.ensures.asked

pub returns-clause-counted : goal.returns-clause-counted
returns-clause-counted g c = c.answer_to.ensures.counted

pub returns-clause-under_way : goal.returns-clause-under_way
returns-clause-under_way g c = anyway c.answer_to.result (IsUnderWay c.args.rest.now) (subst IsUnderWay c.rest.view_is c.rest.invariant.under_way)
