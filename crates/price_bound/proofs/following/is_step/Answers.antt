use Rattle.std.proofs.Common.{◌≡◌, Some, sym, ap, ◌∙◌}
use Rattle.std.proofs.lemmas.Option.{get_or_from_slice_get}
use Rattle.rules.specs.declared.records.Link.{Link}
use Rattle.timetable.specs.Chains.{leads_from, leads_to}
use Rattle.price_bound.specs.FollowingPicks.{pick_of}
use Rattle.price_bound.proofs.Steps.{step_found}
use Rattle.price_bound.proofs.following.is_step.Goals as goal

pub returns : goal.returns
returns c at here =
    let some : Some at ≡ Some c.link.result.now = sym here ∙ c.link.ensures.value in
    let same : at ≡ c.link.result.now = cc in
    let from : c.get-from.result ≡ pick_of c.args.picks.now (leads_from at.kind) =
    sym (get_or_from_slice_get c.args.picks.now c.leads_from.result c.get-from.result 0 c.get-from.ensures)
    ∙ ap (pick_of c.args.picks.now) (c.leads_from.ensures ∙ ap (λ (link : Link). leads_from link.kind) (sym same)) in
    let to : c.get-to.result ≡ pick_of c.args.picks.now (leads_to at.kind) =
    sym (get_or_from_slice_get c.args.picks.now c.leads_to.result c.get-to.result 0 c.get-to.ensures)
    ∙ ap (pick_of c.args.picks.now) (c.leads_to.ensures ∙ ap (λ (link : Link). leads_to link.kind) (sym same)) in
    let found = step_found c.args.instance.now c.args.graphs.now c.args.picks.now c.args.link c.get-from.result c.get-to.result at c.find.result c.requires.graphs from to c.find.ensures in
    (λ yes. found.0 (sym c.is_some.ensures ∙ yes), λ step. c.is_some.ensures ∙ found.1 step)
