use Rattle.std.proofs.Common.{◌≡◌, ◌∙◌, false, Some, slice_get, sym, subst}
use Rattle.rules.specs.declared.records.Link.{Link}
use Rattle.timetable.specs.Links.{itself, link_holds}
use Rattle.timetable.specs.Picks.{picked}
use Rattle.unit_duties.proofs.ByEdges.{none_found, some_found, same_option}
use Rattle.unit_duties.proofs.broken.holds.Goals as goal

one : (x y : Link) → Some x ≡ Some y → x ≡ y
one x y e = cc

pub returns-in-Some : goal.returns-in-Some
returns-in-Some c = λ link at.
    let day = c.args.instance.now in
    let picks = c.args.picks.now in
    let here = c.link-link.result.now in
    let same = one c.link-link.result.now link (sym c.link-link.ensures.value ∙ at) in
    subst (λ l. c.eq.result ≡ link_holds itself l (picked c.args.instance.now c.args.picks.now)) same
    (some_found day c.args.graphs.now picks c.requires.graphs c.requires.picks c.requires.admissible c.args.number here c.link-link.ensures.value c.link-link.ensures.within.trips
    c.get-from.result c.get-to.result c.find.result
    (subst (λ t. slice_get c.args.picks.now t ≡ Some c.get-from.result) c.leads_from.ensures c.get-from.ensures)
    (subst (λ t. slice_get c.args.picks.now t ≡ Some c.get-to.result) c.leads_to.ensures c.get-to.ensures)
    c.find.ensures c.in-Some.edge c.eq.result c.in-Some.is
    (let test = same_option c.in-Some.edge.part c.second_pick.result in (
      λ h. test.0 (sym c.eq.ensures ∙ h) ∙ c.second_pick.ensures,
      λ e. c.eq.ensures ∙ test.1 (e ∙ sym c.second_pick.ensures),
    )))

pub returns-in-None : goal.returns-in-None
returns-in-None c = λ link at.
    let same = one c.link-link.result.now link (sym c.link-link.ensures.value ∙ at) in
    subst (λ l. false ≡ link_holds itself l (picked c.args.instance.now c.args.picks.now)) same
    (none_found c.args.instance.now c.args.graphs.now c.args.picks.now c.requires.graphs c.requires.picks c.requires.admissible c.args.number c.link-link.result.now c.link-link.ensures.value c.link-link.ensures.within.trips
    c.get-from.result c.get-to.result c.find.result
    (subst (λ t. slice_get c.args.picks.now t ≡ Some c.get-from.result) c.leads_from.ensures c.get-from.ensures)
    (subst (λ t. slice_get c.args.picks.now t ≡ Some c.get-to.result) c.leads_to.ensures c.get-to.ensures)
    c.find.ensures c.in-None.is)
