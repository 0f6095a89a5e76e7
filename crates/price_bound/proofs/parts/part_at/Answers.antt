-- The edge of the link is that of its step, and has a part.
use Rattle.std.proofs.Common.{sym, ◌∙◌}
use Rattle.price_bound.proofs.PartsFound.{edge_is, part_there, some_part}
use Rattle.price_bound.proofs.parts.part_at.Goals as goal

pub unreachable-requires : goal.unreachable-requires
unreachable-requires c =
    let found = edge_is c.args.instance.now c.args.picks.now c.requires.accepted.links c.requires.follow c.args.graphs.now c.handover-link.result.link c.leads_from.result c.leads_to.result c.get-from.result c.get-to.result c.link.result.now c.find.result
    c.requires.graphs c.link.ensures.value c.leads_from.ensures c.leads_to.ensures c.get-from.ensures c.get-to.ensures c.find.ensures in
    let none = sym c.in_default.is ∙ found in cc

pub unreachable-requires-in_default-part : goal.unreachable-requires-in_default-part
unreachable-requires-in_default-part c =
    let found = edge_is c.args.instance.now c.args.picks.now c.requires.accepted.links c.requires.follow c.args.graphs.now c.handover-link.result.link c.leads_from.result c.leads_to.result c.get-from.result c.get-to.result c.link.result.now c.find.result
    c.requires.graphs c.link.ensures.value c.leads_from.ensures c.leads_to.ensures c.get-from.ensures c.get-to.ensures c.find.ensures in
    some_part c.args.instance.now c.args.picks.now c.requires.accepted.links c.requires.follow c.args.handover c.handover-link.result c.link.result.now c.handover-link.ensures.value c.handover-link.ensures.of_link c.link.ensures.value
    c.in-Some.edge (sym c.in-Some.is ∙ found) c.in_default-part.is

pub returns : goal.returns
returns c =
    let found = edge_is c.args.instance.now c.args.picks.now c.requires.accepted.links c.requires.follow c.args.graphs.now c.handover-link.result.link c.leads_from.result c.leads_to.result c.get-from.result c.get-to.result c.link.result.now c.find.result
    c.requires.graphs c.link.ensures.value c.leads_from.ensures c.leads_to.ensures c.get-from.ensures c.get-to.ensures c.find.ensures in
    part_there c.args.instance.now c.args.picks.now c.requires.accepted.links c.requires.follow c.args.handover c.handover-link.result c.link.result.now c.handover-link.ensures.value c.handover-link.ensures.of_link c.link.ensures.value
    c.in-Some.edge c.in-Some-part.part (sym c.in-Some.is ∙ found) c.in-Some-part.is
