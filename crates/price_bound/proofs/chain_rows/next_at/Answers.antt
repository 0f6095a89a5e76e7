-- Where there is no such composition, or no link leads on, none follows.
use Rattle.std.proofs.Common.{◌≡◌, ◌<◌, ◌≤◌, None, Some, length, sym, ap, ◌∙◌, arith}
use Rattle.timetable.specs.Links.{outgoing}
use Rattle.price_bound.specs.CellRows.{comps_of}
use Rattle.price_bound.specs.Paths.{next_of}
use Rattle.price_bound.specs.Pricing.{priced_by}
use Rattle.price_bound.proofs.EdgeGroups.{none_next, past_next}
use Rattle.price_bound.proofs.Onward.{next_offered}
use Rattle.price_bound.proofs.chain_rows.next_at.Goals as goal

pub returns-then-comp-len : goal.returns-then-comp-len
returns-then-comp-len c =
    let past : comps_of (priced_by c.args.pricing.now) ≤ c.args.comp =
    omega (arith, c.if-comp-len.true, c.comp.view_is, c.len.ensures.value, ap length c.catalogue.ensures) in
    sym (ap next_of (past_next (priced_by c.args.pricing.now) c.args.trip c.args.ahead.now c.args.comp past))

pub returns-in_default : goal.returns-in_default
returns-in_default c =
    let none : outgoing c.args.pricing.now.instance.now c.args.trip ≡ None = sym c.outgoing.ensures.value ∙ c.in_default.is in
    sym (ap next_of (none_next (priced_by c.args.pricing.now) c.args.trip c.args.ahead.now c.args.comp none))

pub returns : goal.returns
returns c =
    let leads : outgoing c.args.pricing.now.instance.now c.args.trip ≡ Some c.in-Some.link = sym c.outgoing.ensures.value ∙ c.in-Some.is in
    let below : c.args.comp < comps_of (priced_by c.args.pricing.now) =
    omega (arith, c.if-comp-len.false, c.comp.view_is, c.len.ensures.value, ap length c.catalogue.ensures) in
    c.next_of.ensures ∙ ap next_of c.offered_by_link.ensures
    ∙ next_offered (priced_by c.args.pricing.now) c.args.trip c.in-Some.link c.args.ahead.now c.args.comp leads below c.requires.there
