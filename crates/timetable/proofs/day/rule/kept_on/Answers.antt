-- The types of a train that turned round are those of its entries, turned round.
use Rattle.std.proofs.Common.{◌≡◌, List, ℕ, map, ap, ◌∙◌}
use Rattle.timetable.specs.Chains.{leads_from, leads_to}
use Rattle.timetable.specs.Links.{list_of, turned}
use Rattle.timetable.specs.Turns.{kept_of}
use Rattle.timetable.proofs.TypeRule.{turned-map}
use Rattle.timetable.proofs.day.rule.kept_on.Goals as goal

pub returns-clause-number : goal.returns-clause-number
returns-clause-number g c =
    let types = map (g.E.TripEntry.type_of c.args.instance.now) in
    let kind = c.args.link.now.kind in
    let r = c.args.link.now.reverse in
    let lists = g.E.TripEntry.lists_of c.args.instance.now c.args.lists.now in
    let arriving : c.as_slice-2.result.now ≡ types (turned r (list_of lists (leads_from kind))) =
    c.as_slice-2.ensures.value ∙ c.turned-arriving.ensures ∙ ap (turned r) (c.as_slice.ensures.value ∙ c.list_types-arriving.ensures ∙ ap (λ (t : ℕ). types (list_of lists t)) c.leads_from.ensures)
    ∙ turned-map (g.E.TripEntry.type_of c.args.instance.now) r (list_of lists (leads_from kind)) in
    let departing : c.as_slice-3.result.now ≡ types (list_of lists (leads_to kind)) =
    c.as_slice-3.ensures.value ∙ c.list_types-departing.ensures ∙ ap (λ (t : ℕ). types (list_of lists t)) c.leads_to.ensures in
    c.kept.ensures.number
    ∙ ap (λ (ms : List ℕ). kept_of kind ms c.as_slice-3.result.now) arriving
    ∙ ap (kept_of kind (types (turned r (list_of lists (leads_from kind))))) departing
