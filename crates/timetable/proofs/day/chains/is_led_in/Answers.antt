-- The table's entry of the trip is the link that leads into it.
use Rattle.std.proofs.Common.{◌∙◌, ◌<◌, length, Option, Some, None, false, sym, ap, arith}
use Rattle.std.specs.Prelude.{◌==◌, option_map, unwrap_or}
use Rattle.rules.specs.declared.records.Link.{Link}
use Rattle.timetable.specs.Chains.{leads_to}
use Rattle.timetable.specs.Links.{departing_in}
use Rattle.timetable.proofs.LinkTables.{entry_says, names_within, link_read, link_unread}
use Rattle.timetable.proofs.day.chains.is_led_in.Goals as goal

pub returns-in_default : goal.returns-in_default
returns-in_default c =
    sym (ap (λ (o : Option Link). unwrap_or (option_map (λ (link : Link). leads_to link.kind == c.args.trip) o) false)
    (link_unread departing_in c.args.links.now c.args.trip
    (entry_says departing_in c.args.links.now c.args.incoming.now c.place.result c.args.trip _ None c.requires.table c.requires.trip c.place.ensures.number c.in_default.is)))

pub bounds-links-place : goal.bounds-links-place
bounds-links-place c =
    let within : c.in-Some.link < length c.args.links.now = names_within departing_in c.args.links.now c.args.trip c.in-Some.link
    (entry_says departing_in c.args.links.now c.args.incoming.now c.place.result c.args.trip _ (Some c.in-Some.link) c.requires.table c.requires.trip c.place.ensures.number c.in-Some.is) in
    omega (arith, c.place-2.ensures.number)

pub bounds-links-place-in-Some : goal.bounds-links-place-in-Some
bounds-links-place-in-Some c =
    let within : c.in-Some.link < length c.args.links.now = names_within departing_in c.args.links.now c.args.trip c.in-Some.link
    (entry_says departing_in c.args.links.now c.args.incoming.now c.place.result c.args.trip _ (Some c.in-Some.link) c.requires.table c.requires.trip c.place.ensures.number c.in-Some.is) in
    omega (arith, c.place-2.ensures.number)

pub returns : goal.returns
returns c =
    c.is_led_by.ensures
    ∙ sym (ap (λ (o : Option Link). unwrap_or (option_map (λ (link : Link). leads_to link.kind == c.args.trip) o) false)
    (link_read departing_in c.args.links.now c.args.trip c.in-Some.link c.place-2.result c.index-links-place.result
    (entry_says departing_in c.args.links.now c.args.incoming.now c.place.result c.args.trip _ (Some c.in-Some.link) c.requires.table c.requires.trip c.place.ensures.number c.in-Some.is)
    c.place-2.ensures.number))
