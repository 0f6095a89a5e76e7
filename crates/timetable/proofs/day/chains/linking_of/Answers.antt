-- Both tables have an entry for each trip.
use Rattle.std.proofs.Common.{◌≡◌, ◌∙◌, ℕ, length, refl, sym, ap, arith}
use Rattle.timetable.specs.Chains.{chains_below}
use Rattle.timetable.specs.Links.{arriving_in, departing_in}
use Rattle.timetable.proofs.LinkTables.{table_length, table_passed}
use Rattle.timetable.proofs.day.chains.linking_of.Goals as goal

pub chains_of-requires-clause-incoming : goal.chains_of-requires-clause-incoming
chains_of-requires-clause-incoming c =
    table_passed departing_in c.args.links.now c.args.links.now c.args.links.now c.args.trips c.in_ok-incoming.incoming.items c.deref.result.now c.in_ok-incoming.ensures refl c.deref.ensures.value refl

pub chains_of-requires-clause-as_many : goal.chains_of-requires-clause-as_many
chains_of-requires-clause-as_many c =
    table_length departing_in c.args.links.now c.args.trips c.in_ok-incoming.incoming.items c.deref.result.now c.in_ok-incoming.ensures c.deref.ensures.value
    ∙ sym (table_length arriving_in c.args.links.now c.args.trips c.in_ok-outgoing.outgoing.items c.deref-2.result.now c.in_ok-outgoing.ensures c.deref-2.ensures.value)

pub chains_of-requires-clause-outgoing : goal.chains_of-requires-clause-outgoing
chains_of-requires-clause-outgoing c =
    table_passed arriving_in c.args.links.now c.args.links.now c.args.links.now c.args.trips c.in_ok-outgoing.outgoing.items c.deref-2.result.now c.in_ok-outgoing.ensures refl c.deref-2.ensures.value refl

pub chains_of-requires-clause-few : goal.chains_of-requires-clause-few
chains_of-requires-clause-few c =
    let entries : length c.deref-2.result.now ≡ c.args.trips = table_length arriving_in c.args.links.now c.args.trips c.in_ok-outgoing.outgoing.items c.deref-2.result.now c.in_ok-outgoing.ensures c.deref-2.ensures.value in
    omega (arith, c.requires.trips)

pub chains_of-requires-clause-known : goal.chains_of-requires-clause-known
chains_of-requires-clause-known c = λ t b is.
    let entries : length c.deref-2.result.now ≡ c.args.trips = table_length arriving_in c.args.links.now c.args.trips c.in_ok-outgoing.outgoing.items c.deref-2.result.now c.in_ok-outgoing.ensures c.deref-2.ensures.value in
    omega (arith, c.requires.known t b is)

pub returns-clause-chains : goal.returns-clause-chains
returns-clause-chains c =
    c.in_ok-chains.ensures
    ∙ ap (λ (n : ℕ). chains_below c.args.links.now n n) (table_length arriving_in c.args.links.now c.args.trips c.in_ok-outgoing.outgoing.items c.deref-2.result.now c.in_ok-outgoing.ensures c.deref-2.ensures.value)
