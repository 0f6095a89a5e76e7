-- There is room for all slacks, and the entries of all indices are the slacks.
use Rattle.std.proofs.Common.{◌≡◌, List, length, ap, ◌∙◌, arith}
use Rattle.std.proofs.lemmas.Nat.{mul-le}
use Rattle.timetable.specs.Day.{Day}
use Rattle.timetable.specs.Indices.{places_of}
use Rattle.timetable.specs.Picks.{picked}
use Rattle.timetable.proofs.Indices.{length-mus}
use Rattle.branch_tree.specs.declared.multipliers.Entry.{Entry}
use Rattle.branch_tree.specs.Entries.{value_at}
use Rattle.price_bound.specs.Entered.{entered}
use Rattle.price_bound.specs.Slacks.{slack_of}
use Rattle.price_bound.proofs.Entering.{value_below, value_beyond}
use Rattle.price_bound.proofs.slacks.put_slacks.Goals as goal

pub invariant_of-counted : goal.invariant_of-counted
invariant_of-counted c =
    let sound = c.requires.accepted.limits in
    let indices = c.indices.ensures.value in
    let most = c.indices.ensures.few in
    let lambdas = c.free_from.ensures.value in
    let few_lambdas = c.free_from.ensures.few in
    let handovers = c.handovers.ensures.value in
    let ends = c.handovers.ensures.ends in
    let trips = sound.timetable.trip_count in
    let few_mus = mul-le (length c.args.instance.now.stations) (length c.args.instance.now.types) 60 6 sound.timetable.station_count sound.timetable.type_count in
    let mus = length-mus c.args.instance.now in
    record {
      accepted = c.requires.accepted;
      edges = c.requires.graphs;
      follow = c.requires.follow;
      counted = c.load.ensures ∙ ap (λ (day : Day). record { day = day; lists = picked day c.args.picks.now }) c.requires.ledger;
      few = omega arith;
      room = omega arith;
    }

pub returns-clause-slacks : goal.returns-clause-slacks
returns-clause-slacks c =
    let all : c.put_parts.new.into ≡ entered c.args.instance.now c.args.picks.now (length (places_of c.args.instance.now)) = c.put_parts.ensures in record {
      listed = c.len.ensures.slacks;
      below = λ index less.
          ap (λ (entries : List Entry). value_at entries index) all
          ∙ value_below (slack_of c.args.instance.now c.args.picks.now) (length (places_of c.args.instance.now)) index less;
      beyond = λ index past.
          ap (λ (entries : List Entry). value_at entries index) all
          ∙ value_beyond (slack_of c.args.instance.now c.args.picks.now) (length (places_of c.args.instance.now)) index past;
    }
