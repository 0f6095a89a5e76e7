use Rattle.std.proofs.Common.{◌≡◌, ◌+◌, ◌*◌, ap, arith, sym}
use Rattle.search.specs.Questions.{in_rounds}
use Rattle.search.proofs.Asking.{are_asked_within}
use Rattle.fleet_check.specs.Verdicts.{IsValid}
use Rattle.fleet_check.proofs.Truth.{valid_is_true}
use Rattle.fleet_size.specs.Found.{branchings_in}
use Rattle.fleet_size.specs.Slots.{nodes_in}
use Rattle.fleet_size.proofs.Asked.{fewer_in_rounds}
use Rattle.fleet_size.proofs.Founds.{found, found_is_valid, search_can_be_valued}
use Rattle.fleet_size.proofs.searching.fleet.Goals as goal

pub concluded-requires : goal.concluded-requires
concluded-requires g c =
    search_can_be_valued c.args.tables.now.instance.now c.args.prices.now c.args.granted.branchings c.in_ok-search.search
    c.is_sound.ensures c.requires.prices c.in_ok-search.ensures.search

pub returns-clause-found : goal.returns-clause-found
returns-clause-found g c =
    let day = c.args.tables.now.instance.now in
    let prices = c.args.prices.now in
    let fleet = c.in_ok-found.found in
    let valid : IsValid day prices fleet =
    found_is_valid day prices c.args.granted c.in_ok-search.search fleet c.in_ok-search.ensures.search
    c.in_ok-search.ensures.ended c.in_ok-found.ensures in
    found day prices c.args.granted c.in_ok-search.search fleet c.in_ok-search.ensures.search
    c.in_ok-search.ensures.ended c.in_ok-found.ensures c.requires.granted.splits (valid_is_true day prices fleet c.is_sound.ensures valid)

pub returns-clause-checks : goal.returns-clause-checks
returns-clause-checks g c = λ verdict is.
    is.valid.1 (found_is_valid c.args.tables.now.instance.now c.args.prices.now c.args.granted c.in_ok-search.search
    c.in_ok-found.found c.in_ok-search.ensures.search c.in_ok-search.ensures.ended c.in_ok-found.ensures)

pub returns-clause-counted : goal.returns-clause-counted
returns-clause-counted g c =
    let rounds = c.args.granted.rounds in
    let search = c.in_ok-search.search in
    let fleet = c.in_ok-found.found in
    let made : branchings_in fleet.boxes ≡ branchings_in (nodes_in search.slots.items) = ap branchings_in c.in_ok-found.ensures.boxes in
    let most : rounds * (2 * branchings_in (nodes_in search.slots.items) + (search.splits + 1)) ≡ rounds * (2 * branchings_in fleet.boxes + (fleet.splits + 1)) =
    (λ i. rounds * (2 * sym made i + (sym c.in_ok-found.ensures.splits i + 1))) in
    are_asked_within _ _ (in_rounds rounds (branchings_in (nodes_in search.slots.items))) (rounds * (2 * branchings_in (nodes_in search.slots.items) + (search.splits + 1)))
    (in_rounds rounds (branchings_in fleet.boxes)) (rounds * (2 * branchings_in fleet.boxes + (fleet.splits + 1))) c.args.advisors.now.items c.run.new.advisors.items
    (fewer_in_rounds rounds (branchings_in fleet.boxes) (branchings_in (nodes_in search.slots.items)) (omega (arith, made))) (omega (arith, most)) c.in_ok-search.ensures.counted
