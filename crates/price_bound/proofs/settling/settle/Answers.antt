-- The first hand-over that misses its part, else the first fault of the yards, else a solution.
use Rattle.std.proofs.Common.{◌≡◌, ◌<◌, ℕ, ℤ, ◌+ℤ◌, List, Option, Some, None, pos, sym, ap, subst, ◌∙◌}
use Rattle.std.specs.List.{All}
use Rattle.timetable.specs.Cost.{cost_of}
use Rattle.price_bound.specs.ChangedDays.{added_cost, changed_day}
use Rattle.price_bound.proofs.ChangedRelaxation.{changed_named}
use Rattle.std.specs.Prelude.{MatchOption}
use Rattle.timetable.specs.declared.day.indices.Place.{Place}
use Rattle.timetable.specs.Day.{Day}
use Rattle.timetable.specs.Picks.{ArePicks, picked}
use Rattle.inventory.specs.declared.faults.StockFault.{StockFault}
use Rattle.inventory.specs.Loaded.{Loaded}
use Rattle.inventory.specs.StockFaults.{IsFirstFault}
use Rattle.price_bound.specs.Parts.{IsFirstMissed, NoneMissed}
use Rattle.price_bound.specs.BrokenPlaces.{fault_sign, place_of_fault}
use Rattle.price_bound.proofs.SettledBy.{fault_first, fault_signed, named, sigma_first, sigma_signed, solution}
use Rattle.price_bound.proofs.Whole.{are_picks}
use Rattle.price_bound.proofs.settling.settle.Goals as goal

-- what a ledger tells once it has loaded the picks
fault_is : (day other : Day) (picks : List ℕ) (loaded : Loaded) (fault : Option StockFault) → other ≡ day → loaded ≡ record { day = other; lists = picked other picks }
    → IsFirstFault loaded.day loaded.lists fault → (told : Option StockFault) → fault ≡ told → IsFirstFault day (picked day picks) told
fault_is day other picks loaded fault same is first told as_told =
    subst (IsFirstFault day (picked day picks)) as_told
    (subst (λ (x : Loaded). IsFirstFault x.day x.lists fault) (is ∙ ap (λ (d : Day). record { day = d; lists = picked d picks }) same) first)

-- what was looked for among the hand-overs
missed_is : (day : Day) (picks : List ℕ) (found told : Option Place) → MatchOption found (NoneMissed day picks) (IsFirstMissed day picks) → found ≡ told
    → MatchOption told (NoneMissed day picks) (IsFirstMissed day picks)
missed_is day picks found told first is = subst (λ (o : Option Place). MatchOption o (NoneMissed day picks) (IsFirstMissed day picks)) is first

pub returns-in-Some-clause-settled : goal.returns-in-Some-clause-settled
returns-in-Some-clause-settled c =
    let first : IsFirstMissed c.args.instance.now c.args.picks.now c.in-Some.place = missed_is c.args.instance.now c.args.picks.now c.first_missed.result (Some c.in-Some.place) c.first_missed.ensures c.in-Some.is in
    changed_named (changed_day c.args.instance.now c.args.changes.now) c.args.picks.now c.in-Some.place (pos 1) c.broken_at.result c.broken_at.ensures
    (named c.args.instance.now c.args.picks.now c.requires.accepted c.in-Some.place (pos 1) c.broken_at.result c.broken_at.ensures
    (sigma_signed c.args.instance.now c.args.picks.now c.requires.accepted c.in-Some.place first)
    (sigma_first c.args.instance.now c.args.picks.now c.requires.accepted c.in-Some.place first))

pub load-requires : goal.load-requires
load-requires c =
    subst (λ (day : Day). ArePicks day c.args.picks.now) (sym c.requires.ledger) (are_picks c.args.instance.now c.args.picks.now c.requires.follow)

pub cost-requires : goal.cost-requires
cost-requires c = are_picks c.args.instance.now c.args.picks.now c.requires.follow

pub returns-in-Some-first_fault-clause-settled : goal.returns-in-Some-first_fault-clause-settled
returns-in-Some-first_fault-clause-settled c =
    let none : NoneMissed c.args.instance.now c.args.picks.now = missed_is c.args.instance.now c.args.picks.now c.first_missed.result None c.first_missed.ensures c.in_default.is in
    let fault = fault_is c.args.instance.now c.args.ledger.now.day c.args.picks.now c.load.new.self c.first_fault.result c.requires.ledger c.load.ensures c.first_fault.ensures (Some c.in-Some-first_fault.fault) c.in-Some-first_fault.is in
    changed_named (changed_day c.args.instance.now c.args.changes.now) c.args.picks.now (place_of_fault c.in-Some-first_fault.fault)
    (fault_sign c.args.instance.now c.in-Some-first_fault.fault) c.broken_by.result c.broken_by.ensures
    (named c.args.instance.now c.args.picks.now c.requires.accepted (place_of_fault c.in-Some-first_fault.fault) (fault_sign c.args.instance.now c.in-Some-first_fault.fault) c.broken_by.result c.broken_by.ensures
    (fault_signed c.args.instance.now c.args.picks.now c.requires.accepted c.in-Some-first_fault.fault fault)
    (fault_first c.args.instance.now c.args.picks.now c.requires.accepted c.in-Some-first_fault.fault none fault))

pub returns-in-None-clause-settled : goal.returns-in-None-clause-settled
returns-in-None-clause-settled c =
    let none : NoneMissed c.args.instance.now c.args.picks.now = missed_is c.args.instance.now c.args.picks.now c.first_missed.result None c.first_missed.ensures c.in_default.is in
    let fault = fault_is c.args.instance.now c.args.ledger.now.day c.args.picks.now c.load.new.self c.first_fault.result c.requires.ledger c.load.ensures c.first_fault.ensures None c.in-None.is in
    let sum : c.added.result.0 ≡ pos (cost_of c.args.instance.now (picked c.args.instance.now c.args.picks.now))
    +ℤ pos (added_cost c.args.changes.now c.args.picks.now) =
    c.added.ensures ∙ (ap (λ (z : ℤ). z +ℤ c.added_cost-more.result.0) c.cost.ensures.cost
    ∙ ap (λ (z : ℤ). pos (cost_of c.args.instance.now (picked c.args.instance.now c.args.picks.now)) +ℤ z) c.added_cost-more.ensures.value) in
    (solution c.args.instance.now c.args.picks.now c.requires.accepted c.requires.follow none fault, sym sum)

pub added_cost-more-requires : goal.added_cost-more-requires
added_cost-more-requires c =
    subst (λ (n : ℕ). All (λ change. change.trip < n) c.args.changes.now) (sym c.requires.follow.trips) c.requires.changes.trips
