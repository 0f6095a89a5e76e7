-- The minutes are those of the station.
use Rattle.std.proofs.Common.{◌≡◌, ◌∙◌, ℕ, ◌<◌, List, length, get_or, sym, ap, subst, arith}
use Rattle.std.specs.List.{All}
use Rattle.rail_base.specs.declared.limits.TheConstants.{MAX_MINUTES}
use Rattle.timetable.specs.Day.{Day}
use Rattle.timetable.specs.InstanceParts.{day_in}
use Rattle.timetable.specs.Lists.{listed}
use Rattle.timetable.specs.Minutes.{minutes_of, AreMinutes}
use Rattle.timetable.proofs.Listing.{length-listed, listed_entry}
use Rattle.timetable.proofs.Minutes.{are_minutes, few_minutes_of, few_minutes_before, minutes_within}
use Rattle.timetable.proofs.day.instance.Instance.minutes.Goals as goal

is_entry : (day now : Day) (table : List (List ℕ)) (station place : ℕ) (entry read : List ℕ) → table ≡ listed (minutes_of day) (length day.stations) → day ≡ now → station < length now.stations → place ≡ station
    → entry ≡ read → read ≡ get_or table place read → entry ≡ minutes_of day station
is_entry day now table station place entry read is same below at items index =
    items ∙ listed_entry (minutes_of day) (length day.stations) station place read table is (subst (λ (d : Day). station < length d.stations) (sym same) below) at index

pub index-requires : goal.index-requires
index-requires c = omega (arith, ap (λ (day : Day). length day.stations) c.self.view_is, ap (λ (xs : List (List ℕ)). length xs) c.self.invariant.minutes, length-listed (minutes_of (day_in c.self.inside)) (length c.self.inside.stations.items))

pub returns-clause-value : goal.returns-clause-value
returns-clause-value c =
    rw (← c.self.view_is)
    (is_entry (day_in c.self.inside) c.args.self.now c.self.inside.minutes.items c.args.station c.place.result c.items.result.now c.index.result.now c.self.invariant.minutes c.self.view_is c.requires
    c.place.ensures.number c.items.ensures c.index.ensures)

pub returns-clause-whole : goal.returns-clause-whole
returns-clause-whole c =
    let day : Day = day_in c.self.inside in
    rw (← c.self.view_is)
    (subst (λ (minutes : List ℕ). AreMinutes day c.args.station minutes) (sym (is_entry day c.args.self.now c.self.inside.minutes.items c.args.station c.place.result c.items.result.now c.index.result.now
    c.self.invariant.minutes c.self.view_is c.requires c.place.ensures.number c.items.ensures c.index.ensures)) (are_minutes day c.args.station))

pub returns-clause-few : goal.returns-clause-few
returns-clause-few c =
    let day : Day = day_in c.self.inside in
    let is : c.items.result.now ≡ minutes_of day c.args.station = is_entry day c.args.self.now c.self.inside.minutes.items c.args.station c.place.result c.items.result.now c.index.result.now
    c.self.invariant.minutes c.self.view_is c.requires c.place.ensures.number c.items.ensures c.index.ensures in
    omega (arith, ap (λ (minutes : List ℕ). length minutes) is, few_minutes_of day c.args.station, c.self.invariant.day.timetable.trip_count)

pub returns-clause-within : goal.returns-clause-within
returns-clause-within c =
    let day : Day = day_in c.self.inside in
    subst (λ (minutes : List ℕ). All (λ minute. minute < MAX_MINUTES) minutes) (sym (is_entry day c.args.self.now c.self.inside.minutes.items c.args.station c.place.result c.items.result.now c.index.result.now
    c.self.invariant.minutes c.self.view_is c.requires c.place.ensures.number c.items.ensures c.index.ensures)) (minutes_within day c.args.station c.self.invariant.day)

pub returns-clause-together : goal.returns-clause-together
returns-clause-together c = rw (← c.self.view_is) (λ stations. omega (arith, few_minutes_before (day_in c.self.inside) stations, c.self.invariant.day.timetable.trip_count))
