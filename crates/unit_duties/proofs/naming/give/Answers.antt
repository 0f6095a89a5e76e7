use Rattle.std.proofs.Common.{◌≡◌, ◌∙◌, ◌+◌, ◌<◌, ◌≤◌, ◌++◌, ◌∷◌, [], ℕ, List, length, take, get_or, refl, sym, subst}
use Rattle.std.proofs.lemmas.List.{take_all, take_more}
use Rattle.timetable.specs.Day.{to_of, ready_at}
use Rattle.timetable.proofs.ListedUnits.{unit_at, type_is}
use Rattle.unit_duties.specs.Trains.{given_units}
use Rattle.unit_duties.specs.Yards.{ArePutIn}
use Rattle.unit_duties.proofs.Giving.{put_none, put_more}
use Rattle.unit_duties.proofs.naming.give.Goals as goal

pub unit-requires : goal.unit-requires
unit-requires c =
    let gs = given_units c.args.instance.now c.args.picks.now c.args.trip c.args.units.now in
    let i = c.loop-unit.unit-index in
    let u = c.unit-item.result in
    let is : c.as_slice-unit-items.result.now ≡ gs = c.as_slice-unit-items.ensures.value ∙ c.given_units-given.ensures in
    unit_at c.args.instance.now gs i u c.requires.known (subst (λ (l : List ℕ). i < length l) is c.loop-unit-test.true) (subst (λ (l : List ℕ). u ≡ get_or l i u) is c.unit-item.is)

pub loop-unit-preserved : goal.loop-unit-preserved
loop-unit-preserved c =
    let day = c.args.instance.now in
    let b = c.args.trip in
    let gs = given_units day c.args.picks.now b c.args.units.now in
    let i = c.loop-unit.unit-index in
    let u = c.unit-item.result in
    let is : c.as_slice-unit-items.result.now ≡ gs = c.as_slice-unit-items.ensures.value ∙ c.given_units-given.ensures in
    let lt : i < length gs = subst (λ (l : List ℕ). i < length l) is c.loop-unit-test.true in
    let at : u ≡ get_or gs i u = subst (λ (l : List ℕ). u ≡ get_or l i u) is c.unit-item.is in
    let more : take (i + 1) gs ≡ take i gs ++ u ∷ [] = rw (take_more gs i u lt, ← at) refl in
    let before : ArePutIn day c.goal_of-station.result.0 c.goal_of-station.result.1 (take i gs) c.args.yards.now c.loop-unit.yards =
    subst (λ (s : ℕ). ArePutIn day s c.goal_of-station.result.1 (take i gs) c.args.yards.now c.loop-unit.yards) (sym c.goal_of-station.ensures.station)
    (subst (λ (r : ℕ). ArePutIn day (to_of day b) r (take i gs) c.args.yards.now c.loop-unit.yards) (sym c.goal_of-station.ensures.ready) c.loop-unit.invariant) in
    let after : ArePutIn day c.goal_of-station.result.0 c.goal_of-station.result.1 (take i gs ++ u ∷ []) c.args.yards.now c.insert.new.self =
    put_more day c.goal_of-station.result.0 c.goal_of-station.result.1 c.unit.result.unit_type u (take i gs) c.args.yards.now c.loop-unit.yards c.insert.new.self
    (type_is day u c.unit.result c.unit.ensures.value) before c.in_ok-insert.ensures.updates.0 in
    subst (λ (us : List ℕ). ArePutIn day (to_of day b) (ready_at day b) us c.args.yards.now c.insert.new.self) (sym more)
    (subst (λ (r : ℕ). ArePutIn day (to_of day b) r (take i gs ++ u ∷ []) c.args.yards.now c.insert.new.self) c.goal_of-station.ensures.ready
    (subst (λ (s : ℕ). ArePutIn day s c.goal_of-station.result.1 (take i gs ++ u ∷ []) c.args.yards.now c.insert.new.self) c.goal_of-station.ensures.station after))

pub loop-unit-init : goal.loop-unit-init
loop-unit-init c = put_none c.args.instance.now (to_of c.args.instance.now c.args.trip) (ready_at c.args.instance.now c.args.trip) c.args.yards.now

pub returns : goal.returns
returns c =
    let day = c.args.instance.now in
    let b = c.args.trip in
    let gs = given_units day c.args.picks.now b c.args.units.now in
    let i = c.loop-unit.unit-index in
    let is : c.as_slice-unit-items.result.now ≡ gs = c.as_slice-unit-items.ensures.value ∙ c.given_units-given.ensures in
    let all : take i gs ≡ gs = take_all i gs (subst (λ (l : List ℕ). length l ≤ i) is c.loop-unit-test.false) in
    subst (λ (us : List ℕ). ArePutIn day (to_of day b) (ready_at day b) us c.args.yards.now c.loop-unit.yards) all c.loop-unit.invariant
