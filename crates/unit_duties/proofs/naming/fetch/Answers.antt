use Rattle.std.proofs.Common.{◌≡◌, ◌∙◌, ◌≤◌, ◌<◌, ◌+◌, ◌++◌, ◌∷◌, [], ℕ, List, length, get_or, sym, subst, ap, arith}
use Rattle.std.proofs.Common.{length-append}
use Rattle.timetable.specs.Day.{from_of, leaves}
use Rattle.unit_duties.specs.Trains.{taken_types}
use Rattle.unit_duties.specs.Yards.{IsTaken, NoneReady}
use Rattle.unit_duties.proofs.Fetching.{FetchedSoFar, fetched_none, fetched_more, never_missing, fetched_all}
use Rattle.unit_duties.proofs.naming.fetch.Goals as goal
use Rattle.unit_duties.proofs.naming.fetch.Goals.{in-Some, in_default}

pub loop-unit_type-init : goal.loop-unit_type-init
loop-unit_type-init c =
    let day = c.args.instance.now in
    let b = c.args.trip in
    let types = taken_types day c.args.picks.now b in
    record {
      few = let none = ap length c.new-fetched.ensures in omega arith;
      rule = λ stands can. subst (λ (us : List ℕ). FetchedSoFar day stands (from_of day b) (leaves day b) types 0 us c.args.yards.now) (sym c.new-fetched.ensures)
          (fetched_none day stands (from_of day b) (leaves day b) types c.args.yards.now can.standing can.found);
    }

pub push-requires : goal.push-requires
push-requires c =
    let few = c.loop-unit_type.invariant.few in
    let fits = c.as_slice-unit_type-items.ensures.fits in
    let within = c.loop-unit_type-test.true in
    (omega arith, omega arith)

pub loop-unit_type-preserved : goal.loop-unit_type-preserved
loop-unit_type-preserved c =
    let day = c.args.instance.now in
    let b = c.args.trip in
    let types = taken_types day c.args.picks.now b in
    let i = c.loop-unit_type.unit_type-index in
    let m = c.unit_type-item.result in
    let is : c.as_slice-unit_type-items.result.now ≡ types = c.as_slice-unit_type-items.ensures.value ∙ c.taken_types-types.ensures in
    let lt : i < length types = subst (λ (l : List ℕ). i < length l) is c.loop-unit_type-test.true in
    let at : m ≡ get_or types i m = subst (λ (l : List ℕ). m ≡ get_or l i m) is c.unit_type-item.is in
    let few = c.loop-unit_type.invariant.few in
    elim c.match-take.branch [
      | in-Some w ↦
          let taken : IsTaken c.loop-unit_type.yards (from_of day b) m (leaves day b) c.take.new.yards w.in-Some.unit =
          subst (λ (s : ℕ). IsTaken c.loop-unit_type.yards s m (leaves day b) c.take.new.yards w.in-Some.unit) c.origin-station.ensures
          (subst (λ (k : ℕ). IsTaken c.loop-unit_type.yards c.origin-station.result m k c.take.new.yards w.in-Some.unit) c.departure-minute.ensures w.in-Some.ensures.some) in
          let made : c.match-take.fetched.items ≡ c.loop-unit_type.fetched.items ++ w.in-Some.unit ∷ [] = ap (λ v. v.items) w.fetched-is ∙ w.push.ensures.items in
          record {
            few = let long = ap length made ∙ length-append c.loop-unit_type.fetched.items (w.in-Some.unit ∷ []) in omega arith;
            rule = λ stands can. subst (λ (us : List ℕ). FetchedSoFar day stands (from_of day b) (leaves day b) types (i + 1) us c.take.new.yards) (sym made)
                (fetched_more day stands (from_of day b) (leaves day b) types i c.loop-unit_type.fetched.items c.loop-unit_type.yards c.take.new.yards m w.in-Some.unit lt at (c.loop-unit_type.invariant.rule stands can) taken);
          }
      | in_default w ↦
          let none : NoneReady c.loop-unit_type.yards (from_of day b) m (leaves day b) =
          subst (λ (s : ℕ). NoneReady c.loop-unit_type.yards s m (leaves day b)) c.origin-station.ensures
          (subst (λ (k : ℕ). NoneReady c.loop-unit_type.yards c.origin-station.result m k) c.departure-minute.ensures w.in_default.ensures.none) in
          record {
            few = let same = ap (λ v. length v.items) w.fetched-is in omega arith;
            rule = λ stands can. absurd (never_missing day stands (from_of day b) (leaves day b) types i c.loop-unit_type.fetched.items c.loop-unit_type.yards m lt at (c.loop-unit_type.invariant.rule stands can) none);
          }
    ]

pub returns : goal.returns
returns c = λ stands can.
    let day = c.args.instance.now in
    let b = c.args.trip in
    let types = taken_types day c.args.picks.now b in
    let is : c.as_slice-unit_type-items.result.now ≡ types = c.as_slice-unit_type-items.ensures.value ∙ c.taken_types-types.ensures in
    let so_far = c.loop-unit_type.invariant.rule stands can in
    record {
      units = fetched_all day stands (from_of day b) (leaves day b) types c.loop-unit_type.unit_type-index c.loop-unit_type.fetched.items c.loop-unit_type.yards
          (subst (λ (l : List ℕ). length l ≤ c.loop-unit_type.unit_type-index) is c.loop-unit_type-test.false) so_far;
      others = so_far.standing;
    }
