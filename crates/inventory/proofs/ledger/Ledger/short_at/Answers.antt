use Rattle.std.proofs.Common.{◌≡◌, length, ℤ, pos, ◌≤ℤ◌, refl, ap, subst, ◌∙◌, arith, w64, to_z, of_z}
use Rattle.std.proofs.lemmas.Int.{ints}
use borrow.Author.Count.{below_more}
use Rattle.timetable.specs.Minutes.{minutes_of}
use Rattle.inventory.specs.FirstIn.{IsNotShort}
use Rattle.inventory.specs.Loaded.{Loaded}
use Rattle.inventory.proofs.ledger.Ledger.short_at.Goals as goal

pub loop-place-preserved : goal.loop-place-preserved
loop-place-preserved c =
    let some : pos 0 ≤ℤ c.count_after-count.result = omega (arith, ints, c.if-count-lt0.false) in
    below_more (IsNotShort c.args.self.now.day c.args.self.now.lists c.args.station c.args.unit_type) c.loop-place.place c.loop-place.invariant
    (subst (λ (count : ℤ). pos 0 ≤ℤ count) c.count_after-count.ensures some)

pub returns : goal.returns
returns c =
    let long : length c.minutes.result.now ≡ length (minutes_of c.args.self.now.day c.args.station) =
    ap length c.minutes.ensures.value ∙ ap (λ (loaded : Loaded). length (minutes_of loaded.day c.args.station)) c.self.view_is in
    λ k below. c.loop-place.invariant k (omega (arith, below, long, c.loop-place-test.false))

pub returns-then-count-lt0 : goal.returns-then-count-lt0
returns-then-count-lt0 c =
    let long : length c.minutes.result.now ≡ length (minutes_of c.args.self.now.day c.args.station) =
    ap length c.minutes.ensures.value ∙ ap (λ (loaded : Loaded). length (minutes_of loaded.day c.args.station)) c.self.view_is in
    let passed : to_z w64 (of_z w64 c.count_after-count.result) ≡ c.count_after-count.result = omega (arith, ints) in
    record {
      at = c.loop-place.place;
      known = omega (arith, long, c.loop-place-test.true);
      is = record {
        count = to_z w64 (of_z w64 c.count_after-count.result);
        negative = omega (arith, ints, c.if-count-lt0.true);
        is = passed ∙ c.count_after-count.ensures;
        fault_is = refl;
      };
      before = c.loop-place.invariant;
    }
