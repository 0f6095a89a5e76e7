-- The unit at the rear is the last one.
use Rattle.std.proofs.Common.{◌≡◌, ◌-◌, ℕ, suc, Some, ap, sym, ◌∙◌, arith, length, slice_get, List}
use Rattle.timetable.specs.Compositions.{compositions_of}
use Rattle.price_bound.proofs.FrontSums.{last_is}
use Rattle.price_bound.proofs.trains.last.Goals as goal

pub returns : goal.returns
returns c =
    let at : slice_get (compositions_of c.args.instance.now) c.args.comp ≡ Some c.get-composition.result.now =
    ap (λ (cs : List (List ℕ)). slice_get cs c.args.comp) (sym c.catalogue.ensures) ∙ c.get-composition.ensures in
    let long : suc (c.len.result - 1) ≡ length c.get-composition.result.now = omega (arith, c.len.ensures.value, c.len.ensures.some) in
    last_is c.args.instance.now c.args.comp c.get-composition.result.now (c.len.result - 1) c.at.result c.requires at long c.at.ensures
