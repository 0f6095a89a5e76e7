-- The values are those that were put.
use Rattle.std.proofs.Common.{◌≡◌, length, drop, sym, subst, arith}
use Rattle.std.proofs.lemmas.List.{take_at}
use Rattle.price_bound.specs.PassValues.{ArePassValues}
use Rattle.price_bound.proofs.passes.Passes.put_all.Goals as goal

pub returns-clause-values : goal.returns-clause-values
returns-clause-values c =
    let long : length c.put.new.values ≡ c.args.room.now.values.len =
    omega (arith, c.put.ensures.values.long, c.requires.room.values, c.deref_mut-3.ensures.len) in
    subst (ArePassValues c.args.self.now c.args.ahead.now)
    (sym (take_at c.put.new.values (drop (length c.put.new.values) c.args.room.now.values.items) c.args.room.now.values.len long))
    c.put.ensures.values
