-- The places and the types are the day's; without prices all sums are 0.
use Rattle.std.proofs.Common.{length, refl, sym, subst}
use Rattle.rules.specs.declared.records.End.TheVariants as at
use Rattle.timetable.specs.Compositions.{compositions_of}
use Rattle.price_bound.specs.CompositionTrees.{AreEach, IsRest}
use Rattle.price_bound.proofs.FrontSums.{free_sums}
use Rattle.price_bound.proofs.amounts.AmountRow.put_sums.Goals as goal

pub put_sums-requires-clause-fronts : goal.put_sums-requires-clause-fronts
put_sums-requires-clause-fronts c =
    subst (AreEach (IsRest c.args.instance.now at.Rear) (length (compositions_of c.args.instance.now))) (sym c.deref.ensures.value)
    (c.requires.trains.rests at.Rear)

pub returns-then-are_free-clause-sums : goal.returns-then-are_free-clause-sums
returns-then-are_free-clause-sums c =
    free_sums c.args.instance.now c.args.prices.now.gives.now c.args.self.now c.clear.new.self c.requires.room
    (c.if-are_free.ensures.gives refl) c.clear.ensures

pub returns-then-are_free-clause-taken : goal.returns-then-are_free-clause-taken
returns-then-are_free-clause-taken c =
    free_sums c.args.instance.now c.args.prices.now.takes.now c.args.taken.now c.clear-then-are_free.new.self c.requires.taken_room
    (c.if-are_free.ensures.takes refl) c.clear-then-are_free.ensures
