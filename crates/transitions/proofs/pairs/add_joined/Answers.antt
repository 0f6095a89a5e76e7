-- Each composition adds its pair, if it has one.
use Rattle.std.proofs.Common.{◌≡◌, ℕ, ◌+◌, List, [], ◌∷◌, ◌++◌, sym, subst}
use Rattle.timetable.specs.Compositions.{composition_at}
use Rattle.timetable.specs.Links.{turned}
use Rattle.transitions.specs.declared.pairs.Pair.{Pair}
use Rattle.transitions.specs.Pairs.{joined_at, IsJoined, Grown}
use Rattle.transitions.proofs.Numbers.{read_number}
use Rattle.transitions.proofs.Stepping.{IsFound, joined_none, joined_more}
use Rattle.transitions.proofs.pairs.add_joined.Goals as goal
use Rattle.transitions.proofs.pairs.add_joined.Goals.{in-Some+in_ok-push, in_default}

pub loop-part-preserved : goal.loop-part-preserved
loop-part-preserved c =
    let found : IsFound c.args.instance.now (turned c.args.reversed (joined_at c.args.end c.args.units.now (composition_at c.args.instance.now c.loop-part.part))) c.number_of_joined.result =
    subst (λ (ms : List ℕ). IsFound c.args.instance.now (turned c.args.reversed (joined_at c.args.end c.args.units.now ms)) c.number_of_joined.result)
    (read_number c.args.instance.now c.catalogue.result.now c.loop-part.part c.get-others.result.now c.catalogue.ensures c.get-others.ensures) c.number_of_joined.ensures in
    elim c.match-number_of_joined.branch [
      | in-Some+in_ok-push w ↦
          let items : c.match-number_of_joined.pairs.items ≡ c.loop-part.pairs.items ++ record { from = w.in-Some.from; to = c.args.to } ∷ [] = cc w.in_ok-push.ensures.items in
          subst (λ (pairs : List Pair). Grown c.args.instance.now c.args.pairs.now.items pairs (λ (pair : Pair). (pair.to ≡ c.args.to) × IsJoined c.args.instance.now c.args.reversed c.args.end c.args.units.now (c.loop-part.part + 1) pair)) (sym items)
          (joined_more c.args.instance.now c.args.reversed c.args.end c.args.pairs.now.items c.loop-part.pairs.items c.args.units.now c.loop-part.part c.number_of_joined.result c.args.to found w.in-Some.from w.in-Some.is c.requires.to c.loop-part.invariant)
      | in_default w ↦
          let items : c.match-number_of_joined.pairs.items ≡ c.loop-part.pairs.items = cc in
          subst (λ (pairs : List Pair). Grown c.args.instance.now c.args.pairs.now.items pairs (λ (pair : Pair). (pair.to ≡ c.args.to) × IsJoined c.args.instance.now c.args.reversed c.args.end c.args.units.now (c.loop-part.part + 1) pair)) (sym items)
          (joined_none c.args.instance.now c.args.reversed c.args.end c.args.pairs.now.items c.loop-part.pairs.items c.args.units.now c.loop-part.part c.number_of_joined.result c.args.to found w.in_default.not-Some c.loop-part.invariant)
    ]
