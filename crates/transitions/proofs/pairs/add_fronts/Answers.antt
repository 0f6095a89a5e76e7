-- Each number of units adds its pair, if it has one.
use Rattle.std.proofs.Common.{◌≡◌, ℕ, ◌+◌, List, [], ◌∷◌, ◌++◌, sym, ap, subst, ◌∙◌}
use Rattle.timetable.specs.Compositions.{composition_at}
use Rattle.timetable.specs.Links.{turned}
use Rattle.timetable.specs.Turns.{staying}
use Rattle.transitions.specs.declared.pairs.Pair.{Pair}
use Rattle.transitions.specs.Pairs.{IsFront, Grown}
use Rattle.transitions.proofs.Numbers.{read_number}
use Rattle.transitions.proofs.Stepping.{IsFound, front_none, front_more}
use Rattle.transitions.proofs.pairs.add_fronts.Goals as goal
use Rattle.transitions.proofs.pairs.add_fronts.Goals.{in-Some+in_ok-push, in_default}

pub loop-units-preserved : goal.loop-units-preserved
loop-units-preserved c =
    let types : c.turned-arriving.result ≡ turned c.args.reversed (staying c.args.end (composition_at c.args.instance.now c.args.to) (c.loop-units.units + 1)) =
    c.turned-arriving.ensures ∙ ap (turned c.args.reversed) (c.left_at.ensures ∙ ap (λ (ms : List ℕ). staying c.args.end ms (c.loop-units.units + 1)) (read_number c.args.instance.now c.catalogue.result.now c.args.to c.get-departing.result.now c.catalogue.ensures c.get-departing.ensures)) in
    let found : IsFound c.args.instance.now (turned c.args.reversed (staying c.args.end (composition_at c.args.instance.now c.args.to) (c.loop-units.units + 1))) c.number_of.result =
    subst (λ (ms : List ℕ). IsFound c.args.instance.now ms c.number_of.result) types c.number_of.ensures in
    elim c.match-number_of.branch [
      | in-Some+in_ok-push w ↦
          let items : c.match-number_of.pairs.items ≡ c.loop-units.pairs.items ++ record { from = w.in-Some.from; to = c.args.to } ∷ [] = cc w.in_ok-push.ensures.items in
          subst (λ (pairs : List Pair). Grown c.args.instance.now c.args.pairs.now.items pairs (λ (pair : Pair). (pair.to ≡ c.args.to) × IsFront c.args.instance.now c.args.reversed c.args.end (c.loop-units.units + 1) pair)) (sym items)
          (front_more c.args.instance.now c.args.reversed c.args.end c.args.pairs.now.items c.loop-units.pairs.items c.loop-units.units c.number_of.result c.args.to found w.in-Some.from w.in-Some.is c.requires.to c.loop-units.invariant)
      | in_default w ↦
          let items : c.match-number_of.pairs.items ≡ c.loop-units.pairs.items = cc in
          subst (λ (pairs : List Pair). Grown c.args.instance.now c.args.pairs.now.items pairs (λ (pair : Pair). (pair.to ≡ c.args.to) × IsFront c.args.instance.now c.args.reversed c.args.end (c.loop-units.units + 1) pair)) (sym items)
          (front_none c.args.instance.now c.args.reversed c.args.end c.args.pairs.now.items c.loop-units.pairs.items c.loop-units.units c.number_of.result c.args.to found w.in_default.not-Some c.loop-units.invariant)
    ]
