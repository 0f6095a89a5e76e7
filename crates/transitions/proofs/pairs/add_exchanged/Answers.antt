-- Each number of units adds its pairs.
use Rattle.std.proofs.Common.{◌≡◌, ℕ, ◌+◌, ◌-◌, List, length, sym, ap, subst, ◌∙◌, arith}
use Rattle.rules.specs.declared.records.End.{End}
use Rattle.timetable.specs.Compositions.{composition_at}
use Rattle.timetable.specs.Turns.{staying}
use Rattle.transitions.specs.declared.pairs.Pair.{Pair}
use Rattle.transitions.specs.Pairs.{uncoupled_at, coupled_at, IsJoined, IsExchanged, Grown}
use Rattle.transitions.proofs.Exchanging.{exchanged_none, exchanged_more}
use Rattle.transitions.proofs.Numbers.{read_number}
use Rattle.transitions.proofs.pairs.add_exchanged.Goals as goal
use Rattle.transitions.proofs.pairs.add_exchanged.Goals.{then-coupled-len+in_ok-add_joined, else-coupled-len}

pub loop-coupled-preserved : goal.loop-coupled-preserved
loop-coupled-preserved c =
    let departing : c.get-departing.result.now ≡ composition_at c.args.instance.now c.args.to =
    read_number c.args.instance.now c.catalogue.result.now c.args.to c.get-departing.result.now c.catalogue.ensures c.get-departing.ensures in
    elim c.if-coupled-len.branch [
      | then-coupled-len+in_ok-add_joined w ↦
          let kept : w.left_at-kept.result ≡ staying (coupled_at c.args.link.now.kind) (composition_at c.args.instance.now c.args.to) (length (composition_at c.args.instance.now c.args.to) - (c.loop-coupled.coupled + 1)) =
          w.left_at-kept.ensures ∙ ap (λ (e : End). staying e c.get-departing.result.now (w.len-then-coupled-len.result - (c.loop-coupled.coupled + 1))) c.coupled_at-couple.ensures
          ∙ ap (λ (n : ℕ). staying (coupled_at c.args.link.now.kind) c.get-departing.result.now (n - (c.loop-coupled.coupled + 1))) w.len-then-coupled-len.ensures.value
          ∙ ap (λ (ms : List ℕ). staying (coupled_at c.args.link.now.kind) ms (length ms - (c.loop-coupled.coupled + 1))) departing in
          let row =
          subst (λ (ms : List ℕ). Grown c.args.instance.now c.loop-coupled.pairs.items w.add_joined.new.pairs.items (λ (pair : Pair). (pair.to ≡ c.args.to) × IsJoined c.args.instance.now c.args.link.now.reverse (uncoupled_at c.args.link.now.kind) ms c.args.few pair)) kept
          (subst (λ (e : End). Grown c.args.instance.now c.loop-coupled.pairs.items w.add_joined.new.pairs.items (λ (pair : Pair). (pair.to ≡ c.args.to) × IsJoined c.args.instance.now c.args.link.now.reverse e w.left_at-kept.result c.args.few pair)) c.uncoupled_at-uncouple.ensures
          (w.in_ok-add_joined.ensures)) in
          let items : c.if-coupled-len.pairs.items ≡ w.add_joined.new.pairs.items = cc w.pairs-is in
          subst (λ (pairs : List Pair). Grown c.args.instance.now c.args.pairs.now.items pairs (λ (pair : Pair). (pair.to ≡ c.args.to) × IsExchanged c.args.instance.now c.args.link.now.reverse (uncoupled_at c.args.link.now.kind) (coupled_at c.args.link.now.kind) c.args.few (c.loop-coupled.coupled + 1) pair)) (sym items)
          (exchanged_more c.args.instance.now c.args.link.now.reverse (uncoupled_at c.args.link.now.kind) (coupled_at c.args.link.now.kind) c.args.few c.args.to c.args.pairs.now.items c.loop-coupled.pairs.items c.loop-coupled.coupled w.add_joined.new.pairs.items c.loop-coupled.invariant row)
      | else-coupled-len w ↦
          let items : c.if-coupled-len.pairs.items ≡ c.loop-coupled.pairs.items = cc w.pairs-is in
          subst (λ (pairs : List Pair). Grown c.args.instance.now c.args.pairs.now.items pairs (λ (pair : Pair). (pair.to ≡ c.args.to) × IsExchanged c.args.instance.now c.args.link.now.reverse (uncoupled_at c.args.link.now.kind) (coupled_at c.args.link.now.kind) c.args.few (c.loop-coupled.coupled + 1) pair)) (sym items)
          (exchanged_none c.args.instance.now c.args.link.now.reverse (uncoupled_at c.args.link.now.kind) (coupled_at c.args.link.now.kind) c.args.few c.args.to c.args.pairs.now.items c.loop-coupled.pairs.items c.loop-coupled.coupled
          (λ more. absurd (omega (arith, more, w.if-coupled-len.false, c.len.ensures.value, ap length departing))) c.loop-coupled.invariant)
    ]
