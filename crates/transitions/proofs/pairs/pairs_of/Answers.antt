-- Each composition adds its pairs; all of them are sorted.
use Rattle.std.proofs.Common.{◌≡◌, ◌+◌, ◌<◌, List, [], length, inl, inr, sym, ap, subst, ◌∙◌, arith, AllPairs, Contains}
use Rattle.std.specs.Prelude.{◌⊎◌, All}
use Rattle.std.proofs.lemmas.Bool.{iff_false}
use Rattle.std.proofs.lemmas.List.Filters.{dedup_is, All-dedup}
use Rattle.std.proofs.lemmas.List.Sorted.{Contains-permutation, All-permutation}
use Rattle.rules.specs.declared.records.End.{End}
use Rattle.timetable.specs.Chains.{leads_from, leads_to}
use Rattle.timetable.specs.Compositions.{composition_at}
use Rattle.transitions.specs.declared.pairs.Pair.{Pair}
use Rattle.transitions.specs.Pairs.{IsKnown, IsLeft, Grown, IsBeforePair}
use Rattle.transitions.proofs.Links.{from_listed, to_listed}
use Rattle.transitions.proofs.Reaching.{IsMadeOn, IsLeftOn, reaches}
use Rattle.transitions.proofs.Rising.{are_equal, in_order, all_there}
use Rattle.transitions.proofs.Rows.{made_row, no_made_row, left_row, no_left_row}
use Rattle.transitions.proofs.pairs.pairs_of.Goals as goal
use Rattle.transitions.proofs.pairs.pairs_of.Goals.{then-may_run+in_ok-add_made, else-may_run}
use Rattle.transitions.proofs.pairs.pairs_of.Goals.{then-may_run-2+in_ok-add_lefts, else-may_run-2}

pub loop-to-preserved : goal.loop-to-preserved
loop-to-preserved c =
    let told = c.may_run.ensures c.args.instance.now (leads_to c.args.link.now.kind) (c.deref.ensures.value ∙ c.requires.departing) in
    elim c.if-may_run.branch [
      | then-may_run+in_ok-add_made w ↦
          let items : c.if-may_run.pairs.items ≡ w.add_made.new.pairs.items = cc w.pairs-is in
          subst (λ (pairs : List Pair). Grown c.args.instance.now [] pairs (λ (pair : Pair). (pair.to < c.loop-to.to + 1) × IsMadeOn c.args.instance.now c.args.link.now.kind c.args.link.now.reverse c.uncoupled_part_count-few.result pair)) (sym items)
          (made_row c.args.instance.now c.args.link.now.kind c.args.link.now.reverse c.uncoupled_part_count-few.result c.loop-to.pairs.items c.loop-to.to w.add_made.new.pairs.items c.loop-to.invariant (w.in_ok-add_made.ensures))
      | else-may_run w ↦
          let items : c.if-may_run.pairs.items ≡ c.loop-to.pairs.items = cc w.pairs-is in
          subst (λ (pairs : List Pair). Grown c.args.instance.now [] pairs (λ (pair : Pair). (pair.to < c.loop-to.to + 1) × IsMadeOn c.args.instance.now c.args.link.now.kind c.args.link.now.reverse c.uncoupled_part_count-few.result pair)) (sym items)
          (no_made_row c.args.instance.now c.args.link.now.kind c.args.link.now.reverse c.uncoupled_part_count-few.result c.loop-to.pairs.items c.loop-to.to c.loop-to.invariant (iff_false told w.if-may_run.false))
    ]

pub loop-from-preserved : goal.loop-from-preserved
loop-from-preserved c =
    let told = c.may_run-in-loop-from.ensures c.args.instance.now (leads_from c.args.link.now.kind) (c.deref-in-loop-from.ensures.value ∙ c.requires.arriving) in
    elim c.if-may_run-2.branch [
      | then-may_run-2+in_ok-add_lefts w ↦
          let items : c.if-may_run-2.pairs.items ≡ w.add_lefts.new.pairs.items = cc w.pairs-is in
          let row =
          subst (λ (e : End). Grown c.args.instance.now c.loop-from.pairs.items w.add_lefts.new.pairs.items (λ pair. (pair.from ≡ c.loop-from.from) × IsLeft c.args.instance.now c.args.link.now.reverse e (length (composition_at c.args.instance.now c.loop-from.from)) pair))
          c.uncoupled_at-uncouple.ensures (w.in_ok-add_lefts.ensures) in
          subst (λ (pairs : List Pair). Grown c.args.instance.now [] pairs (λ (pair : Pair). IsMadeOn c.args.instance.now c.args.link.now.kind c.args.link.now.reverse c.uncoupled_part_count-few.result pair ⊎ ((pair.from < c.loop-from.from + 1) × IsLeftOn c.args.instance.now c.args.link.now.kind c.args.link.now.reverse pair))) (sym items)
          (left_row c.args.instance.now c.args.link.now.kind c.args.link.now.reverse c.uncoupled_part_count-few.result c.loop-from.pairs.items c.loop-from.from w.add_lefts.new.pairs.items c.loop-from.invariant row)
      | else-may_run-2 w ↦
          let items : c.if-may_run-2.pairs.items ≡ c.loop-from.pairs.items = cc w.pairs-is in
          subst (λ (pairs : List Pair). Grown c.args.instance.now [] pairs (λ (pair : Pair). IsMadeOn c.args.instance.now c.args.link.now.kind c.args.link.now.reverse c.uncoupled_part_count-few.result pair ⊎ ((pair.from < c.loop-from.from + 1) × IsLeftOn c.args.instance.now c.args.link.now.kind c.args.link.now.reverse pair))) (sym items)
          (no_left_row c.args.instance.now c.args.link.now.kind c.args.link.now.reverse c.uncoupled_part_count-few.result c.loop-from.pairs.items c.loop-from.from c.loop-from.invariant (iff_false told w.if-may_run-2.false))
    ]

pub returns-clause-edges : goal.returns-clause-edges
returns-clause-edges c = λ edge allowed.
    let from_below = from_listed c.args.instance.now c.args.link.now.kind c.args.link.now.reverse edge allowed in
    let to_below = to_listed c.args.instance.now c.args.link.now.kind c.args.link.now.reverse edge allowed in
    let sorted =
    Contains-permutation c.loop-from.pairs.items c.sort_unstable.new.self.items (record { from = edge.from; to = edge.to }) c.sort_unstable.ensures.permutation
    (c.loop-from.invariant.adds (record { from = edge.from; to = edge.to }) (record { from = from_below; to = to_below })
    (elim (reaches c.args.instance.now c.args.link.now.kind c.args.link.now.reverse c.uncoupled_part_count-few.result c.uncoupled_part_count-few.ensures edge allowed) [ inl made ↦ inl made | inr left ↦ inr (omega (arith, from_below, c.len-from-end.ensures.value, ap length c.catalogue-2.ensures, c.loop-from-test.false), left) ])) in
    subst (λ (pairs : List Pair). Contains pairs (record { from = edge.from; to = edge.to })) (sym (dedup_is are_equal c.sort_unstable.new.self.items c.dedup.new.self.items c.dedup.ensures.filtered))
    (all_there c.sort_unstable.new.self.items (record { from = edge.from; to = edge.to }) sorted)

pub returns-clause-in_order : goal.returns-clause-in_order
returns-clause-in_order c =
    subst (λ (pairs : List Pair). AllPairs IsBeforePair pairs) (sym (dedup_is are_equal c.sort_unstable.new.self.items c.dedup.new.self.items c.dedup.ensures.filtered))
    (in_order c.sort_unstable.new.self.items c.sort_unstable.ensures.sorted)

pub returns-clause-known : goal.returns-clause-known
returns-clause-known c =
    subst (λ (pairs : List Pair). All (IsKnown c.args.instance.now) pairs) (sym (dedup_is are_equal c.sort_unstable.new.self.items c.dedup.new.self.items c.dedup.ensures.filtered))
    (All-dedup are_equal (IsKnown c.args.instance.now) c.sort_unstable.new.self.items
    (All-permutation (IsKnown c.args.instance.now) c.loop-from.pairs.items c.sort_unstable.new.self.items c.sort_unstable.ensures.permutation c.loop-from.invariant.known))
