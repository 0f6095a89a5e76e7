use Rattle.std.proofs.Common.{◌≡◌, ◌+◌, nat_le, sym, ap, ◌∙◌, subst, arith}
use Rattle.branch_tree.specs.Entries.{AreRising}
use Rattle.advisors.specs.Puts.{with_entries}
use Rattle.advisors.proofs.EntryLists.{rising-filtered}
use Rattle.advisors.proofs.Merging.{drop-end, merged-is_stepped, with-slack, merged}
use Rattle.advisors.proofs.Turns.{entries-over}
use Rattle.advisors.proofs.subgradient.propose.Goals as goal

pub loop-place-preserved : goal.loop-place-preserved
loop-place-preserved c = record {
  put =
      with-slack c.args.look.now c.loop-place.to c.put_through-entries.new.to c.loop-place.entries.now c.put_through-entries.result.now c.args.look.now.slacks.now
      c.loop-place.place c.at.result c.at.ensures c.put_through-entries.ensures.put c.put_through-entries.ensures.rest
      ∙ c.loop-place.invariant.put;
  rising = subst AreRising (sym c.put_through-entries.ensures.rest) (rising-filtered (λ n. nat_le (c.at.result.index + 1) n) c.loop-place.entries.now c.loop-place.invariant.rising);
  fit = c.put_through-entries.ensures.fit;
}

put-merged : (c : goal.After-put_all) → c.put_all.new.to ≡ with_entries c.args.to.now (merged c.args.look.now c.args.look.now.multipliers.now c.args.look.now.slacks.now)
put-merged c =
    c.put_all.ensures.put
    ∙ ap (λ slacks. with_entries c.loop-place.to (merged c.args.look.now c.loop-place.entries.now slacks))
    (sym (drop-end c.args.look.now.slacks.now c.loop-place.place (omega (arith, c.loop-place-test.false, c.len-place-end.ensures.value))))
    ∙ c.loop-place.invariant.put

pub returns-clause-stepped : goal.returns-clause-stepped
returns-clause-stepped c =
    merged-is_stepped c.args.look.now c.args.to.now c.put_all.new.to c.multipliers.ensures.fit.multipliers.rising c.entries-entries.ensures.multipliers.rising
    c.len-place-end.ensures.slacks.rising (put-merged c)

pub returns-clause-over : goal.returns-clause-over
returns-clause-over c =
    entries-over c.args.to.now c.put_all.new.to (merged c.args.look.now c.args.look.now.multipliers.now c.args.look.now.slacks.now) (put-merged c)
