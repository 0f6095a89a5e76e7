-- So many splits are made, and the advisors were asked for their days alone.
use Rattle.std.proofs.Common.{◌≡◌, ◌+◌}
use Rattle.fleet_size.specs.Found.{branchings_in}
use Rattle.fleet_size.specs.Slots.{IsSearch, nodes_in}
use Rattle.fleet_size.proofs.Asked.{AskedFor}
use Rattle.fleet_size.proofs.searching.run.Given as goal

abbrev pub invariant-loop-split : goal.invariant-loop-split
invariant-loop-split g l = record {
  search : IsSearch l.problem.tables.instance.now l.problem.prices.now l.problem.granted.branchings l.search;
  splits : l.search.splits ≡ l._split;
  asked : AskedFor (λ b. (goal.Advisor-dyn g (b.vtable, b.value)).asked b.value) (λ b. (goal.Advisor-dyn g (b.vtable, b.value)).identity b.value)
      (λ b. (goal.Advisor-dyn g (b.vtable, b.value)).has_quit b.value) l.problem.granted.rounds l.problem.granted.branchings l.fn.advisors.items l.advisors.items
      (l._split + 1) (branchings_in (nodes_in l.search.slots.items));
}
