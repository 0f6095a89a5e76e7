use Rattle.std.proofs.Common.{◌≡◌}
use Rattle.worked_calls.proofs.machine_tests.stepped.Given as goal

abbrev pub invariant-loop-taken : goal.invariant-loop-taken
invariant-loop-taken l = record {
  same : l.day.day ≡ l.fn.instance;
}
