use Rattle.std.specs.Prelude.{take}
use Rattle.std.specs.List.{All}
use Rattle.urgent_units.specs.Wishes.{GoTogether}
use Rattle.urgent_units.proofs.wish_table.go_together.Given as goal

abbrev pub invariant-loop-other : goal.invariant-loop-other
invariant-loop-other l = All (λ other. GoTogether l.instance other l.row) (take l.other-index l.before)
