use Rattle.std.proofs.Common.{◌≡◌, ◌++◌, take}
use Rattle.std.specs.Prelude.{string_bytes}
use Rattle.answer_text.specs.Lines.{text_of_lines}
use Rattle.answer_text.specs.Texts.{node_lines}
use Rattle.answer_text.proofs.printing.write_nodes.Given as goal

-- the nodes so far are written
abbrev pub invariant-loop-node : goal.invariant-loop-node
invariant-loop-node l = string_bytes l.text ≡ string_bytes l.initial.text ++ text_of_lines (node_lines (take l.node l.tree))
