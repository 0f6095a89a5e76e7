use Rattle.std.proofs.Common.{◌≡◌, map, take}
use Rattle.command_line.specs.Parts.{counts_of, parts_of}
use Rattle.command_line.proofs.Counting.{AreAtMost}
use Rattle.command_line.proofs.plain.are_counted.Given as goal

abbrev pub invariant-loop-place : goal.invariant-loop-place
invariant-loop-place l = record {
  seen : l.seen ≡ counts_of (parts_of (take l.place (map (λ word. word.now) l.words)));
  most : AreAtMost l.place l.seen;
}
