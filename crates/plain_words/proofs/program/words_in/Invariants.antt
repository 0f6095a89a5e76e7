use Rattle.std.proofs.Common.{◌≡◌, ◌≤◌, ◌++◌, length, map, string_bytes}
use Rattle.std.specs.Vec.Iter.{into_iter_items}
use Rattle.rail_base.specs.declared.limits.TheConstants.{MAX_WORDS}
use Rattle.plain_words.proofs.program.words_in.Given as goal

abbrev pub invariant-loop-arg : goal.invariant-loop-arg
invariant-loop-arg l = record {
  gathered : l.words ≡ map string_bytes l.yielded;
  parts : l.yielded ++ into_iter_items l.arg-iterator ≡ into_iter_items l.fn.args;
  few : length l.words ≤ MAX_WORDS;
}
