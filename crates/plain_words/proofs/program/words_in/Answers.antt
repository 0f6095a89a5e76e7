use Rattle.std.proofs.Common.{◌≡◌, ◌≤◌, ◌⊎◌, inl, inr, length, string_bytes, rules}
use Rattle.std.specs.Vec.Iter.{into_iter_items}
use Rattle.rail_base.specs.declared.limits.TheConstants.{MAX_WORDS}
use Rattle.plain_words.proofs.Gathered.{gathered}
use Rattle.plain_words.proofs.program.words_in.Goals as goal
use Rattle.plain_words.proofs.program.words_in.Goals.{in-None, in-Some+then-len-ge-MAX_WORDS}

pub returns : goal.returns
returns c =
    let ended : (length (into_iter_items c.loop-arg.arg-iterator) ≡ 0) ⊎ (MAX_WORDS ≤ length c.loop-arg.words) =
    elim c.match-next.branch [
      | in-None w ↦ inl (search rules)
      | in-Some+then-len-ge-MAX_WORDS w ↦ inr (search rules)
    ] in
    gathered string_bytes MAX_WORDS c.loop-arg.yielded (into_iter_items c.loop-arg.arg-iterator)
    (into_iter_items c.args.args) c.loop-arg.words c.loop-arg.invariant.gathered c.loop-arg.invariant.parts
    c.loop-arg.invariant.few ended
