use Rattle.std.proofs.Common.{◌∙◌, [], ap, sym, map, take, slice_index_or, rules, length, ◌<◌}
use Rattle.command_line.specs.Parts.{Counts, counts_after, counts_of, kind_of, parts_of}
use Rattle.command_line.proofs.Counting.{counts_word, most_counted, parts_more}
use Rattle.command_line.proofs.plain.are_counted.Goals as goal

pub loop-place-preserved : goal.loop-place-preserved
loop-place-preserved c =
    let words = c.args.words.now in
    let place = c.loop-place.place in
    let before = parts_of (take place (map (λ word. word.now) words)) in
    let word = slice_index_or words place (record { ref_ptr = (0, 0); now = [] }) in
    let inside : place < length words = search rules in
    let kind = kind_of word.now in
    record {
      seen = c.count_word.ensures
          ∙ ap (λ (counts : Counts). counts_after counts.waiting kind counts) c.loop-place.invariant.seen
          ∙ sym (counts_word before word.now)
          ∙ sym (ap counts_of (parts_more words place (record { ref_ptr = (0, 0); now = [] }) inside));
      most = let counted_once = most_counted place c.loop-place.seen.waiting kind c.loop-place.seen
          c.loop-place.invariant.most in
          rw c.count_word.ensures counted_once;
    }
