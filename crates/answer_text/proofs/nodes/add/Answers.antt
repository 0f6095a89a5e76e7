use Rattle.std.proofs.Common.{◌∙◌, ap}
use Rattle.branch_tree.specs.Entries.{put_in, refusal_of}
use Rattle.answer_text.proofs.Adding.{no_refusal, not_refused, on_ok, put_past, same_value}
use Rattle.answer_text.proofs.nodes.add.Goals as goal

pub prove-unreachable-requires : goal.prove-unreachable-requires
prove-unreachable-requires c =
    let entries = c.args.entries.now in
    let entry = c.args.entry in
    let fine = no_refusal c.put-put.result _ c.put-put.ensures.refusal
    (ap (refusal_of entries entry.index) (same_value entry.value c.requires.size) ∙ not_refused entries entry.index entry.value c.requires.size c.requires.room) in
    absurd (cc (fine, c.is_ok.ensures.value, c.if-prove.true))

pub returns : goal.returns
returns c =
    let entries = c.args.entries.now in
    let entry = c.args.entry in
    let fine = no_refusal c.put-put.result _ c.put-put.ensures.refusal
    (ap (refusal_of entries entry.index) (same_value entry.value c.requires.size) ∙ not_refused entries entry.index entry.value c.requires.size c.requires.room) in
    on_ok c.put-put.result fine c.put-put.ensures.list ∙ ap (put_in entries entry.index) (same_value entry.value c.requires.size)
    ∙ put_past entries entry.index entry.value c.args.least c.requires.below c.requires.rising c.requires.other
