-- One more entry is copied, and at the end all are.
use Rattle.std.proofs.Common.{◌∷◌, ◌++◌, [], List, take, ap, sym, ◌∙◌}
use Rattle.std.proofs.lemmas.List.{take_more, take_all}
use Rattle.rules.proofs.links.copy_of.Goals as goal

pub loop-entry-preserved : goal.loop-entry-preserved
loop-entry-preserved g c =
    c.push.ensures.items ∙ ap (λ (copied : List g.row.T.Denot). copied ++ c.entry-item.result ∷ []) c.loop-entry.invariant
    ∙ ap (λ (entry : g.row.T.Denot). take c.loop-entry.entry-index c.args.list.now ++ entry ∷ []) c.entry-item.is
    ∙ sym (take_more c.args.list.now c.loop-entry.entry-index c.entry-item.result c.loop-entry-test.true)

pub returns : goal.returns
returns g c = c.loop-entry.invariant ∙ take_all c.loop-entry.entry-index c.args.list.now c.loop-entry-test.false
