use Rattle.std.proofs.Common.{sym, ◌∙◌}
use Rattle.std.proofs.lemmas.Bool.{false≢true}
use Rattle.search.proofs.Evaluating.{right_by, held_where_right, alone_accepted, alone_put}
use Rattle.search.proofs.evaluation.single.Goals as goal

pub prove-unreachable-requires : goal.prove-unreachable-requires
prove-unreachable-requires c =
    false≢true (sym c.if-prove.true ∙ (c.is_ok.ensures.value ∙ right_by c.put-put.result
    (c.put-put.ensures.refusal ∙ alone_accepted _ c.args.index c.args.sign c.from.result c.in_ok-multipliers.ensures c.from.ensures c.requires)))

pub returns : goal.returns
returns c =
    alone_put _ _ c.args.index c.args.sign c.from.result c.in_ok-multipliers.ensures c.from.ensures c.requires
    (held_where_right c.put-put.result (sym c.is_ok.ensures.value ∙ c.if-prove.false) c.put-put.ensures.list)
