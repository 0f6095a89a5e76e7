use Rattle.std.proofs.Common.{◌∙◌, inl, refl, sym}
use Rattle.std.proofs.lemmas.Bool.{false≢true}
use Rattle.fleet_check.proofs.checking.test_head.Goals as goal

pub returns-then-does_follow-clause-passed : goal.returns-then-does_follow-clause-passed
returns-then-does_follow-clause-passed c = λ values is. (c.does_follow.ensures values is).0 c.if-does_follow.true

pub returns-else-does_follow-clause-stops : goal.returns-else-does_follow-clause-stops
returns-else-does_follow-clause-stops c = λ values is. inl (refl, λ follows. false≢true (sym c.if-does_follow.false ∙ (c.does_follow.ensures values is).1 follows))
