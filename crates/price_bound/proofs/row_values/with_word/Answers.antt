-- The lowest bit and the highest one of a word bound the members.
use Rattle.std.proofs.Common.{◌<◌, ◌^◌, inl, inr, refl, subst, arith}
use Rattle.std.proofs.lemmas.Bool.{cases_lt}
use Rattle.price_bound.specs.RowValues.{TellsMembers}
use Rattle.price_bound.proofs.RowValues.{members_in_word, no_members}
use Rattle.price_bound.proofs.row_values.with_word.Goals as goal

pub returns-then-word-eq0-clause-members : goal.returns-then-word-eq0-clause-members
returns-then-word-eq0-clause-members c member done tells k lt outside = elim (cases_lt k c.args.begin) [
  | inl before ↦ done k before outside
  | inr here ↦ no_members member c.args.begin (subst (TellsMembers member c.args.begin) c.if-word-eq0.true tells) k here lt
]

pub returns-clause-members : goal.returns-clause-members
returns-clause-members c member done tells =
    let some : 0 < c.args.word = omega (arith, c.if-word-eq0.false) in
    let fits : c.args.word < 2 ^ 64 = c.ranges.word.fits in
    members_in_word c.args.range _ _ member c.args.word c.args.begin some fits c.min.ensures refl done tells
