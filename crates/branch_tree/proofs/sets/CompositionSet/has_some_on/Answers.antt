use Rattle.std.proofs.Common.{◌≡◌, true, refl, ◌∙◌, arith}
use Rattle.std.proofs.lemmas.Bool.{false≢true}
use Rattle.branch_tree.specs.Cuts.{is_on}
use Rattle.branch_tree.specs.Sets.{is_member}
use Rattle.branch_tree.proofs.Members.{is_member-restricted, both_true, none_kept}
use Rattle.branch_tree.proofs.sets.CompositionSet.has_some_on.Goals as goal

pub returns-then-has_on : goal.returns-then-has_on
returns-then-has_on c =
    let member : is_member c.args.self.now c.loop-comp.comp ≡ true = cc in
    let on : is_on c.args.catalogue.now c.args.cut.now c.args.side c.loop-comp.comp ≡ true = cc in
    ((λ _. (c.loop-comp.comp, is_member-restricted _ c.args.self.now c.loop-comp.comp ∙ both_true _ _ member on)), (λ _. refl))

pub returns : goal.returns
returns c = (
  (λ wrong. absurd (false≢true wrong)),
  (λ there. absurd (none_kept (is_on c.args.catalogue.now c.args.cut.now c.args.side) c.args.self.now
      (λ comp below. c.loop-comp.invariant comp (omega (arith, below))) there)),
)
