use Rattle.std.proofs.Common.{◌≡◌, ◌≤◌, ◌∙◌, sym, subst, unsigned_abs, arith, w64}
use Rattle.std.proofs.lemmas.Int.{ints}
use mir.Val.{to_z, of_z}
use Rattle.rail_base.specs.declared.limits.TheConstants.{MAX_MULTIPLIER}
use Rattle.branch_tree.specs.Entries.{AreMultipliers, value_at}
use Rattle.advisors.proofs.Within.{value-within}
use Rattle.advisors.proofs.subgradient.moved_entry.Goals as goal

pub moved-requires : goal.moved-requires
moved-requires c =
    let entries : AreMultipliers c.args.look.now.multipliers.now = c.entries.ensures.multipliers in
    let near : unsigned_abs (value_at c.args.look.now.multipliers.now c.args.slack.index) ≤ MAX_MULTIPLIER = value-within c.args.look.now.multipliers.now c.args.slack.index entries.within in
    let passed : to_z w64 (of_z w64 c.value-value.result) ≡ c.value-value.result = omega (arith, ints) in
    subst (λ v. unsigned_abs v ≤ MAX_MULTIPLIER) (sym (passed ∙ c.value-value.ensures)) near
