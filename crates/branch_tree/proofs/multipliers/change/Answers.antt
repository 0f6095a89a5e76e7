use Rattle.std.proofs.Common.{◌≡◌, pos, unsigned_abs, set, ◌∙◌, ap, arith, w64}
use Rattle.std.proofs.lemmas.Int.{ints}
use mir.Val.{to_z, of_z}
use Rattle.branch_tree.proofs.Puts.{changed_out, changed_in, no_size}
use Rattle.branch_tree.proofs.multipliers.change.Goals as goal

pub returns-then-value-eq0-clause-items : goal.returns-then-value-eq0-clause-items
returns-then-value-eq0-clause-items c =
    let none : c.args.value ≡ pos 0 = omega (arith, ints) in
    c.remove.ensures.items ∙ changed_out c.args.entries.now.items c.args.place c.args.value (ap unsigned_abs none) c.requires

pub returns-else-value-eq0-clause-items : goal.returns-else-value-eq0-clause-items
returns-else-value-eq0-clause-items c =
    let items = c.args.entries.now.items in
    let old = c.index_mut.result.now in
    let passed : to_z w64 (of_z w64 c.args.value) ≡ c.args.value = omega (arith, ints) in
    ap (λ v. set items c.args.place (record { index = old.index; value = v })) passed
    ∙ ap (λ entry. set items c.args.place (record { index = entry.index; value = c.args.value })) c.index_mut.ensures.value
    ∙ changed_in items c.args.place c.args.value old (λ none. c.if-value-eq0.false (ap (of_z w64) (no_size c.args.value none))) c.requires
