use Rattle.std.proofs.Common.{◌≡◌, ◌++◌, [], ◌∷◌, length, if◌then◌else◌, is_ok, true, ap, sym, ◌∙◌, subst, arith}
use Rattle.branch_tree.specs.Entries.{IsPastLast}
use Rattle.branch_tree.proofs.Rising.{slacks-push}
use Rattle.branch_tree.proofs.slacks.Slacks.put.Goals as goal

pub invariant_of-self : goal.invariant_of-self
invariant_of-self c =
    let old = c.self.inside.entries.items in
    let ok : is_ok c.push-pushed.result ≡ true = sym c.is_ok.ensures.value ∙ c.if-prove.false in (
      slacks-push old c.push-pushed.new.self.items c.args.entry c.self.invariant.0
          (subst (λ xs. IsPastLast xs c.args.entry.index) (sym c.self.view_is) c.requires.rising) c.requires.value (omega (arith, c.requires.room, ap length c.self.view_is))
          (c.push-pushed.ensures.items ∙ ap (λ b. if b then old ++ c.args.entry ∷ [] else old) ok),
      omega (arith, c.push-pushed.ensures.capacity, c.self.invariant.1),
    )
