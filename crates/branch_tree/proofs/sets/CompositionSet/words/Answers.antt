use Rattle.std.proofs.Common.{length, sym, ◌∙◌, ap}
use Rattle.branch_tree.specs.Sets.{is_member}
use Rattle.branch_tree.proofs.Words.{length-members_of, is_member-bit}
use Rattle.branch_tree.proofs.sets.CompositionSet.words.Goals as goal

pub returns-clause-bits : goal.returns-clause-bits
returns-clause-bits c = λ comp. sym (ap (λ set. is_member set comp) c.self.view_is) ∙ is_member-bit c.self.inside.words comp c.self.invariant

pub returns-clause-numbers : goal.returns-clause-numbers
returns-clause-numbers c = sym (ap length c.self.view_is) ∙ length-members_of c.self.inside.words
