use Rattle.std.proofs.Common.{sym, ◌∙◌, ap}
use Rattle.branch_tree.specs.Sets.{is_member}
use Rattle.branch_tree.specs.Bits.{bit_of}
use Rattle.branch_tree.proofs.Words.{is_member-members_of, bit_of-tested}
use Rattle.branch_tree.proofs.sets.CompositionSet.has.Goals as goal

pub returns : goal.returns
returns c =
    let words = c.self.inside.words in
    bit_of-tested words c.place-place.result ∙ ap (bit_of words) c.place-place.ensures.number
    ∙ sym (is_member-members_of words c.args.comp c.requires) ∙ ap (λ set. is_member set c.args.comp) c.self.view_is
