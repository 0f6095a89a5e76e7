use Rattle.std.proofs.Common.{ℕ, ◌<◌, ◌*◌, ◌/◌, ◌%◌, ◌^◌, length, set, get_or, eqb, bit_or, true, sym, ◌∙◌, ap, arith}
use Rattle.std.proofs.Common.{w64}
use Rattle.std.proofs.lemmas.Nat.Bits.{bit_at_set_same, bit_at_set_other}
use Rattle.rail_base.specs.declared.limits.TheConstants.{MAX_COMPOSITIONS}
use Rattle.branch_tree.proofs.Words.{one_bit, one_bit-other}
use Rattle.branch_tree.proofs.sets.CompositionSet.insert.Goals as goal

pub returns : goal.returns
returns c =
    let words = c.self.inside.words in
    let k : ℕ = c.place-place.result % 64 in
    let w : ℕ = get_or words (c.place-place.result / 64) 0 in
    let inside : k < 64 = omega arith in
    let below : c.place-place.result < MAX_COMPOSITIONS = omega arith in
    let within : c.place-place.result / 64 < length words = omega arith in
    sym (one_bit words c.place-place.result (bit_or w (1 * 2 ^ k % 2 ^ 64)) true below within
    (ap (λ b. eqb b 1) (bit_at_set_same w64 w k inside)) (λ i _ differ. bit_at_set_other w64 w k inside i differ))
    ∙ ap (λ members. set members c.place-place.result true) c.self.view_is ∙ ap (λ n. set c.args.self.now n true) c.place-place.ensures.number

pub invariant_of-self : goal.invariant_of-self
invariant_of-self c =
    let words = c.self.inside.words in
    let k : ℕ = c.place-place.result % 64 in
    let w : ℕ = get_or words (c.place-place.result / 64) 0 in
    let inside : k < 64 = omega arith in
    let below : c.place-place.result < MAX_COMPOSITIONS = omega arith in
    let within : c.place-place.result / 64 < length words = omega arith in
    one_bit-other words c.place-place.result (bit_or w (1 * 2 ^ k % 2 ^ 64)) c.self.invariant below within (λ i _ differ. bit_at_set_other w64 w k inside i differ)
