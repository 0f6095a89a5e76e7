-- The region of picks alone: these picks lie in it, and no others.
use Rattle.std.proofs.Common.{◌≡◌, ◌<◌, ℕ, zero, suc, List, [], ◌∷◌, length, get_or, true, ◌==◌, refl, ◌∙◌, arith}
use Rattle.std.proofs.lemmas.Bool.{eq-eqb}
use Rattle.rail_base.specs.declared.limits.TheConstants.{MAX_COMPOSITIONS}
use Rattle.branch_tree.specs.Regions.{alone, are_in, has}
use Rattle.branch_tree.specs.Sets.{is_member, set_of}
use Rattle.branch_tree.proofs.Members.{both_true, is_member-tested}
use Rattle.branch_tree.proofs.Settling.{only_member}

-- picks of a catalogue lie in their region
pub alone_has : (picks : List ℕ) → ((t : ℕ) → t < length picks → get_or picks t 0 < MAX_COMPOSITIONS) → are_in picks (alone picks) ≡ true
alone_has [] known = refl
alone_has (pick ∷ picks) known =
    both_true (is_member (set_of (λ n. n == pick)) pick) (are_in picks (alone picks))
    (is_member-tested (λ n. n == pick) MAX_COMPOSITIONS pick (known 0 (omega arith)) ∙ eq-eqb pick pick refl)
    (alone_has picks (λ t below. known (suc t) (omega (arith, below))))

-- no other composition lies in the set of a trip
pub alone_at : (picks : List ℕ) (t comp : ℕ) → has (alone picks) t comp ≡ true → comp ≡ get_or picks t 0
alone_at [] t comp there = absurd cc
alone_at (pick ∷ picks) zero comp there = only_member pick comp there
alone_at (pick ∷ picks) (suc t) comp there = alone_at picks t comp there
