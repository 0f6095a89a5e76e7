-- The inside of a set of compositions: words of 64 bits.
use Rattle.std.specs.Prelude.{ℕ, ◌≡◌, ◌≤◌, false, ◌/◌, ◌%◌, ◌^◌, List, Bool, get_or, ◌==◌}
use Rattle.rail_base.specs.declared.limits.TheConstants.{MAX_COMPOSITIONS}
use Rattle.branch_tree.specs.declared.sets.TheConstants.{WORD_BITS}
use Rattle.branch_tree.specs.Sets.{set_of}

-- whether the bit of a number is 1
abbrev pub bit_of : List ℕ → ℕ → Bool
bit_of words comp = get_or words (comp / WORD_BITS) 0 / 2 ^ (comp % WORD_BITS) % 2 == 1

-- no number that is no composition's has a bit that is 1
abbrev pub HasNoOther : List ℕ → Type 0
HasNoOther words = (comp : ℕ) → MAX_COMPOSITIONS ≤ comp → bit_of words comp ≡ false

-- the numbers whose bit is 1
unfoldable pub members_of : List ℕ → List Bool
members_of words = set_of (bit_of words)
