-- How far multipliers are moved, and where to.
use Rattle.std.specs.Prelude.{ℕ, ◌+◌, ◌/◌, max, ℤ, pos, ◌+ℤ◌, ◌*ℤ◌, neg_ℤ, unsigned_abs, Bool, if◌then◌else◌, List, []}
use Rattle.std.specs.Prelude.{◌∷◌}
use Rattle.std.specs.Int.{int_max, int_min}
use Rattle.rail_base.specs.declared.limits.TheConstants.{MAX_MULTIPLIER}
use Rattle.branch_tree.specs.declared.multipliers.Entry.{Entry}
use Rattle.advisors.specs.declared.advisor.Word.{Word}
use Rattle.advisors.specs.declared.advisor.Word.TheVariants.{More, Enough}

-- a quarter of the size of the first bound, divided by the number of the round counted from 1; at least 1
abbrev pub step_of : ℤ → ℕ → ℕ
step_of first round = max (unsigned_abs first / 4 / (round + 1)) 1

-- the least value that a multiplier is moved to
abbrev pub least_value : Bool → ℤ
least_value may_be_negative = if may_be_negative then neg_ℤ (pos MAX_MULTIPLIER) else pos 0

-- a multiplier moved by the step times the slack, within the limit, and not below 0 unless it may be negative
abbrev pub moved : ℤ → ℤ → ℤ → Bool → ℤ
moved value step slack may_be_negative =
    int_max (least_value may_be_negative) (int_min (step *ℤ slack +ℤ value) (pos MAX_MULTIPLIER))

-- the word that is answered: enough where there are no slacks
abbrev pub word_for : List Entry → Word
word_for [] = Enough
word_for (slack ∷ slacks) = More
