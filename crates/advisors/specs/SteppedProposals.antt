-- What the subgradient proposes: which multiplier stands at each index after its step.
use Rattle.std.specs.Prelude.{ℕ, ◌≡◌, ℤ, pos, ◌++◌, Bool, ◌||◌, ◌&&◌, if◌then◌else◌, nat_le}
use Rattle.std.specs.Option.{is_none}
use Rattle.branch_tree.specs.Entries.{is_entered, value_at}
use Rattle.advisors.specs.declared.advisor.Look.{Look}
use Rattle.advisors.specs.EntriesByIndex.{below, from_on}
use Rattle.advisors.specs.MultiplierSteps.{moved, step_of}
use Rattle.advisors.specs.Proposals.{refusal_of}
use Rattle.advisors.specs.Proposed.{Proposed}

-- the last multiplier of an index, moved along its slack
abbrev pub moved_at : Look → ℕ → ℤ → ℤ
moved_at look index slack =
    moved (value_at look.multipliers.now index) (pos (step_of look.first.0 look.round)) slack
    (nat_le look.free_from index)

-- the multiplier of an index after the step: the last one, moved along the slack where the index has one
abbrev pub stepped : Look → ℕ → ℤ
stepped look index = if is_entered look.slacks.now index then moved_at look index (value_at look.slacks.now index)
    else value_at look.multipliers.now index

-- A proposal as it is when the turn of an index comes, since multipliers are put by rising index: below the index what
-- is proposed, and from it on what stood there before. Of the proposal after the step it reads the part below the index
-- alone, so that each value is fixed by those before it.
abbrev pub at_turn : Proposed → Proposed → ℕ → Proposed
at_turn before after index =
    record before { multipliers = below index after.multipliers ++ from_on index before.multipliers }

-- whether an index has a slack or a multiplier, and its multiplier after the step isn't refused when its turn comes
abbrev pub is_put : Look → Proposed → Proposed → ℕ → Bool
is_put look before after index =
    (is_entered look.slacks.now index || is_entered look.multipliers.now index)
    && is_none (refusal_of (at_turn before after index) index (stepped look index))

-- a proposal after the step: at each index that is put it has the multiplier after the step, and at each other one what
-- stood there before
pub record IsStepped (look : Look) (before after : Proposed) : Type 0 where
  pub values : (index : ℕ) → value_at after.multipliers index ≡
      (if is_put look before after index then stepped look index else value_at before.multipliers index)
  pub cut : after.cut ≡ before.cut
