-- Which proposals fit, and which multipliers a proposal refuses.
use Rattle.std.specs.Prelude.{ℕ, ℤ, pos, ◌≡◌, Option, Some, ◌&&◌, if◌then◌else◌, nat_le, nat_lt, int_lt}
use Rattle.branch_tree.specs.declared.multipliers.PutRefusal.{PutRefusal}
use Rattle.branch_tree.specs.declared.multipliers.PutRefusal.TheVariants.{NoIndex, Negative}
use Rattle.branch_tree.specs.Entries as entries
use Rattle.advisors.specs.Proposed.{Proposed}

-- the entries are a list of multipliers, each at one of the indices, and negative only where it may be
pub record DoesFit (proposal : Proposed) : Type 0 where
  pub multipliers : entries.AreMultipliers proposal.multipliers
  pub fit : entries.DoFit proposal.indices proposal.free_from proposal.multipliers

-- two proposals are for the same indices
pub record IsOverSame (before after : Proposed) : Type 0 where
  pub indices : after.indices ≡ before.indices
  pub free_from : after.free_from ≡ before.free_from

-- why a value can't be put at an index: there is no such index, or it may have no negative value, or else what a list
-- of multipliers refuses
abbrev pub refusal_of : Proposed → ℕ → ℤ → Option PutRefusal
refusal_of proposal index value = if nat_le proposal.indices index then Some NoIndex
    else if int_lt value (pos 0) && nat_lt index proposal.free_from then Some Negative
    else entries.refusal_of proposal.multipliers index value
