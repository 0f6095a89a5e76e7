-- Entries that are put into a proposal one after another, and the order in which the subgradient puts them.
use Rattle.std.specs.Prelude.{ℕ, ◌≤◌, ◌≡◌, List, [], ◌∷◌, if◌then◌else◌, length, take, drop}
use Rattle.std.specs.Option.{is_none}
use Rattle.branch_tree.specs.declared.multipliers.Entry.{Entry}
use Rattle.branch_tree.specs.Entries.{put_in}
use Rattle.advisors.specs.declared.advisor.Look.{Look}
use Rattle.advisors.specs.EntriesByIndex.{below, from_on}
use Rattle.advisors.specs.Proposals.{refusal_of}
use Rattle.advisors.specs.Proposed.{Proposed}
use Rattle.advisors.specs.SteppedProposals.{moved_at}

-- a proposal after an entry is put, which is left out where it is refused
abbrev pub with_entry : Proposed → Entry → Proposed
with_entry proposal entry = if is_none (refusal_of proposal entry.index entry.value)
    then record proposal { multipliers = put_in proposal.multipliers entry.index entry.value }
    else proposal

-- a proposal after entries are put, in the order of the list
abbrev pub with_entries : Proposed → List Entry → Proposed
with_entries proposal [] = proposal
with_entries proposal (entry ∷ entries) = with_entries (with_entry proposal entry) entries

-- the last multiplier of the index of a slack, moved along the slack
abbrev pub moved_entry : Look → Entry → Entry
moved_entry look slack = record { index = slack.index; value = moved_at look slack.index slack.value }

-- entries are divided before a place: those of indices below this one stand before it, and the others from it on
pub record AreDividedAt (entries : List Entry) (index place : ℕ) : Type 0 where
  pub within : place ≤ length entries
  pub before : take place entries ≡ below index entries
  pub after : drop place entries ≡ from_on index entries
