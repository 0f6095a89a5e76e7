-- Which trip is nearest to being decided, and the cut that decides it.
use Rattle.std.specs.Prelude.{ℕ, ◌<◌, ◌≤◌, ◌≡◌, List, length, slice_get, slice_index, Option, Some, None, MatchOption}
use Rattle.branch_tree.specs.declared.cuts.Cut.TheVariants.{Only}
use Rattle.advisors.specs.Proposed.{Proposed}

-- of the trips below a number none has more than one composition left
abbrev pub AreDecided : ℕ → List ℕ → Type 0
AreDecided trips sizes = (k : ℕ) → k < trips → slice_index sizes k ≤ 1

-- of the trips below a number this is the first of those with the fewest compositions left, more than one
pub record IsNarrowest (trips : ℕ) (sizes : List ℕ) (trip : ℕ) : Type 0 where
  pub within : trip < trips
  pub several : 1 < slice_index sizes trip
  pub least : (k : ℕ) → k < trips → 1 < slice_index sizes k → slice_index sizes trip ≤ slice_index sizes k
  pub first : (k : ℕ) → k < trip → 1 < slice_index sizes k → slice_index sizes trip < slice_index sizes k

-- of the trips below a number this is the narrowest, or there is none
abbrev pub IsNarrowestOf : ℕ → List ℕ → Option ℕ → Type 0
IsNarrowestOf trips sizes found = MatchOption found (AreDecided trips sizes) (IsNarrowest trips sizes)

-- a proposal with the cut that leaves a trip its pick alone; the same proposal where the trip has no pick
abbrev pub with_cut_to : Proposed → ℕ → Option ℕ → Proposed
with_cut_to proposal trip None = proposal
with_cut_to proposal trip (Some comp) = record proposal { cut = Some (Only trip comp) }

-- a proposal after a dive: as before where all trips are decided, and else with the cut that decides the narrowest
pub record IsDived (sizes picks : List ℕ) (before after : Proposed) : Type 0 where
  pub nothing : AreDecided (length sizes) sizes → after ≡ before
  pub cut : (trip : ℕ) → IsNarrowest (length sizes) sizes trip → after ≡ with_cut_to before trip (slice_get picks trip)
