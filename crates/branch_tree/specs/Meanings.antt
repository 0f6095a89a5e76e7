-- What a relaxation means: picks and their costs and slacks, which picks are solutions, and what is priced.
use Rattle.std.specs.Prelude.{ℕ, ◌<◌, ◌≤◌, ◌≡◌, List, Bool, IsTrue, length, if◌then◌else◌, nat_lt, ℤ, pos, negsuc}
use Rattle.std.specs.Prelude.{◌⊎◌, ◌+ℤ◌, ◌*ℤ◌, ◌≤ℤ◌, ◌<ℤ◌}
use Rattle.timetable.specs.Lists.{count_of}
use Rattle.branch_tree.specs.declared.multipliers.Entry.{Entry}
use Rattle.branch_tree.specs.declared.relaxation.Weight.{Weight}
use Rattle.branch_tree.specs.declared.relaxation.Weight.TheVariants.{Cost, NoCost}
use Rattle.branch_tree.specs.Entries.{DoFit}
use Rattle.branch_tree.specs.IntSums.{int_sum}
use Rattle.branch_tree.specs.Regions.{are_in}

-- A relaxed problem over picks, one composition for each trip.
pub record Meanings : Type 1 where
  -- how many trips and multiplier indices there are; from `free_from` on a multiplier may be negative
  pub trips : ℕ
  pub indices : ℕ
  pub free_from : ℕ
  -- the compositions by number, and the order in which picks are compared: each trip once
  pub catalogue : List (List ℕ)
  pub order : List ℕ
  -- the cost of picks, and their slack at an index
  pub cost : List ℕ → ℤ
  pub slack : List ℕ → ℕ → ℤ
  -- picks that follow: each is admissible, and from trip to trip each chain has allowed edges
  pub Follow : List ℕ → Type 0
  -- picks that are a solution
  pub IsSolution : List ℕ → Type 0
  -- picks in a region that follow, with the second part of each hand-over in the region too
  pub AreNear : List ℕ → List (List Bool) → Type 0
  -- for picks that follow and are no solution: an index at which they have a slack, with the sign of that slack as its
  -- value
  pub broken : List ℕ → Entry

-- the cost under a weight: none without cost
abbrev pub weighted : Weight → ℤ → ℤ
weighted Cost cost = cost
weighted NoCost cost = pos 0

-- the sum of multiplier times slack
abbrev pub slack_sum : Meanings → List Entry → List ℕ → ℤ
slack_sum problem multipliers picks = int_sum (λ entry. entry.value *ℤ problem.slack picks entry.index) multipliers

-- the priced value of picks: their cost under the weight, and the sum of multiplier times slack
abbrev pub priced : Meanings → List Entry → Weight → List ℕ → ℤ
priced problem multipliers weight picks = weighted weight (problem.cost picks) +ℤ slack_sum problem multipliers picks

-- the multipliers are of the problem's indices, and none below `free_from` is negative
abbrev pub DoFitFor : Meanings → List Entry → Type 0
DoFitFor problem multipliers = DoFit problem.indices problem.free_from multipliers

-- in a solution no slack below `free_from` is positive, and every other slack is 0
pub record IsMet (problem : Meanings) (picks : List ℕ) (index : ℕ) : Type 0 where
  pub not_positive : problem.slack picks index ≤ℤ pos 0
  pub none : problem.free_from ≤ index → problem.slack picks index ≡ pos 0

-- a slack and its sign: the index is one of the problem's, the sign is 1 or -1, the slack times the sign is positive,
-- and below `free_from` the sign is 1
pub record IsBroken (problem : Meanings) (picks : List ℕ) (at : Entry) : Type 0 where
  pub index : at.index < problem.indices
  pub unit : (at.value ≡ pos 1) ⊎ (at.value ≡ negsuc 0)
  pub positive : pos 0 <ℤ (at.value *ℤ problem.slack picks at.index)
  pub sign : at.index < problem.free_from → at.value ≡ pos 1

-- what makes a problem a relaxation of its solutions
pub record IsRelaxation (problem : Meanings) : Type 0 where
  -- picks that follow are one for each trip
  pub follow_length : (picks : List ℕ) → problem.Follow picks → length picks ≡ problem.trips
  -- near picks lie in the region and follow
  pub near_in : (picks : List ℕ) (region : List (List Bool)) →
      problem.AreNear picks region → IsTrue (are_in picks region)
  pub near_follow : (picks : List ℕ) (region : List (List Bool)) → problem.AreNear picks region → problem.Follow picks
  -- a solution is near each region that it lies in, and no slack of it is against the rules
  pub solution_near : (picks : List ℕ) (region : List (List Bool)) →
      problem.IsSolution picks → IsTrue (are_in picks region) → problem.AreNear picks region
  pub solution_met : (picks : List ℕ) (index : ℕ) → problem.IsSolution picks → index < problem.indices →
      IsMet problem picks index
  -- picks that follow and are no solution have a slack where it is said
  pub broken : (picks : List ℕ) → problem.Follow picks → (problem.IsSolution picks → ⊥) →
      IsBroken problem picks (problem.broken picks)
  -- the order has each trip once
  pub order : (trip : ℕ) → count_of trip problem.order ≡ (if nat_lt trip problem.trips then 1 else 0)
