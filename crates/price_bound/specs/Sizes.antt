-- How large the slacks and the priced values of picks are.
use Rattle.std.specs.Prelude.{ℕ, ◌≡◌, ◌<◌, ◌≤◌, ◌^◌, List, unsigned_abs}
use Rattle.timetable.specs.Accepted.{IsSoundDay}
use Rattle.timetable.specs.Day.{Day}
use Rattle.branch_tree.specs.declared.multipliers.Entry.{Entry}
use Rattle.branch_tree.specs.declared.relaxation.Weight.{Weight}
use Rattle.branch_tree.specs.Entries.{AreMultipliers}
use Rattle.branch_tree.specs.Meanings.{priced}
use Rattle.price_bound.specs.declared.changes.Change.{Change}
use Rattle.price_bound.specs.declared.sizes.TheConstants.{MAX_SLACK, MAX_PRICED_VALUE}
use Rattle.price_bound.specs.ChangedDays.{AreChanges, changed_day, changed_meanings}
use Rattle.price_bound.specs.DayMeanings.{meanings_of}
use Rattle.price_bound.specs.FollowingPicks.{Follow}
use Rattle.price_bound.specs.Slacks.{slack_of}

-- The most that a slack is: the 2,000 units of a type that a station may start with or want, and the 6 units that each
-- of 400 trips may give or take; and what the size of a priced value is below.
pub record AreSizeLimits : Type 0 where
  pub slack : MAX_SLACK ≡ 4400
  pub value : MAX_PRICED_VALUE ≡ 10 ^ 20

-- The slacks of picks that follow are small.
abbrev pub SlacksAreSmall : Type 0
SlacksAreSmall = (day : Day) (picks : List ℕ) (index : ℕ) → IsSoundDay day → Follow day picks →
    unsigned_abs (slack_of day picks index) ≤ MAX_SLACK

-- The priced values of picks that follow are small, under multipliers within their limits, with cost or without.
abbrev pub ValuesAreSmall : Type 0
ValuesAreSmall = (day : Day) (picks : List ℕ) (multipliers : List Entry) (weight : Weight) → IsSoundDay day →
    Follow day picks → AreMultipliers multipliers →
    unsigned_abs (priced (meanings_of day) multipliers weight picks) < MAX_PRICED_VALUE

-- ---- under changes

-- The slacks are as small under changes.
abbrev pub ChangedSlacksAreSmall : Type 0
ChangedSlacksAreSmall = (day : Day) (changes : List Change) (picks : List ℕ) (index : ℕ) → IsSoundDay day →
    Follow day picks → unsigned_abs ((changed_meanings (changed_day day changes)).slack picks index) ≤ MAX_SLACK

-- So are the priced values, where the trips of the changes rise and are the day's, each base is in the catalogue, and
-- the cost of each is within the limit.
abbrev pub ChangedValuesAreSmall : Type 0
ChangedValuesAreSmall = (day : Day) (changes : List Change) (picks : List ℕ) (multipliers : List Entry)
    (weight : Weight) → IsSoundDay day → AreChanges day changes → Follow day picks → AreMultipliers multipliers →
    unsigned_abs (priced (changed_meanings (changed_day day changes)) multipliers weight picks) < MAX_PRICED_VALUE
