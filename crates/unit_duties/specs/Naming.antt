-- Units that are named trip by trip, from a minute on.
use Rattle.std.specs.Prelude.{ℕ, ◌≡◌, ◌<◌, ◌≤◌, List, length, Option}
use Rattle.std.specs.BTreeSet.{BTreeSet}
use Rattle.timetable.specs.Day.{Day, leaves}
use Rattle.timetable.specs.Links.{list_of}
use Rattle.timetable.specs.Picks.{ArePicks, picked}
use Rattle.inventory.specs.Counts.{AreServed}
use Rattle.inventory.specs.NamedBefore.{IsNamedBefore}
use Rattle.inventory.specs.NamedUnits.{InYard}
use Rattle.inventory.specs.Places.{put_together, coming}
use Rattle.unit_duties.specs.declared.yards.Waiting.{Waiting}
use Rattle.unit_duties.specs.FetchedUnits.{CanFetch, HasFetched}
use Rattle.unit_duties.specs.Yards.{AreLeft}

-- The yards serve the picked compositions, and the trips that leave before the minute are named with them as the rules
-- of links and duties ask it of them, in a plan that has a list for each.
pub record CanBeNamed (day : Day) (picks : List ℕ) (minute : ℕ) (plan : List (List ℕ)) : Type 0 where
  pub are_picks : ArePicks day picks
  pub served : AreServed day (picked day picks)
  pub named : IsNamedBefore day (picked day picks) minute plan
  pub listed : (t : ℕ) → t < length day.trips → leaves day t < minute → t < length plan

-- the units of a trip are those that come with its trains, and those that the rule takes from the yards
pub record IsFetched (day : Day) (picks : List ℕ) (lists : List (List ℕ)) (b : ℕ) (yards after : BTreeSet Waiting)
    (us : List ℕ) : Type 0 where
  pub taken : List ℕ
  pub by_rule : (stands : ℕ → Option InYard) → CanFetch day picks b stands yards
      → HasFetched day picks b stands after taken
  pub list : us ≡ put_together day b (coming day (picked day picks) (list_of lists) b) taken

-- the units of the next trip: those of the plan where it leaves before the minute
pub record IsNext (day : Day) (picks : List ℕ) (minute : ℕ) (plan lists : List (List ℕ)) (b : ℕ)
    (yards after : BTreeSet Waiting) (us : List ℕ) : Type 0 where
  pub given : leaves day b < minute → (us ≡ list_of plan b) × AreLeft us yards after
  pub named : minute ≤ leaves day b → IsFetched day picks lists b yards after us
