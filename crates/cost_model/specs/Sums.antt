-- The three parts of the cost of compositions, one for each trip, each the list of its types.
use Rattle.std.specs.Prelude.{ℕ, ◌≡◌, ◌+◌, ◌*◌, List, length}
use Rattle.compositions.specs.Composition.{carriages_of}
use Rattle.timetable.specs.Cost.{missing_seats, link_cost, cost_of}
use Rattle.timetable.specs.Day.{Day, km_of}
use Rattle.timetable.specs.Links.{list_of}
use Rattle.timetable.specs.Lists.{sum_below}

-- the carriages of a trip with this composition, for its kilometres
abbrev pub carriages_on : Day → ℕ → List ℕ → ℕ
carriages_on day t types = day.weights.carriage * carriages_of day.types types * km_of day t

-- the seats of both classes that are missing on a trip with this composition, for its kilometres
abbrev pub missing_on : Day → ℕ → List ℕ → ℕ
missing_on day t types = day.weights.shortage * missing_seats day t types * km_of day t

-- all trips' carriages
unfoldable pub carriage_of : Day → List (List ℕ) → ℕ
carriage_of day lists = sum_below (λ t. carriages_on day t (list_of lists t)) (length day.trips)

-- all trips' missing seats
unfoldable pub shortage_of : Day → List (List ℕ) → ℕ
shortage_of day lists = sum_below (λ t. missing_on day t (list_of lists t)) (length day.trips)

-- all links' shunting
unfoldable pub shunting_of : Day → List (List ℕ) → ℕ
shunting_of day lists = sum_below (λ l. link_cost day l lists) (length day.links)

-- the three add up to the cost
abbrev pub AddUp : Type 0
AddUp =
    (day : Day) (lists : List (List ℕ))
    → carriage_of day lists + shortage_of day lists + shunting_of day lists ≡ cost_of day lists
