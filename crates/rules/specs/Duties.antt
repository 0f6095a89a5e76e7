-- The duty of a unit: the trips that it runs on, one after another.
use Rattle.std.specs.Prelude.{ℕ, List, [], ◌∷◌, Bool, ◌==◌, ◌&&◌, ◌||◌, if◌then◌else◌, nat_lt, filter, length}
use Rattle.rules.specs.Day.{Day, Units, leaves, to_of, stock_units}
use Rattle.rules.specs.Links.{list_of}
use Rattle.rules.specs.Lists.{has, below}

-- trip a leaves before trip b, or at the same minute with the smaller number
abbrev pub is_before : Day → ℕ → ℕ → Bool
is_before day a b = nat_lt (leaves day a) (leaves day b) || ((leaves day a == leaves day b) && nat_lt a b)

-- trips in the order in which they leave
abbrev pub insert_trip : Day → ℕ → List ℕ → List ℕ
insert_trip day t [] = t ∷ []
insert_trip day t (s ∷ ss) = if is_before day t s then t ∷ s ∷ ss else s ∷ insert_trip day t ss

abbrev pub in_order : Day → List ℕ → List ℕ
in_order day [] = []
in_order day (t ∷ ts) = insert_trip day t (in_order day ts)

-- the trips whose lists have the unit, by departure minute and then by trip number
unfoldable pub duty : Day → List (List ℕ) → ℕ → List ℕ
duty day plan u = in_order day (filter (λ t. has u (list_of plan t)) (below (length day.trips)))

-- where trips that run one after another end, beginning at a station
abbrev pub ends_at : Day → ℕ → List ℕ → ℕ
ends_at day station [] = station
ends_at day station (t ∷ ts) = ends_at day (to_of day t) ts

-- where a unit is at the end of the day: at the end of its duty's last trip, or where it stood at the start where its
-- duty is empty
unfoldable pub last_place_of : Units → Day → List (List ℕ) → ℕ → ℕ
last_place_of units day plan u = ends_at day (units.home u) (duty day plan u)

-- the same of a unit of the stock
abbrev pub last_place : Day → List (List ℕ) → ℕ → ℕ
last_place day plan u = last_place_of (stock_units day) day plan u
