-- Which units run on which trip, where only the types of the compositions are given. Trips are named in the order in
-- which they leave. Units that stay in a train keep their places. Each other place, from front to rear, gets a unit of
-- its type from the yard: the one that was ready earliest, and of those the one with the smallest number.
use Rattle.std.specs.Prelude.{ℕ, zero, suc, List, [], ◌∷◌, length, reverse, map, Bool, true, false, not, ◌==◌, ◌&&◌}
use Rattle.std.specs.Prelude.{if◌then◌else◌, nat_le, nat_lt, Option, Some, None, option_map, unwrap_or}
use Rattle.timetable.specs.Day.{Day, leaves, from_of, to_of, home_of, type_of, unit_count, ready_at}
use Rattle.timetable.specs.Duties.{in_order}
use Rattle.timetable.specs.Links.{list_of, itself, taken_with}
use Rattle.timetable.specs.Lists.{has, below}
use Rattle.inventory.specs.Places.{given_places, coming, put_together}

-- ---- where a unit stands

-- in the yard of a station, where it may be taken from a minute on
pub record InYard : Type 0 where
  pub station : ℕ
  pub ready : ℕ

-- once it has run on trip t: in the yard, or in the train that it stays in
abbrev pub after_trip : Day → List (List ℕ) → (ℕ → List ℕ) → ℕ → ℕ → Option InYard
after_trip day types lists t u =
    if has u (given_places day types t (lists t))
    then Some (record { station = to_of day t; ready = ready_at day t })
    else None

-- once trips have run, the latest first: a unit that ran on none of them is at home
unfoldable pub standing : Day → List (List ℕ) → (ℕ → List ℕ) → List ℕ → ℕ → Option InYard
standing day types lists [] u = Some (record { station = home_of day u; ready = 0 })
standing day types lists (t ∷ before) u =
    if has u (lists t) then after_trip day types lists t u else standing day types lists before u

-- it stands in the yard of a station, and may be taken at a minute
abbrev pub may_be_taken : ℕ → ℕ → Option InYard → Bool
may_be_taken s minute None = false
may_be_taken s minute (Some place) = place.station == s && nat_le place.ready minute

-- since when it was ready
abbrev pub ready_since : Option InYard → ℕ
ready_since place = unwrap_or (option_map (λ place. place.ready) place) 0

-- ---- which unit is taken

-- a number is before the one that was found, if any was
abbrev pub is_earlier : (ℕ → ℕ) → ℕ → Option ℕ → Bool
is_earlier key n None = true
is_earlier key n (Some k) = nat_lt (key n) (key k)

-- of the numbers below a bound that pass a test, the one with the least key, and of those the smallest
abbrev pub earliest : (ℕ → ℕ) → (ℕ → Bool) → ℕ → Option ℕ
earliest key passes zero = None
earliest key passes (suc n) =
    if passes n && is_earlier key n (earliest key passes n) then Some n else earliest key passes n

-- the unit of a type that is taken next at a station at a minute, where some were taken already; unit 0 where there is
-- none
unfoldable pub next_unit : Day → (ℕ → Option InYard) → ℕ → ℕ → List ℕ → ℕ → ℕ
next_unit day stands s minute chosen m =
    unwrap_or (earliest (λ u. ready_since (stands u))
    (λ u. may_be_taken s minute (stands u) && (type_of day u == m) && not (has u chosen)) (unit_count day)) 0

-- the units that are taken for places of these types, front to rear
unfoldable pub fetched : Day → (ℕ → Option InYard) → ℕ → ℕ → List ℕ → List ℕ → List ℕ
fetched day stands s minute chosen [] = []
fetched day stands s minute chosen (m ∷ ms) =
    next_unit day stands s minute chosen m
    ∷ fetched day stands s minute (next_unit day stands s minute chosen m ∷ chosen) ms

-- ---- the naming

-- the units of trip b by the rule, where the trips before it, the latest first, have these lists
unfoldable pub named_list : Day → List (List ℕ) → (ℕ → List ℕ) → List ℕ → ℕ → List ℕ
named_list day types lists before b =
    put_together day b (coming day types lists b)
    (fetched day (standing day types lists before) (from_of day b) (leaves day b) [] (taken_with itself day types b))

-- the units of trip b: by the rule, or those of a plan where it leaves before a minute
unfoldable pub list_from : Day → List (List ℕ) → ℕ → List (List ℕ) → (ℕ → List ℕ) → List ℕ → ℕ → List ℕ
list_from day types minute plan lists before b =
    if nat_lt (leaves day b) minute then list_of plan b else named_list day types lists before b

-- the lists of trips, the latest first, and none of the others
unfoldable pub naming : Day → List (List ℕ) → ℕ → List (List ℕ) → List ℕ → ℕ → List ℕ
naming day types minute plan [] t = []
naming day types minute plan (b ∷ before) t =
    if t == b then list_from day types minute plan (naming day types minute plan before) before b
    else naming day types minute plan before t

-- the trips of the day, the one that leaves last first
unfoldable pub latest_first : Day → List ℕ
latest_first day = reverse (in_order day (below (length day.trips)))

-- the plan in which the trips that leave at a minute or later are named by the rule, and the others keep their lists
unfoldable pub named_from : Day → List (List ℕ) → ℕ → List (List ℕ) → List (List ℕ)
named_from day types minute plan = map (naming day types minute plan (latest_first day)) (below (length day.trips))

-- the plan in which all are named
abbrev pub named_plan : Day → List (List ℕ) → List (List ℕ)
named_plan day types = named_from day types 0 []
