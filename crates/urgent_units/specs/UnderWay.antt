-- Units of one type on their way through the day: where they have come by a plan, and which legs are ahead of each.
use Rattle.std.specs.Prelude.{ℕ, ◌≡◌, ◌<◌, ◌≤◌, ◌+◌, ◌++◌, List, [], ◌∷◌, length, map, get_or, Bool, not, ◌&&◌, ◌==◌}
use Rattle.std.specs.Prelude.{if◌then◌else◌, nat_le}
use Rattle.std.specs.List.{All}
use Rattle.timetable.specs.Day.{Day, home_of, type_of, types_of, unit_count}
use Rattle.timetable.specs.Running.{Runs}
use Rattle.urgent_units.specs.declared.legs.Leg.{Leg}
use Rattle.urgent_units.specs.declared.swaps.MarkedLeg.{MarkedLeg}
use Rattle.urgent_units.specs.declared.swaps.Rider.{Rider}
use Rattle.urgent_units.specs.declared.swaps.TheConstants.{NEVER}
use Rattle.urgent_units.specs.declared.swaps.Yards.{Yards}
use Rattle.urgent_units.specs.Legs.{end_of, legs_of_unit}

-- ---- tests

-- both hold, or neither
abbrev pub agrees : Bool → Bool → Bool
agrees wanted is = if wanted then is else not is

-- the leg is one for the unit, which stands ready in the yard where it leaves
abbrev pub may_take : MarkedLeg → Rider → Bool
may_take marked rider =
    agrees marked.is_brought rider.is_brought
    && ((rider.station == marked.leg.from) && nat_le rider.ready marked.leg.departs)

-- when the next of some legs leaves; past all minutes where there is none
abbrev pub departure_of : List MarkedLeg → ℕ
departure_of [] = NEVER
departure_of (marked ∷ legs) = marked.leg.departs

-- a unit has legs ahead, and the next of them leaves no later than that of any other
pub record IsFirstToLeave (aheads : List (List MarkedLeg)) (number : ℕ) : Type 0 where
  pub within : number < length aheads
  pub some : departure_of (get_or aheads number []) < NEVER
  pub first : (k : ℕ) → k < length aheads → departure_of (get_or aheads number []) ≤ departure_of (get_or aheads k [])

-- ---- how many

-- what f gives of each entry, added up
abbrev pub added : {X : Type 0} → (X → ℕ) → List X → ℕ
added f [] = 0
added f (x ∷ xs) = f x + added f xs

abbrev pub ones : Bool → ℕ
ones b = if b then 1 else 0

-- how many legs are ahead
abbrev pub legs_left : Yards → ℕ
legs_left yards = added (λ legs. length legs) yards.aheads.items

-- of units that are brought, or of the others: how many stand at a station, ready by a minute
abbrev pub standing : Bool → ℕ → ℕ → List Rider → ℕ
standing b s d riders = added (λ r. ones (agrees b r.is_brought && ((r.station == s) && nat_le r.ready d))) riders

-- of the legs for them that are ahead: how many are ready at the station by the minute, and how many leave by it
abbrev pub ready_legs : Bool → ℕ → ℕ → List (List MarkedLeg) → ℕ
ready_legs b s d aheads =
    added (λ legs. added (λ x. ones (agrees b x.is_brought && ((x.leg.to == s) && nat_le x.leg.ready d))) legs) aheads

abbrev pub leaving_legs : Bool → ℕ → ℕ → List (List MarkedLeg) → ℕ
leaving_legs b s d aheads =
    added (λ legs. added (λ x. ones (agrees b x.is_brought && ((x.leg.from == s) && nat_le x.leg.departs d))) legs)
    aheads

-- the same of units that are brought, whatever the minute
abbrev pub brought_at : ℕ → List Rider → ℕ
brought_at s riders = added (λ r. ones (r.is_brought && (r.station == s))) riders

abbrev pub brought_to : ℕ → List (List MarkedLeg) → ℕ
brought_to s aheads = added (λ legs. added (λ x. ones (x.is_brought && (x.leg.to == s))) legs) aheads

abbrev pub brought_from : ℕ → List (List MarkedLeg) → ℕ
brought_from s aheads = added (λ legs. added (λ x. ones (x.is_brought && (x.leg.from == s))) legs) aheads

-- the unit is one that is brought
abbrev pub carried : ℕ → List Rider → ℕ
carried u riders = added (λ r. ones (r.is_brought && (r.unit == u))) riders

-- ---- under way

-- the next of some legs leaves no earlier than at a minute
abbrev pub NoneBefore : ℕ → List MarkedLeg → Type 0
NoneBefore minute [] = Unit {0}
NoneBefore minute (marked ∷ legs) = minute ≤ marked.leg.departs

-- the unit has come to its station by the legs behind it, and is ready for the next one
pub record IsOnItsWay (day : Day) (plan : List (List ℕ)) (rider : Rider) (legs : List MarkedLeg) : Type 0 where
  pub behind : List Leg
  pub are : legs_of_unit day plan rider.unit ≡ behind ++ map (λ x. x.leg) legs
  pub there : end_of (home_of day rider.unit) behind ≡ rider.station
  pub ready : All (λ leg. leg.ready ≤ rider.ready) behind
  pub on_time : NoneBefore rider.ready legs

-- The plan runs; the units are of one type, none twice; each has come where it stands, with its legs ahead of it; and
-- for no leg ahead are there too few units that it is for.
pub record IsUnderWay (day : Day) (yards : Yards) : Type 0 where
  pub runs : Runs day yards.plan
  pub long : length yards.aheads.items ≡ length yards.riders.items
  pub known : (d : Rider) (k : ℕ) → k < length yards.riders.items
      → (get_or yards.riders.items k d).unit < unit_count day
  pub unit_type : ℕ
  pub one_type : (d : Rider) (k : ℕ) → k < length yards.riders.items
      → type_of day (get_or yards.riders.items k d).unit ≡ unit_type
  pub apart : (u : ℕ) → added (λ r. ones (r.unit == u)) yards.riders.items ≤ 1
  pub come : (d : Rider) (k : ℕ) → k < length yards.riders.items
      → IsOnItsWay day yards.plan (get_or yards.riders.items k d) (get_or yards.aheads.items k [])
  pub enough : (b : Bool) (s d : ℕ) → leaving_legs b s d yards.aheads.items
      ≤ standing b s d yards.riders.items + ready_legs b s d yards.aheads.items

-- The plan has the same types as before; the same units are brought; and of these and the legs for them, as many are at
-- each station.
pub record Advances (day : Day) (old new : Yards) : Type 0 where
  pub types : map (types_of day) new.plan ≡ map (types_of day) old.plan
  pub carried : (u : ℕ) → carried u new.riders.items ≡ carried u old.riders.items
  pub stations : (s : ℕ)
      → brought_at s new.riders.items + brought_to s new.aheads.items + brought_from s old.aheads.items
      ≡ brought_at s old.riders.items + brought_to s old.aheads.items + brought_from s new.aheads.items
