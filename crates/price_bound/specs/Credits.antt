-- Credits and debits: for each trip and composition the price of the composition's units, where the trip gives them,
-- and where it takes them.
use Rattle.std.specs.Prelude.{ℕ, ◌≡◌, ◌≢◌, ◌<◌, suc, List, [], length, get_or, set, ℤ, pos, Bool, true, false}
use Rattle.timetable.specs.Compositions.{compositions_of, composition_at}
use Rattle.timetable.specs.Day.{Day}
use Rattle.branch_tree.specs.declared.multipliers.Entry.{Entry}
use Rattle.branch_tree.specs.IntSums.{int_sum}
use Rattle.branch_tree.specs.Regions.{has}
use Rattle.price_bound.specs.declared.credits.Summed.{Summed}
use Rattle.price_bound.specs.declared.credits.Summed.TheVariants.{Members, Whole, Many}
use Rattle.price_bound.specs.declared.credits.UnitSums.{UnitSums}
use Rattle.price_bound.specs.CellSizes.{IsSmall, most_price, most_units_price}
use Rattle.price_bound.specs.PriceTables.{HasSize, amount_at}
use Rattle.price_bound.specs.YardPrices.{giving, taking}

-- a table with another amount in a row and a column
abbrev pub put_in : ℕ → ℕ → ℤ → List (List ℤ) → List (List ℤ)
put_in row column amount table = set table row (set (get_or table row []) column amount)

-- the sum of what a row has for types
abbrev pub sum_in : List ℤ → List ℕ → ℤ
sum_in row types = int_sum (λ m. get_or row m (pos 0)) types

-- the amounts of a row are small
abbrev pub AreSmallAmounts : List ℤ → Type 0
AreSmallAmounts row = (m : ℕ) → m < length row → IsSmall most_price (get_or row m (pos 0))

-- units of no type cost anything
abbrev pub IsFree : List ℤ → Type 0
IsFree row = (m : ℕ) → get_or row m (pos 0) ≡ pos 0

-- there is an amount for each type, and all are small
pub record AreByType (day : Day) (amounts : List ℤ) : Type 0 where
  pub sized : length amounts ≡ length day.types
  pub small : AreSmallAmounts amounts

-- so it is for each trip
pub record AreAllByType (day : Day) (amounts : List (List ℤ)) : Type 0 where
  pub sized : HasSize (length day.trips) (length day.types) amounts
  pub small : (t : ℕ) → t < length amounts → AreSmallAmounts (get_or amounts t [])

-- a row has, in the columns below a number, the sums over the types of compositions
pub record AreRowSums (day : Day) (amounts : List ℤ) (comps : ℕ) (row : List ℤ) : Type 0 where
  pub values : (c : ℕ) → c < comps → get_or row c (pos 0) ≡ sum_in amounts (composition_at day c)
  pub small : (c : ℕ) → c < comps → IsSmall most_units_price (get_or row c (pos 0))

-- it has those below a number, and a place for each composition and one for no units, which has 0
pub record AreSumsBefore (day : Day) (amounts : List ℤ) (comps : ℕ) (row : List ℤ) : Type 0 where
  pub long : length row ≡ suc (length (compositions_of day))
  pub none : get_or row (length (compositions_of day)) (pos 0) ≡ pos 0
  pub sums : AreRowSums day amounts comps row

-- it has those of all compositions
pub record AreSumsOf (day : Day) (amounts row : List ℤ) : Type 0 where
  pub long : length row ≡ suc (length (compositions_of day))
  pub sums : AreRowSums day amounts (length (compositions_of day)) row

-- a table has such a row
pub record HasSumRoom (day : Day) (t : ℕ) (table : List (List ℤ)) : Type 0 where
  pub within : t < length table
  pub long : length (get_or table t []) ≡ suc (length (compositions_of day))

-- a trip has the sums of all compositions
abbrev pub is_of_all : Summed → Bool
is_of_all Members = false
is_of_all Whole = true
is_of_all Many = true

abbrev pub is_whole : List Summed → ℕ → Bool
is_whole summed t = is_of_all (get_or summed t Members)

-- a row has the sum over the types of a composition
pub record IsSumAt (day : Day) (amounts : List ℤ) (c : ℕ) (row : List ℤ) : Type 0 where
  pub value : get_or row c (pos 0) ≡ sum_in amounts (composition_at day c)
  pub small : IsSmall most_units_price (get_or row c (pos 0))

-- it has those of the members of a set that are below a number
abbrev pub AreMemberSums : Day → List ℤ → (ℕ → Bool) → ℕ → List ℤ → Type 0
AreMemberSums day amounts member comps row =
    (c : ℕ) → c < comps → c < length (compositions_of day) → member c ≡ true → IsSumAt day amounts c row

-- it has those that a trip has in a region: those of all compositions, or of the members of its set
pub record AreSumsFor (day : Day) (region : List (List Bool)) (summed : List Summed) (amounts : List ℤ) (t : ℕ)
    (row : List ℤ) : Type 0 where
  pub whole : (c : ℕ) → c < length (compositions_of day) → is_whole summed t ≡ true → IsSumAt day amounts c row
  pub members : (c : ℕ) → c < length (compositions_of day) → has region t c ≡ true → IsSumAt day amounts c row

-- a table has them in the rows below a number
abbrev pub AreSumsBelow : Day → List (List Bool) → List Summed → List (List ℤ) → ℕ → List (List ℤ) → Type 0
AreSumsBelow day region summed amounts trips table =
    (t : ℕ) → t < trips → AreSumsFor day region summed (get_or amounts t []) t (get_or table t [])

-- there is room for the sums of each trip and composition, and a place more for no units
pub record HaveSumRoom (day : Day) (sums : UnitSums) : Type 0 where
  pub credits : HasSize (length day.trips) (suc (length (compositions_of day))) sums.credits
  pub debits : HasSize (length day.trips) (suc (length (compositions_of day))) sums.debits
  pub summed : length sums.summed.items ≡ length day.trips

-- the sums of the first trips are there, of what they give and take units for
pub record AreTripSums (day : Day) (region : List (List Bool)) (gives takes : List (List ℤ)) (trips : ℕ)
    (sums : UnitSums) : Type 0 where
  pub room : HaveSumRoom day sums
  pub credits : AreSumsBelow day region sums.summed.items gives trips sums.credits
  pub debits : AreSumsBelow day region sums.summed.items takes trips sums.debits

-- the rows of a table but one are those of another
abbrev pub AreRowsBut : ℕ → List (List ℤ) → List (List ℤ) → Type 0
AreRowsBut t table new = (other : ℕ) → other ≢ t → get_or new other [] ≡ get_or table other []

-- one row of a table is put anew, and has the sums
pub record IsRowSummed (day : Day) (amounts : List ℤ) (t : ℕ) (table new : List (List ℤ)) : Type 0 where
  pub height : length new ≡ length table
  pub row : AreSumsOf day amounts (get_or new t [])
  pub others : AreRowsBut t table new

-- the sums of a composition are put for a trip
pub record AreSumsPut (day : Day) (gives takes : List ℤ) (t c : ℕ) (sums new : UnitSums) : Type 0 where
  pub summed : new.summed.items ≡ sums.summed.items
  pub credits : new.credits ≡ put_in t c (sum_in gives (composition_at day c)) sums.credits
  pub debits : new.debits ≡ put_in t c (sum_in takes (composition_at day c)) sums.debits

-- those of the members of a set that are below a number are put for a trip, and nothing for others
pub record AreMembersPut (day : Day) (gives takes : List ℤ) (t : ℕ) (member : ℕ → Bool) (comps : ℕ)
    (sums new : UnitSums) : Type 0 where
  pub room : HaveSumRoom day new
  pub summed : new.summed.items ≡ sums.summed.items
  pub credits : AreMemberSums day gives member comps (get_or new.credits t [])
  pub debits : AreMemberSums day takes member comps (get_or new.debits t [])
  pub other_credits : AreRowsBut t sums.credits new.credits
  pub other_debits : AreRowsBut t sums.debits new.debits

-- those that a trip keeps are put, and nothing for others
pub record IsTripPut (day : Day) (region : List (List Bool)) (gives takes : List ℤ) (t : ℕ) (sums new : UnitSums)
    : Type 0 where
  pub room : HaveSumRoom day new
  pub credits : AreSumsFor day region new.summed.items gives t (get_or new.credits t [])
  pub debits : AreSumsFor day region new.summed.items takes t (get_or new.debits t [])
  pub other_summed : (other : ℕ) → other ≢ t → is_whole new.summed.items other ≡ is_whole sums.summed.items other
  pub other_credits : AreRowsBut t sums.credits new.credits
  pub other_debits : AreRowsBut t sums.debits new.debits

-- a table has the price of a composition's units for a trip
pub record IsUnitPrice (day : Day) (price : ℕ → List ℕ → ℤ) (table : List (List ℤ)) (t c : ℕ) : Type 0 where
  pub value : amount_at table t c ≡ price t (composition_at day c)
  pub small : IsSmall most_units_price (amount_at table t c)

-- it has it for each trip and composition for which the trip has sums in a region, and a place more for no units
pub record AreUnitPrices (day : Day) (region : List (List Bool)) (summed : List Summed) (price : ℕ → List ℕ → ℤ)
    (table : List (List ℤ)) : Type 0 where
  pub sized : HasSize (length day.trips) (suc (length (compositions_of day))) table
  pub whole : (t c : ℕ) → t < length day.trips → c < length (compositions_of day) → is_whole summed t ≡ true
      → IsUnitPrice day price table t c
  pub members : (t c : ℕ) → t < length day.trips → c < length (compositions_of day) → has region t c ≡ true
      → IsUnitPrice day price table t c

-- the credits and the debits under multipliers
pub record AreSumsPriced (day : Day) (region : List (List Bool)) (entries : List Entry) (sums : UnitSums)
    : Type 0 where
  pub summed : length sums.summed.items ≡ length day.trips
  pub credits : AreUnitPrices day region sums.summed.items (giving day entries) sums.credits
  pub debits : AreUnitPrices day region sums.summed.items (taking day entries) sums.debits
