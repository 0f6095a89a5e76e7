-- The first of numbers below a bound at which something is found.
use Rattle.std.specs.Prelude.{ℕ, ◌<◌, ◌≡◌, ◌≢◌, List, length, Option, MatchOption, ℤ, pos, ◌≤ℤ◌, ◌<ℤ◌}
use Rattle.timetable.specs.Day.{Day, wanted_of}
use Rattle.timetable.specs.Minutes.{minutes_of}
use Rattle.inventory.specs.declared.faults.StockFault.{StockFault}
use Rattle.inventory.specs.declared.faults.StockFault.TheVariants.{Short, Balance}
use Rattle.inventory.specs.Counts.{count_of_place, end_count_of}

-- it is found at a number, and not at those before
pub record IsFirstIn (fine : ℕ → Type 0) (faulty : ℕ → StockFault → Type 0) (bound : ℕ)
    (fault : StockFault) : Type 0 where
  pub at : ℕ
  pub known : at < bound
  pub is : faulty at fault
  pub before : (k : ℕ) → k < at → fine k

-- it is the first, or there is none
abbrev pub FirstIn : (ℕ → Type 0) → (ℕ → StockFault → Type 0) → ℕ → Option StockFault → Type 0
FirstIn fine faulty bound fault = MatchOption fault ((k : ℕ) → k < bound → fine k) (IsFirstIn fine faulty bound)

-- ---- counts

abbrev pub IsNotShort : Day → List (List ℕ) → ℕ → ℕ → ℕ → Type 0
IsNotShort day lists s m k = pos 0 ≤ℤ count_of_place day lists s m k

pub record IsShort (day : Day) (lists : List (List ℕ)) (s m k : ℕ) (fault : StockFault) : Type 0 where
  pub count : ℤ
  pub negative : count <ℤ pos 0
  pub is : count ≡ count_of_place day lists s m k
  pub fault_is : fault ≡ Short s m k count

-- of a type at a station, of a station, of all
abbrev pub ShortAt : Day → List (List ℕ) → ℕ → ℕ → Option StockFault → Type 0
ShortAt day lists s m fault =
    FirstIn (IsNotShort day lists s m) (IsShort day lists s m) (length (minutes_of day s)) fault

abbrev pub IsShortAt : Day → List (List ℕ) → ℕ → ℕ → StockFault → Type 0
IsShortAt day lists s m fault =
    IsFirstIn (IsNotShort day lists s m) (IsShort day lists s m) (length (minutes_of day s)) fault

abbrev pub NoneShortAt : Day → List (List ℕ) → ℕ → ℕ → Type 0
NoneShortAt day lists s m = (k : ℕ) → k < length (minutes_of day s) → IsNotShort day lists s m k

abbrev pub ShortIn : Day → List (List ℕ) → ℕ → Option StockFault → Type 0
ShortIn day lists s fault = FirstIn (NoneShortAt day lists s) (IsShortAt day lists s) (length day.types) fault

abbrev pub NoneShortIn : Day → List (List ℕ) → ℕ → Type 0
NoneShortIn day lists s = (m : ℕ) → m < length day.types → NoneShortAt day lists s m

abbrev pub ShortOn : Day → List (List ℕ) → Option StockFault → Type 0
ShortOn day lists fault = FirstIn (NoneShortIn day lists)
    (λ s. IsFirstIn (NoneShortAt day lists s) (IsShortAt day lists s) (length day.types)) (length day.stations) fault

-- ---- ends

abbrev pub IsBalanced : Day → List (List ℕ) → ℕ → ℕ → Type 0
IsBalanced day lists s m = end_count_of day lists s m ≡ pos (wanted_of day s m)

pub record IsUnbalanced (day : Day) (lists : List (List ℕ)) (s m : ℕ) (fault : StockFault) : Type 0 where
  pub count : ℤ
  pub differs : count ≢ pos (wanted_of day s m)
  pub is : count ≡ end_count_of day lists s m
  pub fault_is : fault ≡ Balance s m count

abbrev pub UnbalancedAt : Day → List (List ℕ) → ℕ → ℕ → Option StockFault → Type 0
UnbalancedAt day lists s m fault = MatchOption fault (IsBalanced day lists s m) (IsUnbalanced day lists s m)

abbrev pub UnbalancedIn : Day → List (List ℕ) → ℕ → Option StockFault → Type 0
UnbalancedIn day lists s fault = FirstIn (IsBalanced day lists s) (IsUnbalanced day lists s) (length day.types) fault

abbrev pub AllBalancedIn : Day → List (List ℕ) → ℕ → Type 0
AllBalancedIn day lists s = (m : ℕ) → m < length day.types → IsBalanced day lists s m

abbrev pub UnbalancedOn : Day → List (List ℕ) → Option StockFault → Type 0
UnbalancedOn day lists fault = FirstIn (AllBalancedIn day lists)
    (λ s. IsFirstIn (IsBalanced day lists s) (IsUnbalanced day lists s) (length day.types)) (length day.stations) fault
