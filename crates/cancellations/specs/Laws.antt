-- What is so of every table of cancelled trips.
use Rattle.std.specs.Prelude.{ℕ, ◌≡◌, ◌≢◌, List}
use Rattle.timetable.specs.Accepted.{HaveNames}
use Rattle.timetable.specs.Day.{Day}
use Rattle.cancellations.specs.declared.cancelling.CancelRefusal.{CancelRefusal}
use Rattle.cancellations.specs.declared.cancelling.CancelRefusal.TheVariants.{NoMemory}
use Rattle.cancellations.specs.Cancellations.{CancelAll, IsCancelRefusal}

-- records cancel at most one list of trips, and are then refused for nothing; and they are refused for at most one
-- thing, but for want of memory
pub record IsDecided (day : Day) (minute : ℕ) (records : List (List (List ℕ))) : Type 0 where
  pub one : (some others : List ℕ) → CancelAll day minute records some → CancelAll day minute records others
      → some ≡ others
  pub refused : (trips : List ℕ) (refusal : CancelRefusal) → CancelAll day minute records trips
      → IsCancelRefusal day minute records refusal → refusal ≡ NoMemory
  pub one_refusal : (some other : CancelRefusal) → some ≢ NoMemory → other ≢ NoMemory
      → IsCancelRefusal day minute records some → IsCancelRefusal day minute records other → some ≡ other

abbrev pub TablesAreDecided : Type 0
TablesAreDecided =
    (day : Day) (minute : ℕ) (records : List (List (List ℕ))) → HaveNames day → IsDecided day minute records
