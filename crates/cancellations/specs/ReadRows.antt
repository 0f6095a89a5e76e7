-- How the rows of a table of cancelled trips are read, one after the other.
use Rattle.std.specs.Prelude.{ℕ, ◌≡◌, ◌+◌, List, [], ◌∷◌, ◌++◌, length, ⊤}
use Rattle.rail_csv.specs.Records.{Records, ReadsOn, records_left}
use Rattle.timetable.specs.Day.{Day}
use Rattle.cancellations.specs.declared.cancelling.CancelRefusal.{CancelRefusal}
use Rattle.cancellations.specs.declared.cancelling.CancelRefusal.TheVariants.{WrongHeader, BadRow, NoMemory}
use Rattle.cancellations.specs.Cancellations.{Cancels, IsFirstWrong}

-- a row was read, and its trip came behind those of the rows before it
pub record HasOneMore (day : Day) (minute : ℕ) (trips more : List ℕ) (before after : Records) : Type 0 where
  pub reads : ReadsOn after
  pub fields : List (List ℕ)
  pub first : records_left before ≡ fields ∷ records_left after
  pub trip : ℕ
  pub cancels : Cancels day minute trips fields trip
  pub items : more ≡ trips ++ trip ∷ []

-- no row was left
pub record HasNoMore (trips same : List ℕ) (before : Records) : Type 0 where
  pub none : records_left before ≡ []
  pub items : same ≡ trips

-- the next row is wrong, after rows that cancel these trips, and this is its number
pub record IsNextWrong (day : Day) (minute : ℕ) (trips : List ℕ) (left : List (List (List ℕ))) (row : ℕ) : Type 0 where
  pub fields : List (List ℕ)
  pub after : List (List (List ℕ))
  pub first : left ≡ fields ∷ after
  pub number : row ≡ length trips + 1
  pub wrong : (t : ℕ) → Cancels day minute trips fields t → ⊥

abbrev pub IsNextRowRefusal : Day → ℕ → List ℕ → List (List (List ℕ)) → CancelRefusal → Type 0
IsNextRowRefusal day minute trips left WrongHeader = ⊥
IsNextRowRefusal day minute trips left (BadRow row) = IsNextWrong day minute trips left row
IsNextRowRefusal day minute trips left NoMemory = ⊤

-- why rows are refused
abbrev pub IsRowsRefusal : Day → ℕ → List (List (List ℕ)) → CancelRefusal → Type 0
IsRowsRefusal day minute rows WrongHeader = ⊥
IsRowsRefusal day minute rows (BadRow row) = IsFirstWrong day minute rows row
IsRowsRefusal day minute rows NoMemory = ⊤
