-- Which trips of a day may be cancelled at a minute, and what a table of cancelled trips says.
use Rattle.std.specs.Prelude.{ℕ, ◌≡◌, ◌+◌, ◌≤◌, ◌<◌, List, [], ◌∷◌, ◌++◌, length, take, codes, IsTrue, false, Some}
use Rattle.std.specs.Prelude.{slice_get, ⊤}
use Rattle.std.specs.Str.{is_utf8}
use Rattle.rules.specs.declared.records.Link.{Link}
use Rattle.timetable.specs.Day.{Day, leaves}
use Rattle.timetable.specs.Links.{departing_in}
use Rattle.timetable.specs.Lists.{has, IsDistinct}
use Rattle.timetable.specs.NamedEntries.{IsNumberOf}
use Rattle.cancellations.specs.declared.cancelling.CancelRefusal.{CancelRefusal}
use Rattle.cancellations.specs.declared.cancelling.CancelRefusal.TheVariants.{WrongHeader, BadRow, NoMemory}

-- ---- trips

-- A trip may be cancelled at a minute: it does not leave before it, and nor does another trip by the same link, as the
-- other trip of a split may.
pub record MayBeCancelled (day : Day) (minute t : ℕ) : Type 0 where
  pub known : t < length day.trips
  pub waits : minute ≤ leaves day t
  pub beside : (l c : ℕ) (link : Link) → slice_get day.links l ≡ Some link → IsTrue (has t (departing_in link.kind))
      → IsTrue (has c (departing_in link.kind)) → minute ≤ leaves day c

-- trips that may be cancelled together: each may, and none is named twice
pub record AreCancellable (day : Day) (minute : ℕ) (trips : List ℕ) : Type 0 where
  pub once : IsDistinct trips
  pub each : (t : ℕ) → IsTrue (has t trips) → MayBeCancelled day minute t

-- ---- tables of them, as records of fields

-- the header: one column
abbrev pub header : List (List ℕ)
header = codes "trip" ∷ []

-- A row cancels a trip, after rows that cancel others: its one field is the name of the trip, which is none of the
-- others, and may be cancelled.
pub record Cancels (day : Day) (minute : ℕ) (others : List ℕ) (fields : List (List ℕ)) (t : ℕ) : Type 0 where
  pub name : List ℕ
  pub one_field : fields ≡ name ∷ []
  pub is_text : IsTrue (is_utf8 name)
  pub named : IsNumberOf (λ trip. trip.name) day.trips name t
  pub other : has t others ≡ false
  pub may_be : MayBeCancelled day minute t

-- The rows cancel these trips, one each: each row cancels its trip after the rows before it.
pub record CancelEach (day : Day) (minute : ℕ) (rows : List (List (List ℕ))) (trips : List ℕ) : Type 0 where
  pub count : length trips ≡ length rows
  pub each : (k t : ℕ) (fields : List (List ℕ)) → slice_get rows k ≡ Some fields → slice_get trips k ≡ Some t
      → Cancels day minute (take k trips) fields t

-- the records are a table that cancels these trips: its header, and rows that cancel them
pub record CancelAll (day : Day) (minute : ℕ) (records : List (List (List ℕ))) (trips : List ℕ) : Type 0 where
  pub rows : List (List (List ℕ))
  pub under_header : records ≡ header ∷ rows
  pub rows_cancel : CancelEach day minute rows trips

-- The row of this number, counted from 1, is the first that is wrong: the rows before it cancel trips, and after them
-- it cancels none.
pub record IsFirstWrong (day : Day) (minute : ℕ) (rows : List (List (List ℕ))) (row : ℕ) : Type 0 where
  pub before : List (List (List ℕ))
  pub fields : List (List ℕ)
  pub after : List (List (List ℕ))
  pub whole : rows ≡ before ++ fields ∷ after
  pub number : row ≡ length before + 1
  pub trips : List ℕ
  pub right : CancelEach day minute before trips
  pub wrong : (t : ℕ) → Cancels day minute trips fields t → ⊥

-- why a table is refused, but for want of memory: it has no header, or a row is the first that is wrong
abbrev pub IsCancelRefusal : Day → ℕ → List (List (List ℕ)) → CancelRefusal → Type 0
IsCancelRefusal day minute records WrongHeader = (rows : List (List (List ℕ))) → records ≡ header ∷ rows → ⊥
IsCancelRefusal day minute records (BadRow row) =
    (rows : List (List (List ℕ))) × (records ≡ header ∷ rows) × IsFirstWrong day minute rows row
IsCancelRefusal day minute records NoMemory = ⊤
