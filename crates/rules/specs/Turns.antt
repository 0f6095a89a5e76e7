-- The rule of a turn: which units stay in the train. A turn has an end at which it may uncouple units, and one at which
-- it may couple units. Which places of the two lists stay is read off the types; the rule is that the same units stand
-- there, and that no more are taken off and put on than may be.
-- The rule is said twice: of lists, by `IsKeptList` and `AreParts`, and by numbers, by `kept_length` and `turn_parts`.
-- `RunsOf` reads `turn_parts`. That both say the same of all lists is proved by two laws of timetable:
-- KeepTheLongest, of `kept_length`, and HaveParts, of `turn_parts`.
use Rattle.std.specs.Prelude.{ℕ, zero, suc, ◌-◌, ◌≡◌, ◌≤◌, List, [], ◌++◌, length, take, drop, map, Bool, ◌&&◌, ◌||◌}
use Rattle.std.specs.Prelude.{◌==◌, if◌then◌else◌, nat_le, Option, Some, None, option_and_then, unwrap_or, MatchOption}
use Rattle.std.specs.Prelude.{IsTrue}
use Rattle.std.specs.Str.{bytes_eq}
use Rattle.rail_base.specs.declared.limits.TheConstants.{MAX_EXCHANGED}
use Rattle.rules.specs.declared.records.End.{End}
use Rattle.rules.specs.declared.records.End.TheVariants as at
use Rattle.rules.specs.declared.records.LinkKind.{LinkKind}
use Rattle.rules.specs.declared.records.LinkKind.TheVariants.{Turn, Join, Split}

-- ---- what a turn keeps

-- the part is what a list is without some of it at this end: the front of it where its rear may go, the rear of it
-- where its front may, and all of it where neither may
abbrev pub IsWithout : End → List ℕ → List ℕ → Type 0
IsWithout at.None whole part = part ≡ whole
IsWithout at.Rear whole part = (gone : List ℕ) × (part ++ gone ≡ whole)
IsWithout at.Front whole part = (gone : List ℕ) × (gone ++ part ≡ whole)

-- A list of types fits a turn from arriving to departing types: it is not empty, it is what is left of the arriving
-- types after the uncoupling end lost none or more, and the departing types are it with none or more at the coupling
-- end.
pub record Fits (uncouple couple : End) (arriving departing types : List ℕ) : Type 0 where
  pub some : 1 ≤ length types
  pub uncoupled : IsWithout uncouple arriving types
  pub coupled : IsWithout couple departing types

-- the kept list of a turn: the longest list of types that fits
pub record IsKeptList (uncouple couple : End) (arriving departing types : List ℕ) : Type 0 where
  pub fits : Fits uncouple couple arriving departing types
  pub longest : (other : List ℕ) → Fits uncouple couple arriving departing other → length other ≤ length types

-- ---- the same by numbers: how many stay

-- two lists are one
abbrev pub same : List ℕ → List ℕ → Bool
same = bytes_eq

-- so many may stay of so many, when units go at this end
abbrev pub may_stay : End → ℕ → ℕ → Bool
may_stay at.None whole n = n == whole
may_stay at.Rear whole n = nat_le n whole
may_stay at.Front whole n = nat_le n whole

-- what stays of a list, when all but so many go at this end
abbrev pub staying : {X : Type 0} → End → List X → ℕ → List X
staying at.None whole n = whole
staying at.Rear whole n = take n whole
staying at.Front whole n = drop (length whole - n) whole

-- what goes
abbrev pub beyond : {X : Type 0} → End → List X → ℕ → List X
beyond at.None whole n = []
beyond at.Rear whole n = drop n whole
beyond at.Front whole n = take (length whole - n) whole

-- whether a list of so many types fits
abbrev pub fits_at : End → End → List ℕ → List ℕ → ℕ → Bool
fits_at uncouple couple arriving departing n =
    may_stay uncouple (length arriving) n && may_stay couple (length departing) n
    && same (staying uncouple arriving n) (staying couple departing n)

-- the greatest number from a bound down to 1 that passes a test
abbrev pub greatest : (ℕ → Bool) → ℕ → Option ℕ
greatest test zero = None
greatest test (suc n) = if test (suc n) then Some (suc n) else greatest test n

-- how many units a turn keeps, by types: the length of the kept list, and nothing where no list fits
unfoldable pub kept_length : End → End → List ℕ → List ℕ → Option ℕ
kept_length uncouple couple arriving departing = greatest (fits_at uncouple couple arriving departing) (length arriving)

-- the same, and none where no list fits
abbrev pub kept_count : End → End → List ℕ → List ℕ → ℕ
kept_count uncouple couple arriving departing = unwrap_or (kept_length uncouple couple arriving departing) 0

-- the same of a link, by its ends; a join and a split keep no such list
abbrev pub kept_of : LinkKind → List ℕ → List ℕ → Option ℕ
kept_of (Turn a b uncouple couple exchange) arriving departing = kept_length uncouple couple arriving departing
kept_of (Join a1 a2 b) arriving departing = None
kept_of (Split a b1 b2) arriving departing = None

-- the end of the arriving train at which a link uncouples units, and that of the departing train at which it couples
-- units: the ends of a turn, and no end of a join or a split
abbrev pub uncoupling_end : LinkKind → End
uncoupling_end (Turn a b uncouple couple exchange) = uncouple
uncoupling_end (Join a1 a2 b) = at.None
uncoupling_end (Split a b1 b2) = at.None

abbrev pub coupling_end : LinkKind → End
coupling_end (Turn a b uncouple couple exchange) = couple
coupling_end (Join a1 a2 b) = at.None
coupling_end (Split a b1 b2) = at.None

-- so many are kept: as long is the kept list, or nothing where no list fits
abbrev pub IsKeptCount : End → End → List ℕ → List ℕ → Option ℕ → Type 0
IsKeptCount uncouple couple arriving departing kept =
    MatchOption kept ((types : List ℕ) → ¬ Fits uncouple couple arriving departing types)
    (λ n. (types : List ℕ) × IsKeptList uncouple couple arriving departing types × (length types ≡ n))

abbrev pub IsKept : LinkKind → List ℕ → List ℕ → Option ℕ → Type 0
IsKept (Turn a b uncouple couple exchange) arriving departing kept = IsKeptCount uncouple couple arriving departing kept
IsKept (Join a1 a2 b) arriving departing kept = kept ≡ None
IsKept (Split a b1 b2) arriving departing kept = kept ≡ None

-- ---- the rule

-- what becomes of units at a turn: what stays in the train, what is given to the yard, what is taken from it
pub record Parts : Type 0 where
  pub kept : List ℕ
  pub given : List ℕ
  pub taken : List ℕ

-- a turn may take so many off and put so many on: nothing on one of the two sides, or, with exchange, few on both
abbrev pub may_shunt : Bool → ℕ → ℕ → Bool
may_shunt exchange off on = off == 0 || on == 0 || (exchange && nat_le off MAX_EXCHANGED && nat_le on MAX_EXCHANGED)

-- the list is what stays and, at this end, what goes; nothing goes where neither end is named
abbrev pub Consists : End → List ℕ → List ℕ → List ℕ → Type 0
Consists at.None whole stays goes = (whole ≡ stays) × (goes ≡ [])
Consists at.Rear whole stays goes = whole ≡ stays ++ goes
Consists at.Front whole stays goes = whole ≡ goes ++ stays

-- These are the parts of a turn: the units that stay are the same in both lists, and their types are the kept list; the
-- arriving list is they and the units that are given, the departing list is they and the units that are taken, each at
-- the end of the turn; and no more are given and taken than may be.
pub record AreParts (type_of : ℕ → ℕ) (uncouple couple : End) (exchange : Bool) (arriving departing : List ℕ)
    (parts : Parts) : Type 0 where
  pub types : IsKeptList uncouple couple (map type_of arriving) (map type_of departing) (map type_of parts.kept)
  pub arrive : Consists uncouple arriving parts.kept parts.given
  pub depart : Consists couple departing parts.kept parts.taken
  pub few : IsTrue (may_shunt exchange (length parts.given) (length parts.taken))

-- ---- the same by numbers: the parts

-- the parts where so many stay: the rest goes and comes, each at its end
abbrev pub parts_beside : End → End → List ℕ → List ℕ → ℕ → Parts
parts_beside uncouple couple arriving departing n =
    record { kept = staying uncouple arriving n; given = beyond uncouple arriving n; taken = beyond couple departing n }

-- the parts of a turn that keeps so many: none where other units stand at the kept places, or where too many are
-- shunted
abbrev pub parts_at : End → End → Bool → List ℕ → List ℕ → ℕ → Option Parts
parts_at uncouple couple exchange arriving departing n =
    if same (staying uncouple arriving n) (staying couple departing n)
    && may_shunt exchange (length arriving - n) (length departing - n)
    then Some (parts_beside uncouple couple arriving departing n)
    else None

-- The parts of a turn, of units whose types are told by a function (of types, by the one that changes nothing), or
-- nothing where its rule is broken. The arriving list is the one after a reversal.
unfoldable pub turn_parts : (ℕ → ℕ) → End → End → Bool → List ℕ → List ℕ → Option Parts
turn_parts type_of uncouple couple exchange arriving departing =
    option_and_then (parts_at uncouple couple exchange arriving departing)
    (kept_length uncouple couple (map type_of arriving) (map type_of departing))
