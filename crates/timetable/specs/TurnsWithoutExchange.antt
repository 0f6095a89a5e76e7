-- Turns without exchange, said apart: the departing list is the arriving one, or what is left of it after units were
-- uncoupled at the uncoupling end, or the arriving one with units coupled at the coupling end. Where no list is empty,
-- the rule of a turn says the same.
use Rattle.std.specs.Prelude.{ℕ, ◌-◌, ◌≡◌, ◌≤◌, List, [], length, take, drop, Bool, false, ◌&&◌, if◌then◌else◌, nat_le}
use Rattle.std.specs.Prelude.{nat_lt, Option, Some, None}
use Rattle.rules.specs.declared.records.End.{End}
use Rattle.rules.specs.declared.records.End.TheVariants as at
use Rattle.timetable.specs.Turns.{same, Parts, turn_parts}

-- the part is what is left of the whole after one or more units went at this end, and at least one stays
abbrev pub is_left_of : End → List ℕ → List ℕ → Bool
is_left_of at.None whole part = false
is_left_of at.Rear whole part =
    nat_le 1 (length part) && nat_lt (length part) (length whole) && same (take (length part) whole) part
is_left_of at.Front whole part =
    nat_le 1 (length part) && nat_lt (length part) (length whole) && same (drop (length whole - length part) whole) part

-- what went of the whole
abbrev pub gone_of : End → List ℕ → List ℕ → List ℕ
gone_of at.None whole part = []
gone_of at.Rear whole part = drop (length part) whole
gone_of at.Front whole part = take (length whole - length part) whole

unfoldable pub plain_parts : End → End → List ℕ → List ℕ → Option Parts
plain_parts uncouple couple arriving departing =
    if same arriving departing then Some (record { kept = arriving; given = []; taken = [] })
    else if is_left_of uncouple arriving departing
    then Some (record { kept = departing; given = gone_of uncouple arriving departing; taken = [] })
    else if is_left_of couple departing arriving
    then Some (record { kept = arriving; given = []; taken = gone_of couple departing arriving })
    else None

-- whatever the types of the units: a turn without exchange between lists that are not empty
abbrev pub IsPlainTurn : Type 0
IsPlainTurn =
    (type_of : ℕ → ℕ) (uncouple couple : End) (arriving departing : List ℕ) → 1 ≤ length arriving → 1 ≤ length departing
    → turn_parts type_of uncouple couple false arriving departing ≡ plain_parts uncouple couple arriving departing
