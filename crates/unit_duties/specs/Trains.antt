-- How many units a turn keeps, by the compositions that are picked.
use Rattle.std.specs.Prelude.{ℕ, List, unwrap_or}
use Rattle.inventory.specs.Places.{given_places}
use Rattle.rules.specs.declared.records.Link.{Link}
use Rattle.timetable.specs.Chains.{leads_from, leads_to}
use Rattle.timetable.specs.Day.{Day}
use Rattle.timetable.specs.Picks.{picked}
use Rattle.timetable.specs.Links.{list_of, turned, itself, taken_with}
use Rattle.timetable.specs.Turns.{kept_of}

-- how many units a turn keeps, and none at a join or a split
abbrev pub kept_at : Link → List (List ℕ) → ℕ
kept_at link types =
    unwrap_or
    (kept_of link.kind (turned link.reverse (list_of types (leads_from link.kind)))
    (list_of types (leads_to link.kind)))
    0

-- the types of the units that a trip takes from the yard
abbrev pub taken_types : Day → List ℕ → ℕ → List ℕ
taken_types day picks b = taken_with itself day (picked day picks) b

-- the units that a trip with these units gives to the yard
abbrev pub given_units : Day → List ℕ → ℕ → List ℕ → List ℕ
given_units day picks b us = given_places day (picked day picks) b us
