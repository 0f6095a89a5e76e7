-- How many units of a type are held: in the yard of a station and ready, when all that happens at a moment has
-- happened.
use Rattle.std.specs.Prelude.{ℕ, ◌≡◌, ◌<◌, ◌≤◌, ◌+◌, ◌⊎◌, ◌++◌, List, [], ◌∷◌, Bool, ◌==◌, ◌&&◌, if◌then◌else◌, nat_le}
use Rattle.std.specs.Prelude.{nat_lt}
use Rattle.std.specs.List.{All, count_by}
use Rattle.urgent_units.specs.declared.legs.Leg.{Leg}
use Rattle.urgent_units.specs.declared.legs.UnitLegs.{UnitLegs}
use Rattle.urgent_units.specs.Legs.{TypeLegs}
use Rattle.urgent_units.specs.Moments.{over_at}

-- ---- which unit is held

-- the unit is at home: no leg of it has left yet, when so many minutes are over
pub record IsStillAtHome (unit : UnitLegs) (s over : ℕ) : Type 0 where
  pub none_left : All (λ leg. over ≤ leg.departs) unit.legs
  pub home : unit.home ≡ s

-- the unit has come to the station by the last leg that has left, and is ready there
pub record HasCome (unit : UnitLegs) (s over : ℕ) : Type 0 where
  pub before : List Leg
  pub last : Leg
  pub after : List Leg
  pub legs : unit.legs ≡ before ++ last ∷ after
  pub has_left : last.departs < over
  pub none_left : All (λ leg. over ≤ leg.departs) after
  pub station : last.to ≡ s
  pub is_ready : last.ready < over

-- the unit is in the yard of the station and ready, when so many minutes are over
abbrev pub IsHeld : UnitLegs → ℕ → ℕ → Type 0
IsHeld unit s over = IsStillAtHome unit s over ⊎ HasCome unit s over

-- ---- the same by looking at one leg after another

-- it stands in the yard of station at since so many minutes were over, and its next legs are these
abbrev pub is_held_from : ℕ → ℕ → List Leg → ℕ → ℕ → Bool
is_held_from at since [] s over = at == s && nat_le since over
is_held_from at since (leg ∷ legs) s over =
    if nat_lt leg.departs over then is_held_from leg.to (leg.ready + 1) legs s over else at == s && nat_le since over

abbrev pub is_held : UnitLegs → ℕ → ℕ → Bool
is_held unit s over = is_held_from unit.home 0 unit.legs s over

-- ---- how many are

-- the units of the type that are held at a station after a moment
unfoldable pub held : TypeLegs → ℕ → ℕ → ℕ
held legs s k = count_by (λ unit. is_held unit s (over_at legs s k)) legs.units
