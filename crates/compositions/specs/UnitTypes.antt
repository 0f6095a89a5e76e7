-- The limits of the unit types.
use Rattle.std.specs.Prelude.{ℕ, Bool, ◌&&◌, nat_le}
use Rattle.rail_base.specs.declared.limits.TheConstants.{MAX_CARRIAGES, MAX_FIRST_SEATS, MAX_METRES, MAX_SEATS}
use Rattle.rules.specs.declared.records.UnitType.{UnitType}

-- a number from 1 to the limit
abbrev pub is_up_to : ℕ → ℕ → Bool
is_up_to limit n = nat_le 1 n && nat_le n limit

-- the numbers of a unit type are within their limits
abbrev pub is_within_limits : UnitType → Bool
is_within_limits t = is_up_to MAX_CARRIAGES t.carriages && is_up_to MAX_SEATS t.seats && is_up_to MAX_METRES t.metres
    && nat_le t.first MAX_FIRST_SEATS
