-- What a name is: of a station, a type, a family or a trip.
use Rattle.std.specs.Prelude.{ℕ, List, Bool, not, ◌&&◌, ◌==◌, length, nat_le, slice_index, ◌-◌}
use Rattle.std.specs.List.{list_all}
use Rattle.rail_base.specs.declared.limits.TheConstants.{MAX_NAME_BYTES}

-- a space
abbrev pub space : ℕ
space = 32

-- a byte that a name may have: no control byte, and not the byte 127
abbrev pub is_name_byte : ℕ → Bool
is_name_byte byte = nat_le 32 byte && not (byte == 127)

-- 1 to MAX_NAME_BYTES bytes that a name may have, with no space at either end (a text is UTF-8 apart from this)
unfoldable pub is_name : List ℕ → Bool
is_name bytes = nat_le 1 (length bytes) && nat_le (length bytes) MAX_NAME_BYTES && list_all is_name_byte bytes
    && not (slice_index bytes 0 == space) && not (slice_index bytes (length bytes - 1) == space)
