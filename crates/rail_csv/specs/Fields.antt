-- What a field spells: a number, a time of day, a list of units.
use Rattle.std.specs.Prelude.{ℕ, List, [], ◌∷◌, length, take, drop, map, Bool, ◌&&◌, ◌==◌, ◌+◌, ◌-◌, ◌*◌, ◌^◌, nat_le}
use Rattle.std.specs.Prelude.{nat_lt, slice_index}
use Rattle.std.specs.List.{list_all, slice_split}
use Rattle.rail_base.specs.Names.{space}
use Rattle.rail_base.specs.Times.{colon}
use Rattle.rail_base.specs.declared.limits.TheConstants.{MAX_UNITS}
use Rattle.rail_csv.specs.declared.limits.TheConstants.{LAST_HOUR, LAST_MINUTE_OF_AN_HOUR, MINUTES_OF_AN_HOUR}
use Rattle.rail_csv.specs.declared.limits.TheConstants.{MAX_NUMBER_DIGITS}

-- an ASCII digit
abbrev pub is_digit : ℕ → Bool
is_digit byte = nat_le 48 byte && nat_le byte 57

-- digits and nothing else
abbrev pub are_digits : List ℕ → Bool
are_digits text = list_all is_digit text

-- the number that digits spell: each digit by the weight of its place
unfoldable pub number_of : List ℕ → ℕ
number_of [] = 0
number_of (digit ∷ digits) = (digit - 48) * 10 ^ length digits + number_of digits

-- a number has 1 to MAX_NUMBER_DIGITS digits
abbrev pub is_number : List ℕ → Bool
is_number text = nat_le 1 (length text) && nat_le (length text) MAX_NUMBER_DIGITS && are_digits text

-- the hour of a time is what stands before its last three bytes, the minute its last two bytes, with a colon between
abbrev pub hour_text : List ℕ → List ℕ
hour_text text = take (length text - 3) text

abbrev pub minute_text : List ℕ → List ℕ
minute_text text = drop (length text - 2) text

abbrev pub has_time_form : List ℕ → Bool
has_time_form text = nat_le 4 (length text) && nat_le (length text) 5
    && are_digits (hour_text text) && (slice_index text (length text - 3) == colon) && are_digits (minute_text text)

-- one or two digits of the hour 0 to 47, a colon, and two digits of the minute 0 to 59
abbrev pub is_time : List ℕ → Bool
is_time text = has_time_form text && nat_le (number_of (hour_text text)) LAST_HOUR
    && nat_le (number_of (minute_text text)) LAST_MINUTE_OF_AN_HOUR

-- the minutes since the first midnight
abbrev pub time_of : List ℕ → ℕ
time_of text = MINUTES_OF_AN_HOUR * number_of (hour_text text) + number_of (minute_text text)

-- the pieces between single spaces; an empty text has none
abbrev pub pieces_of : List ℕ → List (List ℕ)
pieces_of [] = []
pieces_of (byte ∷ text) = slice_split (λ b. b == space) (byte ∷ text)

-- the numbers that the pieces spell
abbrev pub numbers_of : List ℕ → List ℕ
numbers_of text = map number_of (pieces_of text)

-- a number that a unit may have
abbrev pub is_unit : ℕ → Bool
is_unit number = nat_lt number MAX_UNITS
