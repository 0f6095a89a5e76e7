-- Which compositions may run on a trip.
use Rattle.std.specs.Prelude.{ℕ, List, Bool, min}
use Rattle.rules.specs.Composition.{fits_in}
use Rattle.rules.specs.Day.{Day, platform_of, from_of, to_of}

-- the metres that fit both platforms of a trip
abbrev pub longest_of : Day → ℕ → ℕ
longest_of day t = min (platform_of day (from_of day t)) (platform_of day (to_of day t))

-- 1 to 6 types of one family, whose metres fit the platforms of both stations
unfoldable pub is_admissible : Day → ℕ → List ℕ → Bool
is_admissible day t types = fits_in day.types (longest_of day t) types
