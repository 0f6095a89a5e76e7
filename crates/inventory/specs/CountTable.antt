-- A table of counts while it is filled: for each station and type one number for each departure minute of the station,
-- and one for the end of the day. First a number is what is given and ready between two minutes, less what is taken;
-- then these are added up.
use Rattle.std.specs.Prelude.{ℕ, zero, suc, ◌+◌, ◌≤◌, List, [], ◌∷◌, length, map, set, get_or, replicate, if◌then◌else◌}
use Rattle.std.specs.Prelude.{nat_lt, ℤ, pos, negsuc, ◌+ℤ◌}
use Rattle.std.specs.Int.{saturate_to_bits}
use Rattle.rail_base.specs.declared.limits.TheConstants.{MAX_COMPOSITION_UNITS}
use Rattle.timetable.specs.Day.{Day, leaves, from_of, to_of, ready_at}
use Rattle.timetable.specs.Lists.{listed}
use Rattle.timetable.specs.Links.{itself, given_with, taken_with}
use Rattle.timetable.specs.Minutes.{minutes_of}
use Rattle.timetable.specs.Starts.{start_of}

-- a sum that stays within 64 bits
abbrev pub plus : ℤ → ℤ → ℤ
plus x y = saturate_to_bits 63 (x +ℤ y)

-- how many of rising minutes are before a minute
abbrev pub earlier : ℕ → List ℕ → ℕ
earlier minute [] = 0
earlier minute (x ∷ xs) = if nat_lt x minute then suc (earlier minute xs) else 0

-- ---- a number changed

abbrev pub changed_at : ℕ → ℤ → List ℤ → List ℤ
changed_at k x counts = set counts k (plus (get_or counts k (pos 0)) x)

abbrev pub changed_in : ℕ → ℕ → ℤ → List (List ℤ) → List (List ℤ)
changed_in m k x types = set types m (changed_at k x (get_or types m []))

abbrev pub changed : ℕ → ℕ → ℕ → ℤ → List (List (List ℤ)) → List (List (List ℤ))
changed s m k x table = set table s (changed_in m k x (get_or table s []))

-- at each of some types
abbrev pub changed_for : ℕ → ℕ → ℤ → List ℕ → List (List (List ℤ)) → List (List (List ℤ))
changed_for s k x [] table = table
changed_for s k x (m ∷ ms) table = changed_for s k x ms (changed s m k x table)

-- ---- by trips

abbrev pub with_given : Day → List (List ℕ) → ℕ → List (List (List ℤ)) → List (List (List ℤ))
with_given day lists t table =
    changed_for (to_of day t) (earlier (ready_at day t) (minutes_of day (to_of day t)))
    (pos 1) (given_with itself day lists t) table

abbrev pub with_taken : Day → List (List ℕ) → ℕ → List (List (List ℤ)) → List (List (List ℤ))
with_taken day lists t table =
    changed_for (from_of day t) (earlier (leaves day t) (minutes_of day (from_of day t)))
    (negsuc 0) (taken_with itself day lists t) table

-- of the trips below a number
abbrev pub with_trips : Day → List (List ℕ) → ℕ → List (List (List ℤ)) → List (List (List ℤ))
with_trips day lists zero table = table
with_trips day lists (suc n) table = with_taken day lists n (with_given day lists n (with_trips day lists n table))

-- a trip gives and takes no more units than a composition may have
pub record MoveFew (day : Day) (lists : List (List ℕ)) (t : ℕ) : Type 0 where
  pub given : length (given_with itself day lists t) ≤ MAX_COMPOSITION_UNITS
  pub taken : length (taken_with itself day lists t) ≤ MAX_COMPOSITION_UNITS

-- ---- added up

abbrev pub sums_from : ℤ → List ℤ → List ℤ
sums_from x [] = []
sums_from x (count ∷ counts) = plus x count ∷ sums_from (plus x count) counts

-- of each type at a station, from the units of the type at the start
abbrev pub sums_for : Day → ℕ → ℕ → List (List ℤ) → List (List ℤ)
sums_for day s m [] = []
sums_for day s m (counts ∷ types) = sums_from (pos (start_of day s m)) counts ∷ sums_for day s (suc m) types

abbrev pub all_sums : Day → ℕ → List (List (List ℤ)) → List (List (List ℤ))
all_sums day s [] = []
all_sums day s (types ∷ table) = sums_for day s 0 types ∷ all_sums day (suc s) table

-- ---- zeros

abbrev pub zeros : ℕ → List ℤ
zeros minutes = replicate (minutes + 1) (pos 0)

abbrev pub zeros_for : ℕ → ℕ → List (List ℤ)
zeros_for types minutes = replicate types (zeros minutes)

abbrev pub zero_table : Day → List (List (List ℤ))
zero_table day = listed (λ s. zeros_for (length day.types) (length (minutes_of day s))) (length day.stations)

abbrev pub cleared : List (List (List ℤ)) → List (List (List ℤ))
cleared table = map (map (map (λ _. pos 0))) table
