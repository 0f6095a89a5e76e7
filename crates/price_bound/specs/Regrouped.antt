-- What the priced value has that no link adds: a constant, and what each trip adds by its own pick.
use Rattle.std.specs.Prelude.{ℕ, List, Bool, false, ◌&&◌, ◌==◌, if◌then◌else◌, is_none}
use Rattle.std.specs.Prelude.{option_map, unwrap_or, slice_get, ℤ, pos, neg_ℤ, ◌+ℤ◌, ◌-ℤ◌, ◌*ℤ◌}
use Rattle.timetable.specs.declared.day.indices.Place.{Place}
use Rattle.timetable.specs.declared.day.indices.Place.TheVariants.{Lambda, Mu, Sigma}
use Rattle.timetable.specs.declared.day.records.Handover.{Handover}
use Rattle.timetable.specs.Compositions.{composition_at}
use Rattle.timetable.specs.Day.{Day, wanted_of}
use Rattle.timetable.specs.Handovers.{handovers_of}
use Rattle.timetable.specs.Links.{incoming, outgoing}
use Rattle.timetable.specs.Starts.{start_of}
use Rattle.branch_tree.specs.declared.multipliers.Entry.{Entry}
use Rattle.branch_tree.specs.declared.relaxation.Weight.{Weight}
use Rattle.branch_tree.specs.IntSums.{int_sum}
use Rattle.branch_tree.specs.Meanings.{weighted}
use Rattle.price_bound.specs.YardPrices.{by_place, giving, taking}

-- ---- the constant

-- what a multiplier adds whatever the picks: its value times minus the units at the start, or times the wanted units
-- less those at the start
abbrev pub constant_by : Day → Place → ℤ → ℤ
constant_by day (Lambda s m k) value = value *ℤ neg_ℤ (pos (start_of day s m))
constant_by day (Mu s m) value = value *ℤ (pos (wanted_of day s m) -ℤ pos (start_of day s m))
constant_by day (Sigma h c) value = pos 0

unfoldable pub constant_of : Day → List Entry → ℤ
constant_of day entries = int_sum (by_place day (constant_by day)) entries

-- ---- trips

-- what the multiplier of a hand-over and a composition gives, where a test of them is passed
abbrev pub of_handover : Day → (Handover → ℕ → Bool) → Place → ℤ → ℤ
of_handover day test (Lambda s m k) value = pos 0
of_handover day test (Mu s m) value = pos 0
of_handover day test (Sigma h c) value =
    if unwrap_or (option_map (λ handover. test handover c) (slice_get (handovers_of day) h)) false then value else pos 0

-- the multipliers of a trip's composition at the hand-overs to it
unfoldable pub second_price : Day → List Entry → ℕ → ℕ → ℤ
second_price day entries t comp =
    int_sum (by_place day (of_handover day (λ handover c. (handover.second == t) && (comp == c)))) entries

-- what a trip adds by its composition: its cost; the price of all its units where no link leads into it, less their
-- price where none leads on from it; and less the multipliers of the composition at the hand-overs to the trip
unfoldable pub trip_value : Day → (ℕ → ℕ → ℕ) → List Entry → Weight → ℕ → ℕ → ℤ
trip_value day trip_cost entries weight t comp =
    weighted weight (pos (trip_cost t comp))
    +ℤ (if is_none (incoming day t) then taking day entries t (composition_at day comp) else pos 0)
    -ℤ (if is_none (outgoing day t) then giving day entries t (composition_at day comp) else pos 0)
    -ℤ second_price day entries t comp
