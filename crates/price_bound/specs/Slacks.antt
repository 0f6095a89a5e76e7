-- The slack of picks at each multiplier, and where picks that are no solution are broken.
use Rattle.std.specs.Prelude.{ℕ, ◌+◌, List, length, position, Bool, not, ◌&&◌, ◌==◌, if◌then◌else◌, Option, Some, None}
use Rattle.std.specs.Prelude.{option_map, unwrap_or, slice_get, false, ℤ, pos, negsuc, neg_ℤ, ◌-ℤ◌, int_lt}
use Rattle.timetable.specs.declared.day.indices.Place.{Place}
use Rattle.timetable.specs.declared.day.indices.Place.TheVariants.{Lambda, Mu, Sigma}
use Rattle.timetable.specs.declared.day.records.Handover.{Handover}
use Rattle.timetable.specs.Compositions.{composition_at}
use Rattle.timetable.specs.Day.{Day, wanted_of}
use Rattle.timetable.specs.Handovers.{handovers_of}
use Rattle.timetable.specs.Indices.{lambdas_of, mus_of, sigmas_of, places_of}
use Rattle.timetable.specs.Picks.{picked}
use Rattle.timetable.specs.Turns.{same}
use Rattle.inventory.specs.Counts.{count_of_place, end_count_of}
use Rattle.branch_tree.specs.declared.multipliers.Entry.{Entry}
use Rattle.price_bound.specs.FollowingPicks.{part_of, pick_of}

-- 1 where it is so, and 0 else
abbrev pub one_if : Bool → ℤ
one_if b = if b then pos 1 else pos 0

-- whether the part of a hand-over has the types of a composition
abbrev pub is_part : Day → List ℕ → Handover → ℕ → Bool
is_part day picks handover comp = unwrap_or (option_map
    (λ link. same (part_of link (picked day picks)) (composition_at day comp))
    (slice_get day.links handover.link)) false

-- at a hand-over and a composition: 1 where the part has it, less 1 where the second trip has it
abbrev pub handover_slack : Day → List ℕ → ℕ → Handover → ℤ
handover_slack day picks comp handover =
    one_if (is_part day picks handover comp) -ℤ one_if (pick_of picks handover.second == comp)

-- the slack at what a multiplier belongs to: minus the count after a departure minute; the wanted end count less that
-- of the picks; at a hand-over the part against the second trip
abbrev pub slack_at : Day → List ℕ → Place → ℤ
slack_at day picks (Lambda s m k) = neg_ℤ (count_of_place day (picked day picks) s m k)
slack_at day picks (Mu s m) = pos (wanted_of day s m) -ℤ end_count_of day (picked day picks) s m
slack_at day picks (Sigma h comp) =
    unwrap_or (option_map (handover_slack day picks comp) (slice_get (handovers_of day) h)) (pos 0)

-- the slack at the multiplier of an index
unfoldable pub slack_of : Day → List ℕ → ℕ → ℤ
slack_of day picks index = unwrap_or (option_map (slack_at day picks) (slice_get (places_of day) index)) (pos 0)

-- ---- where picks are broken

abbrev pub is_positive : Day → List ℕ → Place → Bool
is_positive day picks place = int_lt (pos 0) (slack_at day picks place)

abbrev pub is_none : Day → List ℕ → Place → Bool
is_none day picks place = not (is_positive day picks place) && not (int_lt (slack_at day picks place) (pos 0))

-- the number of the first that passes a test, where the first of all has this number
abbrev pub first_from : {X : Type 0} → ℕ → (X → Bool) → List X → Option ℕ
first_from start test xs = option_map (λ n. start + n) (position test xs)

-- the first of these, if there is one, and else the other
abbrev pub or_else : Option ℕ → Option ℕ → Option ℕ
or_else (Some n) other = Some n
or_else None other = other

-- the index at which picks are broken: that of the first hand-over whose part is not the second trip's pick, and of the
-- part; else of the first count that is negative; else of the first end count that is not the wanted one
abbrev pub broken_index : Day → List ℕ → Option ℕ
broken_index day picks =
    or_else (first_from (length (lambdas_of day) + length (mus_of day)) (is_positive day picks) (sigmas_of day))
    (or_else (first_from 0 (is_positive day picks) (lambdas_of day))
    (first_from (length (lambdas_of day)) (λ place. not (is_none day picks place)) (mus_of day)))

-- the sign of a number that is not 0
abbrev pub sign_of : ℤ → ℤ
sign_of value = if int_lt (pos 0) value then pos 1 else negsuc 0

-- the index with the sign of its slack, where there is one
unfoldable pub broken_at : Day → List ℕ → Entry
broken_at day picks = unwrap_or (option_map
    (λ index. record { index = index; value = sign_of (slack_of day picks index) }) (broken_index day picks))
    (record { index = 0; value = pos 1 })
