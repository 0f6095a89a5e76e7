-- A cut divides the set of one trip into the compositions that meet it and the others.
use Rattle.std.specs.Prelude.{ℕ, ◌<◌, List, [], length, set, Bool, not, ◌==◌, nat_le, count_by, slice_get, unwrap_or}
use Rattle.rail_base.specs.declared.limits.TheConstants.{MAX_TYPES, MAX_COMPOSITION_UNITS}
use Rattle.branch_tree.specs.declared.cuts.Cut.{Cut}
use Rattle.branch_tree.specs.declared.cuts.Cut.TheVariants.{Only, AtMost}
use Rattle.branch_tree.specs.declared.cuts.Side.{Side}
use Rattle.branch_tree.specs.declared.cuts.Side.TheVariants.{Left, Right}
use Rattle.branch_tree.specs.Sets.{HasMember, restricted}
use Rattle.branch_tree.specs.Regions.{set_at}

-- the trip whose set is cut
abbrev pub trip_of : Cut → ℕ
trip_of (Only trip comp) = trip
trip_of (AtMost trip unit_type count) = trip

-- how many units of a type the composition of a number has, and none where there is no such composition
abbrev pub units_of_type : List (List ℕ) → ℕ → ℕ → ℕ
units_of_type catalogue comp unit_type = count_by (λ m. m == unit_type) (unwrap_or (slice_get catalogue comp) [])

-- whether the composition of a number meets the cut
abbrev pub is_met : List (List ℕ) → Cut → ℕ → Bool
is_met catalogue (Only trip only) comp = comp == only
is_met catalogue (AtMost trip unit_type count) comp = nat_le (units_of_type catalogue comp unit_type) count

-- whether the composition of a number is on this side of the cut
abbrev pub is_on : List (List ℕ) → Cut → Side → ℕ → Bool
is_on catalogue cut Left comp = is_met catalogue cut comp
is_on catalogue cut Right comp = not (is_met catalogue cut comp)

-- the region on one side of a cut: the set of its trip keeps what is on this side, and every other set stays
abbrev pub side_of : List (List ℕ) → Cut → Side → List (List Bool) → List (List Bool)
side_of catalogue cut side region =
    set region (trip_of cut) (restricted (is_on catalogue cut side) (set_at region (trip_of cut)))

-- the numbers of a cut name a trip of the region, a composition of the catalogue, and a number of units of a type
abbrev pub IsInRange : List (List ℕ) → List (List Bool) → Cut → Type 0
IsInRange catalogue region (Only trip comp) = (trip < length region) × (comp < length catalogue)
IsInRange catalogue region (AtMost trip unit_type count) =
    (trip < length region) × (unit_type < MAX_TYPES) × (count < MAX_COMPOSITION_UNITS)

-- a cut whose numbers are in range and whose trip has a composition on each side
pub record IsProper (catalogue : List (List ℕ)) (region : List (List Bool)) (cut : Cut) : Type 0 where
  pub in_range : IsInRange catalogue region cut
  pub left : HasMember (set_at (side_of catalogue cut Left region) (trip_of cut))
  pub right : HasMember (set_at (side_of catalogue cut Right region) (trip_of cut))
