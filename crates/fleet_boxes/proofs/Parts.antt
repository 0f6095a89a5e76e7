-- A fleet of a box is in one of its parts.
use Rattle.std.proofs.Common.{◌≡◌, ◌∙◌, ℕ, zero, suc, ◌+◌, ◌*◌, ◌<◌, ◌≤◌, List, [], ◌∷◌, length, arith}
use Rattle.std.specs.Prelude.{slice_index, set, replicate}
use Rattle.timetable.proofs.Listing.{length-listed}
use Rattle.fleets.specs.Fleets.{IsNowhereAbove, own_fleet, start_at}
use Rattle.fleets.proofs.Sizes.{as_long}
use Rattle.fleet_boxes.specs.Boxes.{HasFleet}
use Rattle.fleet_boxes.specs.Laws.{BoxesHaveAllFleets, SplitsPart}

-- ---- another number at one place

-- the greater fleet stays nowhere below
set_below : (xs ys : List ℕ) (k v : ℕ) → IsNowhereAbove xs ys → slice_index xs k ≤ v → IsNowhereAbove xs (set ys k v)
set_below [] [] zero v below few = below
set_below [] [] (suc k) v below few = below
set_below [] (y ∷ ys) k v below few = absurd below
set_below (x ∷ xs) [] k v below few = absurd below
set_below (x ∷ xs) (y ∷ ys) zero v below few = (few, below.1)
set_below (x ∷ xs) (y ∷ ys) (suc k) v below few = (below.0, set_below xs ys k v below.1 few)

-- and was so before
record WasBelow (xs ys : List ℕ) (k v : ℕ) : Type 0 where
  pub before : IsNowhereAbove xs ys
  pub there : slice_index xs k ≤ v

was_below : (xs ys : List ℕ) (k v : ℕ) → k < length ys → v ≤ slice_index ys k → IsNowhereAbove xs (set ys k v) → WasBelow xs ys k v
was_below xs [] k v lt less below = absurd (omega arith)
was_below [] (y ∷ ys) zero v lt less below = absurd below
was_below [] (y ∷ ys) (suc k) v lt less below = absurd below
was_below (x ∷ xs) (y ∷ ys) zero v lt less below = let first : x ≤ v = below.0 in record { before = ((omega arith), below.1); there = first }
was_below (x ∷ xs) (y ∷ ys) (suc k) v lt less below =
    let rest = was_below xs ys k v (omega arith) less below.1 in
    record { before = (below.0, rest.before); there = rest.there }

-- the smaller fleet stays nowhere above
set_above : (xs ys : List ℕ) (k v : ℕ) → IsNowhereAbove xs ys → v ≤ slice_index ys k → IsNowhereAbove (set xs k v) ys
set_above [] [] zero v below few = below
set_above [] [] (suc k) v below few = below
set_above [] (y ∷ ys) k v below few = absurd below
set_above (x ∷ xs) [] k v below few = absurd below
set_above (x ∷ xs) (y ∷ ys) zero v below few = (few, below.1)
set_above (x ∷ xs) (y ∷ ys) (suc k) v below few = (below.0, set_above xs ys k v below.1 few)

record WasAbove (xs ys : List ℕ) (k v : ℕ) : Type 0 where
  pub before : IsNowhereAbove xs ys
  pub there : v ≤ slice_index ys k

was_above : (xs ys : List ℕ) (k v : ℕ) → k < length xs → slice_index xs k ≤ v → IsNowhereAbove (set xs k v) ys → WasAbove xs ys k v
was_above [] ys k v lt less below = absurd (omega arith)
was_above (x ∷ xs) [] zero v lt less below = absurd below
was_above (x ∷ xs) [] (suc k) v lt less below = absurd below
was_above (x ∷ xs) (y ∷ ys) zero v lt less below = let first : v ≤ y = below.0 in record { before = ((omega arith), below.1); there = first }
was_above (x ∷ xs) (y ∷ ys) (suc k) v lt less below =
    let rest = was_above xs ys k v (omega arith) less below.1 in
    record { before = (below.0, rest.before); there = rest.there }

-- a fleet with another number at one place that is no greater is nowhere above what it was
pub not_above : (ys : List ℕ) (k v : ℕ) → v ≤ slice_index ys k → IsNowhereAbove (set ys k v) ys
not_above ys k v less = set_above ys ys k v (itself ys) less
  where
    itself : (ys : List ℕ) → IsNowhereAbove ys ys
    itself [] = tt
    itself (y ∷ ys) = ((omega arith), itself ys)

-- ---- parts

pub splits_part : SplitsPart
splits_part box place at fleet parted =
    let from : slice_index box.least place ≤ at = parted.from in
    let below : at < slice_index box.greatest place = parted.below in
    record {
      lower = (
        λ has. let was = was_below fleet box.greatest place at parted.there (omega arith) has.below in (record { above = has.above; below = was.before }, was.there),
        λ both. let has : HasFleet box fleet = both.0 in record { above = has.above; below = set_below fleet box.greatest place at has.below both.1 },
      );
      upper = (
        λ has. let was = was_above box.least fleet place (at + 1) parted.least_there (omega arith) has.above in let there : at + 1 ≤ slice_index fleet place = was.there in (record { above = was.before; below = has.below }, omega arith),
        λ both. let has : HasFleet box fleet = both.0 in let more : at < slice_index fleet place = both.1 in record { above = set_above box.least fleet place (at + 1) has.above (omega arith); below = has.below },
      );
    }

none_below : (n : ℕ) (fleet : List ℕ) → length fleet ≡ n → IsNowhereAbove (replicate n 0) fleet
none_below zero [] same = tt
none_below zero (x ∷ fleet) same = absurd (omega arith)
none_below (suc n) [] same = absurd (omega arith)
none_below (suc n) (x ∷ fleet) same = ((omega arith), none_below n fleet (omega arith))

pub boxes_have_all_fleets : BoxesHaveAllFleets
boxes_have_all_fleets day fleet =
    let places : ℕ = length day.stations * length day.types in (
      λ has. has.below,
      λ below. record {
        above = none_below places fleet (as_long fleet (own_fleet day) below ∙ length-listed (start_at day) places);
        below = below;
      },
    )
