-- The way down a tree whose root region is cut in place: the sides that were taken, from the root on, each with what
-- its trip's set was before.
use Rattle.std.specs.Prelude.{ℕ, ◌≡◌, List, [], ◌∷◌, ◌++◌, Bool, set, ⊤}
use Rattle.branch_tree.specs.declared.cuts.Cut.{Cut}
use Rattle.branch_tree.specs.declared.cuts.Side.{Side}
use Rattle.branch_tree.specs.declared.cuts.Side.TheVariants.{Left, Right}
use Rattle.branch_tree.specs.Cuts.{trip_of, side_of, IsProper}
use Rattle.cert_check.specs.declared.path.TakenSide.{TakenSide}

-- the region before some sides were taken that led to a region
abbrev pub root_from : List TakenSide → List (List Bool) → List (List Bool)
root_from [] region = region
root_from (one ∷ taken) region = set (root_from taken region) one.mark.trip one.mark.before

-- the right side of a cut, where its left one was taken
abbrev pub other_side : List (List ℕ) → Cut → Side → List (List Bool) → List (List (List Bool))
other_side catalogue cut Left region = side_of catalogue cut Right region ∷ []
other_side catalogue cut Right region = []

-- the right sides that are to be taken yet, nearest first
abbrev pub left_in : List (List ℕ) → List TakenSide → List (List Bool) → List (List (List Bool))
left_in catalogue [] region = []
left_in catalogue (one ∷ taken) region =
    left_in catalogue taken region ++ other_side catalogue one.cut one.side (root_from (one ∷ taken) region)

-- a side was taken of a cut that is proper in a region, and its mark is of the cut's trip
pub record IsTakenIn (catalogue : List (List ℕ)) (region : List (List Bool)) (one : TakenSide) : Type 0 where
  pub proper : IsProper catalogue region one.cut
  pub trip : one.mark.trip ≡ trip_of one.cut

-- each side was taken in the region before it
abbrev pub AreTaken : List (List ℕ) → List TakenSide → List (List Bool) → Type 0
AreTaken catalogue [] region = ⊤
AreTaken catalogue (one ∷ taken) region =
    IsTakenIn catalogue (root_from (one ∷ taken) region) one × AreTaken catalogue taken region

-- the region is the first of those to come, and the sides that led to it leave the others; or no side is taken where
-- none is to come
abbrev pub IsAtFirst : List (List ℕ) → List (List (List Bool)) → List TakenSide → List (List Bool) → Type 0
IsAtFirst catalogue [] taken region = taken ≡ []
IsAtFirst catalogue (next ∷ regions) taken region = (region ≡ next) × (left_in catalogue taken region ≡ regions)
