-- A fleet that has nowhere more units than one that fits a day fits it too.
use Rattle.std.proofs.Common.{◌≡◌, ◌∙◌, ℕ, suc, ◌≤◌, List, [], ◌∷◌, length, refl, ap, arith}
use Rattle.fleets.specs.Fleets.{fleet_size, IsNowhereAbove}
use Rattle.fleets.specs.Laws.{SmallerFleetsFit}

pub as_long : (small large : List ℕ) → IsNowhereAbove small large → length small ≡ length large
as_long [] [] below = refl
as_long [] (b ∷ large) below = absurd below
as_long (a ∷ small) [] below = absurd below
as_long (a ∷ small) (b ∷ large) below = ap suc (as_long small large below.1)

pub no_larger : (small large : List ℕ) → IsNowhereAbove small large → fleet_size small ≤ fleet_size large
no_larger [] [] below = omega arith
no_larger [] (b ∷ large) below = absurd below
no_larger (a ∷ small) [] below = absurd below
no_larger (a ∷ small) (b ∷ large) below = let rest = no_larger small large below.1 in let first = below.0 in omega arith

pub smaller_fleets_fit : SmallerFleetsFit
smaller_fleets_fit day small large fleet below =
    let size = no_larger small large below in
    record { each = as_long small large below ∙ fleet.each; few = omega (arith, fleet.few) }
