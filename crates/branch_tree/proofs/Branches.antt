-- How many nodes are branches.
use Rattle.std.proofs.Common.{◌≡◌, ℕ, zero, suc, ◌+◌, ◌<◌, List, [], ◌∷◌, length, get_or, take, Option, Some, None}
use Rattle.std.proofs.Common.{is_some, refl, arith, add-one}
use Rattle.std.specs.Int.{from_bool}
use Rattle.branch_tree.specs.declared.cuts.Cut.{Cut}
use Rattle.branch_tree.specs.Trees.{branches_in}

from_some : (found : Option Cut) → from_bool (is_some found) ≡ (branches_in (λ cut. cut) (found ∷ []))
from_some None = refl
from_some (Some cut) = refl

branches_in-take-suc : {N : Type 0} → (cut_of : N → Option Cut) (nodes : List N) (place : ℕ) (d : N) → place < length nodes →
    branches_in cut_of (take (suc place) nodes) ≡ branches_in cut_of (take place nodes) + from_bool (is_some (cut_of (get_or nodes place d)))
branches_in-take-suc cut_of [] place d inside = absurd (omega (arith, inside))
branches_in-take-suc cut_of (node ∷ nodes) zero d inside = omega (arith, from_some (cut_of node))
branches_in-take-suc cut_of (node ∷ nodes) (suc place) d inside = omega (arith, branches_in-take-suc cut_of nodes place d (omega (arith, inside)))

pub branches_in-take : {N : Type 0} → (cut_of : N → Option Cut) (nodes : List N) (place : ℕ) (d : N) → place < length nodes →
    branches_in cut_of (take (place + 1) nodes) ≡ branches_in cut_of (take place nodes) + from_bool (is_some (cut_of (get_or nodes place d)))
branches_in-take cut_of nodes place d inside = rw add-one (branches_in-take-suc cut_of nodes place d inside)
