use Rattle.std.proofs.Common.{◌≡◌, ℕ, zero, suc, replicate, get_or, refl}
use Rattle.branch_tree.proofs.Words.{none_of}
use Rattle.branch_tree.proofs.sets.CompositionSet.empty.Goals as goal

get_or-one : (n place value : ℕ) → get_or (replicate n value) place value ≡ value
get_or-one zero place value = refl
get_or-one (suc n) zero value = refl
get_or-one (suc n) (suc place) value = get_or-one n place value

pub returns : goal.returns
returns c = none_of (replicate 16 0) (λ place. get_or-one 16 place 0)
