-- The least of the values of leaves, and what follows from it.
use Rattle.std.proofs.Common.{◌≡◌, List, [], ℤ, ◌≤ℤ◌, Option, Some, refl, subst, arith}
use Rattle.std.specs.Prelude.{false, ◌↔◌}
use Rattle.std.proofs.lemmas.Int.{ints}
use Rattle.rail_base.specs.declared.numbers.Money.{Money}
use Rattle.branch_tree.specs.Trees.{IsLeast, IsLeastOf}
use Rattle.cert_check.proofs.Proved.{found_least}

-- what was found is an amount exactly where that is the least
pub is_least : (values : List ℤ) (found : Option Money) (amount : Money) → IsLeastOf values found → (found ≡ Some amount) ↔ IsLeast values amount.0
is_least values found amount is = (
  (λ same. subst (IsLeastOf values) same is),
  (λ least. found_least values amount.0 found least is),
)
