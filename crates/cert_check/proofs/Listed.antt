-- A node of a list, and the nodes from it on.
use Rattle.std.proofs.Common.{◌≡◌, ℕ, suc, ◌+◌, ◌<◌, List, ◌∷◌, length, drop, slice_get, Some, ◌∙◌, ap, arith}
use Rattle.std.proofs.lemmas.List.{drop_more}
use Rattle.std.proofs.lemmas.Option.{get_or_from_slice_get}

pub one_more : (n : ℕ) → suc n ≡ n + 1
one_more n = omega (arith)

pub drop_at_node : {X : Type 0} → (xs : List X) (place : ℕ) (x : X) → place < length xs → slice_get xs place ≡ Some x → drop place xs ≡ x ∷ drop (place + 1) xs
drop_at_node xs place x inside at = drop_more xs place x inside ∙ ap (λ y. y ∷ drop (place + 1) xs) (get_or_from_slice_get xs place x x at)
