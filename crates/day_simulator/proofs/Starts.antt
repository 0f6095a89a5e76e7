-- How a day starts: a place for each unit, and a stage for each trip.
use Rattle.std.proofs.Common.{◌≡◌, ℕ, ◌+◌, List, [], ◌∷◌, ◌++◌, length, take, map, replicate, Some, refl, ap, ◌∙◌}
use Rattle.std.proofs.Common.{slice_get}
use Rattle.std.proofs.lemmas.List.{take_more, map-append}
use Rattle.std.proofs.lemmas.Option.{get_or_from_slice_get, slice_get_within}

-- one more entry of a list that is mapped
pub map-more : {X Y : Type 0} (f : X → Y) (xs : List X) (k : ℕ) (x : X) → slice_get xs k ≡ Some x → map f (take (k + 1) xs) ≡ map f (take k xs) ++ f x ∷ []
map-more f xs k x e =
    let there : take (k + 1) xs ≡ take k xs ++ x ∷ [] = take_more xs k x (slice_get_within xs k x e) ∙ ap (λ y. take k xs ++ y ∷ []) (get_or_from_slice_get xs k x x e) in
    rw there (map-append f (take k xs) (x ∷ []))

-- as many of the same as there are entries
pub map-same : {X Y : Type 0} (y : Y) (xs : List X) → replicate (length xs) y ≡ map (λ (x : X). y) xs
map-same y [] = refl
map-same y (x ∷ xs) = ap (λ ys. y ∷ ys) (map-same y xs)
