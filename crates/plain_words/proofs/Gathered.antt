-- The words that were gathered, of all that were told: all of them, or as many as are kept.
use Rattle.std.proofs.Common.{◌≡◌, ◌≤◌, ◌++◌, ◌∙◌, ◌⊎◌, inl, inr, ℕ, List, [], ◌∷◌, length, refl, take, map, sym, ap, arith, append-nil}
use Rattle.std.proofs.lemmas.List.{map-append, take-append-le, take_all}

empty : {X : Type 0} (xs : List X) → length xs ≡ 0 → xs ≡ []
empty [] none = refl
empty (x ∷ xs) none = absurd (omega (arith, none))

-- what was read of a list is what was kept of it, where nothing is left or no more is kept
pub gathered : {X Y : Type 0} (f : X → Y) (most : ℕ) (read left all : List X) (kept : List Y) → kept ≡ map f read
    → read ++ left ≡ all → length kept ≤ most → (length left ≡ 0) ⊎ (most ≤ length kept) → kept ≡ take most (map f all)
gathered f most read left all kept is parts few (inl none) =
    let whole : read ≡ all = sym (append-nil read) ∙ ap (λ rest. read ++ rest) (sym (empty left none)) ∙ parts in
    let same : kept ≡ map f all = is ∙ ap (map f) whole in
    sym (ap (take most) (sym same) ∙ take_all most kept few)
gathered f most read left all kept is parts few (inr enough) =
    let same : map f all ≡ kept ++ map f left =
    ap (map f) (sym parts) ∙ map-append f read left ∙ ap (λ front. front ++ map f left) (sym is) in
    sym (ap (take most) same ∙ take-append-le most kept (map f left) enough ∙ take_all most kept few)
