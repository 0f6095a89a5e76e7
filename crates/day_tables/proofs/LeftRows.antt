-- Rows are taken out from the last to the first.
use Rattle.std.proofs.Common.{◌≡◌, ◌∙◌, ℕ, ◌+◌, ◌<◌, Bool, true, false, List, [], ◌∷◌, ◌++◌, length, take, drop, get_or}
use Rattle.std.proofs.Common.{sym, ap, arith, append_assoc, length-append}
use Rattle.std.specs.Prelude.{if◌then◌else◌}
use Rattle.std.proofs.lemmas.List.{drop_more, length-take-le, take_at, drop_at, take_more}
use Rattle.std.proofs.lemmas.Option.{get_or_from_slice_get}
use Rattle.day_tables.specs.DerivedDays.{left_from}
use Rattle.day_tables.specs.Lists.{has}
use Rattle.day_tables.proofs.Days.{entry_at}

-- an entry between others is taken out or not
taken_here : {X : Type 0} (front : List X) (x : X) (rest : List X) (place : ℕ) (b : Bool) → length front ≡ place
    → take place (front ++ x ∷ rest) ++ drop (if b then place + 1 else place) (front ++ x ∷ rest) ≡ front ++ (if b then rest else x ∷ rest)
taken_here {X} front x rest place true is =
    let long : length (front ++ x ∷ []) ≡ place + 1 = omega (arith, length-append front (x ∷ [])) in
    ap (λ (l : List X). l ++ drop (place + 1) (front ++ x ∷ rest)) (take_at front (x ∷ rest) place is)
    ∙ ap (λ (l : List X). front ++ drop (place + 1) l) (sym (append_assoc front (x ∷ []) rest))
    ∙ ap (λ (l : List X). front ++ l) (drop_at (front ++ x ∷ []) rest (place + 1) long)
taken_here {X} front x rest place false is =
    ap (λ (l : List X). l ++ drop place (front ++ x ∷ rest)) (take_at front (x ∷ rest) place is)
    ∙ ap (λ (l : List X). front ++ l) (drop_at front (x ∷ rest) place is)

-- those at a place and behind it are left that are not gone, where so it is of those behind it
pub taken_out : {X : Type 0} (gone : List ℕ) (all rows after : List X) (place : ℕ) → place < length all
    → rows ≡ take (place + 1) all ++ left_from gone (place + 1) (drop (place + 1) all) → after ≡ take place rows ++ drop (if has place gone then place + 1 else place) rows
    → after ≡ take place all ++ left_from gone place (drop place all)
taken_out {X} gone all rows after place below is taken =
    let (x, at, _) = entry_at (λ _. Unit {0}) all place below (λ k d b. tt) in
    let front : List X = take place all in
    let rest : List X = left_from gone (place + 1) (drop (place + 1) all) in
    let same : get_or all place x ≡ x = get_or_from_slice_get all place x x at in
    let split : rows ≡ front ++ x ∷ rest =
    is
    ∙ ap (λ (l : List X). l ++ rest) (take_more all place x below ∙ ap (λ (y : X). front ++ y ∷ []) same)
    ∙ append_assoc front (x ∷ []) rest in
    taken
    ∙ ap (λ (l : List X). take place l ++ drop (if has place gone then place + 1 else place) l) split
    ∙ taken_here front x rest place (has place gone) (length-take-le place all (omega arith))
    ∙ sym (ap (λ (l : List X). front ++ left_from gone place l) (drop_more all place x below ∙ ap (λ (y : X). y ∷ drop (place + 1) all) same))
