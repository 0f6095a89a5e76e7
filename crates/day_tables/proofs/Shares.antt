-- Counts of the parts of a list, and of what a turn keeps, gives and takes.
use Rattle.std.proofs.Common.{◌≡◌, ℕ, ◌+◌, List, [], ◌∷◌, ◌++◌, reverse, Bool, true, false, Option, Some, None, refl}
use Rattle.std.proofs.Common.{sym, ap, ◌∙◌, arith}
use Rattle.std.specs.Prelude.{unwrap_or}
use Rattle.std.proofs.lemmas.Bool.{and_parts}
use Rattle.std.proofs.lemmas.List.{reverse-append}
use Rattle.std.proofs.lemmas.Slice.Eq.{bytes_eq-Decides}
use Rattle.rules.specs.declared.records.End.{End}
use Rattle.day_tables.specs.Lists.{count_of}
use Rattle.day_tables.specs.Links.{turn_of, turned, split_holds, join_holds}
use Rattle.day_tables.specs.Turns.{Parts, same, turn_parts}
use Rattle.rules.proofs.Turning.{Shares, parts_shares, count_of-append as count_append}

pub count_of-append : (u : ℕ) (xs ys : List ℕ) → count_of u (xs ++ ys) ≡ count_of u xs + count_of u ys
count_of-append = count_append

pub same_lists : (xs ys : List ℕ) → same xs ys ≡ true → xs ≡ ys
same_lists xs ys e = (bytes_eq-Decides xs ys).0 e

count_of-reverse : (u : ℕ) (xs : List ℕ) → count_of u (reverse xs) ≡ count_of u xs
count_of-reverse u [] = refl
count_of-reverse u (x ∷ xs) =
    let e : reverse (x ∷ xs) ≡ reverse xs ++ (x ∷ []) = reverse-append (x ∷ []) xs in
    let a = count_of-append u (reverse xs) (x ∷ []) in
    let ih = count_of-reverse u xs in
    ap (count_of u) e ∙ (omega arith)

-- a train that turns round has the same units
pub count_of-turned : (u : ℕ) (r : Bool) (xs : List ℕ) → count_of u (turned r xs) ≡ count_of u xs
count_of-turned u true xs = count_of-reverse u xs
count_of-turned u false xs = refl

-- at a turn, what arrives is kept or given, and what departs was kept or is taken, whether or not its rule holds
pub turn_shares : (type_of : ℕ → ℕ) (uncouple couple : End) (exchange : Bool) (arriving departing : List ℕ)
    → Shares arriving departing (turn_of type_of uncouple couple exchange arriving departing)
turn_shares type_of uncouple couple exchange arriving departing = on (turn_parts type_of uncouple couple exchange arriving departing) refl
  where
    on : (o : Option Parts) → turn_parts type_of uncouple couple exchange arriving departing ≡ o
        → Shares arriving departing (unwrap_or o (record { kept = []; given = arriving; taken = departing }))
    on None e = record { arrives = λ u. omega arith; departs = λ u. omega arith }
    on (Some parts) e = parts_shares type_of uncouple couple exchange arriving departing parts e

pub join_counts : (u : ℕ) (first second departing : List ℕ) → join_holds first second departing ≡ true → count_of u departing ≡ count_of u first + count_of u second
unfolding join_holds
join_counts u first second departing e = ap (count_of u) (sym (same_lists (first ++ second) departing e)) ∙ count_of-append u first second

pub split_counts : (u : ℕ) (arriving first second : List ℕ) → split_holds arriving first second ≡ true → count_of u arriving ≡ count_of u first + count_of u second
unfolding split_holds
split_counts u arriving first second e =
    ap (count_of u) (same_lists arriving (first ++ second) (and_parts _ _ (and_parts _ _ e).0).0) ∙ count_of-append u first second
